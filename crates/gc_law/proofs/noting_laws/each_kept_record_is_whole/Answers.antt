use Rattle.gc_law.proofs.NotingLaws.{tell_whole_in}
use Rattle.gc_law.proofs.noting_laws.each_kept_record_is_whole.Goals as goal

pub returns : goal.returns
returns g w es a x h whole has = tell_whole_in w es a x h whole has
