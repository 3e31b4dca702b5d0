use Rattle.gc_law.proofs.SyncingLaws.{tell_safe}
use Rattle.gc_law.proofs.noting_laws.each_noted_record_is_safe.Goals as goal

pub returns : goal.returns
returns g w es a x h has free = tell_safe w es a h x has free
