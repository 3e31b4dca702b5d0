use Rattle.gc_law.proofs.NotingLaws.{tell_risen, tell_created}
use Rattle.gc_law.proofs.noting_laws.a_kept_writer_tells.Goals as goal

pub returns-clause-risen : goal.returns-clause-risen
returns-clause-risen g w t es a h keeps rises of_part = tell_risen w t es a h keeps rises of_part

pub returns-clause-created : goal.returns-clause-created
returns-clause-created g w t es a name h keeps whole free creates = tell_created w t es a name h keeps whole free creates
