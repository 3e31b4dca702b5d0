use Rattle.gc_law.proofs.NotingLaws.{tell_appended, tell_unwritten, tell_torn, tell_lost}
use Rattle.gc_law.proofs.noting_laws.a_command_tells.Goals as goal

pub returns-clause-answered : goal.returns-clause-answered
returns-clause-answered g w t es a x h whole free appends none maps written = tell_appended w t es a x h whole free appends none maps written

pub returns-clause-unwritten : goal.returns-clause-unwritten
returns-clause-unwritten g w es a c h unwritten = tell_unwritten w es a c h unwritten

pub returns-clause-torn : goal.returns-clause-torn
returns-clause-torn g w t es a x n h whole free appends some maps = tell_torn w t es a x n h whole free appends some maps

pub returns-clause-lost : goal.returns-clause-lost
returns-clause-lost g w t es a x h whole free loses some maps = tell_lost w t es a x h whole free loses some maps
