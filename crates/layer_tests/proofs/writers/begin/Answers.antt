use Rattle.std.proofs.Common.{subst, sym}
use Rattle.hr_base.specs.Entries.{KeepsLimits}
use Rattle.partition_writer.proofs.LimitLaws.{empty_limits}
use Rattle.layer_tests.proofs.writers.begin.Goals as goal

pub resume-requires-clause-lengths : goal.resume-requires-clause-lengths
resume-requires-clause-lengths c = subst KeepsLimits (sym c.new-map.ensures.entries) empty_limits
