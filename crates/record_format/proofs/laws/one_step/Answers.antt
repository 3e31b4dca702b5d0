use Rattle.record_format.proofs.StepLaws.{one_step}
use Rattle.record_format.proofs.laws.one_step.Goals as goal

pub returns : goal.returns
returns c = one_step
