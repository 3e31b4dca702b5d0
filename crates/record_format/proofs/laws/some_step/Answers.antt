use Rattle.record_format.proofs.StepLaws.{some_step}
use Rattle.record_format.proofs.laws.some_step.Goals as goal

pub returns : goal.returns
returns c = some_step
