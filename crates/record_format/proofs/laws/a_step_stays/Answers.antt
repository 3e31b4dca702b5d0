use Rattle.record_format.proofs.StepLaws.{step_stays}
use Rattle.record_format.proofs.laws.a_step_stays.Goals as goal

pub returns : goal.returns
returns c = step_stays
