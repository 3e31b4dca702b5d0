use Rattle.restart_load.proofs.LoadLaws.{one_refusal}
use Rattle.restart_load.proofs.laws.one_refusal.Goals as goal

pub returns : goal.returns
returns c = one_refusal
