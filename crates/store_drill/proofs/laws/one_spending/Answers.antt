use Rattle.store_drill.proofs.StartLaws.{one_spending}
use Rattle.store_drill.proofs.laws.one_spending.Goals as goal

pub returns : goal.returns
returns c = one_spending
