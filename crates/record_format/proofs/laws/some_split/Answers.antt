use Rattle.record_format.proofs.SplitLaws.{some_split}
use Rattle.record_format.proofs.laws.some_split.Goals as goal

pub returns : goal.returns
returns c = some_split
