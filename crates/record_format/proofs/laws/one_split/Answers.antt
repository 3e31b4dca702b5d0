use Rattle.record_format.proofs.SplitLaws.{one_split}
use Rattle.record_format.proofs.laws.one_split.Goals as goal

pub returns : goal.returns
returns c = one_split
