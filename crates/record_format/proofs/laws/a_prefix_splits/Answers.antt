use Rattle.record_format.proofs.SplitLaws.{a_prefix_splits}
use Rattle.record_format.proofs.laws.a_prefix_splits.Goals as goal

pub returns : goal.returns
returns c = a_prefix_splits
