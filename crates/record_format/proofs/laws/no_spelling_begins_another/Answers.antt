use Rattle.record_format.proofs.SplitLaws.{no_spelling_begins_another}
use Rattle.record_format.proofs.laws.no_spelling_begins_another.Goals as goal

pub returns : goal.returns
returns c = no_spelling_begins_another
