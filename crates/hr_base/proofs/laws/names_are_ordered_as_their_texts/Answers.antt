use Rattle.hr_base.proofs.NameOrder.{name_cmp}
use Rattle.hr_base.proofs.laws.names_are_ordered_as_their_texts.Goals as goal

pub returns : goal.returns
returns c = name_cmp
