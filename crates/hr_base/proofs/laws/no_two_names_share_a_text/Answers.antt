use Rattle.hr_base.proofs.NameTexts.{name_text_one}
use Rattle.hr_base.proofs.laws.no_two_names_share_a_text.Goals as goal

pub returns : goal.returns
returns c = name_text_one
