use Rattle.hr_base.proofs.NameTexts.{length-name_text}
use Rattle.hr_base.proofs.laws.every_text_has_28_bytes.Goals as goal

pub returns : goal.returns
returns c = λ name h. length-name_text name
