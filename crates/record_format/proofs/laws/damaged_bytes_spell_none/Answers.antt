use Rattle.record_format.proofs.StepLaws.{damaged_spells_none}
use Rattle.record_format.proofs.laws.damaged_bytes_spell_none.Goals as goal

pub returns : goal.returns
returns c = damaged_spells_none
