use Rattle.script_text.proofs.Readings as readings
use Rattle.script_text.proofs.laws.bad_or_script.Goals as goal

pub returns : goal.returns
returns c = readings.bad_or_script
