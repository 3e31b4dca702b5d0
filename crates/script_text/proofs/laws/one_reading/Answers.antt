use Rattle.script_text.proofs.Readings as readings
use Rattle.script_text.proofs.laws.one_reading.Goals as goal

pub returns : goal.returns
returns c = readings.one_reading
