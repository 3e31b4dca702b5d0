use Rattle.script_text.proofs.Printings as printings
use Rattle.script_text.proofs.laws.a_read_script_printed.Goals as goal

pub returns : goal.returns
returns c = printings.read_script_printed
