use Rattle.script_text.proofs.Printings as printings
use Rattle.script_text.proofs.laws.a_printed_line_is_read.Goals as goal

pub returns : goal.returns
returns c = printings.printed_line
