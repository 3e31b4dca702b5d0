use Rattle.command_words.proofs.Words.{limits_in_range}
use Rattle.command_words.proofs.laws.limits_in_range.Goals as goal

pub returns : goal.returns
returns c = limits_in_range
