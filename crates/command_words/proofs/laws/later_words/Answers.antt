use Rattle.command_words.proofs.LaterWords.{later_words}
use Rattle.command_words.proofs.laws.later_words.Goals as goal

pub returns : goal.returns
returns c = later_words
