use Rattle.std.proofs.Common.{◌≢◌, ◌<◌, ℕ, List, get_or}
use Rattle.command_words.specs.Words.{word_texts}
use Rattle.command_words.proofs.read.has_word.Given as goal

abbrev pub invariant-loop-other : goal.invariant-loop-other
invariant-loop-other l = (k : ℕ) (d : List ℕ) → k < l.other-index → get_or (word_texts l.words) k d ≢ l.word
