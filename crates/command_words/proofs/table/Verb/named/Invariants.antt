use Rattle.std.proofs.Common.{◌≢◌, ◌<◌, ℕ, get_or}
use Rattle.command_words.specs.declared.table.Verb.{Verb}
use Rattle.command_words.specs.Table.{verb_name}
use Rattle.command_words.proofs.table.Verb.named.Given as goal

abbrev pub invariant-loop-verb : goal.invariant-loop-verb
invariant-loop-verb l = (k : ℕ) (d : Verb) → k < l.verb-index → l.word ≢ verb_name (get_or l.verb-items k d)
