use Rattle.std.proofs.Common.{◌≢◌, ◌<◌, ℕ, get_or}
use Rattle.command_words.specs.declared.table.Setting.{Setting}
use Rattle.command_words.specs.Table.{option_word}
use Rattle.command_words.proofs.table.Verb.setting_named.Given as goal

abbrev pub invariant-loop-setting : goal.invariant-loop-setting
invariant-loop-setting l = (k : ℕ) (d : Setting) → k < l.setting-index → l.word ≢ option_word (get_or l.setting-items k d)
