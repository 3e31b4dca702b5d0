-- The commands and the options that the words may have.
use Rattle.std.specs.Prelude.{◌≤◌, ℕ, List, [], ◌∷◌, ◌++◌, codes}
use Rattle.hr_base.specs.declared.limits.TheConstants.{MAX_PARTITIONS, MIN_CHUNK_LIMIT, MAX_CHUNK_LIMIT, MAX_PERCENT}
use Rattle.command_words.specs.declared.table.TheConstants.{DEFAULT_PARTITIONS, DEFAULT_VALUE_LIMIT, DEFAULT_TOMB_LIMIT, DEFAULT_PERCENT}
use Rattle.command_words.specs.declared.table.Verb.{Verb}
use Rattle.command_words.specs.declared.table.Verb.TheVariants.{Play, Dump}
use Rattle.command_words.specs.declared.table.Setting.{Setting}
use Rattle.command_words.specs.declared.table.Setting.TheVariants.{Partitions, ValueLimit, TombLimit, Percent}

-- the word that names a command
abbrev pub verb_name : Verb → List ℕ
verb_name Play = codes "play"
verb_name Dump = codes "dump"

-- the options that a command takes
abbrev pub settings_of : Verb → List Setting
settings_of Play = Partitions ∷ ValueLimit ∷ TombLimit ∷ Percent ∷ []
settings_of Dump = Partitions ∷ []

-- the name of an option
abbrev pub option_name : Setting → List ℕ
option_name Partitions = codes "partitions"
option_name ValueLimit = codes "value-limit"
option_name TombLimit = codes "tomb-limit"
option_name Percent = codes "percent"

-- the word that names an option
abbrev pub option_word : Setting → List ℕ
option_word setting = codes "--" ++ option_name setting

-- the least number that an option may be given
abbrev pub least_of : Setting → ℕ
least_of Partitions = 1
least_of ValueLimit = MIN_CHUNK_LIMIT
least_of TombLimit = MIN_CHUNK_LIMIT
least_of Percent = 0

-- the greatest number that an option may be given
abbrev pub most_of : Setting → ℕ
most_of Partitions = MAX_PARTITIONS
most_of ValueLimit = MAX_CHUNK_LIMIT
most_of TombLimit = MAX_CHUNK_LIMIT
most_of Percent = MAX_PERCENT

-- the number of an option that is not given
abbrev pub default_of : Setting → ℕ
default_of Partitions = DEFAULT_PARTITIONS
default_of ValueLimit = DEFAULT_VALUE_LIMIT
default_of TombLimit = DEFAULT_TOMB_LIMIT
default_of Percent = DEFAULT_PERCENT

-- a number in the range of an option
pub record IsNumberFor (setting : Setting) (number : ℕ) : Type 0 where
  pub least : least_of setting ≤ number
  pub most : number ≤ most_of setting
