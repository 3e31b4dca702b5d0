-- What the words mean.
use Rattle.std.specs.Prelude.{◌≡◌, ◌≢◌, ℕ, Bool, List, [], ◌∷◌, map, find, option_map, unwrap_or, All, Contains, decimal, slice_index}
use Rattle.std.specs.Prelude.{String}
use Rattle.std.specs.String.{string_bytes}
use Rattle.std.specs.List.{AllPairs, flat_map}
use Rattle.std.specs.Str.{bytes_eq}
use Rattle.hr_base.specs.LimitRanges.{IsLimits}
use Rattle.hr_base.specs.declared.limits.Limits.{Limits}
use Rattle.command_words.specs.declared.read.Command.{Command}
use Rattle.command_words.specs.declared.read.Command.TheVariants as command
use Rattle.command_words.specs.declared.table.Verb.{Verb}
use Rattle.command_words.specs.declared.table.Verb.TheVariants.{Play, Dump}
use Rattle.command_words.specs.declared.table.Setting.{Setting}
use Rattle.command_words.specs.declared.table.Setting.TheVariants.{Partitions, ValueLimit, TombLimit, Percent}
use Rattle.command_words.specs.Table.{verb_name, settings_of, option_word, default_of, IsNumberFor}

-- the bytes of each word
abbrev pub word_texts : {A : Type 0} → List (String A) → List (List ℕ)
word_texts words = map string_bytes words

-- an option with the number that it is given
pub record Given : Type 0 where
  pub setting : Setting
  pub number : ℕ

-- an option's two words: its name, and its number in decimal
abbrev pub words_of : Given → List (List ℕ)
words_of given = option_word given.setting ∷ decimal given.number ∷ []

-- the words are these options, of this command, with numbers in their ranges, and none is given twice
pub record IsOptions (verb : Verb) (words : List (List ℕ)) (givens : List Given) : Type 0 where
  pub text : words ≡ flat_map words_of givens
  pub taken : All (λ given. Contains (settings_of verb) given.setting) givens
  pub ranges : All (λ given. IsNumberFor given.setting given.number) givens
  pub once : AllPairs (λ a b. a.setting ≢ b.setting) givens

-- the given option is this one
abbrev pub is_of : Setting → Given → Bool
is_of setting given = bytes_eq (option_word given.setting) (option_word setting)

-- the number of an option: the one that it is given, else its default
abbrev pub number_of : List Given → Setting → ℕ
number_of givens setting =
    unwrap_or (option_map (λ given. given.number) (find (is_of setting) givens)) (default_of setting)

-- the limits that options set
abbrev pub limits_of : List Given → Limits
limits_of givens = record {
  partitions = number_of givens Partitions;
  value = number_of givens ValueLimit;
  tomb = number_of givens TombLimit;
  percent = number_of givens Percent;
}

-- what a command is with its options
abbrev pub verb_command : Verb → List Given → Command
verb_command Play givens = command.Play (limits_of givens)
verb_command Dump givens = command.Dump (limits_of givens)

-- the words are a folder, of any text, and this command with options
pub record IsCommand (words : List (List ℕ)) (command : Command) : Type 0 where
  pub folder : List ℕ
  pub verb : Verb
  pub options : List (List ℕ)
  pub givens : List Given
  pub text : words ≡ folder ∷ verb_name verb ∷ options
  pub read : IsOptions verb options givens
  pub meaning : command ≡ verb_command verb givens

-- the words are options that set these limits
pub record GivesLimits (verb : Verb) (words : List (List ℕ)) (limits : Limits) : Type 0 where
  pub givens : List Given
  pub read : IsOptions verb words givens
  pub meaning : limits ≡ limits_of givens

-- the limits with one of them set
abbrev pub with_number : Limits → Setting → ℕ → Limits
with_number limits Partitions n = record limits { partitions = n }
with_number limits ValueLimit n = record limits { value = n }
with_number limits TombLimit n = record limits { tomb = n }
with_number limits Percent n = record limits { percent = n }

-- each limit of the command is in its range
abbrev pub IsInLimits : Command → Type 0
IsInLimits (command.Play limits) = IsLimits limits
IsInLimits (command.Dump limits) = IsLimits limits

-- what each word behind the folder is like: it has no `=`, and a hyphen begins names of options alone
pub record IsLaterWord (word : List ℕ) : Type 0 where
  pub plain : All (λ byte. byte ≢ 61) word
  pub hyphen : slice_index word 0 ≡ 45 → (setting : Setting) × (word ≡ option_word setting)
