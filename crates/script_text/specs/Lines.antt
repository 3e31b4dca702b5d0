-- The grammar of a script. A script is a list of lines, each ended by byte 10; the last one may lack it.
use Rattle.std.specs.Prelude.{◌≡◌, ℕ, ◌+◌, ◌<◌, ◌^◌, ◌==◌, List, [], ◌∷◌, ◌++◌, length, map, All, codes, decimal, if◌then◌else◌}
use Rattle.std.specs.List.{flat_map}
use Rattle.hr_base.specs.declared.limits.TheConstants.{MAX_KEY_LEN, MAX_VALUE_LEN}
use Rattle.script_text.specs.declared.line.Mode.{Mode}
use Rattle.script_text.specs.declared.line.Line.{Line}
use Rattle.script_text.specs.declared.line.Line.TheVariants.{Put, Remove, Clear, Get, Sync}
use Rattle.script_text.specs.Texts.{IsByteString, text_of}

-- with a byte in front of the first line
abbrev pub before_first : ℕ → List (List ℕ) → List (List ℕ)
before_first b [] = (b ∷ []) ∷ []
before_first b (text ∷ texts) = (b ∷ text) ∷ texts

-- the lines of the bytes, without their ends
abbrev pub line_texts : List ℕ → List (List ℕ)
line_texts [] = []
line_texts (b ∷ bytes) = if b == 10 then [] ∷ line_texts bytes else before_first b (line_texts bytes)

-- the bytes, with a line's end added where the last line lacks it
abbrev pub with_last_end : List ℕ → List ℕ
with_last_end [] = []
with_last_end (b ∷ []) = if b == 10 then b ∷ [] else b ∷ 10 ∷ []
with_last_end (b ∷ c ∷ bytes) = b ∷ with_last_end (c ∷ bytes)

-- the partition that a line is of
abbrev pub partition_of : Line → ℕ
partition_of (Put p prefix key value) = p.0
partition_of (Remove p prefix key) = p.0
partition_of (Clear p prefix) = p.0
partition_of (Get p prefix key) = p.0
partition_of (Sync p) = p.0

-- a line that may stand in a script of this mode for so many partitions: these lines stand in every mode
abbrev pub IsLine : Mode → ℕ → Line → Type 0
IsLine mode partitions (Put p prefix key value) = (p.0 < partitions) × (prefix < 2 ^ 64) × IsByteString MAX_KEY_LEN key × IsByteString MAX_VALUE_LEN value
IsLine mode partitions (Remove p prefix key) = (p.0 < partitions) × (prefix < 2 ^ 64) × IsByteString MAX_KEY_LEN key
IsLine mode partitions (Clear p prefix) = (p.0 < partitions) × (prefix < 2 ^ 64)
IsLine mode partitions (Get p prefix key) = (p.0 < partitions) × (prefix < 2 ^ 64) × IsByteString MAX_KEY_LEN key
IsLine mode partitions (Sync p) = p.0 < partitions

-- The text of a line. Fields are parted by one space, and numbers are decimal without leading zeros.
abbrev pub line_text : Line → List ℕ
line_text (Put p prefix key value) = decimal p.0 ++ codes " put " ++ decimal prefix ++ codes " " ++ text_of key ++ codes " " ++ text_of value
line_text (Remove p prefix key) = decimal p.0 ++ codes " remove " ++ decimal prefix ++ codes " " ++ text_of key
line_text (Clear p prefix) = decimal p.0 ++ codes " clear " ++ decimal prefix
line_text (Get p prefix key) = decimal p.0 ++ codes " get " ++ decimal prefix ++ codes " " ++ text_of key
line_text (Sync p) = decimal p.0 ++ codes " sync"

-- lines one after another, each with its end
abbrev pub lines_text : List Line → List ℕ
lines_text lines = flat_map (λ line. line_text line ++ codes "\n") lines

-- the bytes are the script of these lines
pub record IsScript (mode : Mode) (partitions : ℕ) (bytes : List ℕ) (lines : List Line) : Type 0 where
  pub valid : All (IsLine mode partitions) lines
  pub text : line_texts bytes ≡ map line_text lines

-- line `number`, counted from 1, is the first that is no line of the grammar
pub record IsFirstBad (mode : Mode) (partitions : ℕ) (bytes : List ℕ) (number : ℕ) : Type 0 where
  pub front : List Line
  pub bad : List ℕ
  pub after : List (List ℕ)
  pub counted : number ≡ length front + 1
  pub valid : All (IsLine mode partitions) front
  pub split : line_texts bytes ≡ map line_text front ++ bad ∷ after
  pub none : (line : Line) → IsLine mode partitions line → bad ≡ line_text line → ⊥
