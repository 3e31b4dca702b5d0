-- Chunk files: their kinds, and the text of their names.
use Rattle.std.specs.Prelude.{◌≡◌, ℕ, false, ◌+◌, ◌/◌, ◌%◌, ◌<◌, ◌≤◌, List, [], ◌∷◌, ◌++◌, codes, zero, suc, nat_lt, if◌then◌else◌, Option, IfSome}
use Rattle.std.specs.Ordering.{nat_cmp, is_gt}
use Rattle.std.specs.Cmp.Lexicographic.{slice_cmp}
use Rattle.hr_base.specs.declared.limits.TheConstants.{MAX_PARTITIONS, CHUNK_NO_END}
use Rattle.hr_base.specs.declared.name.Kind.{Kind}
use Rattle.hr_base.specs.declared.name.Kind.TheVariants.{V, T, X, W, U, Y}
use Rattle.hr_base.specs.declared.name.Class.{Class}
use Rattle.hr_base.specs.declared.name.Class.TheVariants.{Value, Tomb, Clear}
use Rattle.hr_base.specs.declared.name.ChunkName.{ChunkName}

-- which records a chunk of this kind holds
abbrev pub class_of_kind : Kind → Class
class_of_kind V = Value
class_of_kind T = Tomb
class_of_kind X = Clear
class_of_kind W = Value
class_of_kind U = Tomb
class_of_kind Y = Clear

-- the letter that a name has for its kind
abbrev pub letter_of_kind : Kind → ℕ
letter_of_kind V = 118
letter_of_kind T = 116
letter_of_kind X = 120
letter_of_kind W = 119
letter_of_kind U = 117
letter_of_kind Y = 121

-- a name that a chunk file may have: its partition is below the greatest count, and its number is from 1 on and below its end
pub record IsChunkName (name : ChunkName) : Type 0 where
  pub partition : name.partition.0 < MAX_PARTITIONS
  pub numbered : 1 ≤ name.number.0
  pub number : name.number.0 < CHUNK_NO_END

-- a digit from 0 to 15: 0 to 9, then the letters a to f
abbrev pub hex_digit : ℕ → ℕ
hex_digit d = if nat_lt d 10 then 48 + d else 87 + d

-- the last `count` hexadecimal digits of a number, the first of them first
abbrev pub hex_digits : ℕ → ℕ → List ℕ
hex_digits zero n = []
hex_digits (suc count) n = hex_digits count (n / 16) ++ hex_digit (n % 16) ∷ []

-- p, two decimal digits of partition, -, the letter of the kind, -, sixteen hexadecimal digits of number, .chunk
unfoldable pub name_text : ChunkName → List ℕ
name_text name =
    112 ∷ (48 + name.partition.0 / 10) ∷ (48 + name.partition.0 % 10) ∷ 45 ∷ letter_of_kind name.kind ∷ 45 ∷ (hex_digits 16 name.number.0 ++ codes ".chunk")

-- what a handle tells of its name: this one, or none
abbrev pub TellsNoOther : Option ChunkName → ChunkName → Type 0
TellsNoOther told name = IfSome told (λ own. own ≡ name)

-- the text of the first does not come after that of the second; the first byte that differs decides
abbrev pub IsUpTo : ChunkName → ChunkName → Type 0
IsUpTo a b = is_gt (slice_cmp nat_cmp (name_text a) (name_text b)) ≡ false
