-- The text form of keys and values. A byte from 33 to 126 other than the percent sign stands for itself, and any
-- other byte is written as the percent sign and two upper-case hexadecimal digits. No bytes are a lone percent sign.
use Rattle.std.specs.Prelude.{ℕ, ◌+◌, ◌/◌, ◌%◌, ◌<◌, ◌≤◌, ◌==◌, Bool, ◌&&◌, not, nat_lt, nat_le, List, [], ◌∷◌, length, All, if◌then◌else◌}
use Rattle.std.specs.List.{flat_map}

-- whether a byte stands for itself
abbrev pub is_plain : ℕ → Bool
is_plain b = nat_le 33 b && (nat_le b 126 && not (b == 37))

-- a digit from 0 to 15: 0 to 9, then the letters A to F
abbrev pub upper_digit : ℕ → ℕ
upper_digit d = if nat_lt d 10 then 48 + d else 55 + d

-- one byte as text
abbrev pub byte_text : ℕ → List ℕ
byte_text b = if is_plain b then b ∷ [] else 37 ∷ upper_digit (b / 16) ∷ upper_digit (b % 16) ∷ []

-- the one text of these bytes
abbrev pub text_of : List ℕ → List ℕ
text_of [] = 37 ∷ []
text_of (b ∷ bytes) = flat_map byte_text (b ∷ bytes)

-- at most so many bytes
pub record IsByteString (limit : ℕ) (bytes : List ℕ) : Type 0 where
  pub short : length bytes ≤ limit
  pub each : All (λ b. b < 256) bytes
