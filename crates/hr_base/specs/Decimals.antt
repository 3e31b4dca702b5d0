-- How a number begins in decimal.
use Rattle.std.specs.Prelude.{◌≡◌, ◌<◌, ℕ, List, length, slice_index}

-- there is a digit, and no zero leads more of them
pub record BeginsAsNumber (digits : List ℕ) : Type 0 where
  pub some : 0 < length digits
  pub alone : slice_index digits 0 ≡ 48 → length digits ≡ 1
