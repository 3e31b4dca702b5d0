-- How bytes of a file come into a buffer.
use Rattle.std.specs.Prelude.{◌≡◌, ℕ, ◌-◌, List, ◌++◌, length, take, drop, min}

-- so many bytes of a file, from this offset on, were moved to the front of a buffer: as many as there are and as fit
pub record MovesBytes (bytes : List ℕ) (at : ℕ) (old new : List ℕ) (count : ℕ) : Type 0 where
  pub many : count ≡ min (length old) (length bytes - at)
  pub moved : new ≡ take count (drop at bytes) ++ drop count old
