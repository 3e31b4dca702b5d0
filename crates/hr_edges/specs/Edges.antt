-- What the calls of sources and sinks do to the bytes, where these are told, and to the counts of failures.
use Rattle.std.specs.Prelude.{◌≡◌, ℕ, ◌<◌, ◌≤◌, ◌+◌, Bool, true, ◌&&◌, ◌==◌, nat_lt, List, [], ◌++◌, length, take, drop, Option, None, Some, Result, Ok, Err}
use Rattle.hr_edges.specs.declared.failure.Failed.{Failed}
use Rattle.hr_edges.specs.declared.reading.TheConstants.{PIECE_LEN}

-- ---- both

-- what tells no bytes goes on telling none
abbrev pub StaysUntold : Option (List ℕ) → Option (List ℕ) → Type 0
StaysUntold None new = new ≡ None
StaysUntold (Some old) new = Unit {0}

-- ---- sources

-- the first `count` of the bytes stand at the front of the buffer, and the others are left
pub record GivesFirst (bytes : List ℕ) (left : Option (List ℕ)) (count : ℕ) (into : List ℕ) : Type 0 where
  pub within : count ≤ length bytes
  pub rest : left ≡ Some (drop count bytes)
  pub given : take count into ≡ take count bytes

-- of all bytes these were read, and the others are left
pub record WasRead (left : Option (List ℕ)) (all read : List ℕ) : Type 0 where
  pub rest : List ℕ
  pub whole : all ≡ read ++ rest
  pub left_is : left ≡ Some rest

-- more than `limit` of all bytes were read, at most a piece more, and the others are left
pub record ReadsTooMuch (limit : ℕ) (all : List ℕ) (left : Option (List ℕ)) : Type 0 where
  pub read : List ℕ
  pub more : limit < length read
  pub few : length read ≤ limit + PIECE_LEN
  pub was_read : WasRead left all read

-- at most `limit` of all bytes were read, and the others are left
pub record ReadsAtMost (limit : ℕ) (all : List ℕ) (left : Option (List ℕ)) : Type 0 where
  pub read : List ℕ
  pub few : length read ≤ limit
  pub was_read : WasRead left all read

-- the source was read to its end, where it tells its bytes
abbrev pub IsRead : Option (List ℕ) → Option (List ℕ) → Type 0
IsRead None new = Unit {0}
IsRead (Some all) new = new ≡ Some []

-- ---- sinks

-- the sink took these bytes, where it tells what it takes
abbrev pub TakesAll : Option (List ℕ) → Option (List ℕ) → List ℕ → Type 0
TakesAll None new bytes = Unit {0}
TakesAll (Some old) new bytes = new ≡ Some (old ++ bytes)

-- the sink took a front of these bytes
abbrev pub TakesFront : Option (List ℕ) → Option (List ℕ) → List ℕ → Type 0
TakesFront None new bytes = Unit {0}
TakesFront (Some old) new bytes = (n : ℕ) × (new ≡ Some (old ++ take n bytes))

-- the sink took a front of these bytes that has at least so many
abbrev pub TakesAtLeast : ℕ → Option (List ℕ) → Option (List ℕ) → List ℕ → Type 0
TakesAtLeast least None new bytes = Unit {0}
TakesAtLeast least (Some old) new bytes = (n : ℕ) × (least ≤ n) × (new ≡ Some (old ++ take n bytes))

-- a write fails where it says so, and where it takes nothing of a piece that is not empty
abbrev pub is_failed_write : Result ℕ Failed → List ℕ → Bool
is_failed_write (Ok n) piece = (n == 0) && nat_lt 0 (length piece)
is_failed_write (Err failed) piece = true
