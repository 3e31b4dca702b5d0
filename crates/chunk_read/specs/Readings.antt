-- What is found in bytes of a chunk file, wherever in the file they begin.
use Rattle.std.specs.Prelude.{◌≡◌, ℕ, ◌+◌, ◌-◌, ◌<◌, List, [], length, drop, Option, None, Some}
use Rattle.hr_base.specs.declared.limits.TheConstants.{MAX_RECORD_LEN}
use Rattle.hr_base.specs.declared.name.Class.{Class}
use Rattle.record_format.specs.declared.record.Record.{Record}
use Rattle.record_format.specs.Spelling.{spellings}
use Rattle.record_format.specs.Splits.{IsDamaged, IsTorn, Splits}
use Rattle.chunk_read.specs.declared.found.End.{End}
use Rattle.chunk_read.specs.declared.found.End.TheVariants.{Torn, Damaged}
use Rattle.chunk_read.specs.Chunks.{with_offsets}

-- what is left behind the whole records, and begins at this offset
abbrev pub EndsAt : Class → ℕ → List ℕ → End → Type 0
EndsAt class at left (Torn count) = IsTorn class left × (count ≡ length left) × (count < MAX_RECORD_LEN)
EndsAt class at left (Damaged place) = IsDamaged class left × (place ≡ at)

-- The bytes, of which the first one has this offset, split into these records, each with its offset, and this
-- end.
pub record IsRead (class : Class) (begin : ℕ) (bytes : List ℕ) (records : List (ℕ × Record)) (end : End) : Type 0 where
  pub whole : List Record
  pub left : List ℕ
  pub split : Splits class bytes whole left
  pub offsets : records ≡ with_offsets begin whole
  pub ends : EndsAt class (begin + length (spellings whole)) left end

-- the last bytes, as many as are torn; where the end is damaged, none
abbrev pub torn_bytes : List ℕ → End → List ℕ
torn_bytes bytes (Torn count) = drop (length bytes - count) bytes
torn_bytes bytes (Damaged place) = []

-- where the end is damaged
abbrev pub damage_of : End → Option ℕ
damage_of (Torn count) = None
damage_of (Damaged place) = Some place
