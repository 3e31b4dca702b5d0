-- Places of records in the order of their numbers.
use Rattle.std.specs.Prelude.{◌≡◌, ℕ, ◌<◌, List, length, map, All, slice_index_or}
use Rattle.std.specs.List.Sorted.{IsPermutation, IsNonDecreasingBy}
use Rattle.record_format.specs.declared.record.Record.{Record}
use Rattle.record_format.specs.declared.record.Record.TheVariants.{Clear}
use Rattle.record_format.specs.Spelling.{seq_of}

-- what stands at a place that has no record
abbrev pub left_behind : Record
left_behind = Clear 0 (record { 0 = 0 })

-- the number of a place is that of the record there
pub record IsPlace (records : List Record) (entry : ℕ × ℕ) : Type 0 where
  pub within : entry.1 < length records
  pub number : seq_of (slice_index_or records entry.1 left_behind) ≡ entry.0

-- the records at the places
abbrev pub records_at : List Record → List (ℕ × ℕ) → List Record
records_at records order = map (λ e. slice_index_or records e.1 left_behind) order

-- the number of each record beside its place, in the order of the places
pub record IsNumbered (records : List Record) (order : List (ℕ × ℕ)) : Type 0 where
  pub count : length order ≡ length records
  pub each : (k : ℕ) (d : ℕ × ℕ) → k < length records → slice_index_or order k d ≡ (seq_of (slice_index_or records k left_behind), k)

-- Numbers that do not fall, each beside the place of a record that has it. The records at the places are all records.
pub record IsOrder (records : List Record) (order : List (ℕ × ℕ)) : Type 0 where
  pub places : All (IsPlace records) order
  pub rising : IsNonDecreasingBy (λ e. e.0) order
  pub moves : IsPermutation records (records_at records order)
