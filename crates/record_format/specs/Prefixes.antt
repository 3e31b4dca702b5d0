-- What a front of a chunk file holds.
use Rattle.std.specs.Prelude.{ℕ, ◌≤◌, List, length, take}
use Rattle.hr_base.specs.declared.name.Class.{Class}
use Rattle.record_format.specs.declared.record.Record.{Record}
use Rattle.record_format.specs.Spelling.{spellings}
use Rattle.record_format.specs.Splits.{Splits, IsTorn}

-- The front `bytes` of the spellings of `records` splits into the first of these records, all that it has whole, and a torn rest.
pub record PrefixSplit (class : Class) (records : List Record) (bytes : List ℕ) : Type 0 where
  pub count : ℕ
  pub left : List ℕ
  pub within : count ≤ length records
  pub split : Splits class bytes (take count records) left
  pub torn : IsTorn class left
  pub most : (n : ℕ) → n ≤ length records → length (spellings (take n records)) ≤ length bytes → n ≤ count
