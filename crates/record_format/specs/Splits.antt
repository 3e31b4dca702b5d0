-- The whole records of a chunk file's bytes, and the rest that is none.
use Rattle.std.specs.Prelude.{◌≡◌, ℕ, ◌<◌, ◌≤◌, ◌⊎◌, List, ◌++◌, length, All}
use Rattle.hr_base.specs.declared.limits.TheConstants.{MAX_KEY_LEN, MAX_VALUE_LEN, SEQ_END}
use Rattle.hr_base.specs.declared.name.Class.{Class}
use Rattle.hr_base.specs.Records.{header_length}
use Rattle.record_format.specs.declared.record.Record.{Record}
use Rattle.record_format.specs.Spelling.{IsRecord, class_of_record, spelling, spellings}
use Rattle.record_format.specs.Headers.{header_seq, header_key, header_value}

-- a record that may stand in a chunk of the class
pub record IsOfClass (class : Class) (r : Record) : Type 0 where
  pub valid : IsRecord r
  pub same : class_of_record r ≡ class

-- no front of the bytes spells a record of the class
abbrev pub SpellsNone : Class → List ℕ → Type 0
SpellsNone class bytes = (r : Record) (more : List ℕ) → IsOfClass class r → bytes ≡ spelling r ++ more → ⊥

-- The bytes are the spellings of these records in order and then this rest, and the rest may begin with more of them.
pub record BeginsWith (class : Class) (bytes : List ℕ) (records : List Record) (rest : List ℕ) : Type 0 where
  pub whole : bytes ≡ spellings records ++ rest
  pub each : All (IsOfClass class) records

-- The bytes are the spellings of these records in order and then this rest, and no front of the rest is a spelling.
pub record Splits (class : Class) (bytes : List ℕ) (records : List Record) (rest : List ℕ) : Type 0 where
  pub whole : bytes ≡ spellings records ++ rest
  pub each : All (IsOfClass class) records
  pub none : SpellsNone class rest

-- the bytes begin with a complete header that no record has
pub record IsDamaged (class : Class) (bytes : List ℕ) : Type 0 where
  pub complete : header_length class ≤ length bytes
  pub flaw : (header_seq class bytes ≡ 0) ⊎ (SEQ_END ≤ header_seq class bytes) ⊎ (MAX_KEY_LEN < header_key class bytes) ⊎ (MAX_VALUE_LEN < header_value class bytes)

-- what a crash may leave of a record that was being written, nothing among it
abbrev pub IsTorn : Class → List ℕ → Type 0
IsTorn class bytes = ¬ IsDamaged class bytes
