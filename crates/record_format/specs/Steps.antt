-- What bytes begin with: a whole record, less than one, or a header that no record has. Each case is told by the header.
use Rattle.std.specs.Prelude.{◌≡◌, ℕ, ◌<◌, ◌≤◌, ◌⊎◌, List, length, take, ⊤}
use Rattle.hr_base.specs.declared.limits.TheConstants.{MAX_KEY_LEN, MAX_VALUE_LEN, SEQ_END}
use Rattle.hr_base.specs.declared.name.Class.{Class}
use Rattle.hr_base.specs.declared.name.Class.TheVariants.{Value as Values, Tomb as Tombs, Clear as Clears}
use Rattle.hr_base.specs.Records.{header_length, record_length, IsSeq}
use Rattle.record_format.specs.declared.record.Record.{Record}
use Rattle.record_format.specs.declared.record.Record.TheVariants.{Value, Tomb, Clear}
use Rattle.record_format.specs.declared.reading.RecordView.{RecordView}
use Rattle.record_format.specs.declared.reading.RecordView.TheVariants.{Value as ValueView, Tomb as TombView, Clear as ClearView}
use Rattle.record_format.specs.declared.reading.Flaw.{Flaw}
use Rattle.record_format.specs.declared.reading.Flaw.TheVariants.{Number, KeyLength, ValueLength}
use Rattle.record_format.specs.declared.reading.Step.{Step}
use Rattle.record_format.specs.declared.reading.Step.TheVariants.{Whole, Torn, Damaged}
use Rattle.record_format.specs.Spelling.{spelling}
use Rattle.record_format.specs.Headers.{header_seq, header_key, header_value}
use Rattle.record_format.specs.Splits.{IsOfClass}

-- the record of the class with these parts; a tombstone has no value, and a prefix tombstone no key either
abbrev pub record_with : Class → (seq prefix : ℕ) (key value : List ℕ) → Record
record_with Values seq prefix key value = Value (record { 0 = seq }) prefix key value
record_with Tombs seq prefix key value = Tomb (record { 0 = seq }) prefix key
record_with Clears seq prefix key value = Clear prefix (record { 0 = seq })

-- the record that a view shows
abbrev pub record_of : RecordView → Record
record_of (ValueView seq prefix key value) = Value seq prefix key.now value.now
record_of (TombView seq prefix key) = Tomb seq prefix key.now
record_of (ClearView prefix seq) = Clear prefix seq

-- a record may have this number, a key and a value of these lengths
pub record FitsLimits (seq key value : ℕ) : Type 0 where
  pub numbered : IsSeq seq
  pub key_fits : key ≤ MAX_KEY_LEN
  pub value_fits : value ≤ MAX_VALUE_LEN

-- no record may have them, and this is the first of them that is wrong
abbrev pub IsFirstFlaw : (seq key value : ℕ) → Flaw → Type 0
IsFirstFlaw seq key value (Number n) = (n ≡ seq) × ((n ≡ 0) ⊎ (SEQ_END ≤ n))
IsFirstFlaw seq key value (KeyLength n) = IsSeq seq × (n ≡ key) × (MAX_KEY_LEN < n)
IsFirstFlaw seq key value (ValueLength n) = IsSeq seq × (key ≤ MAX_KEY_LEN) × (n ≡ value) × (MAX_VALUE_LEN < n)

-- the first `count` bytes are the spelling of the record that the view shows
pub record IsWhole (class : Class) (bytes : List ℕ) (view : RecordView) (count : ℕ) : Type 0 where
  pub of : IsOfClass class (record_of view)
  pub spelled : take count bytes ≡ spelling (record_of view)
  pub exact : count ≡ length (spelling (record_of view))

-- a complete header that a record may have, and fewer bytes than it announces
pub record IsCutShort (class : Class) (bytes : List ℕ) : Type 0 where
  pub complete : header_length class ≤ length bytes
  pub limits : FitsLimits (header_seq class bytes) (header_key class bytes) (header_value class bytes)
  pub short : length bytes < record_length class (header_key class bytes) (header_value class bytes)

-- a complete header that no record may have, and what is wrong there first
pub record IsFlawed (class : Class) (bytes : List ℕ) (flaw : Flaw) : Type 0 where
  pub complete : header_length class ≤ length bytes
  pub first : IsFirstFlaw (header_seq class bytes) (header_key class bytes) (header_value class bytes) flaw

-- what the bytes begin with
abbrev pub IsStep : Class → List ℕ → Step → Type 0
IsStep class bytes (Whole view count) = IsWhole class bytes view count
IsStep class bytes Torn = (length bytes < header_length class) ⊎ IsCutShort class bytes
IsStep class bytes (Damaged flaw) = IsFlawed class bytes flaw

-- two answers that say the same; where a view's bytes lie in memory does not matter
abbrev pub SameStep : Step → Step → Type 0
SameStep (Whole a m) (Whole b n) = (record_of a ≡ record_of b) × (m ≡ n)
SameStep Torn Torn = ⊤
SameStep (Damaged f) (Damaged g) = f ≡ g
SameStep _ _ = ⊥

-- the answer is this record, whole, and the length of its spelling
abbrev pub Shows : Step → Record → Type 0
Shows (Whole view count) r = (record_of view ≡ r) × (count ≡ length (spelling r))
Shows Torn r = ⊥
Shows (Damaged flaw) r = ⊥

-- what holds of a whole record and its length, where that is the answer
abbrev pub IfWhole : Step → (RecordView → ℕ → Type 0) → Type 0
IfWhole (Whole view count) P = P view count
IfWhole Torn P = ⊤
IfWhole (Damaged flaw) P = ⊤

-- the answer is a flaw, whichever
abbrev pub SaysDamaged : Step → Type 0
SaysDamaged (Whole view count) = ⊥
SaysDamaged Torn = ⊥
SaysDamaged (Damaged flaw) = ⊤
