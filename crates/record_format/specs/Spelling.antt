-- Records, what can be read off them, and their bytes.
use Rattle.std.specs.Prelude.{ℕ, ◌<◌, ◌≤◌, ◌^◌, List, [], ◌++◌, length}
use Rattle.std.specs.Int.{w32, w64, to_be_bytes}
use Rattle.std.specs.List.{flat_map}
use Rattle.hr_base.specs.declared.limits.TheConstants.{MAX_KEY_LEN, MAX_VALUE_LEN}
use Rattle.hr_base.specs.declared.name.Class.{Class}
use Rattle.hr_base.specs.declared.name.Class.TheVariants.{Value as Values, Tomb as Tombs, Clear as Clears}
use Rattle.hr_base.specs.Records.{IsSeq}
use Rattle.record_format.specs.declared.record.Record.{Record}
use Rattle.record_format.specs.declared.record.Record.TheVariants.{Value, Tomb, Clear}

-- the record's number in its partition
abbrev pub seq_of : Record → ℕ
seq_of (Value seq prefix key value) = seq.0
seq_of (Tomb seq prefix key) = seq.0
seq_of (Clear prefix seq) = seq.0

-- in which chunks it may stand
abbrev pub class_of_record : Record → Class
class_of_record (Value seq prefix key value) = Values
class_of_record (Tomb seq prefix key) = Tombs
class_of_record (Clear prefix seq) = Clears

-- the map that it speaks of
abbrev pub prefix_of : Record → ℕ
prefix_of (Value seq prefix key value) = prefix
prefix_of (Tomb seq prefix key) = prefix
prefix_of (Clear prefix seq) = prefix

-- the bytes of its key; a prefix tombstone has none
abbrev pub key_of : Record → List ℕ
key_of (Value seq prefix key value) = key
key_of (Tomb seq prefix key) = key
key_of (Clear prefix seq) = []

-- the bytes of its value; only a value record has some
abbrev pub value_of : Record → List ℕ
value_of (Value seq prefix key value) = value
value_of (Tomb seq prefix key) = []
value_of (Clear prefix seq) = []

-- a record that has a spelling: its number is from 1 to 2 ^ 63 - 1, and key and value keep their limits
pub record IsRecord (r : Record) : Type 0 where
  pub seq : IsSeq (seq_of r)
  pub prefix : prefix_of r < 2 ^ 64
  pub key : length (key_of r) ≤ MAX_KEY_LEN
  pub value : length (value_of r) ≤ MAX_VALUE_LEN

-- the bytes of a record; all numbers are big endian
abbrev pub spelling : Record → List ℕ
spelling (Value seq prefix key value) = to_be_bytes w64 seq.0 ++ to_be_bytes w64 prefix ++ to_be_bytes w32 (length key) ++ to_be_bytes w32 (length value) ++ key ++ value
spelling (Tomb seq prefix key) = to_be_bytes w64 seq.0 ++ to_be_bytes w64 prefix ++ to_be_bytes w32 (length key) ++ key
spelling (Clear prefix seq) = to_be_bytes w64 prefix ++ to_be_bytes w64 seq.0

-- a chunk file is the spellings of its records, one after another
abbrev pub spellings : List Record → List ℕ
spellings records = flat_map spelling records
