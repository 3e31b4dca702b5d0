-- What the header of a record of the class says, where the bytes have all of it.
use Rattle.std.specs.Prelude.{◌≡◌, ℕ, ◌<◌, ◌≤◌, List, Option, MatchOption, length, take, drop}
use Rattle.std.specs.Borrow.{Bor}
use Rattle.std.specs.Int.{w32, w64, from_be_bytes}
use Rattle.hr_base.specs.declared.name.Class.{Class}
use Rattle.hr_base.specs.declared.name.Class.TheVariants.{Value, Tomb, Clear}
use Rattle.hr_base.specs.Records.{header_length}
use Rattle.record_format.specs.declared.header.Header.{Header}

-- the record's number
abbrev pub header_seq : Class → List ℕ → ℕ
header_seq Value bytes = from_be_bytes w64 (take 8 bytes)
header_seq Tomb bytes = from_be_bytes w64 (take 8 bytes)
header_seq Clear bytes = from_be_bytes w64 (take 8 (drop 8 bytes))

-- the map that the record speaks of
abbrev pub header_prefix : Class → List ℕ → ℕ
header_prefix Value bytes = from_be_bytes w64 (take 8 (drop 8 bytes))
header_prefix Tomb bytes = from_be_bytes w64 (take 8 (drop 8 bytes))
header_prefix Clear bytes = from_be_bytes w64 (take 8 bytes)

-- the length of the key that follows
abbrev pub header_key : Class → List ℕ → ℕ
header_key Value bytes = from_be_bytes w32 (take 4 (drop 16 bytes))
header_key Tomb bytes = from_be_bytes w32 (take 4 (drop 16 bytes))
header_key Clear bytes = 0

-- the length of the value that follows
abbrev pub header_value : Class → List ℕ → ℕ
header_value Value bytes = from_be_bytes w32 (take 4 (drop 20 bytes))
header_value Tomb bytes = 0
header_value Clear bytes = 0

-- the numbers of the complete header that the bytes begin with, and the bytes behind it
pub record IsHeader (class : Class) (bytes : List ℕ) (header : Header) (body : List ℕ) : Type 0 where
  pub complete : header_length class ≤ length bytes
  pub seq : header.seq ≡ header_seq class bytes
  pub prefix : header.prefix ≡ header_prefix class bytes
  pub key_len : header.key_len ≡ header_key class bytes
  pub value_len : header.value_len ≡ header_value class bytes
  pub behind : body ≡ drop (header_length class) bytes

-- the header that was read and the bytes behind it, or nothing where the header is not complete
abbrev pub ReadsHeader : Class → List ℕ → Option (Header × Bor (List ℕ)) → Type 0
ReadsHeader class bytes read = MatchOption read (length bytes < header_length class) (λ x. IsHeader class bytes x.0 x.1.now)
