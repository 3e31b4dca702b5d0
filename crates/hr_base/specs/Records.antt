-- What every layer knows of records: the limits of their parts, and how long their spellings are.
use Rattle.std.specs.Prelude.{ℕ, ◌+◌, ◌<◌, ◌≤◌}
use Rattle.hr_base.specs.declared.limits.TheConstants.{SEQ_END}
use Rattle.hr_base.specs.declared.name.Class.{Class}
use Rattle.hr_base.specs.declared.name.Class.TheVariants.{Value, Tomb, Clear}

-- how many bytes stand before the key
abbrev pub header_length : Class → ℕ
header_length Value = 24
header_length Tomb = 20
header_length Clear = 16

-- the bytes of a record's spelling: its header, its key and its value
abbrev pub record_length : Class → ℕ → ℕ → ℕ
record_length class key value = header_length class + key + value

-- a sequence number that a record may have
pub record IsSeq (seq : ℕ) : Type 0 where
  pub numbered : 1 ≤ seq
  pub number : seq < SEQ_END
