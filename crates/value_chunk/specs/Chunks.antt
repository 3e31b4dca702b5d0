-- A chunk file that is written, as contracts see it in each of its states.
use Rattle.std.specs.Prelude.{◌≡◌, ℕ, ◌+◌, ◌<◌, ◌≤◌, Bool, true, false, ◌||◌, ◌==◌, nat_le, List, length}
use Rattle.hr_base.specs.declared.limits.TheConstants.{MAX_CHUNK_LIMIT}
use Rattle.hr_base.specs.declared.name.Class.{Class}
use Rattle.hr_base.specs.declared.name.ChunkName.{ChunkName}
use Rattle.record_format.specs.declared.record.Record.{Record}
use Rattle.record_format.specs.Spelling.{spelling}
use Rattle.record_format.specs.Splits.{IsOfClass}
use Rattle.dir_files.specs.Files.{FileState, IsDurable}

-- A chunk. Its file is what the folder tells of it, where it tells its content.
pub record Chunk : Type 0 where
  pub name : ChunkName
  pub file : FileState
  -- the bytes of the records that were appended
  pub size : ℕ
  -- bytes may lie past the file's front
  pub unsynced : Bool
  -- the disk refused a record, and a prefix of it may stand behind the others
  pub torn : Bool

-- What holds of each chunk: its size is the file's length, and it is unsynced exactly where bytes are past the file's
-- front. One that is torn may be longer, and said to be unsynced in any case.
pub record IsChunk (tells : Bool) (chunk : Chunk) : Type 0 where
  pub size : tells ≡ true → chunk.torn ≡ false → chunk.size ≡ length chunk.file.bytes
  pub past : tells ≡ true → chunk.torn ≡ false → chunk.unsynced ≡ true → chunk.file.front < length chunk.file.bytes
  pub synced : tells ≡ true → chunk.unsynced ≡ false → chunk.file.front ≡ length chunk.file.bytes
  pub within : chunk.size ≤ MAX_CHUNK_LIMIT

-- a crash keeps the file's bytes and its name, and the chunk's size is the file's length
pub record IsSealed (chunk : Chunk) : Type 0 where
  pub durable : IsDurable chunk.file
  pub size : chunk.size ≡ length chunk.file.bytes

-- a chunk of this size takes so many bytes under this limit; an empty one takes any
abbrev pub fits : ℕ → ℕ → ℕ → Bool
fits size len limit = (size == 0) || nat_le (size + len) limit

-- the bytes are the spelling of one record that may stand in a chunk of the class
pub record IsOneRecord (class : Class) (bytes : List ℕ) : Type 0 where
  pub one : Record
  pub valid : IsOfClass class one
  pub spelled : bytes ≡ spelling one
