-- How a record is stored in its chunk, which is begun where it has no room.
use Rattle.std.specs.Prelude.{◌≡◌, ◌⊎◌, ℕ, ◌+◌, ◌<◌, Bool, true, false, List, length, take, Option, Some, None, IfSome, Result, Ok, Err, if◌then◌else◌}
use Rattle.hr_base.specs.declared.limits.TheConstants.{MAX_CHUNK_LIMIT}
use Rattle.hr_base.specs.declared.name.Class.{Class}
use Rattle.hr_base.specs.declared.name.ChunkName.{ChunkName}
use Rattle.hr_base.specs.declared.name.Partition.{Partition}
use Rattle.dir_files.specs.declared.folder.FolderRefusal.{FolderRefusal}
use Rattle.dir_files.specs.declared.folder.FolderRefusal.TheVariants.{Memory, Fault}
use Rattle.dir_files.specs.Files.{FileState, Files, ChangesAt, SameAt, new_file, with_bytes}
use Rattle.value_chunk.specs.Chunks.{Chunk, fits}
use Rattle.writer_files.specs.Stocks.{Stock, files_of, taking_in, taking_of, takes}
use Rattle.writer_files.specs.HandCalls.{GainsFull}
use Rattle.writer_files.specs.StockCalls.{KeepsOthers}
use Rattle.crash_law.specs.Growth.{file_or_new}
use Rattle.partition_writer.specs.Standing.{chosen, writer_kind}

-- ---- chunks

-- the chunk is of the partition, and of the kind that a writer begins for the class
pub record IsNamedFor (p : Partition) (class : Class) (chunk : Chunk) : Type 0 where
  pub partition : chunk.name.partition ≡ p
  pub kind : chunk.name.kind ≡ writer_kind class

-- the chunks that take records are
abbrev pub NamesOwn : Partition → Stock → Type 0
NamesOwn partition stock = (class : Class) (chunk : Chunk) → (taking_in stock class) ≡ Some chunk → IsNamedFor partition class chunk

-- no chunk that takes records is torn
abbrev pub IsUntorn : Stock → Type 0
IsUntorn stock = (class : Class) (chunk : Chunk) → (taking_in stock class) ≡ Some chunk → chunk.torn ≡ false

-- how many bytes are in the chunk that takes records
abbrev pub size_of : Option Chunk → ℕ
size_of None = 0
size_of (Some chunk) = chunk.size

-- where there was no room, the chunk that took records is full
abbrev pub FillsUp : Bool → Stock → Stock → Class → Type 0
FillsUp true old new class = new.full ≡ old.full
FillsUp false old new class = GainsFull old.full new.full (taking_in old class)

-- A record of so many bytes went to its chunk: the one that takes records where it has room under the limit; else that one
-- is full, and the next one was begun.
pub record Fills (old new : Stock) (class : Class) (len limit : ℕ) (next : ChunkName) : Type 0 where
  pub others : KeepsOthers class old new
  pub full : FillsUp (takes old class len limit) old new class
  pub name : IfSome (taking_in new class) (λ chunk. chunk.name ≡ chosen old class len limit next)
  pub size : size_of (taking_in new class) ≡ (if takes old class len limit then size_of (taking_in old class) + len else len)

-- the number of the next chunk, once one was begun where the record had no room
abbrev pub number_after : Bool → ℕ → ℕ
number_after room number = if room then number else number + 1

-- ---- files

-- a piece of the record's bytes was appended to the file of this name, which was created where there was none; with all
-- of them it keeps the limit of chunks, or was empty
pub record AppendsTo (old new : Files) (name : ChunkName) (bytes piece : List ℕ) : Type 0 where
  pub room : fits (length (file_or_new (old name)).bytes) (length bytes) MAX_CHUNK_LIMIT ≡ true
  pub changes : ChangesAt old new name (Some (with_bytes (file_or_new (old name)) piece))

-- an empty file of this name was created where there was none
pub record AddsEmpty (old new : Files) (name : ChunkName) : Type 0 where
  pub none : old name ≡ None
  pub changes : ChangesAt old new name (Some new_file)

-- a file was to be begun where there is no room: it was created, or nothing changes
abbrev pub MakesRoom : Result (Unit {0}) FolderRefusal → Files → Files → ChunkName → Type 0
MakesRoom (Ok done) old new name = SameAt old new ⊎ AddsEmpty old new name
MakesRoom (Err Fault) old new name = (old name ≡ None) × (SameAt old new ⊎ AddsEmpty old new name)
MakesRoom (Err Memory) old new name = SameAt old new

-- the answer of an append, without where the record begins
abbrev pub without_offset : Result ℕ FolderRefusal → Result (Unit {0}) FolderRefusal
without_offset (Ok offset) = Ok tt
without_offset (Err refusal) = Err refusal

-- A record was to be stored in the file of this name: where the disk refused it, some prefix of it stands there, or
-- there is no file yet, or an empty one.
abbrev pub StoresIn : Result (Unit {0}) FolderRefusal → Files → Files → ChunkName → List ℕ → Type 0
StoresIn (Ok done) old new name bytes = AppendsTo old new name bytes bytes
StoresIn (Err Fault) old new name bytes =
    ((n : ℕ) × AppendsTo old new name bytes (take n bytes)) ⊎ ((old name ≡ None) × (SameAt old new ⊎ AddsEmpty old new name))
StoresIn (Err Memory) old new name bytes = SameAt old new ⊎ AddsEmpty old new name

-- a chunk that takes records now is that of this name, or did so before
abbrev pub TakesIn : Stock → Stock → ChunkName → Type 0
TakesIn old new name = (other : ChunkName) → taking_of new other ≡ true → (taking_of old other ≡ true) ⊎ (other ≡ name)

-- all files have numbers below that of the next chunk
abbrev pub IsBelow : Files → ℕ → Type 0
IsBelow files number = (name : ChunkName) (file : FileState) → files name ≡ Some file → name.number.0 < number

-- the chunk of this name takes records, or has no file yet
abbrev pub IsOpen : Stock → ChunkName → Type 0
IsOpen stock name = (taking_of stock name ≡ true) ⊎ (files_of stock name ≡ None)
