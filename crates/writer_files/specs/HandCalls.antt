-- What calls make of the chunks in hand, by their answers. Clauses on files hold where the folder tells its content.
use Rattle.std.specs.Prelude.{◌≡◌, ℕ, ◌≤◌, Bool, true, ◌&&◌, ◌||◌, not, List, length, insert, Option, Some, None, is_some, option_to_list, Result, Ok, Err, if◌then◌else◌}
use Rattle.std.specs.List.{AllZip}
use Rattle.hr_base.specs.declared.name.Class.{Class}
use Rattle.hr_base.specs.declared.name.ChunkName.{ChunkName}
use Rattle.dir_files.specs.declared.folder.FolderRefusal.{FolderRefusal}
use Rattle.dir_files.specs.Files.{Names, SameAt}
use Rattle.dir_files.specs.Ports.{Port, either_file}
use Rattle.value_chunk.specs.Chunks.{Chunk}
use Rattle.value_chunk.specs.Calls.{IsTold, IsChunkKept, Appends, synced_chunk, marked}
use Rattle.writer_files.specs.Hands.{Takings, of_class, with_class, file_among}

-- ---- full chunks

-- the chunk was put among the full ones
pub record JoinsFull (old new : List Chunk) (chunk : Chunk) : Type 0 where
  pub at : ℕ
  pub within : at ≤ length old
  pub is : new ≡ insert old at chunk

-- and so was one that may be there
abbrev pub GainsFull : List Chunk → List Chunk → Option Chunk → Type 0
GainsFull old new None = new ≡ old
GainsFull old new (Some chunk) = JoinsFull old new chunk

-- ---- chunks that take records

-- a record was to be appended to this one
pub record AppendsTo (tells : Bool) (result : Result ℕ FolderRefusal) (old new : Option Chunk) (bytes : List ℕ) : Type 0 where
  pub chunk : Chunk
  pub after : Chunk
  pub was : old ≡ Some chunk
  pub is : new ≡ Some after
  pub appends : Appends tells result chunk after bytes
  pub sized : tells ≡ true → chunk.size ≡ length chunk.file.bytes

-- or to that of the class
pub record AppendsIn (tells : Bool) (result : Result ℕ FolderRefusal) (old new : Takings) (class : Class) (bytes : List ℕ) : Type 0 where
  pub one : AppendsTo tells result (of_class old class) (of_class new class) bytes
  pub is : new ≡ with_class old class (of_class new class)

-- each was changed so, and stays the one of its class
pub record EachTaking (R : Chunk → Chunk → Type 0) (old new : Takings) : Type 0 where
  pub values : AllZip R (option_to_list old.values) (option_to_list new.values)
  pub tombs : AllZip R (option_to_list old.tombs) (option_to_list new.tombs)
  pub clears : AllZip R (option_to_list old.clears) (option_to_list new.clears)

-- ---- syncs

-- the chunk's file was synced
abbrev pub IsSyncedFrom : Bool → Chunk → Chunk → Type 0
IsSyncedFrom tells chunk after = IsTold tells (synced_chunk chunk) after

-- chunks were to be synced, one after another
abbrev pub SyncsEach : Bool → Result (Unit {0}) FolderRefusal → List Chunk → List Chunk → Type 0
SyncsEach tells (Ok done) old new = AllZip (IsSyncedFrom tells) old new
SyncsEach tells (Err refusal) old new = AllZip (IsChunkKept tells) old new

abbrev pub SyncsTakings : Bool → Result (Unit {0}) FolderRefusal → Takings → Takings → Type 0
SyncsTakings tells (Ok done) old new = EachTaking (IsSyncedFrom tells) old new
SyncsTakings tells (Err refusal) old new = EachTaking (IsChunkKept tells) old new

-- the port told that the chunk's name is durable, where it is one of these
abbrev pub IsMarkedFrom : Bool → Names → Chunk → Chunk → Type 0
IsMarkedFrom tells fixed chunk after = IsTold tells (if fixed chunk.name then marked chunk else chunk) after

-- ---- ports

-- the files of these chunks were given back, each of another name
pub record GivesEach (old new : Port) (given : List Chunk) : Type 0 where
  pub held : (name : ChunkName) → new.held name ≡ either_file (file_among given name) (old.held name)
  pub gone : (name : ChunkName) → new.gone name ≡ (if is_some (file_among given name) then None else old.gone name)
  pub lent : (name : ChunkName) → new.lent name ≡ (old.lent name && not (is_some (file_among given name)))
  pub foreign : (name : ChunkName) → new.foreign name ≡ (old.foreign name || (is_some (file_among given name) && not (old.lent name)))
  pub created : SameAt old.created new.created
  pub fixed : (name : ChunkName) → new.fixed name ≡ (old.fixed name && not (is_some (file_among given name)))
