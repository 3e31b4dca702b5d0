-- What the calls on chunks make of them, by their answers, and of the ports that they go through. Clauses on files hold
-- where the folder tells its content.
use Rattle.std.specs.Prelude.{◌≡◌, ◌⊎◌, ℕ, ◌+◌, Bool, true, false, List, length, take, Result, Ok, Err, MatchBool, if◌then◌else◌}
use Rattle.hr_base.specs.declared.name.ChunkName.{ChunkName}
use Rattle.dir_files.specs.declared.folder.FolderRefusal.{FolderRefusal}
use Rattle.dir_files.specs.declared.folder.FolderRefusal.TheVariants.{Memory, Fault}
use Rattle.dir_files.specs.Files.{new_file, with_bytes, synced_file, named_file}
use Rattle.dir_files.specs.Ports.{Port, SamePort, Creates, MayCreate, SyncsNames}
use Rattle.value_chunk.specs.Chunks.{Chunk}

-- the chunk is the wanted one, as far as the folder tells
pub record IsTold (tells : Bool) (wanted chunk : Chunk) : Type 0 where
  pub name : chunk.name ≡ wanted.name
  pub size : chunk.size ≡ wanted.size
  pub unsynced : chunk.unsynced ≡ wanted.unsynced
  pub torn : chunk.torn ≡ wanted.torn
  pub file : tells ≡ true → chunk.file ≡ wanted.file

-- ---- the steps of a chunk

-- just begun: no record is in it
abbrev pub begun : ChunkName → Chunk
begun name = record { name = name; file = new_file; size = 0; unsynced = false; torn = false }

-- a record was appended
abbrev pub grown : Chunk → List ℕ → Chunk
grown chunk bytes = record { name = chunk.name; file = with_bytes chunk.file bytes; size = chunk.size + length bytes; unsynced = true; torn = chunk.torn }

-- a crash keeps all bytes
abbrev pub synced_chunk : Chunk → Chunk
synced_chunk chunk = record { name = chunk.name; file = synced_file chunk.file; size = chunk.size; unsynced = false; torn = chunk.torn }

-- a crash keeps the name
abbrev pub marked : Chunk → Chunk
marked chunk = record { name = chunk.name; file = named_file chunk.file; size = chunk.size; unsynced = chunk.unsynced; torn = chunk.torn }

-- ---- what each answer says of the chunk

-- the disk refused a record: some prefix of it stands behind the others
pub record Tears (tells : Bool) (old new : Chunk) (bytes : List ℕ) : Type 0 where
  pub name : new.name ≡ old.name
  pub size : new.size ≡ old.size
  pub unsynced : new.unsynced ≡ true
  pub torn : new.torn ≡ true
  pub file : tells ≡ true → (n : ℕ) × (new.file ≡ with_bytes old.file (take n bytes))

-- a record was to be appended; the answer is where it begins
abbrev pub Appends : Bool → Result ℕ FolderRefusal → Chunk → Chunk → List ℕ → Type 0
Appends tells (Ok offset) old new bytes = (offset ≡ old.size) × IsTold tells (grown old bytes) new
Appends tells (Err Fault) old new bytes = Tears tells old new bytes
Appends tells (Err Memory) old new bytes = IsTold tells old new

-- the file was to be synced
abbrev pub SyncsFile : Bool → Result (Unit {0}) FolderRefusal → Chunk → Chunk → Type 0
SyncsFile tells (Ok done) old new = IsTold tells (synced_chunk old) new
SyncsFile tells (Err refusal) old new = IsTold tells old new

-- the port was asked whether the name is fixed
abbrev pub Marks : Bool → Bool → Chunk → Chunk → Type 0
Marks tells answer old new = IsTold tells (if answer then marked old else old) new

-- the chunk was sealed
abbrev pub Seals : Bool → Chunk → Chunk → Type 0
Seals tells old new = IsTold tells (marked (synced_chunk old)) new

-- it was not sealed: its file may have been synced, and all else is as before
pub record IsChunkKept (tells : Bool) (old new : Chunk) : Type 0 where
  pub name : new.name ≡ old.name
  pub size : new.size ≡ old.size
  pub torn : new.torn ≡ old.torn
  pub either : IsTold tells old new ⊎ IsTold tells (synced_chunk old) new

-- ---- and of the port

-- the file of a chunk was to be created
abbrev pub BeginsAt : {T : Type 0} → Result T FolderRefusal → Port → Port → ChunkName → Type 0
BeginsAt (Ok chunk) old new name = Creates old new name
BeginsAt (Err Fault) old new name = MayCreate old new name
BeginsAt (Err Memory) old new name = SamePort old new

-- a chunk was to be sealed: the names are synced where its name was not fixed, and where no call was refused
abbrev pub SealsAt : {T E : Type 0} → Result T E → Port → Port → ChunkName → Type 0
SealsAt (Ok chunk) old new name = MatchBool (old.fixed name) (SamePort old new) (SyncsNames old new)
SealsAt (Err refused) old new name = SamePort old new
