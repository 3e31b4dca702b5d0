-- What the calls make of a stock and of its files, by their answers. Clauses on files hold where the folder tells its
-- content.
use Rattle.std.specs.Prelude.{◌≡◌, ◌≢◌, ◌⊎◌, ℕ, Bool, true, List, ◌∷◌, length, take, Some, IfSome, IsSomeAnd, option_to_list, Result, Ok, Err}
use Rattle.std.specs.List.{AllZip}
use Rattle.hr_base.specs.declared.name.Class.{Class}
use Rattle.hr_base.specs.declared.limits.TheConstants.{MAX_CHUNK_LIMIT}
use Rattle.hr_base.specs.declared.name.ChunkName.{ChunkName}
use Rattle.hr_base.specs.Names.{class_of_kind}
use Rattle.dir_files.specs.declared.folder.FolderRefusal.{FolderRefusal}
use Rattle.dir_files.specs.declared.folder.FolderRefusal.TheVariants.{Memory, Fault}
use Rattle.dir_files.specs.Files.{FileState, Files, Rises, ChangesAt, SameAt, new_file, with_bytes}
use Rattle.value_chunk.specs.Chunks.{Chunk, fits}
use Rattle.value_chunk.specs.Calls.{IsTold, Appends, begun}
use Rattle.writer_files.specs.HandCalls.{GainsFull}
use Rattle.writer_files.specs.Stocks.{Stock, taking_in}

-- the chunks that take records of other classes stay
abbrev pub KeepsOthers : Class → Stock → Stock → Type 0
KeepsOthers class old new = (other : Class) → other ≢ class → taking_in new other ≡ taking_in old other

-- ---- the begin of a chunk

-- whether a file may have been created since the last directory sync, after one was to be
abbrev pub fresh_after : Bool → Result (Unit {0}) FolderRefusal → Bool
fresh_after fresh (Ok done) = true
fresh_after fresh (Err Fault) = true
fresh_after fresh (Err Memory) = fresh

-- a chunk of this name takes records now, and the one before it is full
pub record BeginsChunk (tells : Bool) (old new : Stock) (name : ChunkName) : Type 0 where
  pub taking : IsSomeAnd (taking_in new (class_of_kind name.kind)) (IsTold tells (begun name))
  pub full : GainsFull old.full new.full (taking_in old (class_of_kind name.kind))

-- nothing was begun: the chunks stay
pub record BeginsNone (old new : Stock) : Type 0 where
  pub taking : new.taking ≡ old.taking
  pub full : new.full ≡ old.full

abbrev pub Begins : Bool → Result (Unit {0}) FolderRefusal → Stock → Stock → ChunkName → Type 0
Begins tells (Ok done) old new name = BeginsChunk tells old new name
Begins tells (Err refusal) old new name = BeginsNone old new

-- a chunk of this name was to be begun
pub record BeginsAny (tells : Bool) (result : Result (Unit {0}) FolderRefusal) (old new : Stock) (name : ChunkName) : Type 0 where
  pub begins : Begins tells result old new name
  pub others : KeepsOthers (class_of_kind name.kind) old new
  pub fresh : new.fresh ≡ fresh_after old.fresh result

-- a file was to be created: where the disk refused it, an empty one of this name may lie there
abbrev pub BeginsFile : Result (Unit {0}) FolderRefusal → Files → Files → ChunkName → Type 0
BeginsFile (Ok done) old new name = ChangesAt old new name (Some new_file)
BeginsFile (Err Fault) old new name = SameAt old new ⊎ ChangesAt old new name (Some new_file)
BeginsFile (Err Memory) old new name = SameAt old new

-- ---- an append

-- a record was to be appended to the chunk of its class that takes records
pub record AppendsAny (tells : Bool) (result : Result ℕ FolderRefusal) (old new : Stock) (class : Class) (bytes : List ℕ) : Type 0 where
  pub taking : IfSome (taking_in old class) (λ chunk. IsSomeAnd (taking_in new class) (λ after. Appends tells result chunk after bytes))
  pub others : KeepsOthers class old new
  pub full : new.full ≡ old.full
  pub fresh : new.fresh ≡ old.fresh

-- bytes were put behind those of the file of this name, and with the whole record it keeps the limit of chunks, or was
-- empty
pub record Extends (old new : Files) (name : ChunkName) (bytes piece : List ℕ) : Type 0 where
  pub file : FileState
  pub was : old name ≡ Some file
  pub room : fits (length file.bytes) (length bytes) MAX_CHUNK_LIMIT ≡ true
  pub changes : ChangesAt old new name (Some (with_bytes file piece))

-- a record was to be appended to the file of this name: where the disk refused it, some prefix of it stands there
abbrev pub ExtendsFile : Result ℕ FolderRefusal → Files → Files → ChunkName → List ℕ → Type 0
ExtendsFile (Ok offset) old new name bytes = Extends old new name bytes bytes
ExtendsFile (Err Fault) old new name bytes = (n : ℕ) × Extends old new name bytes (take n bytes)
ExtendsFile (Err Memory) old new name bytes = SameAt old new

-- ---- a sync

-- the chunk has the records that it had
pub record KeepsChunk (old new : Chunk) : Type 0 where
  pub name : new.name ≡ old.name
  pub size : new.size ≡ old.size
  pub torn : new.torn ≡ old.torn

-- those that take records stay
abbrev pub KeepsTaking : Stock → Stock → Type 0
KeepsTaking old new = (class : Class) → AllZip KeepsChunk (option_to_list (taking_in old class)) (option_to_list (taking_in new class))

-- and the full ones
pub record KeepsHands (old new : Stock) : Type 0 where
  pub taking : KeepsTaking old new
  pub full : AllZip KeepsChunk old.full new.full

-- no file comes or goes, and a crash keeps of each what it kept before, or more
abbrev pub EachRises : Files → Files → Type 0
EachRises old new = (name : ChunkName) → Rises (old name) (new name)

-- ---- full chunks

-- the first full chunk is no longer in hand
pub record HandsOut (old new : Stock) (chunk : Chunk) : Type 0 where
  pub full : old.full ≡ chunk ∷ new.full
  pub taking : new.taking ≡ old.taking
  pub fresh : new.fresh ≡ old.fresh
