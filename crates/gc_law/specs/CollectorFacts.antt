-- A collector's facts over the events that it heard of a partition.
use Rattle.std.specs.Prelude.{◌≡◌, ◌⊎◌, ℕ, ◌≤◌, true, List, [], ◌++◌, length, Option, Some, None, ⊤}
use Rattle.hr_base.specs.declared.limits.TheConstants.{MAX_FILE_LEN}
use Rattle.hr_base.specs.declared.name.ChunkName.{ChunkName}
use Rattle.hr_base.specs.declared.name.Class.{Class}
use Rattle.hr_base.specs.declared.name.Class.TheVariants.{Value, Tomb, Clear}
use Rattle.hr_base.specs.Entries.{Key}
use Rattle.hr_base.specs.Names.{class_of_kind}
use Rattle.dir_files.specs.Files.{FileState, Files}
use Rattle.record_format.specs.declared.record.Record.{Record}
use Rattle.record_format.specs.Spelling.{seq_of, class_of_record, spellings}
use Rattle.record_format.specs.Splits.{Splits, IsTorn}
use Rattle.crash_law.specs.Numbered.{IsIn}
use Rattle.gc_event.specs.Notes.{IsOneOf, identity_of, Note, Own, Dead, id_of, chunk_of, top, Occurrence, occurrence, NoSmallerValue}
use Rattle.gc_law.specs.Events.{NotedEvent, notes, seal_of, IsTold}

-- What a collector has of a partition: its files, in its hands or at its port; those that it removed, which may
-- come back until a directory sync; and the occurrences that are present.
pub record Gathered : Type 0 where
  pub files : Files
  pub gone : Files
  pub present : List Occurrence

abbrev pub nothing_gathered : Gathered
nothing_gathered = record { files = λ name. None; gone = λ name. None; present = [] }

-- ---- what a crash keeps of a record

-- the file's whole records are these in order, and the first of them lie below its front
pub record HoldsSplit (class : Class) (file : FileState) (safe more : List Record) (rest : List ℕ) : Type 0 where
  pub split : Splits class file.bytes (safe ++ more) rest
  pub torn : IsTorn class rest
  pub front : length (spellings safe) ≤ file.front

-- the file of the name is named, and has the record below its front
pub record IsSafeAt (files : Files) (name : ChunkName) (r : Record) : Type 0 where
  pub file : FileState
  pub safe : List Record
  pub more : List Record
  pub rest : List ℕ
  pub there : files name ≡ Some file
  pub named : file.named ≡ true
  pub holds : HoldsSplit (class_of_kind name.kind) file safe more rest
  pub has : IsIn r safe

-- some file of the partition does
abbrev pub IsSafe : ℕ → Files → Record → Type 0
IsSafe p files r = (name : ChunkName) × (name.partition.0 ≡ p) × IsSafeAt files name r

-- The record's place: the chunk that its event told, whose Seal was not heard, so that the writer's facts speak
-- of it; or a file of the collector's that a crash keeps with the record.
abbrev pub HasPlace : ℕ → List NotedEvent → Files → Record → ChunkName → Type 0
HasPlace p heard files r chunk = (seal_of heard chunk ≡ None) ⊎ IsSafe p files r

-- ---- what is kept of the top of a key

-- a value has its place; a tombstone or prefix tombstone has it, or has nothing older to hide
abbrev pub KeepsBy : Class → Type 0 → Type 0 → Type 0
KeepsBy Value place bare = place
KeepsBy Tomb place bare = place ⊎ bare
KeepsBy Clear place bare = place ⊎ bare

abbrev pub KeepsTop : ℕ → List NotedEvent → Gathered → Key → Option Note → Type 0
KeepsTop p heard c k None = ⊤
KeepsTop p heard c k (Some (Dead id chunk)) = ⊤
KeepsTop p heard c k (Some (Own content chunk)) =
    KeepsBy (class_of_record content)
    (HasPlace p heard c.files content chunk)
    (NoSmallerValue c.present k (seq_of content))

-- ---- the collector's files

-- A file that came in a Seal or that the collector created, removed or not. Each whole record in it is a
-- present occurrence there, and is told.
pub record IsGatheredFile
    (p : ℕ) (heard : List NotedEvent) (present : List Occurrence) (name : ChunkName) (file : FileState)
    : Type 0 where
  pub small : length file.bytes ≤ MAX_FILE_LEN
  pub records : List Record
  pub rest : List ℕ
  pub split : Splits (class_of_kind name.kind) file.bytes records rest
  pub torn : IsTorn (class_of_kind name.kind) rest
  pub marked : (r : Record) → IsIn r records → IsOneOf (occurrence (identity_of r) name) present
  pub told : (r : Record) → IsIn r records → IsTold p heard r

-- The collector's facts. Each top has its place, or may do without. Each of its files of the partition, and
-- each removed one that may come back, has only present occurrences of told records. Each present occurrence is
-- of a record event, and the occurrence of each event whose chunk's Seal was not heard is present, that of a
-- dead one too.
pub record KeptBy (p : ℕ) (heard : List NotedEvent) (c : Gathered) : Type 0 where
  pub tops : (k : Key) → KeepsTop p heard c k (top (notes heard) k)
  pub files : (name : ChunkName) (file : FileState) → name.partition.0 ≡ p → c.files name ≡ Some file
      → IsGatheredFile p heard c.present name file
  pub gone : (name : ChunkName) (file : FileState) → name.partition.0 ≡ p → c.gone name ≡ Some file
      → IsGatheredFile p heard c.present name file
  pub noted : (o : Occurrence) → IsOneOf o c.present → (n : Note) × IsOneOf n (notes heard) × (id_of n ≡ o.id)
  pub unsealed : (n : Note) → IsOneOf n (notes heard) → seal_of heard (chunk_of n) ≡ None
      → IsOneOf (occurrence (id_of n) (chunk_of n)) c.present
