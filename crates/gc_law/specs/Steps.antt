-- What a collector's steps make of what it has of a partition. `c` is before the step and `t` behind it.
use Rattle.std.specs.Prelude.{◌≡◌, ◌≢◌, ◌⊎◌, ℕ, ◌+◌, ◌≤◌, true, not, List, [], ◌∷◌, ◌++◌, length, filter, All, Some, None, IsSome}
use Rattle.std.specs.List.{list_any}
use Rattle.hr_base.specs.declared.limits.TheConstants.{MAX_FILE_LEN}
use Rattle.hr_base.specs.declared.name.ChunkName.{ChunkName}
use Rattle.hr_base.specs.declared.name.Class.TheVariants.{Value}
use Rattle.hr_base.specs.Entries.{Key}
use Rattle.hr_base.specs.Names.{class_of_kind}
use Rattle.hr_base.specs.NameTests.{is_name}
use Rattle.dir_files.specs.Files.{FileState, Names, Rises, ChangesAt, SameAt, new_file, with_bytes}
use Rattle.record_format.specs.declared.record.Record.{Record}
use Rattle.record_format.specs.Spelling.{seq_of, class_of_record, spelling, spellings}
use Rattle.record_format.specs.Splits.{IsOfClass}
use Rattle.gc_event.specs.Notes.{IsOneOf, identity_of, Note, Own, id_of, chunk_of, top, Occurrence, occurrence, NoSmallerValue}
use Rattle.gc_law.specs.Events.{NotedEvent, notes, seal_of, IsTold}
use Rattle.gc_law.specs.CollectorFacts.{Gathered, IsSafeAt}

-- ---- what is present

-- the chunks of a list
abbrev pub among : List ChunkName → Names
among names name = list_any (λ other. is_name name other) names

-- the occurrences in other chunks than these
abbrev pub outside : Names → List Occurrence → List Occurrence
outside removed present = filter (λ o. not (removed o.chunk)) present

-- ---- what it hears

-- a record event was heard: its occurrence is present
pub record HearsNote (c t : Gathered) (n : Note) : Type 0 where
  pub files : SameAt c.files t.files
  pub gone : SameAt c.gone t.gone
  pub present : t.present ≡ c.present ++ occurrence (id_of n) (chunk_of n) ∷ []

-- a Seal was heard: its file is the collector's from here on
pub record HearsSeal (c t : Gathered) (name : ChunkName) (file : FileState) : Type 0 where
  pub none : c.files name ≡ None
  pub files : ChangesAt c.files t.files name (Some file)
  pub gone : SameAt c.gone t.gone
  pub present : t.present ≡ c.present

-- ---- a cycle

-- a copy file was created
pub record BeginsCopyFile (c t : Gathered) (name : ChunkName) : Type 0 where
  pub none : c.files name ≡ None
  pub files : ChangesAt c.files t.files name (Some new_file)
  pub gone : SameAt c.gone t.gone
  pub present : t.present ≡ c.present

-- A copy: a record that is present in one chunk, the file of another chunk that it goes to, the bytes of its
-- spelling that the disk took, and those that it did not take.
pub record RecordCopy : Type 0 where
  pub content : Record
  pub source : ChunkName
  pub target : ChunkName
  pub piece : List ℕ
  pub missing : List ℕ

-- The copy, with the number and all else of its record, was entered as present, and a front of its spelling was
-- appended to the copy file, which had whole records alone.
pub record CopiesRecord (p : ℕ) (heard : List NotedEvent) (c t : Gathered) (x : RecordCopy) : Type 0 where
  pub file : FileState
  pub records : List Record
  pub there : c.files x.target ≡ Some file
  pub whole : file.bytes ≡ spellings records
  pub valid : All (IsOfClass (class_of_kind x.target.kind)) (records ++ x.content ∷ [])
  pub spelled : spelling x.content ≡ x.piece ++ x.missing
  pub within : length file.bytes + length x.piece ≤ MAX_FILE_LEN
  pub fits : file.front ≤ length file.bytes
  pub told : IsTold p heard x.content
  pub copied : IsOneOf (occurrence (identity_of x.content) x.source) c.present
  pub files : ChangesAt c.files t.files x.target (Some (with_bytes file x.piece))
  pub gone : SameAt c.gone t.gone
  pub present : t.present ≡ c.present ++ occurrence (identity_of x.content) x.target ∷ []

-- Files were synced, or the directory was: of each file a crash keeps as much or more, and a removed one may be
-- gone for good. No occurrence comes or goes. It holds too where nothing of the partition changed.
pub record SecuresFiles (p : ℕ) (c t : Gathered) : Type 0 where
  pub rises : (name : ChunkName) → name.partition.0 ≡ p → Rises (c.files name) (t.files name)
  pub gone : (name : ChunkName) (file : FileState) → name.partition.0 ≡ p → t.gone name ≡ Some file
      → c.gone name ≡ Some file
  pub present : t.present ≡ c.present

-- No top needs the file: where its record is safe in it, its event's chunk was not heard sealed, or it is safe
-- elsewhere too, or it is a tombstone or prefix tombstone that has no older value of the key to hide.
abbrev pub IsSpare : ℕ → List NotedEvent → Gathered → ChunkName → Type 0
IsSpare p heard c name =
    (k : Key) (r : Record) (chunk : ChunkName) → top (notes heard) k ≡ Some (Own r chunk) → IsSafeAt c.files name r
    → (seal_of heard chunk ≡ None)
    ⊎ (((other : ChunkName) × (other.partition.0 ≡ p) × (other ≢ name) × IsSafeAt c.files other r)
    ⊎ ((class_of_record r ≢ Value) × NoSmallerValue c.present k (seq_of r)))

-- A file was removed, and may come back. Its occurrences stay present.
pub record RemovesSource (c t : Gathered) (name : ChunkName) : Type 0 where
  pub file : FileState
  pub there : c.files name ≡ Some file
  pub files : ChangesAt c.files t.files name None
  pub gone : ChangesAt c.gone t.gone name (Some file)
  pub stays : t.present ≡ c.present

-- A directory sync was answered after removals: no removed file of the partition comes back, and the
-- occurrences in their chunks are forgotten. Such a chunk has no file here, and its Seal was heard, or no event
-- is of it.
pub record FixesRemovals (p : ℕ) (heard : List NotedEvent) (c t : Gathered) (removed : Names) : Type 0 where
  pub none : (name : ChunkName) → removed name ≡ true → c.files name ≡ None
  pub closed : (n : Note) → IsOneOf n (notes heard) → removed (chunk_of n) ≡ true
      → IsSome (seal_of heard (chunk_of n))
  pub files : (name : ChunkName) → name.partition.0 ≡ p → Rises (c.files name) (t.files name)
  pub gone : (name : ChunkName) → name.partition.0 ≡ p → t.gone name ≡ None
  pub forgotten : t.present ≡ outside removed c.present
