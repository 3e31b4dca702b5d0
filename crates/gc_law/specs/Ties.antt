-- What ties a collector's table to what the collector has of a partition.
use Rattle.std.specs.Prelude.{◌≡◌, ◌⊎◌, ℕ, true, not, List, [], ◌∷◌, map, filter, All, Some, None, IsSome}
use Rattle.hr_base.specs.declared.name.ChunkName.{ChunkName}
use Rattle.hr_base.specs.Entries.{Key}
use Rattle.hr_base.specs.Names.{class_of_kind}
use Rattle.dir_files.specs.Files.{FileState, Files, Names}
use Rattle.record_format.specs.declared.record.Record.{Record}
use Rattle.record_format.specs.Spelling.{seq_of, class_of_record, spellings}
use Rattle.record_format.specs.Splits.{IsOfClass}
use Rattle.crash_law.specs.Numbered.{IsIn}
use Rattle.crash_law.specs.Placed.{Placed}
use Rattle.gc_event.specs.Notes.{IsOneOf, identity_of, Own, top, occurrence, NoSmallerValue}
use Rattle.gc_event.specs.Books.{Entry, Book, forgotten_in, is_waiting}
use Rattle.gc_law.specs.Events.{NotedEvent, notes, seal_of}
use Rattle.gc_law.specs.CollectorFacts.{Gathered, IsSafeAt, KeepsBy}

-- ---- the table

-- The table has the record's place, and a crash keeps the record there: in the chunk of its event, whose Seal
-- was not heard, or in a file of the collector's.
pub record HasPlaceIn
    (p : ℕ) (heard : List NotedEvent) (files : Files) (present : List Entry) (x : Placed)
    : Type 0 where
  pub entry : Entry
  pub member : IsOneOf entry present
  pub is : entry.id ≡ identity_of x.content
  pub place : entry.place ≡ true
  pub kept : ((entry.chunk ≡ x.chunk) × (seal_of heard x.chunk ≡ None))
      ⊎ ((entry.chunk.partition.0 ≡ p) × IsSafeAt files entry.chunk x.content)

-- the content of an entry is the record of an event of its own kind
pub record IsOfEvent (heard : List NotedEvent) (e : Entry) (r : Record) : Type 0 where
  pub chunk : ChunkName
  pub own : IsOneOf (Own r chunk) (notes heard)
  pub is : e.id ≡ identity_of r

-- The table stands for what was heard, and for the occurrences that are present. It has the place of each top,
-- or the top is a tombstone or prefix tombstone with nothing older to hide. Contents are those of events of
-- their own kind, and what is a place has one.
pub record Ties (p : ℕ) (heard : List NotedEvent) (c : Gathered) (b : Book) : Type 0 where
  pub told : b.told ≡ notes heard
  pub present : c.present ≡ map (λ e. occurrence e.id e.chunk) b.present
  pub places : (k : Key) (r : Record) (chunk : ChunkName) → top (notes heard) k ≡ Some (Own r chunk)
      → KeepsBy (class_of_record r)
      (HasPlaceIn p heard c.files b.present (record { content = r; chunk = chunk }))
      (NoSmallerValue c.present k (seq_of r))
  pub contents : (e : Entry) (r : Record) → IsOneOf e b.present → e.content ≡ Some r → IsOfEvent heard e r
  pub filled : (e : Entry) → IsOneOf e b.present → e.place ≡ true → IsSome e.content

-- the table without the occurrences in these chunks
abbrev pub table_outside : Names → Book → Book
table_outside removed b = record { told = b.told; present = filter (λ e. not (removed e.chunk)) b.present }

-- the table after these chunks were forgotten, one by one
abbrev pub forgotten_each : Book → List ChunkName → Book
forgotten_each b [] = b
forgotten_each b (name ∷ names) = forgotten_each (forgotten_in b name) names

-- ---- copies that wait

-- the entry's record had an event of its own kind, and lies whole in its copy file, which has no rest
pub record IsCopied (p : ℕ) (heard : List NotedEvent) (files : Files) (e : Entry) : Type 0 where
  pub content : Record
  pub chunk : ChunkName
  pub own : IsOneOf (Own content chunk) (notes heard)
  pub is : e.id ≡ identity_of content
  pub partition : e.chunk.partition.0 ≡ p
  pub file : FileState
  pub records : List Record
  pub there : files e.chunk ≡ Some file
  pub whole : file.bytes ≡ spellings records
  pub valid : All (IsOfClass (class_of_kind e.chunk.kind)) records
  pub has : IsIn content records

-- each copy of a record that waits is so, while the disk refused none
abbrev pub AreCopied : ℕ → List NotedEvent → Files → List Entry → Type 0
AreCopied p heard files present = (e : Entry) → IsOneOf e present → is_waiting e ≡ true → IsCopied p heard files e

-- a crash keeps each copy that waits in its copy file
abbrev pub AreSecured : ℕ → List NotedEvent → Files → List Entry → Type 0
AreSecured p heard files present =
    (e : Entry) (r : Record) (chunk : ChunkName) → IsOneOf e present → is_waiting e ≡ true
    → IsOneOf (Own r chunk) (notes heard) → e.id ≡ identity_of r
    → (e.chunk.partition.0 ≡ p) × IsSafeAt files e.chunk r
