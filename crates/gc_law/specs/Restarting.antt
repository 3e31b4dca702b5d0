-- What a restart notes of the files that it found.
use Rattle.std.specs.Prelude.{◌≡◌, ℕ, ◌<◌, List, length, All, Some, IsSome}
use Rattle.std.specs.FinMap as map
use Rattle.hr_base.specs.declared.name.ChunkName.{ChunkName}
use Rattle.hr_base.specs.Entries.{Key}
use Rattle.hr_base.specs.Names.{class_of_kind}
use Rattle.dir_files.specs.Files.{FileState}
use Rattle.dir_files.specs.Images.{Image, durable_files}
use Rattle.record_format.specs.declared.record.Record.{Record}
use Rattle.record_format.specs.Splits.{Splits}
use Rattle.crash_law.specs.Placed.{IsPlaced}
use Rattle.crash_law.specs.Restarts.{Fact, IsDeciding}
use Rattle.crash_law.specs.Writers.{WriterStart}
use Rattle.gc_event.specs.Notes.{IsOneOf, identity_of, Note, Own, id_of, chunk_of, number_of, top}
use Rattle.gc_law.specs.Events.{NotedEvent, SealEvent, notes, seal_of, sealed_image, placed_of, NotFalling, SealsLast, IsNotedAt, IsTelling}
use Rattle.gc_law.specs.WriterFacts.{IsStateBy}

-- ---- what is noted

-- the whole records of a found file, in order, and the rest
pub record IsFoundFile (name : ChunkName) (bytes : List ℕ) : Type 0 where
  pub records : List Record
  pub rest : List ℕ
  pub split : Splits (class_of_kind name.kind) bytes records rest

-- what the note tells stands whole in its chunk's file; where it is of its own kind, its record does
pub record IsFoundNote (p : ℕ) (found : Image) (n : Note) : Type 0 where
  pub content : Record
  pub fact : Fact found p content
  pub chunk : fact.name ≡ chunk_of n
  pub is : identity_of content ≡ id_of n
  pub own : (r : Record) (chunk : ChunkName) → n ≡ Own r chunk → content ≡ r

-- The restart noted each whole record that it found, with its file: the deciding record of each key by an event
-- of its own kind, each other one by that or as dead. The numbers do not fall. It noted each found file in a
-- Seal, behind all events of its chunk, and no other.
pub record NotesFound (p : ℕ) (found : Image) (es : List NotedEvent) : Type 0 where
  pub read : (name : ChunkName) (bytes : List ℕ) → name.partition.0 ≡ p → found name ≡ Some bytes
      → IsFoundFile name bytes
  pub there : (n : Note) → IsOneOf n (notes es) → IsFoundNote p found n
  pub noted : (r : Record) (f : Fact found p r) → IsNotedAt es f.name (identity_of r)
  pub deciding : (k : Key) (r : Record) → IsDeciding (Fact found p) k r
      → (chunk : ChunkName) × IsOneOf (Own r chunk) (notes es)
  pub rising : NotFalling 0 (notes es)
  pub last : SealsLast es
  pub sizes : (name : ChunkName) (file : FileState) (size : ℕ) → IsOneOf (SealEvent name file size) es
      → size ≡ length file.bytes
  pub sealed : (name : ChunkName) → name.partition.0 ≡ p → seal_of es name ≡ durable_files found name
  pub others : (name : ChunkName) (file : FileState) → seal_of es name ≡ Some file → name.partition.0 ≡ p

-- ---- what it gives

-- Events that a writer may begin with: they are such as a partition notes, their tops give the maps, and all
-- numbers are below the first one. The chunk of each of them is sealed, and the found files are those in the
-- Seals.
pub record Opens (p : ℕ) (es : List NotedEvent) (b : WriterStart) : Type 0 where
  pub telling : IsTelling p es
  pub content : (k : Key) → IsStateBy (top (notes es) k) (map.get b.maps k)
  pub below : (n : Note) → IsOneOf n (notes es) → number_of n < b.first
  pub sealed : (n : Note) → IsOneOf n (notes es) → IsSome (seal_of es (chunk_of n))
  pub placed : All (IsPlaced p) (placed_of (notes es))
  pub found : (name : ChunkName) → name.partition.0 ≡ p → b.found name ≡ sealed_image es name
