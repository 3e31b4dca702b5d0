-- What a partition noted, in order: records, and Seals with the files that travel in them.
use Rattle.std.specs.Prelude.{◌≡◌, ◌≢◌, ◌⊎◌, ℕ, ◌≤◌, List, [], ◌∷◌, length, Some, None, ⊤, if◌then◌else◌}
use Rattle.std.specs.Option.{option_map}
use Rattle.hr_base.specs.declared.limits.TheConstants.{MAX_FILE_LEN}
use Rattle.hr_base.specs.declared.name.ChunkName.{ChunkName}
use Rattle.hr_base.specs.Names.{class_of_kind}
use Rattle.hr_base.specs.NameTests.{is_name}
use Rattle.dir_files.specs.Files.{FileState, Files, IsDurable}
use Rattle.dir_files.specs.Images.{Image}
use Rattle.record_format.specs.declared.record.Record.{Record}
use Rattle.record_format.specs.Spelling.{seq_of}
use Rattle.record_format.specs.Splits.{Splits, IsTorn}
use Rattle.crash_law.specs.Numbered.{IsIn}
use Rattle.crash_law.specs.Restarts.{Fact, Agree}
use Rattle.crash_law.specs.Placed.{Placed}
use Rattle.gc_event.specs.Notes.{IsOneOf, Identity, identity_of, Note, Own, Dead, id_of, chunk_of, number_of}

-- An event as it was noted.
pub data NotedEvent : Type 0 where
  -- a record stands in a chunk
  RecordEvent : (note : Note) → NotedEvent
  -- the chunk takes no record any more, and its file, of this size, goes over to who hears this
  SealEvent : (name : ChunkName) (file : FileState) (size : ℕ) → NotedEvent

-- the record events, in order
abbrev pub notes : List NotedEvent → List Note
notes [] = []
notes (RecordEvent note ∷ es) = note ∷ notes es
notes (SealEvent name file size ∷ es) = notes es

-- the file in the Seal of a chunk, as it was when it was noted
abbrev pub seal_of : List NotedEvent → Files
seal_of [] name = None
seal_of (RecordEvent note ∷ es) name = seal_of es name
seal_of (SealEvent own file size ∷ es) name = if is_name name own then Some file else seal_of es name

-- the bytes of the files in Seals
abbrev pub sealed_image : List NotedEvent → Image
sealed_image es name = option_map (λ file. file.bytes) (seal_of es name)

-- the records of the events of their own kind, each with its chunk, in order
abbrev pub placed_of : List Note → List Placed
placed_of [] = []
placed_of (Own content chunk ∷ ns) = record { content = content; chunk = chunk } ∷ placed_of ns
placed_of (Dead id chunk ∷ ns) = placed_of ns

-- ---- lists that a partition may note

-- the numbers do not fall, from low on
abbrev pub NotFalling : ℕ → List Note → Type 0
NotFalling low [] = ⊤
NotFalling low (n ∷ ns) = (low ≤ number_of n) × NotFalling (number_of n) ns

-- none of these events is of the chunk
pub record IsClosed (name : ChunkName) (es : List NotedEvent) : Type 0 where
  pub none_noted : (n : Note) → IsOneOf n (notes es) → chunk_of n ≢ name
  pub none_sealed : seal_of es name ≡ None

-- behind a Seal no event is of its chunk, another Seal neither
abbrev pub SealsLast : List NotedEvent → Type 0
SealsLast [] = ⊤
SealsLast (RecordEvent note ∷ es) = SealsLast es
SealsLast (SealEvent name file size ∷ es) = IsClosed name es × SealsLast es

-- a record of this identity was noted, with this chunk
pub record IsNotedAt (es : List NotedEvent) (name : ChunkName) (id : Identity) : Type 0 where
  pub note : Note
  pub member : IsOneOf note (notes es)
  pub chunk : chunk_of note ≡ name
  pub is : id_of note ≡ id

-- The file in a Seal of the partition is durable and has a torn rest. Its whole records are those of the events
-- of its chunk, but for contents that a dead event does not tell; and one that has the number of an event of
-- its own kind, of any chunk, is that event's record.
pub record IsSealedFile (p : ℕ) (es : List NotedEvent) (name : ChunkName) (file : FileState) : Type 0 where
  pub partition : name.partition.0 ≡ p
  pub durable : IsDurable file
  pub small : length file.bytes ≤ MAX_FILE_LEN
  pub records : List Record
  pub rest : List ℕ
  pub split : Splits (class_of_kind name.kind) file.bytes records rest
  pub torn : IsTorn (class_of_kind name.kind) rest
  pub noted : (r : Record) → IsIn r records → IsNotedAt es name (identity_of r)
  pub all : (n : Note) → IsOneOf n (notes es) → chunk_of n ≡ name
      → (r : Record) × IsIn r records × (identity_of r ≡ id_of n)
  pub content : (r s : Record) (chunk : ChunkName) → IsIn r records → IsOneOf (Own s chunk) (notes es)
      → seq_of s ≡ seq_of r → r ≡ s

-- The events are such as a partition notes after a restart, whatever its files are by now. Numbers do not fall,
-- and events with one number speak of one record. Each chunk has at most one Seal, behind all its events, with
-- the size of its file. Whole records with one number are equal, in the files of any two Seals.
pub record IsTelling (p : ℕ) (es : List NotedEvent) : Type 0 where
  pub rising : NotFalling 0 (notes es)
  pub one : (m n : Note) → IsOneOf m (notes es) → IsOneOf n (notes es)
      → number_of m ≡ number_of n → id_of m ≡ id_of n
  pub content : (r s : Record) (c d : ChunkName) → IsOneOf (Own r c) (notes es) → IsOneOf (Own s d) (notes es)
      → seq_of r ≡ seq_of s → r ≡ s
  pub last : SealsLast es
  pub sizes : (name : ChunkName) (file : FileState) (size : ℕ) → IsOneOf (SealEvent name file size) es
      → size ≡ length file.bytes
  pub seals : (name : ChunkName) (file : FileState) → seal_of es name ≡ Some file → IsSealedFile p es name file
  pub agree : Agree (Fact (sealed_image es) p)

-- ---- what is known of a record by these events

-- the record is that of an event of its own kind, or stands whole in the file of a Seal
abbrev pub IsTold : ℕ → List NotedEvent → Record → Type 0
IsTold p es r = ((chunk : ChunkName) × IsOneOf (Own r chunk) (notes es)) ⊎ Fact (sealed_image es) p r
