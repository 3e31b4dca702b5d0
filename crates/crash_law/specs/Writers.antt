-- A writer's facts: what it stands for, by what its files hold.
use Rattle.std.specs.Prelude.{◌≡◌, ◌≢◌, ◌⊎◌, ℕ, ◌+◌, ◌<◌, ◌≤◌, Bool, true, false, List, [], ◌∷◌, ◌++◌, length, All, Contains, Some, None, IfSome, if◌then◌else◌}
use Rattle.hr_base.specs.Entries.{Entries}
use Rattle.hr_base.specs.declared.limits.TheConstants.{MAX_FILE_LEN}
use Rattle.hr_base.specs.declared.name.ChunkName.{ChunkName}
use Rattle.hr_base.specs.Names.{class_of_kind}
use Rattle.dir_files.specs.Files.{FileState, Files, Names, IsDurable, ChangesAt, SameAt, with_bytes}
use Rattle.dir_files.specs.Images.{Image}
use Rattle.record_format.specs.declared.record.Record.{Record}
use Rattle.record_format.specs.Spelling.{seq_of, spelling}
use Rattle.record_format.specs.Splits.{Splits}
use Rattle.crash_law.specs.Accounts.{Account}
use Rattle.crash_law.specs.Commands.{maps_after_all}
use Rattle.crash_law.specs.Numbered.{commands_of}
use Rattle.crash_law.specs.Placed.{Placed, records_of, IsPlaced, Base, InOrder}
use Rattle.crash_law.specs.Growth.{HoldsBut, IsBegun, MayBeNew, PartRises, file_or_new}

-- What a writer of a partition begins with: the files found then, the maps that they restart to, and its first number.
pub record WriterStart : Type 0 where
  pub found : Image
  pub maps : Entries
  pub first : ℕ

-- What a writer has: its files, in its hands or at its port; its maps; the records since its last answered sync, each
-- with its chunk, and the number of the next one.
pub record Written : Type 0 where
  pub partition : ℕ
  pub files : Files
  pub gone : Files
  pub maps : Entries
  pub records : List Placed
  pub next : ℕ
  -- the disk refused the command of the last record
  pub lost : Bool
  -- the chunks that take records
  pub taking : Names

-- The writer stands for the account. Its files hold the durable records and those that it kept, each whole; at most one
-- record may lack bytes: the last one, of a command that the disk refused. The maps are those after all records but this
-- one, and a crash keeps the durable ones.
pub record StandsFor (w : Written) (b : WriterStart) (a : Account) : Type 0 where
  pub base : Base w.partition b.found b.maps b.first
  pub durable : List Placed
  pub kept : List Placed
  pub lost : List Placed
  pub records : w.records ≡ kept ++ lost
  pub one_lost : length lost ≡ (if w.lost then 1 else 0)
  pub maps : a.maps ≡ w.maps
  pub tail : a.tail ≡ commands_of (records_of w.records)
  pub durable_maps : a.durable ≡ maps_after_all (commands_of (records_of durable)) b.maps
  pub kept_maps : a.maps ≡ maps_after_all (commands_of (records_of (durable ++ kept))) b.maps
  pub order : InOrder b.first durable w.records
  pub below : All (λ r. seq_of r < w.next) (records_of (durable ++ w.records))
  pub from : order.low ≤ w.next
  pub holds : HoldsBut w.partition b.found w.files w.gone durable kept lost
  pub own : (name : ChunkName) → w.taking name ≡ true → b.found name ≡ None

-- The writer begins: its files are those that were found, and it has these maps and no record of its own.
pub record BeginsFrom (w : Written) (b : WriterStart) : Type 0 where
  pub base : Base w.partition b.found b.maps b.first
  pub begun : IsBegun w.partition b.found w.files w.gone
  pub maps : w.maps ≡ b.maps
  pub records : w.records ≡ []
  pub next : w.next ≡ b.first
  pub lost : w.lost ≡ false
  pub taking : (name : ChunkName) → w.taking name ≡ false

-- a chunk that takes records now did so before, or is of the partition and had no file
abbrev pub TakesNew : Written → Written → Type 0
TakesNew w t = (name : ChunkName) → t.taking name ≡ true → (w.taking name ≡ true) ⊎ ((name.partition.0 ≡ w.partition) × (w.files name ≡ None))

-- what stays when a record is put behind the others
pub record NotesRecord (w t : Written) (x : Placed) : Type 0 where
  pub partition : t.partition ≡ w.partition
  pub gone : SameAt w.gone t.gone
  pub records : t.records ≡ w.records ++ x ∷ []
  pub next : t.next ≡ w.next + 1
  pub taking : TakesNew w t

-- A record with the next number was put behind the others; a piece of it was appended to its chunk, one that takes records
-- or whose file was created now.
pub record AppendsRecord (w t : Written) (x : Placed) (piece : List ℕ) : Type 0 where
  pub placed : IsPlaced w.partition x
  pub numbered : seq_of x.content ≡ w.next
  pub chunk : (w.taking x.chunk ≡ true) ⊎ (w.files x.chunk ≡ None)
  pub within : length (file_or_new (w.files x.chunk)).bytes + length (spelling x.content) ≤ MAX_FILE_LEN
  pub files : ChangesAt w.files t.files x.chunk (Some (with_bytes (file_or_new (w.files x.chunk)) piece))
  pub noted : NotesRecord w t x

-- A record with the next number was put behind the others; its chunk's file was to be created, and is not there, or empty.
pub record LosesRecord (w t : Written) (x : Placed) : Type 0 where
  pub placed : IsPlaced w.partition x
  pub numbered : seq_of x.content ≡ w.next
  pub none : w.files x.chunk ≡ None
  pub may : MayBeNew (t.files x.chunk)
  pub others : (other : ChunkName) → other ≢ x.chunk → t.files other ≡ w.files other
  pub noted : NotesRecord w t x

-- what stays when nothing is put behind the records
pub record KeepsRecords (w t : Written) : Type 0 where
  pub partition : t.partition ≡ w.partition
  pub gone : SameAt w.gone t.gone
  pub maps : t.maps ≡ w.maps
  pub records : t.records ≡ w.records
  pub next : t.next ≡ w.next
  pub lost : t.lost ≡ w.lost
  pub taking : TakesNew w t

-- a file of this name was created where there was none, or may have been
pub record CreatesFile (w t : Written) (name : ChunkName) : Type 0 where
  pub of : name.partition.0 ≡ w.partition
  pub none : w.files name ≡ None
  pub may : MayBeNew (t.files name)
  pub others : (other : ChunkName) → other ≢ name → t.files other ≡ w.files other

-- All files of the partition are durable, and hold what they held: no record waits for a sync.
pub record SyncsRecords (w t : Written) : Type 0 where
  pub partition : t.partition ≡ w.partition
  pub gone : SameAt w.gone t.gone
  pub rises : PartRises w.partition w.files t.files
  pub durable : (name : ChunkName) → name.partition.0 ≡ w.partition → IfSome (t.files name) IsDurable
  pub maps : t.maps ≡ w.maps
  pub records : t.records ≡ []
  pub next : t.next ≡ w.next
  pub lost : t.lost ≡ false
  pub taking : (name : ChunkName) → t.taking name ≡ true → w.taking name ≡ true

-- the file of its chunk has the record, whole
pub record IsWholeIn (files : Files) (x : Placed) : Type 0 where
  pub file : FileState
  pub records : List Record
  pub rest : List ℕ
  pub there : files x.chunk ≡ Some file
  pub split : Splits (class_of_kind x.chunk.kind) file.bytes records rest
  pub has : Contains records x.content

-- a crash keeps all bytes of the file, and its name where it has some
pub record IsDurableFile (file : FileState) : Type 0 where
  pub front : length file.bytes ≤ file.front
  pub named : (file.bytes ≡ []) ⊎ (file.named ≡ true)
