-- A writer as contracts see it, and what it stands for.
use Rattle.std.specs.Prelude.{◌≡◌, ℕ, ◌<◌, ◌≤◌, Bool, true, nat_le, List, length, Contains, Option, Some, None, if◌then◌else◌}
use Rattle.hr_base.specs.declared.limits.Limits.{Limits}
use Rattle.hr_base.specs.declared.limits.TheConstants.{SEQ_END, CHUNK_NO_END}
use Rattle.hr_base.specs.declared.name.Class.{Class}
use Rattle.hr_base.specs.declared.name.Class.TheVariants.{Value, Tomb, Clear}
use Rattle.hr_base.specs.declared.name.Kind.{Kind}
use Rattle.hr_base.specs.declared.name.Kind.TheVariants.{V, T, X}
use Rattle.hr_base.specs.declared.name.ChunkName.{ChunkName}
use Rattle.hr_base.specs.declared.name.Partition.{Partition}
use Rattle.hr_base.specs.Names.{class_of_kind}
use Rattle.hr_base.specs.Entries.{Entries}
use Rattle.dir_files.specs.Files.{FileState, Files}
use Rattle.dir_files.specs.Ports.{either_file}
use Rattle.dir_files.specs.Images.{Image, durable_files as found_files}
use Rattle.record_format.specs.declared.record.Record.{Record}
use Rattle.record_format.specs.Spelling.{class_of_record, spelling}
use Rattle.value_chunk.specs.Chunks.{Chunk}
use Rattle.writer_files.specs.Stocks.{Stock, files_of, taking_in, taking_of, takes}
use Rattle.crash_law.specs.Accounts.{Account}
use Rattle.crash_law.specs.Placed.{Placed, Base}
use Rattle.crash_law.specs.Writers.{WriterStart, StandsFor, Written, IsWholeIn}
use Rattle.partition_writer.specs.Disk.{Disk}

-- A writer as contracts see it.
pub record Standing : Type 0 where
  pub partition : Partition
  pub limits : Limits
  -- its chunks and its port
  pub stock : Stock
  -- the port's count of faults, and whether it tells that the disk never fails
  pub faults : ℕ
  pub sound : Bool
  -- the count of faults at which the disk refused a call; from then on it answers no command
  pub halted : Option ℕ
  -- the call that the disk refused was a command; its record is the last one
  pub lost : Bool
  -- its maps, the records since its last answered sync, each with its chunk, and the number of the next one
  pub maps : Entries
  pub records : List Placed
  pub next : ℕ
  -- the number of its next chunk
  pub next_chunk : ℕ

-- what its port tells of the disk
abbrev pub disk_of : Standing → Disk
disk_of s = record { faults = s.faults; sound = s.sound; halted = s.halted }

-- ---- chunks

-- the kind of chunk that a writer begins for records of the class
abbrev pub writer_kind : Class → Kind
writer_kind Value = V
writer_kind Tomb = T
writer_kind Clear = X

-- how many bytes fill a chunk of the class
abbrev pub limit_of : Limits → Class → ℕ
limit_of limits Value = limits.value
limit_of limits Tomb = limits.tomb
limit_of limits Clear = limits.tomb

-- the name of the chunk that would be begun next
abbrev pub next_name : Standing → Class → ChunkName
next_name s class = record { partition = s.partition; kind = writer_kind class; number = record { 0 = s.next_chunk } }

-- the chunk that takes records of the class takes one of so many bytes
abbrev pub has_room : Standing → Class → ℕ → Bool
has_room s class len = takes s.stock class len (limit_of s.limits class)

abbrev pub name_or : Option Chunk → ChunkName → ChunkName
name_or None name = name
name_or (Some chunk) name = chunk.name

-- the chunk that a record of so many bytes goes to: the one that takes records where it has room, and else the next one
abbrev pub chosen : Stock → Class → ℕ → ℕ → ChunkName → ChunkName
chosen stock class len limit next = if takes stock class len limit then name_or (taking_in stock class) next else next

abbrev pub chunk_for : Standing → Class → ℕ → ChunkName
chunk_for s class len = chosen s.stock class len (limit_of s.limits class) (next_name s class)

-- the record with its chunk
abbrev pub placed : Record → ChunkName → Placed
placed r chunk = record { content = r; chunk = chunk }

-- the record with the chunk that it goes to
abbrev pub placed_in : Standing → Record → Placed
placed_in s r = placed r (chunk_for s (class_of_record r) (length (spelling r)))

-- the number that a record of so many bytes would need and that none can have: its own, or that of a new chunk
abbrev pub spent_by : Standing → Class → ℕ → Option ℕ
spent_by s class len =
    if nat_le SEQ_END s.next then Some s.next else if has_room s class len then None else if nat_le CHUNK_NO_END s.next_chunk then Some s.next_chunk else None

-- ---- files

-- all files of the partition: the writer's own, in its hands or at its port, and those that were found
abbrev pub all_files : Files → Image → Files
all_files own found name = either_file (own name) (found_files found name)

-- a chunk that a writer of the partition began, from this number on
pub record IsOwnName (p first : ℕ) (name : ChunkName) : Type 0 where
  pub partition : name.partition.0 ≡ p
  pub kind : name.kind ≡ writer_kind (class_of_kind name.kind)
  pub number : first ≤ name.number.0

-- ---- what it stands for

-- What a writer begins with: the files found then, the maps that they restart to, its first number, and the number of its
-- first chunk.
pub record Beginning : Type 0 where
  pub found : Image
  pub maps : Entries
  pub first : ℕ
  pub first_chunk : ℕ

abbrev pub start_of : Beginning → WriterStart
start_of b = record { found = b.found; maps = b.maps; first = b.first }

-- The found files of the partition restart to the maps; the first number is above all numbers in them, and that of the
-- first chunk above those of the found chunks which a writer began.
pub record IsBeginning (p : ℕ) (b : Beginning) : Type 0 where
  pub base : Base p b.found b.maps b.first
  pub below : (name : ChunkName) (bytes : List ℕ) → b.found name ≡ Some bytes → name.partition.0 ≡ p
      → name.kind ≡ writer_kind (class_of_kind name.kind) → name.number.0 < b.first_chunk

-- the writer's facts, as laws of crashes speak of them
abbrev pub written : Standing → Image → Written
written s found = record {
  partition = s.partition.0;
  files = all_files (files_of s.stock) found;
  gone = λ name. None;
  maps = s.maps;
  records = s.records;
  next = s.next;
  lost = s.lost;
  taking = taking_of s.stock;
}

-- The writer stands for the account since it began so, and its files are chunks that it began itself.
pub record Stands (s : Standing) (b : Beginning) (a : Account) : Type 0 where
  pub beginning : IsBeginning s.partition.0 b
  pub facts : StandsFor (written s b.found) (start_of b) a
  pub from : b.first_chunk ≤ s.next_chunk
  pub own : (name : ChunkName) (file : FileState) → files_of s.stock name ≡ Some file → IsOwnName s.partition.0 b.first_chunk name
  pub taking : (name : ChunkName) → taking_of s.stock name ≡ true → IsOwnName s.partition.0 b.first_chunk name

-- the record of each command of the tail is whole in the partition's files
abbrev pub HoldsTail : Standing → Image → Type 0
HoldsTail s found = (x : Placed) → Contains s.records x → IsWholeIn (all_files (files_of s.stock) found) x
