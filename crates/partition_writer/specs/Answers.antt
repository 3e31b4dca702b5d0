-- What the answers of a writer's calls say of it.
use Rattle.std.specs.Prelude.{◌≡◌, ◌⊎◌, ℕ, ◌+◌, true, List, [], ◌∷◌, ◌++◌, length, Result, Ok, Err}
use Rattle.hr_base.specs.declared.name.Class.{Class}
use Rattle.hr_base.specs.Entries.{Entries}
use Rattle.record_format.specs.declared.record.Record.{Record}
use Rattle.record_format.specs.declared.record.Record.TheVariants.{Value, Tomb, Clear}
use Rattle.record_format.specs.Spelling.{class_of_record, spelling}
use Rattle.crash_law.specs.Accounts.{Account, answered, refused, synced}
use Rattle.crash_law.specs.Commands.{Command, command_of, maps_after}
use Rattle.writer_files.specs.StockCalls.{KeepsOthers, KeepsTaking}
use Rattle.partition_writer.specs.declared.refusal.WriteRefusal.{WriteRefusal}
use Rattle.partition_writer.specs.declared.refusal.WriteRefusal.TheVariants.{Memory, DiskFault, Halted, Spent}
use Rattle.partition_writer.specs.Standing.{Standing, Beginning, Stands, placed_in, has_room, limit_of, next_name}
use Rattle.partition_writer.specs.Storing.{Fills, number_after}

-- ---- the records of commands

-- the record that a put, a removal or a clearing is written as
abbrev pub put_record : ℕ → ℕ → List ℕ → List ℕ → Record
put_record seq prefix key value = Value (record { 0 = seq }) prefix key value

abbrev pub remove_record : ℕ → ℕ → List ℕ → Record
remove_record seq prefix key = Tomb (record { 0 = seq }) prefix key

abbrev pub clear_record : ℕ → ℕ → Record
clear_record seq prefix = Clear prefix (record { 0 = seq })

-- ---- commands

-- a record of so many bytes went to its chunk, which was begun where the one before has no room
pub record FillsFor (s t : Standing) (class : Class) (len : ℕ) : Type 0 where
  pub stock : Fills s.stock t.stock class len (limit_of s.limits class) (next_name s class)
  pub next_chunk : t.next_chunk ≡ number_after (has_room s class len) s.next_chunk

-- the chunks stay, but that an empty one may have been begun where there is no room
pub record KeepsChunks (s t : Standing) (class : Class) (len : ℕ) : Type 0 where
  pub others : KeepsOthers class s.stock t.stock
  pub next_chunk : (t.next_chunk ≡ s.next_chunk) ⊎ (t.next_chunk ≡ number_after (has_room s class len) s.next_chunk)

-- the record was put behind the others, with the next number
pub record NotesCommand (s t : Standing) (r : Record) : Type 0 where
  pub partition : t.partition ≡ s.partition
  pub limits : t.limits ≡ s.limits
  pub records : t.records ≡ s.records ++ placed_in s r ∷ []
  pub next : t.next ≡ s.next + 1

-- the command was answered: its record is in its chunk, and the maps are those after it
pub record Writes (s t : Standing) (r : Record) : Type 0 where
  pub notes : NotesCommand s t r
  pub maps : t.maps ≡ maps_after (command_of r) s.maps
  pub lost : t.lost ≡ s.lost
  pub fills : FillsFor s t (class_of_record r) (length (spelling r))

-- the disk refused it: its record may be lost, and the maps stay
pub record Loses (s t : Standing) (r : Record) : Type 0 where
  pub notes : NotesCommand s t r
  pub maps : t.maps ≡ s.maps
  pub lost : t.lost ≡ true

-- maps, records and numbers stay
pub record KeepsNoted (s t : Standing) : Type 0 where
  pub partition : t.partition ≡ s.partition
  pub limits : t.limits ≡ s.limits
  pub maps : t.maps ≡ s.maps
  pub records : t.records ≡ s.records
  pub next : t.next ≡ s.next
  pub lost : t.lost ≡ s.lost

-- a command was to be written as this record
abbrev pub WritesRecord : {T : Type 0} → Result T WriteRefusal → Standing → Standing → Record → Type 0
WritesRecord (Ok before) s t r = Writes s t r
WritesRecord (Err DiskFault) s t r = Loses s t r
WritesRecord (Err Memory) s t r = KeepsNoted s t × KeepsChunks s t (class_of_record r) (length (spelling r))
WritesRecord (Err (Halted at)) s t r = t ≡ s
WritesRecord (Err (Spent next)) s t r = t ≡ s

-- the writer with other maps
abbrev pub with_maps : Standing → Entries → Standing
with_maps s maps = record {
  partition = s.partition;
  limits = s.limits;
  stock = s.stock;
  faults = s.faults;
  sound = s.sound;
  halted = s.halted;
  lost = s.lost;
  maps = maps;
  records = s.records;
  next = s.next;
  next_chunk = s.next_chunk;
}

-- what the writer stands for after a command
abbrev pub StandsAfter : {T : Type 0} → Result T WriteRefusal → Standing → Beginning → Account → Command → Type 0
StandsAfter (Ok before) t b a c = Stands t b (answered a c)
StandsAfter (Err DiskFault) t b a c = Stands t b (refused a c)
StandsAfter (Err Memory) t b a c = Stands t b a
StandsAfter (Err (Halted at)) t b a c = Stands t b a
StandsAfter (Err (Spent next)) t b a c = Stands t b a

-- ---- syncs

-- a sync was answered: no record waits
pub record Syncs (s t : Standing) : Type 0 where
  pub partition : t.partition ≡ s.partition
  pub limits : t.limits ≡ s.limits
  pub maps : t.maps ≡ s.maps
  pub records : t.records ≡ []
  pub next : t.next ≡ s.next
  pub lost : t.lost ≡ s.lost
  pub next_chunk : t.next_chunk ≡ s.next_chunk
  pub taking : KeepsTaking s.stock t.stock

-- a sync was to be made; where it was refused, files may have been synced
abbrev pub SyncsAll : {T : Type 0} → Result T WriteRefusal → Standing → Standing → Type 0
SyncsAll (Ok seq) s t = Syncs s t
SyncsAll (Err DiskFault) s t = KeepsNoted s t
SyncsAll (Err Memory) s t = KeepsNoted s t × (t.next_chunk ≡ s.next_chunk) × KeepsTaking s.stock t.stock
SyncsAll (Err (Halted at)) s t = t ≡ s
SyncsAll (Err (Spent next)) s t = ⊥

-- what the writer stands for after a sync
abbrev pub StandsSynced : {T : Type 0} → Result T WriteRefusal → Standing → Beginning → Account → Type 0
StandsSynced (Ok seq) t b a = Stands t b (synced a)
StandsSynced (Err refusal) t b a = Stands t b a
