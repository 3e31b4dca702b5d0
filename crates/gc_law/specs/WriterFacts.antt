-- A writer's facts over the list of events that it noted.
use Rattle.std.specs.Prelude.{◌≡◌, ◌≢◌, ℕ, ◌<◌, ◌≤◌, false, List, [], ◌++◌, length, map as map_list, All, Option, Some, None, IfSome, IsSome, if◌then◌else◌}
use Rattle.std.specs.FinMap as map
use Rattle.hr_base.specs.declared.name.ChunkName.{ChunkName}
use Rattle.hr_base.specs.Entries.{Key, State}
use Rattle.dir_files.specs.Files.{FileState, Files, SameAt}
use Rattle.dir_files.specs.Images.{Image}
use Rattle.record_format.specs.declared.record.Record.{Record}
use Rattle.record_format.specs.Spelling.{seq_of, spellings}
use Rattle.crash_law.specs.Accounts.{Account}
use Rattle.crash_law.specs.Commands.{command_of, state_of, maps_after_all}
use Rattle.crash_law.specs.Numbered.{Rising, commands_of}
use Rattle.crash_law.specs.Growth.{IsOwnBut}
use Rattle.crash_law.specs.Placed.{Placed, records_of, in_chunk, IsPlaced}
use Rattle.crash_law.specs.Writers.{WriterStart, Written}
use Rattle.gc_event.specs.Notes.{IsOneOf, Identity, Note, Own, Dead, number_of, top}
use Rattle.gc_law.specs.Events.{NotedEvent, RecordEvent, notes, seal_of, placed_of, IsTelling}

-- the state that a key has by its top, which is never dead
abbrev pub IsStateBy : Option Note → State → Type 0
IsStateBy None s = s ≡ None
IsStateBy (Some (Own content chunk)) s = s ≡ state_of (command_of content)
IsStateBy (Some (Dead id chunk)) s = ⊥

-- The file of one name. That of a sealed chunk went away in its Seal, and the chunk takes no record; another
-- one has the noted records of the chunk below its front, and then those since; it lacks no more bytes than those
-- of the record that may be lost.
abbrev pub IsWritersAt : Option FileState → Option FileState → List Record → List Record → List Record → Type 0
IsWritersAt (Some sealed) file noted since lost = (file ≡ None) × (since ≡ [])
IsWritersAt None file noted since lost = IsOwnBut file noted since lost

-- each of the files has a name of the partition
abbrev pub AreOfPart : ℕ → Files → Type 0
AreOfPart p files = (name : ChunkName) (file : FileState) → files name ≡ Some file → name.partition.0 ≡ p

-- The writer's facts. Here its files are those that it has in hand or at its port, and not those that went away
-- in Seals. What it noted gives the durable maps. Its records since then have greater numbers, rising in the
-- order of the tail and below its next one, and its maps are those after them, but for one that the disk refused.
-- Its files are of its partition, and hold the noted records of chunks that are not sealed, and those since, each
-- whole but for the refused one; the chunk of a dead event is sealed. None of its files may come back after a
-- removal.
pub record Tells (w : Written) (es : List NotedEvent) (a : Account) : Type 0 where
  pub telling : IsTelling w.partition es
  pub own_maps : a.maps ≡ w.maps
  pub durable : (k : Key) → IsStateBy (top (notes es) k) (map.get a.durable k)
  pub kept : List Placed
  pub lost : List Placed
  pub records : w.records ≡ kept ++ lost
  pub one_lost : length lost ≡ (if w.lost then 1 else 0)
  pub maps : a.maps ≡ maps_after_all (commands_of (records_of kept)) a.durable
  pub tail : a.tail ≡ commands_of (records_of w.records)
  pub low : ℕ
  pub below : (n : Note) → IsOneOf n (notes es) → number_of n < low
  pub since : Rising low (records_of w.records)
  pub from : low ≤ w.next
  pub below_next : All (λ r. seq_of r < w.next) (records_of w.records)
  pub placed : All (IsPlaced w.partition) (placed_of (notes es) ++ w.records)
  pub dead : (id : Identity) (chunk : ChunkName) → IsOneOf (Dead id chunk) (notes es) → IsSome (seal_of es chunk)
  pub partition : AreOfPart w.partition w.files
  pub at : (name : ChunkName) → name.partition.0 ≡ w.partition
      → IsWritersAt (seal_of es name) (w.files name)
      (in_chunk name (placed_of (notes es)))
      (in_chunk name w.records)
      (in_chunk name lost)
  pub none_gone : (name : ChunkName) → w.gone name ≡ None

-- The writer has done nothing since a restart: it has no file and no record, but the maps and the number that it
-- began with.
pub record HasDoneNothing (w : Written) (b : WriterStart) : Type 0 where
  pub files : (name : ChunkName) → w.files name ≡ None
  pub none_gone : (name : ChunkName) → w.gone name ≡ None
  pub records : w.records ≡ []
  pub lost : w.lost ≡ false
  pub maps : w.maps ≡ b.maps
  pub next : w.next ≡ b.first

-- the events of records, each with its chunk
abbrev pub events_of : List Placed → List NotedEvent
events_of xs = map_list (λ x. RecordEvent (Own x.content x.chunk)) xs

-- the file of this name went away in a Seal
pub record SealsFile (w t : Written) (name : ChunkName) : Type 0 where
  pub partition : t.partition ≡ w.partition
  pub gone : SameAt w.gone t.gone
  pub none : t.files name ≡ None
  pub others : (other : ChunkName) → other ≢ name → t.files other ≡ w.files other
  pub maps : t.maps ≡ w.maps
  pub records : t.records ≡ w.records
  pub next : t.next ≡ w.next
  pub lost : t.lost ≡ w.lost

-- a crash has to keep no more of each of the writer's files than the noted records of its chunk
abbrev pub IsLeast : Written → List NotedEvent → Type 0
IsLeast w es =
    (name : ChunkName)
    → IfSome (w.files name) (λ file. file.front ≤ length (spellings (in_chunk name (placed_of (notes es)))))

-- the image has of each of the writer's files no more than a crash has to keep
abbrev pub HasLeast : Written → Image → Type 0
HasLeast w image =
    (name : ChunkName) (file : FileState) (bytes : List ℕ) → w.files name ≡ Some file → image name ≡ Some bytes
    → length bytes ≤ file.front
