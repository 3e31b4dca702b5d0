-- The writers that a restart makes, one for each partition, as contracts see them.
use Rattle.std.specs.Prelude.{◌≡◌, ◌⊎◌, ℕ, ◌+◌, ◌<◌, ◌≤◌, Bool, true, false, List, [], map, Some, None, slice_get}
use Rattle.hr_base.specs.declared.limits.Limits.{Limits}
use Rattle.hr_base.specs.declared.limits.TheConstants.{CHUNK_NO_END}
use Rattle.hr_base.specs.declared.name.ChunkName.{ChunkName}
use Rattle.hr_base.specs.declared.name.Named.{Ghosts as NamedGhosts}
use Rattle.hr_base.specs.Names.{class_of_kind}
use Rattle.dir_files.specs.declared.folder.Folder.{Ghosts as FolderGhosts}
use Rattle.dir_files.specs.Images.{Image}
use Rattle.crash_law.specs.Accounts.{fresh_account}
use Rattle.crash_law.specs.Restarts.{Fact}
use Rattle.record_replay.specs.Replays.{IsNext}
use Rattle.writer_files.specs.Stocks.{HasNone, files_of}
use Rattle.partition_writer.specs.declared.writer.Writer.{Writer}
use Rattle.partition_writer.specs.Standing.{Beginning, Standing, Stands, writer_kind}
use Rattle.partition_writer.specs.WriterViews.{standing}

module _ {F File : Type 0} {g : FolderGhosts F File} {h : NamedGhosts File} where
  -- how they stand, in the order of their partitions
  abbrev pub standings : List (Writer F File g h) → List Standing
  standings writers = map (λ writer. standing writer) writers

-- each writer is as it is said of all of them
abbrev pub EachIs : (Standing → Type 0) → List Standing → Type 0
EachIs says writers = (p : ℕ) (s : Standing) → slice_get writers p ≡ Some s → says s

-- ---- numbers

-- a file of this name is there, a chunk of the partition that a writer began
pub record IsWriterChunk (image : Image) (p : ℕ) (name : ChunkName) : Type 0 where
  pub bytes : List ℕ
  pub there : image name ≡ Some bytes
  pub partition : name.partition.0 ≡ p
  pub kind : name.kind ≡ writer_kind (class_of_kind name.kind)

-- The number of the next chunk: the least one that is above those of all chunks of the partition that a writer began,
-- and 1 where there is none.
pub record IsNextChunk (image : Image) (p next : ℕ) : Type 0 where
  pub above : (name : ChunkName) → IsWriterChunk image p name → name.number.0 < next
  pub least : ((name : ChunkName) × IsWriterChunk image p name × (name.number.0 + 1 ≡ next)) ⊎ (((name : ChunkName) → ¬ IsWriterChunk image p name) × (next ≡ 1))
  pub limited : next ≤ CHUNK_NO_END

-- ---- writers

-- what a writer begins with over these files: it has the maps that they restart to, and the next numbers
abbrev pub beginning_of : Image → Standing → Beginning
beginning_of image s = record { found = image; maps = s.maps; first = s.next; first_chunk = s.next_chunk }

-- it goes by these limits
abbrev pub HasLimits : Limits → Standing → Type 0
HasLimits limits s = s.limits ≡ limits

-- A writer of the partition that goes on from these files, has done nothing yet and has no chunk in hand. Where the
-- folder tells its content, it has no file of its own, its maps are those that the files restart to, all of them
-- durable, and its numbers go on from theirs.
pub record IsResumed (tells : Bool) (image : Image) (p : ℕ) (s : Standing) : Type 0 where
  pub number : s.partition.0 ≡ p
  pub running : s.halted ≡ None
  pub whole : s.lost ≡ false
  pub records : s.records ≡ []
  pub faults : s.faults ≡ 0
  pub hands : HasNone s.stock
  pub files : tells ≡ true → (name : ChunkName) → files_of s.stock name ≡ None
  pub next : tells ≡ true → IsNext (Fact image p) s.next
  pub next_chunk : tells ≡ true → IsNextChunk image p s.next_chunk
  pub account : tells ≡ true → Stands s (beginning_of image s) (fresh_account s.maps)

-- and so is each of them
abbrev pub AreResumed : Bool → Image → List Standing → Type 0
AreResumed tells image writers = (p : ℕ) (s : Standing) → slice_get writers p ≡ Some s → IsResumed tells image p s
