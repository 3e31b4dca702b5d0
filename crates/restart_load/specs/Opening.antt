-- Writers that are opened, one for each partition.
use Rattle.std.specs.Prelude.{◌≡◌, ℕ, ◌≤◌, Bool, true, false, List, [], Some, None, slice_get}
use Rattle.hr_base.specs.declared.limits.Limits.{Limits}
use Rattle.hr_base.specs.declared.limits.TheConstants.{CHUNK_NO_END, SEQ_END}
use Rattle.hr_base.specs.Entries.{KeepsLimits}
use Rattle.hr_base.specs.declared.name.ChunkName.{ChunkName}
use Rattle.crash_law.specs.Accounts.{fresh_account}
use Rattle.record_replay.specs.declared.play.Replayed.{Replayed}
use Rattle.writer_files.specs.Stocks.{HasNone, files_of}
use Rattle.partition_writer.specs.Standing.{Beginning, IsBeginning, Standing, Stands}

-- a writer can go on from these maps and numbers
pub record CanOpen (part : Replayed) (chunk : ℕ) : Type 0 where
  pub lengths : KeepsLimits part.map.entries
  pub numbered : 1 ≤ part.next
  pub limited : part.next ≤ SEQ_END
  pub chunk_numbered : 1 ≤ chunk
  pub chunk_limited : chunk ≤ CHUNK_NO_END

-- A writer of the partition that goes on from these maps and numbers and has done nothing yet: it stands for any files
-- that they fit.
pub record IsOpened (tells : Bool) (limits : Limits) (p : ℕ) (part : Replayed) (chunk : ℕ) (s : Standing) : Type 0 where
  pub number : s.partition.0 ≡ p
  pub limited : s.limits ≡ limits
  pub running : s.halted ≡ None
  pub whole : s.lost ≡ false
  pub records : s.records ≡ []
  pub faults : s.faults ≡ 0
  pub maps : s.maps ≡ part.map.entries
  pub next : s.next ≡ part.next
  pub next_chunk : s.next_chunk ≡ chunk
  pub hands : HasNone s.stock
  pub files : tells ≡ true → (name : ChunkName) → files_of s.stock name ≡ None
  pub account : tells ≡ true → (b : Beginning) → IsBeginning p b → b.maps ≡ s.maps → b.first ≡ s.next → b.first_chunk ≡ s.next_chunk
      → Stands s b (fresh_account s.maps)

-- each writer was opened so, the first ones of these parts
abbrev pub AreOpened : Bool → Limits → List Replayed → List ℕ → List Standing → Type 0
AreOpened tells limits parts chunks writers = (p : ℕ) (s : Standing) → slice_get writers p ≡ Some s
    → (part : Replayed) × (chunk : ℕ) × (slice_get parts p ≡ Some part) × (slice_get chunks p ≡ Some chunk) × IsOpened tells limits p part chunk s

-- a writer can be opened for each partition
abbrev pub CanOpenAll : List Replayed → List ℕ → Type 0
CanOpenAll parts chunks = (p : ℕ) (part : Replayed) (chunk : ℕ) → slice_get parts p ≡ Some part → slice_get chunks p ≡ Some chunk → CanOpen part chunk

-- it has no file, in hand or at its port
abbrev pub HasNoFile : Standing → Type 0
HasNoFile s = (name : ChunkName) → files_of s.stock name ≡ None
