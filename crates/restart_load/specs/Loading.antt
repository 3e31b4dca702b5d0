-- Why the contents of files do not restart.
use Rattle.std.specs.Prelude.{◌≡◌, ◌⊎◌, ℕ, ◌<◌, ◌≤◌, List, Contains, All, ⊤}
use Rattle.hr_base.specs.declared.name.ChunkName.{ChunkName}
use Rattle.hr_base.specs.Names.{IsUpTo}
use Rattle.hr_base.specs.Entries.{KeepsLimits}
use Rattle.record_format.specs.declared.record.Record.{Record}
use Rattle.crash_law.specs.Restarts.{Agree, IsRestartOf}
use Rattle.record_replay.specs.Replays.{ClashesAt, IsNext}
use Rattle.record_replay.specs.declared.play.Replayed.{Replayed}
use Rattle.restart_load.specs.Contents.{FileBytes, IsDamagedFrom, IsFoundIn, IsTornFile}
use Rattle.restart_load.specs.declared.refusal.RestartRefusal.{RestartRefusal}
use Rattle.restart_load.specs.declared.refusal.RestartRefusal.TheVariants.{Memory, DiskFault, Partition, TooLarge, Damaged, Clash}

-- the file of this name is damaged from this offset on, and of the damaged files it is the first one by name
pub record IsFirstDamaged (files : List FileBytes) (name : ChunkName) (at : ℕ) : Type 0 where
  pub file : FileBytes
  pub listed : Contains files file
  pub named : file.name ≡ name
  pub damaged : IsDamagedFrom file at
  pub first : (other : FileBytes) (place : ℕ) → Contains files other → IsDamagedFrom other place → IsUpTo name other.name

-- two records of this partition with this number differ, and none do in a lower one, nor with a smaller number
pub record IsFirstClashOf (files : List FileBytes) (p seq : ℕ) : Type 0 where
  pub clash : ClashesAt (IsFoundIn files p) seq
  pub first : (q other : ℕ) → ClashesAt (IsFoundIn files q) other → (p < q) ⊎ ((p ≡ q) × (seq ≤ other))

-- what is told of files that do not restart
abbrev pub IsLoadRefusal : List FileBytes → RestartRefusal → Type 0
IsLoadRefusal files (Damaged name at) = IsFirstDamaged files name at
IsLoadRefusal files (Clash p seq) = All IsTornFile files × IsFirstClashOf files p.0 seq.0
IsLoadRefusal files Memory = ⊤
IsLoadRefusal files DiskFault = ⊥
IsLoadRefusal files (Partition name) = ⊥
IsLoadRefusal files (TooLarge name) = ⊥

-- the maps that the facts restart to, with the number of the next record
pub record IsReplayOf (facts : Record → Type 0) (part : Replayed) : Type 0 where
  pub restart : IsRestartOf facts part.map.entries
  pub agree : Agree facts
  pub next : IsNext facts part.next
  pub lengths : KeepsLimits part.map.entries
