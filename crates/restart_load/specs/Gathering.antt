-- The records of files that were read, each partition's in a list of its own.
use Rattle.std.specs.Prelude.{◌≡◌, ◌⊎◌, ℕ, ◌<◌, ◌≤◌, List, [], ◌++◌, All, slice_index_or, slice_set, ⊤}
use Rattle.hr_base.specs.Names.{class_of_kind}
use Rattle.record_format.specs.declared.record.Record.{Record}
use Rattle.record_format.specs.Spelling.{IsRecord}
use Rattle.record_format.specs.Splits.{IsTorn, Splits}
use Rattle.crash_law.specs.Placed.{Placed, records_of}
use Rattle.record_replay.specs.Replays.{ClashesAt, IsFirstClash, facts_in}
use Rattle.restart_load.specs.Contents.{FileBytes, IsDamagedFrom, IsFoundIn}
use Rattle.restart_load.specs.declared.refusal.RestartRefusal.{RestartRefusal}
use Rattle.restart_load.specs.declared.refusal.RestartRefusal.TheVariants.{Memory, DiskFault, Partition, TooLarge, Damaged, Clash}

-- what was found of a partition, and nothing of one that has no list
abbrev pub found_of : List (List Placed) → ℕ → List Placed
found_of found p = slice_index_or found p []

-- the facts of a partition's list
abbrev pub facts_of : List (List Placed) → ℕ → Record → Type 0
facts_of found p = facts_in (found_of found p)

-- the file is torn, and its records stand behind those of its partition
pub record IsAdded (file : FileBytes) (before after : List (List Placed)) : Type 0 where
  pub records : List Record
  pub rest : List ℕ
  pub whole : Splits (class_of_kind file.name.kind) file.bytes records rest
  pub torn : IsTorn (class_of_kind file.name.kind) rest
  pub own : List Placed
  pub has : records_of own ≡ records_of (found_of before file.name.partition.0) ++ records
  pub there : after ≡ slice_set before file.name.partition.0 own

-- what is told of a file that is not read
abbrev pub IsFileRefusal : FileBytes → RestartRefusal → Type 0
IsFileRefusal file (Damaged name at) = (name ≡ file.name) × IsDamagedFrom file at
IsFileRefusal file Memory = ⊤
IsFileRefusal file DiskFault = ⊥
IsFileRefusal file (Partition name) = ⊥
IsFileRefusal file (TooLarge name) = ⊥
IsFileRefusal file (Clash p seq) = ⊥

-- the lists have the records of these files, and no others
pub record HaveFound (files : List FileBytes) (found : List (List Placed)) : Type 0 where
  pub valid : (p : ℕ) → All IsRecord (records_of (found_of found p))
  pub there : (p : ℕ) (r : Record) → facts_of found p r → IsFoundIn files p r
  pub back : (p : ℕ) (r : Record) → IsFoundIn files p r → facts_of found p r

-- what is told of a list of one partition that does not restart
abbrev pub IsPartRefusal : ℕ → List Placed → RestartRefusal → Type 0
IsPartRefusal partition found (Clash p seq) = (p.0 ≡ partition) × IsFirstClash (facts_in found) seq.0
IsPartRefusal partition found Memory = ⊤
IsPartRefusal partition found DiskFault = ⊥
IsPartRefusal partition found (Partition name) = ⊥
IsPartRefusal partition found (TooLarge name) = ⊥
IsPartRefusal partition found (Damaged name at) = ⊥

-- two records of this list with this number differ, and none do in one before it, nor with a smaller number
pub record IsFirstClashAmong (found : List (List Placed)) (p seq : ℕ) : Type 0 where
  pub clash : ClashesAt (facts_of found p) seq
  pub first : (q other : ℕ) → ClashesAt (facts_of found q) other → (p < q) ⊎ ((p ≡ q) × (seq ≤ other))

-- what is told of lists that do not restart
abbrev pub IsReplayRefusal : List (List Placed) → RestartRefusal → Type 0
IsReplayRefusal found (Clash p seq) = IsFirstClashAmong found p.0 seq.0
IsReplayRefusal found Memory = ⊤
IsReplayRefusal found DiskFault = ⊥
IsReplayRefusal found (Partition name) = ⊥
IsReplayRefusal found (TooLarge name) = ⊥
IsReplayRefusal found (Damaged name at) = ⊥
