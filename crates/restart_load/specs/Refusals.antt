-- Which images a restart refuses, and why.
use Rattle.std.specs.Prelude.{◌≡◌, ◌⊎◌, ℕ, ◌<◌, ◌≤◌, List, length, Some, IsSome, ⊤}
use Rattle.hr_base.specs.declared.limits.TheConstants.{MAX_FILE_LEN}
use Rattle.hr_base.specs.declared.name.ChunkName.{ChunkName}
use Rattle.hr_base.specs.Names.{IsChunkName, IsUpTo, class_of_kind}
use Rattle.dir_files.specs.Images.{Image}
use Rattle.chunk_read.specs.Chunks.{IsDamagedAt}
use Rattle.crash_law.specs.Restarts.{Fact}
use Rattle.record_replay.specs.Replays.{ClashesAt}
use Rattle.restart_load.specs.declared.refusal.RestartRefusal.{RestartRefusal}
use Rattle.restart_load.specs.declared.refusal.RestartRefusal.TheVariants.{Memory, DiskFault, Partition, TooLarge, Damaged, Clash}

-- ---- what is wrong with a file

-- a file of this name is there, of a partition that is none
pub record IsStray (image : Image) (partitions : ℕ) (name : ChunkName) : Type 0 where
  pub there : IsSome (image name)
  pub partition : partitions ≤ name.partition.0

-- a file of this name is there, and has too many bytes
pub record IsTooLarge (image : Image) (name : ChunkName) : Type 0 where
  pub bytes : List ℕ
  pub there : image name ≡ Some bytes
  pub large : MAX_FILE_LEN < length bytes

-- a file of this name is there, and behind its whole records a damaged header begins at this offset
pub record IsDamagedFile (image : Image) (name : ChunkName) (at : ℕ) : Type 0 where
  pub bytes : List ℕ
  pub there : image name ≡ Some bytes
  pub damaged : IsDamagedAt (class_of_kind name.kind) bytes at

-- of the names of which this holds it is the first one in the order of texts
pub record IsFirstName (Holds : ChunkName → Type 0) (name : ChunkName) : Type 0 where
  pub holds : Holds name
  pub first : (other : ChunkName) → Holds other → IsUpTo name other

-- ---- what comes first

abbrev pub NoneStray : Image → ℕ → Type 0
NoneStray image partitions = (name : ChunkName) → ¬ IsStray image partitions name

abbrev pub NoneTooLarge : Image → Type 0
NoneTooLarge image = (name : ChunkName) → ¬ IsTooLarge image name

abbrev pub NoneDamaged : Image → Type 0
NoneDamaged image = (name : ChunkName) (at : ℕ) → ¬ IsDamagedFile image name at

-- two facts of this partition with this number differ, and none do in a lower one, nor with a smaller number
pub record IsFirstClashIn (image : Image) (p seq : ℕ) : Type 0 where
  pub clash : ClashesAt (Fact image p) seq
  pub first : (q other : ℕ) → ClashesAt (Fact image q) other → (p < q) ⊎ ((p ≡ q) × (seq ≤ other))

-- what a restart with so many partitions tells of an image that it refuses: a stray file before one that is too large,
-- that before a damaged one, and that before a clash; of each of these the first one
abbrev pub IsRefusedFor : Image → ℕ → RestartRefusal → Type 0
IsRefusedFor image partitions (Partition name) = IsFirstName (IsStray image partitions) name
IsRefusedFor image partitions (TooLarge name) = NoneStray image partitions × IsFirstName (IsTooLarge image) name
IsRefusedFor image partitions (Damaged name at) =
    NoneStray image partitions × NoneTooLarge image × IsDamagedFile image name at × IsFirstName (λ other. (place : ℕ) × IsDamagedFile image other place) name
IsRefusedFor image partitions (Clash p seq) =
    NoneStray image partitions × NoneTooLarge image × NoneDamaged image × IsFirstClashIn image p.0 seq.0
IsRefusedFor image partitions Memory = ⊤
IsRefusedFor image partitions DiskFault = ⊤

-- the refusal speaks of the content of the folder
abbrev pub SpeaksOfContent : RestartRefusal → Type 0
SpeaksOfContent Memory = ⊥
SpeaksOfContent DiskFault = ⊥
SpeaksOfContent (Partition name) = ⊤
SpeaksOfContent (TooLarge name) = ⊤
SpeaksOfContent (Damaged name at) = ⊤
SpeaksOfContent (Clash p seq) = ⊤

-- the names and numbers in it can be printed
abbrev pub IsPrintable : RestartRefusal → Type 0
IsPrintable (Partition name) = IsChunkName name
IsPrintable (TooLarge name) = IsChunkName name
IsPrintable (Damaged name at) = IsChunkName name
IsPrintable (Clash p seq) = ⊤
IsPrintable Memory = ⊤
IsPrintable DiskFault = ⊤
