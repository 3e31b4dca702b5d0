-- Why a chunk file in hand is not read.
use Rattle.std.specs.Prelude.{◌≡◌, ℕ, ◌<◌, Bool, true, Contains, List, length, map, Some, slice_get, ⊤}
use Rattle.hr_base.specs.declared.limits.TheConstants.{MAX_FILE_LEN}
use Rattle.hr_base.specs.declared.name.ChunkName.{ChunkName}
use Rattle.hr_base.specs.Names.{IsChunkName}
use Rattle.dir_files.specs.Images.{Image}
use Rattle.restart_load.specs.Refusals.{IsFirstName, IsTooLarge}
use Rattle.restart_load.specs.Taking.{TakenFile}
use Rattle.restart_load.specs.declared.refusal.RestartRefusal.{RestartRefusal}
use Rattle.restart_load.specs.declared.refusal.RestartRefusal.TheVariants.{Memory, DiskFault, Partition, TooLarge, Damaged, Clash}

-- the file has more bytes than a restart takes
abbrev pub IsLarge : TakenFile → Type 0
IsLarge taken = MAX_FILE_LEN < length taken.file.bytes

-- it is too large, or memory or the disk failed
abbrev pub IsReadRefusal : Bool → TakenFile → RestartRefusal → Type 0
IsReadRefusal tells taken (TooLarge name) = (name ≡ taken.name) × (tells ≡ true → IsLarge taken)
IsReadRefusal tells taken Memory = ⊤
IsReadRefusal tells taken DiskFault = ⊤
IsReadRefusal tells taken (Partition name) = ⊥
IsReadRefusal tells taken (Damaged name at) = ⊥
IsReadRefusal tells taken (Clash p seq) = ⊥

-- at some place stands a file that is too large, of this name, and none before it is
pub record StandsLargeAt (files : List TakenFile) (name : ChunkName) : Type 0 where
  pub place : ℕ
  pub taken : TakenFile
  pub there : slice_get files place ≡ Some taken
  pub named : taken.name ≡ name
  pub large : IsLarge taken
  pub before : (i : ℕ) (other : TakenFile) → i < place → slice_get files i ≡ Some other → ¬ IsLarge other

-- the first of the files that are too large is told, or memory or the disk failed
abbrev pub IsFirstLarge : Bool → List TakenFile → RestartRefusal → Type 0
IsFirstLarge tells files (TooLarge name) = Contains (map (λ taken. taken.name) files) name × (tells ≡ true → StandsLargeAt files name)
IsFirstLarge tells files Memory = ⊤
IsFirstLarge tells files DiskFault = ⊤
IsFirstLarge tells files (Partition name) = ⊥
IsFirstLarge tells files (Damaged name at) = ⊥
IsFirstLarge tells files (Clash p seq) = ⊥

-- and so of all files of a folder
abbrev pub IsFolderRefusal : Bool → Image → RestartRefusal → Type 0
IsFolderRefusal tells image (TooLarge name) = IsChunkName name × (tells ≡ true → IsFirstName (IsTooLarge image) name)
IsFolderRefusal tells image Memory = ⊤
IsFolderRefusal tells image DiskFault = ⊤
IsFolderRefusal tells image (Partition name) = ⊥
IsFolderRefusal tells image (Damaged name at) = ⊥
IsFolderRefusal tells image (Clash p seq) = ⊥
