-- What the files of a folder hold.
use Rattle.std.specs.Prelude.{◌≡◌, ℕ, List, Contains, All, AllPairs, Some}
use Rattle.hr_base.specs.declared.name.ChunkName.{ChunkName}
use Rattle.hr_base.specs.Names.{IsUpTo, class_of_kind}
use Rattle.dir_files.specs.Images.{Image}
use Rattle.chunk_read.specs.Chunks.{IsDamagedAt}
use Rattle.record_format.specs.declared.record.Record.{Record}
use Rattle.record_format.specs.Splits.{IsTorn, Splits}

-- a chunk file's name, and all its bytes
pub record FileBytes : Type 0 where
  pub name : ChunkName
  pub bytes : List ℕ

-- the record stands whole in one of these files, one of the partition
pub record IsFoundIn (files : List FileBytes) (p : ℕ) (r : Record) : Type 0 where
  pub file : FileBytes
  pub listed : Contains files file
  pub partition : file.name.partition.0 ≡ p
  pub records : List Record
  pub rest : List ℕ
  pub whole : Splits (class_of_kind file.name.kind) file.bytes records rest
  pub has : Contains records r

-- nothing stands behind the file's whole records but what a crash may leave of one
abbrev pub IsTornFile : FileBytes → Type 0
IsTornFile file = (records : List Record) (rest : List ℕ) → Splits (class_of_kind file.name.kind) file.bytes records rest → IsTorn (class_of_kind file.name.kind) rest

-- a damaged header begins at this offset of the file
abbrev pub IsDamagedFrom : FileBytes → ℕ → Type 0
IsDamagedFrom file at = IsDamagedAt (class_of_kind file.name.kind) file.bytes at

-- the names stand in the order of their texts
abbrev pub InNameOrder : List ChunkName → Type 0
InNameOrder names = AllPairs IsUpTo names

-- these are all files of the image, with all their bytes
pub record AreFilesOf (image : Image) (files : List FileBytes) : Type 0 where
  pub each : All (λ file. image file.name ≡ Some file.bytes) files
  pub all : (name : ChunkName) (bytes : List ℕ) → image name ≡ Some bytes → Contains files (record { name = name; bytes = bytes })
