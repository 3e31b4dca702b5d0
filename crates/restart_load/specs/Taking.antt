-- Chunk files that a restart has in hand.
use Rattle.std.specs.Prelude.{◌≡◌, true, false, List, [], ◌∷◌, Some, None, IfSome, is_some, if◌then◌else◌, ⊤}
use Rattle.hr_base.specs.declared.name.ChunkName.{ChunkName}
use Rattle.hr_base.specs.NameTests.{is_name}
use Rattle.dir_files.specs.Files.{FileState, Files, IsDurable, Rises, SameAt}
use Rattle.dir_files.specs.Ports.{Port, either_file}
use Rattle.dir_files.specs.PortStates.{IsGivenBack}
use Rattle.restart_load.specs.Contents.{FileBytes}

-- a file whose handle was taken, with its name
pub record TakenFile : Type 0 where
  pub name : ChunkName
  pub file : FileState

-- the file of this name among those in hand
abbrev pub in_hand : List TakenFile → Files
in_hand [] name = None
in_hand (taken ∷ others) name = if is_name name taken.name then Some taken.file else in_hand others name

-- no two of the files have one name
abbrev pub AreApart : List TakenFile → Type 0
AreApart [] = ⊤
AreApart (taken ∷ others) = (in_hand others taken.name ≡ None) × AreApart others

-- all files, in hand or at the port
abbrev pub files_with : Port → List TakenFile → Files
files_with port files name = either_file (in_hand files name) (port.held name)

-- These files were taken from a port, which has all others. A crash keeps of each file what it kept before, or more.
pub record HasTaken (start now : Port) (files : List TakenFile) : Type 0 where
  pub rises : (name : ChunkName) → Rises (start.held name) (files_with now files name)
  pub out : (name : ChunkName) → is_some (in_hand files name) ≡ true → now.held name ≡ None
  pub lent : (name : ChunkName) → now.lent name ≡ is_some (in_hand files name)
  pub gone : (name : ChunkName) → now.gone name ≡ None
  pub foreign : (name : ChunkName) → now.foreign name ≡ false
  pub apart : AreApart files

-- all files, in hand or at the port, are durable
abbrev pub AllDurableWith : Port → List TakenFile → Type 0
AllDurableWith port files = (name : ChunkName) → IfSome (files_with port files name) IsDurable

-- the name and all bytes of a file in hand
abbrev pub read_bytes : TakenFile → FileBytes
read_bytes taken = record { name = taken.name; bytes = taken.file.bytes }

-- all files at the port have lasting names
abbrev pub AllNamed : Port → Type 0
AllNamed port = (name : ChunkName) (file : FileState) → port.held name ≡ Some file → file.named ≡ true

-- nothing is out or may come back, and the port has the same files
pub record IsPortKept (old new : Port) : Type 0 where
  pub given_back : IsGivenBack new
  pub held : SameAt old.held new.held
