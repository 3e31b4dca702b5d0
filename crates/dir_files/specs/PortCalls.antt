-- What a call through a port leaves of it, for code over any folder: the first argument is the folder's ghost members.
use Rattle.std.specs.Prelude.{◌≡◌, Bool, true}
use Rattle.hr_base.specs.declared.name.ChunkName.{ChunkName}
use Rattle.dir_files.specs.declared.folder.Folder.{Ghosts}
use Rattle.dir_files.specs.Files.{FileState}
use Rattle.dir_files.specs.Ports.{SamePort, Gives}
use Rattle.dir_files.specs.Faults.{CountsFault, StaysSound}

-- the count of faults rose where the disk refused the call and stays otherwise, and a sound port stays sound
pub record CountsCall {F File : Type 0} (folder : Ghosts F File) (refused : Bool) (old new : F) : Type 0 where
  pub counts : CountsFault refused (folder.count old) (folder.count new)
  pub stays_sound : StaysSound (folder.sound old) (folder.sound new) (folder.count new)

-- and files and names stay
pub record LeavesPort {F File : Type 0} (folder : Ghosts F File) (refused : Bool) (old new : F) : Type 0 where
  pub same : folder.tells ≡ true → SamePort (folder.port old) (folder.port new)
  pub counts : CountsFault refused (folder.count old) (folder.count new)
  pub stays_sound : StaysSound (folder.sound old) (folder.sound new) (folder.count new)

-- a file of this name was given back, and the disk refused nothing
pub record GivesFile {F File : Type 0} (folder : Ghosts F File) (old new : F) (name : ChunkName) (file : FileState) : Type 0 where
  pub given : folder.tells ≡ true → Gives (folder.port old) (folder.port new) name file
  pub counts : folder.count new ≡ folder.count old
  pub stays_sound : StaysSound (folder.sound old) (folder.sound new) (folder.count new)
