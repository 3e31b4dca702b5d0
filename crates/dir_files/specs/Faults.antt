-- How the count of a port's faults follows the answers of its calls.
use Rattle.std.specs.Prelude.{◌≡◌, ℕ, ◌≤◌, Bool, true, false, Option, Some, None, Result, Ok, Err}
pub use Rattle.hr_base.specs.Counts.{CountsFault}
use Rattle.dir_files.specs.declared.folder.FolderRefusal.{FolderRefusal}
use Rattle.dir_files.specs.declared.folder.FolderRefusal.TheVariants.{Memory, Fault}
use Rattle.dir_files.specs.declared.folder.RemoveRefusal.{RemoveRefusal}
use Rattle.dir_files.specs.declared.folder.RemoveRefusal.TheVariants as remove

-- the disk failed, and memory was not what was missing
abbrev pub is_disk : FolderRefusal → Bool
is_disk Memory = false
is_disk Fault = true

-- the disk refused the call
abbrev pub is_fault : {T : Type 0} → Result T FolderRefusal → Bool
is_fault (Ok value) = false
is_fault (Err refusal) = is_disk refusal

-- the handle that came back from a removal for which there was no memory
abbrev pub kept_file : {File : Type 0} → Result (Unit {0}) (RemoveRefusal File) → Option File
kept_file (Ok done) = None
kept_file (Err (remove.Memory file)) = Some file
kept_file (Err remove.Fault) = None

-- the disk refused a removal
abbrev pub is_remove_fault : {File : Type 0} → Result (Unit {0}) (RemoveRefusal File) → Bool
is_remove_fault (Ok done) = false
is_remove_fault (Err (remove.Memory file)) = false
is_remove_fault (Err remove.Fault) = true

-- a port that tells that the disk never fails still does so after a call
abbrev pub StaysSound : Bool → Bool → ℕ → Type 0
StaysSound old new count = old ≡ true → (new ≡ true) × (count ≡ 0)
