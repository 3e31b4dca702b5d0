-- What a port on a disk knows of its failures.
use Rattle.std.specs.Prelude.{◌≡◌, Bool, true, false, Option, None, Some, IsSome}
use Rattle.dir_files.specs.Faults.{CountsFault}
use Rattle.dir_files.specs.Files.{FileState, new_file}
use Rattle.dir_files.specs.Ports.{Port}
use Rattle.real_folder.specs.declared.error.DiskError.{DiskError}
use Rattle.real_folder.specs.declared.faults.Faults.{Faults}

-- what a call made of the failures that a port knows of: one more where the disk refused the call, and the first of all
-- stays known
pub record NotesFault (refused : Bool) (old new : Faults) : Type 0 where
  pub counts : CountsFault refused old.count new.count
  pub noted : refused ≡ true → IsSome new.first
  pub kept : IsSome old.first → new.first ≡ old.first
  pub clean : refused ≡ false → new.first ≡ old.first

-- what a call made of a port's lock: one that is there stays, and a call that was answered was made under one
pub record HoldsLock {Lock : Type 0} (answered : Bool) (old new : Option Lock) : Type 0 where
  pub kept : IsSome old → new ≡ old
  pub held : answered ≡ true → IsSome new

-- the first error, or the second where there is no first
abbrev pub first_of : Option DiskError → Option DiskError → Option DiskError
first_of None second = second
first_of (Some error) second = Some error

-- a port that tells nothing: the same at all times
abbrev pub untold : Port
untold =
    record {
      held = λ _. None;
      gone = λ _. None;
      lent = λ _. false;
      foreign = λ _. false;
      created = λ _. false;
      fixed = λ _. false;
    }
