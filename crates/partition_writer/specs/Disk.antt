-- What a port tells of its disk, and what halts the calls that stand on it.
use Rattle.std.specs.Prelude.{◌≡◌, ℕ, ◌≤◌, Bool, true, Option, Some, Result, OnOk, IsErrOf}
use Rattle.hr_base.specs.Counts.{Rose}

-- How often the disk failed, whether the port tells that it never does, and the count at which it refused a call.
pub record Disk : Type 0 where
  pub faults : ℕ
  pub sound : Bool
  pub halted : Option ℕ

-- Only a refusal by the disk halts, at the count of faults, which rose then. The count never falls, and a port that
-- tells that the disk never fails goes on to do so.
pub record HaltsAtFault {T E : Type 0} (out_of_memory disk_fault : E) (answer : Result T E) (old new : Disk) : Type 0 where
  pub ok : OnOk answer (new.halted ≡ old.halted)
  pub memory : IsErrOf answer out_of_memory → new.halted ≡ old.halted
  pub fault : IsErrOf answer disk_fault → new.halted ≡ Some new.faults
  pub cause : IsErrOf answer disk_fault → Rose old.faults new.faults
  pub kept : old.faults ≤ new.faults
  pub stays_sound : old.sound ≡ true → (new.sound ≡ true) × (new.faults ≡ 0)
