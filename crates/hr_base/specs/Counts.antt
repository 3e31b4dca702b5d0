-- How a count of faults rises.
use Rattle.std.specs.Prelude.{◌≡◌, ℕ, ◌+◌, ◌-◌, ◌^◌, ◌≤◌, Bool, true, false, min}

-- a count of faults rose: it is greater, or stands at the end of its type
abbrev pub Rose : ℕ → ℕ → Type 0
Rose before now = min (before + 1) (2 ^ 64 - 1) ≤ now

-- what a call made of a count of faults: it rose where the call failed, stays otherwise, and never falls
pub record CountsFault (failed : Bool) (old new : ℕ) : Type 0 where
  pub rose : failed ≡ true → Rose old new
  pub stays : failed ≡ false → new ≡ old
  pub kept : old ≤ new
