-- Which calls of a port fail, and which ports never fail.
use Rattle.std.specs.Prelude.{◌≡◌, ℕ, ◌+◌, ◌-◌, ◌^◌, min, drop, slice_get, Bool, true, false, ◌&&◌, ◌||◌, ◌==◌, nat_le, List, [], ◌∷◌, Option, Some, None}
use Rattle.std.proofs.lemmas.Bool.{and_parts, eqb-true}
use Rattle.std.specs.List.{list_any}
use Rattle.mem_folder.specs.declared.faults.FaultPlan.{FaultPlan}
use Rattle.mem_folder.specs.declared.faults.Faults.{Faults}

-- the call of this number fails: it is listed, or comes late enough
abbrev pub fails : Option FaultPlan → ℕ → Bool
fails None number = false
fails (Some plan) number = nat_le plan.from number || list_any (λ call. call == number) plan.calls.items

-- the number of a port's next call; the count stands still at the end of its type
abbrev pub next_call : ℕ → ℕ
next_call calls = min (calls + 1) (2 ^ 64 - 1)

-- A port made a call: it was counted, and the disk refused it exactly where that was planned.
pub record FollowsPlan (old new : Faults) (refused : Bool) : Type 0 where
  pub planned : refused ≡ fails old.plan (next_call old.calls)
  pub calls : new.calls ≡ next_call old.calls
  pub plan : new.plan ≡ old.plan
  pub forks : new.forks ≡ old.forks

-- A port that has made no call: it follows the first of these plans, and its forks will follow the others in turn.
pub record IsPlanned (faults : Faults) (plans : List FaultPlan) : Type 0 where
  pub plan : faults.plan ≡ slice_get plans 0
  pub forks : faults.forks.items ≡ drop 1 plans
  pub calls : faults.calls ≡ 0

-- A port was forked: the fork follows the next of the plans for forks, and has none for forks of its own.
pub record ForksPlan (old new fork : Faults) : Type 0 where
  pub fork_plan : fork.plan ≡ slice_get old.forks.items 0
  pub fork_forks : fork.forks.items ≡ []
  pub fork_calls : fork.calls ≡ 0
  pub left : new.forks.items ≡ drop 1 old.forks.items
  pub plan : new.plan ≡ old.plan
  pub calls : new.calls ≡ old.calls

-- nothing of a port's plans changes
pub record KeepsPlan (old new : Faults) : Type 0 where
  pub plan : new.plan ≡ old.plan
  pub forks : new.forks ≡ old.forks
  pub calls : new.calls ≡ old.calls

-- there is no plan
abbrev pub is_unplanned : Option FaultPlan → List FaultPlan → Bool
is_unplanned None [] = true
is_unplanned None (plan ∷ plans) = false
is_unplanned (Some plan) plans = false

-- no call fails, at this port and at its forks, and none has failed
abbrev pub is_sound : Faults → Bool
is_sound faults = is_unplanned faults.plan faults.forks.items && (faults.count == 0)

-- a port that never fails has seen no fault
pub sound_count : (faults : Faults) → is_sound faults ≡ true → faults.count ≡ 0
sound_count faults sound = eqb-true faults.count 0 (and_parts (is_unplanned faults.plan faults.forks.items) (faults.count == 0) sound).1
