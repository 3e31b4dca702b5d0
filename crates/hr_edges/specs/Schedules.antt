-- Which calls fail, what a call counts, and how much it moves.
use Rattle.std.specs.Prelude.{ℕ, ◌==◌, ◌+◌, ◌^◌, ◌-◌, min, Bool, if◌then◌else◌}
use Rattle.std.specs.List.{list_any}
use Rattle.hr_edges.specs.declared.schedule.Schedule.{Schedule}

-- one more, but no more than the type holds
abbrev pub one_more : ℕ → ℕ
one_more n = min (n + 1) (2 ^ 64 - 1)

-- the next call is listed among those that fail
abbrev pub is_due : Schedule → Bool
is_due schedule = list_any (λ call. call == one_more schedule.calls) schedule.fails.items

-- the schedule after one more call, and after one more fault where the call failed
abbrev pub after_call : Bool → Schedule → Schedule
after_call failed schedule = record schedule {
  calls = one_more schedule.calls;
  count = if failed then one_more schedule.count else schedule.count;
}

-- the least of three amounts
abbrev pub least : ℕ → ℕ → ℕ → ℕ
least a b c = min (min a b) c
