-- What is told of facts is told of facts that are the same.
use Rattle.std.specs.Prelude.{ℕ}
use Rattle.std.proofs.Common.{inl, inr}
use Rattle.record_format.specs.declared.record.Record.{Record}
use Rattle.crash_law.specs.Restarts.{Agree}
use Rattle.record_replay.specs.Replays.{ClashesAt, FollowsFact, IsFirstClash, IsNext}

module _ (facts others : Record → Type 0) (there : (r : Record) → facts r → others r) (back : (r : Record) → others r → facts r) where
  follows : (next : ℕ) → FollowsFact facts next → FollowsFact others next
  follows next h =
      elim h [ inl w ↦ inl (w.0, there w.0 w.1, w.2) | inr w ↦ inr (λ r f. w.0 r (back r f), w.1) ]

  pub IsNext-same : (next : ℕ) → IsNext facts next → IsNext others next
  IsNext-same next h = record { above = λ r f. h.above r (back r f); least = follows next h.least; numbered = h.numbered; limited = h.limited }

  pub Agree-same : Agree facts → Agree others
  Agree-same agree = λ r s f g e. agree r s (back r f) (back s g) e

  clash_there : (seq : ℕ) → ClashesAt facts seq → ClashesAt others seq
  clash_there seq c = record {
    one = c.one;
    other = c.other;
    fact = there c.one c.fact;
    other_fact = there c.other c.other_fact;
    number = c.number;
    other_number = c.other_number;
    differ = c.differ;
  }

  clash_back : (seq : ℕ) → ClashesAt others seq → ClashesAt facts seq
  clash_back seq c = record {
    one = c.one;
    other = c.other;
    fact = back c.one c.fact;
    other_fact = back c.other c.other_fact;
    number = c.number;
    other_number = c.other_number;
    differ = c.differ;
  }

  pub IsFirstClash-same : (seq : ℕ) → IsFirstClash facts seq → IsFirstClash others seq
  IsFirstClash-same seq h = record { clash = clash_there seq h.clash; first = λ smaller below c. h.first smaller below (clash_back smaller c) }
