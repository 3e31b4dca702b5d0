-- Records whose numbers do not fall: whether those with one number are one.
use Rattle.std.specs.Prelude.{◌≡◌, ◌≢◌, ◌⊎◌, ℕ, ◌+◌, ◌-◌, ◌<◌, ◌≤◌, List, length, slice_index_or, refl}
use Rattle.std.proofs.Common.{sym, ◌∙◌, ap, inl, inr, arith}
use Rattle.std.proofs.lemmas.List.{get_or_default}
use Rattle.std.proofs.lemmas.List.Elements.{Contains-get_or}
use Rattle.record_format.specs.declared.record.Record.{Record}
use Rattle.record_format.specs.Spelling.{seq_of}
use Rattle.crash_law.specs.Numbered.{IsIn}
use Rattle.crash_law.specs.Restarts.{Agree}
use Rattle.crash_law.proofs.NumberedLaws.{Contains-from_in, in_from_Contains}
use Rattle.record_replay.specs.Orders.{left_behind}
use Rattle.record_replay.specs.Replays.{IsFirstClash}

abbrev pub at : List Record → ℕ → Record
at rs k = slice_index_or rs k left_behind

-- the numbers do not fall
abbrev pub DoNotFall : List Record → Type 0
DoNotFall rs = (i j : ℕ) → i ≤ j → j < length rs → seq_of (at rs i) ≤ seq_of (at rs j)

-- of the first n records those with one number are one
pub record AgreeBelow (rs : List Record) (n : ℕ) : Type 0 where
  pub agree : (i j : ℕ) → i < n → j < n → seq_of (at rs i) ≡ seq_of (at rs j) → at rs i ≡ at rs j

pub in_at_place : (rs : List Record) (k : ℕ) → k < length rs → IsIn (at rs k) rs
in_at_place rs k h = in_from_Contains (at rs k) rs (Contains-get_or rs k left_behind h)

-- a record of the list, and where it stands
pub record StandsAt (rs : List Record) (r : Record) : Type 0 where
  pub place : ℕ
  pub within : place < length rs
  pub is : at rs place ≡ r

pub stands : (rs : List Record) (r : Record) → IsIn r rs → StandsAt rs r
stands rs r i =
    let c = Contains-from_in r rs i in
    record { place = c.0; within = c.1; is = get_or_default rs c.0 left_behind r c.1 ∙ c.2 }

pub agree_first : (rs : List Record) → AgreeBelow rs 1
agree_first rs = record { agree = λ i j h k e. ap (at rs) (let same : i ≡ j = omega arith in same) }

last_or_before : (i n : ℕ) → i < n + 1 → (i ≡ n) ⊎ (i < n)
last_or_before i n h = grind arith

module _ (rs : List Record) (up : DoNotFall rs) (n : ℕ) (some : 0 < n) (within : n < length rs) (below : AgreeBelow rs n) where
  with_last : (seq_of (at rs (n - 1)) ≡ seq_of (at rs n) → at rs (n - 1) ≡ at rs n) → (i : ℕ) → i < n → seq_of (at rs i) ≡ seq_of (at rs n) → at rs i ≡ at rs n
  with_last pair i h e =
      let low = up i (n - 1) (omega arith) (omega arith) in
      let high = up (n - 1) n (omega arith) within in
      let last : seq_of (at rs (n - 1)) ≡ seq_of (at rs n) = omega (arith, e, low, high) in
      below.agree i (n - 1) h (omega arith) (e ∙ sym last) ∙ pair last

  -- one more record, which is the one before it where it has the same number
  pub agree_more : (seq_of (at rs (n - 1)) ≡ seq_of (at rs n) → at rs (n - 1) ≡ at rs n) → AgreeBelow rs (n + 1)
  agree_more pair = record {
    agree = λ i j h k e.
        elim (last_or_before i n h) [
          | inl a ↦ elim (last_or_before j n k) [
            | inl b ↦ ap (at rs) (a ∙ sym b)
            | inr b ↦ ap (at rs) a ∙ sym (with_last pair j b (sym e ∙ ap (λ (x : ℕ). seq_of (at rs x)) a))
          ]
          | inr a ↦ elim (last_or_before j n k) [
            | inl b ↦ with_last pair i a (e ∙ ap (λ (x : ℕ). seq_of (at rs x)) b) ∙ sym (ap (at rs) b)
            | inr b ↦ below.agree i j a b e
          ]
        ];
  }

  before : (k : ℕ) → k < length rs → seq_of (at rs k) < seq_of (at rs n) → k < n
  before k h less = elim (last_or_before_or_after k) [ inl early ↦ early | inr late ↦ absurd (omega (arith, up n k late h)) ] where
    last_or_before_or_after : (k : ℕ) → (k < n) ⊎ (n ≤ k)
    last_or_before_or_after k = grind arith

  -- or else a first clash
  pub clash_here : seq_of (at rs (n - 1)) ≡ seq_of (at rs n) → at rs (n - 1) ≢ at rs n → IsFirstClash (λ r. IsIn r rs) (seq_of (at rs n))
  clash_here same differ = record {
    clash = record {
      one = at rs (n - 1);
      other = at rs n;
      fact = in_at_place rs (n - 1) (omega arith);
      other_fact = in_at_place rs n within;
      number = same;
      other_number = refl;
      differ = differ;
    };
    first = λ smaller less c.
        let a = stands rs c.one c.fact in
        let b = stands rs c.other c.other_fact in
        let s = ap seq_of a.is ∙ c.number in
        let t = ap seq_of b.is ∙ c.other_number in
        c.differ (sym a.is ∙ below.agree a.place b.place
        (before a.place a.within (omega (arith, s))) (before b.place b.within (omega (arith, t))) (s ∙ sym t) ∙ b.is);
  }

-- where all agree, the facts do
pub agree_all : (rs : List Record) (n : ℕ) → length rs ≤ n → AgreeBelow rs n → Agree (λ r. IsIn r rs)
agree_all rs n all below = λ r s f g e.
    let a = stands rs r f in
    let b = stands rs s g in
    sym a.is ∙ below.agree a.place b.place (omega (arith, a.within)) (omega (arith, b.within)) (ap seq_of a.is ∙ e ∙ sym (ap seq_of b.is)) ∙ b.is
