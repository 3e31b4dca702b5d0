-- Records that are played one after another, in an order in which their numbers do not fall.
use Rattle.std.specs.Prelude.{◌≡◌, ◌≢◌, ◌⊎◌, ℕ, ◌+◌, ◌<◌, ◌≤◌, All, slice_index_or, slice_set, Bool, true, false, cond, List, [], ◌∷◌, ◌++◌, length, take, refl}
use Rattle.std.proofs.Common.{sym, ◌∙◌, ap, subst, inl, inr, arith, true≢false}
use Rattle.std.proofs.lemmas.Bool.{cases_Bool}
use Rattle.std.proofs.lemmas.List.{take_more, take_all, length-take, get_or-take, get_or-set_other, length-set}
use Rattle.std.specs.FinMap as map
use Rattle.hr_base.specs.declared.limits.TheConstants.{SEQ_END}
use Rattle.hr_base.specs.Entries.{Key, Entries}
use Rattle.hr_base.proofs.EntryLaws.{get-empty-entries}
use Rattle.record_format.specs.declared.record.Record.{Record}
use Rattle.record_format.specs.Spelling.{IsRecord, seq_of}
use Rattle.crash_law.specs.Commands.{command_of, maps_after, state_of, touches}
use Rattle.crash_law.specs.Numbered.{IsIn}
use Rattle.crash_law.specs.Restarts.{Agree, IsRestartOf, RestartsTo}
use Rattle.crash_law.proofs.CommandLaws.{get-maps_after}
use Rattle.crash_law.proofs.PlacedLaws.{in_append, in_left, in_right, in_front}
use Rattle.crash_law.proofs.RestartLaws.{IsRestartOf-same}
use Rattle.record_replay.specs.Orders.{IsOrder, IsPlace, left_behind, records_at}
use Rattle.record_replay.specs.Replays.{IsNext}
use Rattle.record_replay.proofs.ClashLaws.{DoNotFall, at, in_at_place, stands}
use Rattle.record_replay.proofs.OrderLaws.{at_place, in_order, in_records, length-records_at, rising_at, seq_of-at}
use Rattle.record_replay.proofs.SameFacts.{Agree-same, IsNext-same}

-- ---- one more fact

-- the facts with one more, whose number is above theirs
module _ (facts others : Record → Type 0) (r : Record) (there : (x : Record) → facts x → others x) (here : others r)
    (either : (x : Record) → others x → facts x ⊎ (x ≡ r)) where
  touched : (m : Entries) (k : Key) → ((x : Record) → facts x → seq_of x ≤ seq_of r) → touches (command_of r) k ≡ true → RestartsTo others k (map.get (maps_after (command_of r) m) k)
  touched m k above t =
      inl (r, record { fact = here; touching = t; greatest = greatest }, get-maps_after (command_of r) m k ∙ ap (λ (b : Bool). cond b (state_of (command_of r)) (map.get m k)) t) where
        greatest : (other : Record) → others other → touches (command_of other) k ≡ true → seq_of other ≤ seq_of r
        greatest other o u = elim (either other o) [ inl f ↦ above other f | inr e ↦ omega (arith, ap seq_of e) ]

  same_touch : (x : Record) (k : Key) → x ≡ r → touches (command_of r) k ≡ false → touches (command_of x) k ≡ false
  same_touch x k e t = ap (λ (y : Record). touches (command_of y) k) e ∙ t

  untouched : (m : Entries) (k : Key) → touches (command_of r) k ≡ false → RestartsTo facts k (map.get m k) → RestartsTo others k (map.get (maps_after (command_of r) m) k)
  untouched m k t h =
      let is = get-maps_after (command_of r) m k ∙ ap (λ (b : Bool). cond b (state_of (command_of r)) (map.get m k)) t in
      elim h [
        | inl w ↦ inl (
          w.0,
          record {
            fact = there w.0 w.1.fact;
            touching = w.1.touching;
            greatest = λ other o u. elim (either other o) [ inl f ↦ w.1.greatest other f u | inr e ↦ absurd (true≢false (sym u ∙ same_touch other k e t)) ];
          },
          is ∙ w.2,
        )
        | inr w ↦ inr (λ x o. elim (either x o) [ inl f ↦ w.0 x f | inr e ↦ same_touch x k e t ], is ∙ w.1)
      ]

  -- the restart of facts is that of one fact more, once this is played
  pub IsRestartOf-more : (m : Entries) → ((x : Record) → facts x → seq_of x ≤ seq_of r) → IsRestartOf facts m → IsRestartOf others (maps_after (command_of r) m)
  IsRestartOf-more m above restart k =
      elim (cases_Bool (touches (command_of r) k)) [ inl t ↦ touched m k above t | inr t ↦ untouched m k t (restart k) ]

  pub IsNext-more : (next : ℕ) → IsNext facts next → next ≤ seq_of r → seq_of r < SEQ_END → IsNext others (seq_of r + 1)
  IsNext-more next h up limit = record {
    above = λ x o. elim (either x o) [ inl f ↦ omega (arith, h.above x f) | inr e ↦ omega (arith, ap seq_of e) ];
    least = inl (r, here, refl);
    numbered = omega arith;
    limited = omega (arith, limit);
  }

-- ---- the first records of a list

-- The maps and the number are those of the first n records.
pub record IsPlayed (rs : List Record) (n : ℕ) (m : Entries) (next : ℕ) : Type 0 where
  pub restart : IsRestartOf (λ r. IsIn r (take n rs)) m
  pub follows : IsNext (λ r. IsIn r (take n rs)) next

-- none of them is played
pub played_none : (rs : List Record) (m : Entries) → m ≡ map.empty → IsPlayed rs 0 m 1
played_none rs m none = record {
  restart = λ k. inr (λ r f. absurd f, ap (λ (x : Entries). map.get x k) none ∙ get-empty-entries k);
  follows = record { above = λ r f. absurd f; least = inr (λ r f. f, refl); numbered = omega arith; limited = omega arith };
}

module _ (rs : List Record) (n : ℕ) (within : n < length rs) where
  one_more : take (n + 1) rs ≡ take n rs ++ at rs n ∷ []
  one_more = take_more rs n left_behind within

  there : (r : Record) → IsIn r (take n rs) → IsIn r (take (n + 1) rs)
  there r i = subst (λ (xs : List Record). IsIn r xs) (sym one_more) (in_left (take n rs) (at rs n ∷ []) r i)

  here : IsIn (at rs n) (take (n + 1) rs)
  here = subst (λ (xs : List Record). IsIn (at rs n) xs) (sym one_more) (in_right (take n rs) (at rs n ∷ []) (at rs n) (inl refl))

  either : (r : Record) → IsIn r (take (n + 1) rs) → IsIn r (take n rs) ⊎ (r ≡ at rs n)
  either r i =
      elim (in_append (take n rs) (at rs n ∷ []) r (subst (λ (xs : List Record). IsIn r xs) one_more i)) [
        | inl early ↦ inl early
        | inr last ↦ elim last [ inl e ↦ inr e | inr none ↦ absurd none ]
      ]

  -- the next one is played
  pub played_more : (m : Entries) (next : ℕ) → IsPlayed rs n m next → next ≤ seq_of (at rs n) → seq_of (at rs n) < SEQ_END
      → IsPlayed rs (n + 1) (maps_after (command_of (at rs n)) m) (seq_of (at rs n) + 1)
  played_more m next h up limit =
      let facts : Record → Type 0 = λ r. IsIn r (take n rs) in
      let others : Record → Type 0 = λ r. IsIn r (take (n + 1) rs) in
      record {
        restart = IsRestartOf-more facts others (at rs n) there here either m (λ x f. omega (arith, h.follows.above x f)) h.restart;
        follows = IsNext-more facts others (at rs n) there here either next h.follows up limit;
      }

  -- the greatest fact so far is the next record, where this has no greater number
  again : (up : DoNotFall rs) → (agree : Agree (λ r. IsIn r rs)) → (next : ℕ) → IsNext (λ r. IsIn r (take n rs)) next → 1 ≤ seq_of (at rs n) → seq_of (at rs n) < next → IsIn (at rs n) (take n rs)
  again up agree next h some less = elim h.least [
    | inl w ↦
        let s = stands (take n rs) w.0 w.1 in
        let early : s.place < n = omega (arith, s.within, length-take n rs) in
        let is : at rs s.place ≡ w.0 = sym (get_or-take n rs s.place left_behind early) ∙ s.is in
        let same : seq_of w.0 ≡ seq_of (at rs n) = omega (arith, ap seq_of is, up s.place n (omega arith) within, w.2) in
        subst (λ (r : Record). IsIn r (take n rs)) (agree w.0 (at rs n) (in_front n rs w.0 w.1) (in_at_place rs n within) same) w.1
    | inr w ↦ absurd (omega (arith, w.1))
  ]

  -- it is not played again
  pub played_again : (up : DoNotFall rs) → (agree : Agree (λ r. IsIn r rs)) → (m : Entries) (next : ℕ) → IsPlayed rs n m next → 1 ≤ seq_of (at rs n) → seq_of (at rs n) < next
      → IsPlayed rs (n + 1) m next
  played_again up agree m next h some less =
      let facts : Record → Type 0 = λ r. IsIn r (take n rs) in
      let others : Record → Type 0 = λ r. IsIn r (take (n + 1) rs) in
      let known = again up agree next h.follows some less in
      let back : (r : Record) → others r → facts r = λ r i. elim (either r i) [ inl f ↦ f | inr e ↦ subst facts (sym e) known ] in
      record {
        restart = IsRestartOf-same facts others m there back h.restart;
        follows = IsNext-same facts others there back next h.follows;
      }

-- all of them are played
played_all : (rs : List Record) (n : ℕ) (m : Entries) (next : ℕ) → length rs ≤ n → IsPlayed rs n m next → IsRestartOf (λ r. IsIn r rs) m × IsNext (λ r. IsIn r rs) next
played_all rs n m next all h =
    let whole = take_all n rs all in (
      subst (λ (xs : List Record). IsRestartOf (λ r. IsIn r xs) m) whole h.restart,
      subst (λ (xs : List Record). IsNext (λ r. IsIn r xs) next) whole h.follows,
    )

-- ---- records that are moved out as they are played

-- The first n records in order are played, and those that are not stand where they stood.
pub record IsUnderway (records now : List Record) (order : List (ℕ × ℕ)) (n : ℕ) (m : Entries) (next : ℕ) : Type 0 where
  pub played : IsPlayed (records_at records order) n m next
  pub count : length now ≡ length records
  pub left : (k : ℕ) (e : ℕ × ℕ) → n ≤ k → k < length order → e ≡ slice_index_or order k e → next ≤ e.0 → at now e.1 ≡ at records e.1

pub underway_first : (records : List Record) (order : List (ℕ × ℕ)) (m : Entries) → m ≡ map.empty → IsUnderway records records order 0 m 1
underway_first records order m none = record { played = played_none (records_at records order) m none; count = refl; left = λ k e late h is up. refl }

-- the same by equations
pub underway_same : (records now left : List Record) (order : List (ℕ × ℕ)) (n : ℕ) (m t : Entries) (next number : ℕ)
    → IsUnderway records now order n m next → left ≡ now → t ≡ m → number ≡ next → IsUnderway records left order n t number
underway_same records now left order n m t next number h a b e =
    subst (λ (x : ℕ). IsUnderway records left order n t x) (sym e)
    (subst (λ (x : Entries). IsUnderway records left order n x next) (sym b)
    (subst (λ (x : List Record). IsUnderway records x order n m next) (sym a) h))

module _ (records : List Record) (order : List (ℕ × ℕ)) (o : IsOrder records order) (valid : All IsRecord records) (now : List Record)
    (n : ℕ) (m : Entries) (next : ℕ) (h : IsUnderway records now order n m next) where
  module _ (e : ℕ × ℕ) (within : n < length order) (is : e ≡ slice_index_or order n e) where
    place : IsPlace records e
    place = subst (λ (x : ℕ × ℕ). IsPlace records x) (sym is) (o.places n e within)

    pub underway_place : e.1 < length now
    underway_place = omega (arith, place.within, h.count)

    valid_at : IsRecord (at records e.1)
    valid_at = valid e.1 left_behind place.within

    pub underway_below : e.0 < SEQ_END
    underway_below = omega (arith, valid_at.seq.number, place.number)

    in_list : n < length (records_at records order)
    in_list = omega (arith, length-records_at records order o)

    number : seq_of (at (records_at records order) n) ≡ e.0
    number = seq_of-at records order o n e within is

    apart : (k : ℕ) (x : ℕ × ℕ) → k < length order → x ≡ slice_index_or order k x → e.0 + 1 ≤ x.0 → x.1 ≢ e.1
    apart k x here there above same =
        let other : IsPlace records x = subst (λ (y : ℕ × ℕ). IsPlace records y) (sym there) (o.places k x here) in
        omega (arith, other.number, place.number, ap (λ (i : ℕ). seq_of (at records i)) same)

    pub underway_more : (moved : Record) → moved ≡ at now e.1 → next ≤ e.0
        → IsUnderway records (slice_set now e.1 left_behind) order (n + 1) (maps_after (command_of moved) m) (e.0 + 1)
    underway_more moved from up =
        let rec : moved ≡ at (records_at records order) n = from ∙ h.left n e (omega arith) within is up ∙ sym (at_place records order o n e within is) in
        record {
          played = subst (λ (x : ℕ). IsPlayed (records_at records order) (n + 1) (maps_after (command_of moved) m) (x + 1)) number
              (subst (λ (r : Record). IsPlayed (records_at records order) (n + 1) (maps_after (command_of r) m) (seq_of (at (records_at records order) n) + 1)) (sym rec)
              (played_more (records_at records order) n in_list m next h.played (omega (arith, number)) (omega (arith, number, underway_below))));
          count = length-set now e.1 left_behind ∙ h.count;
          left = λ k x late here there above.
              get_or-set_other now e.1 x.1 left_behind left_behind (apart k x here there above) ∙ h.left k x (omega arith) here there (omega (arith, up, above));
        }

    pub underway_again : (agree : Agree (λ r. IsIn r records)) → e.0 < next → IsUnderway records now order (n + 1) m next
    underway_again agree less = record {
      played = played_again (records_at records order) n in_list (rising_at records order o)
          (Agree-same (λ r. IsIn r records) (λ r. IsIn r (records_at records order)) (in_order records order o) (in_records records order o) agree)
          m next h.played (omega (arith, number, valid_at.seq.numbered, place.number)) (omega (arith, number));
      count = h.count;
      left = λ k x late here there above. h.left k x (omega arith) here there above;
    }

  -- in the end the facts are all records
  pub restart_underway : length order ≤ n → IsRestartOf (λ r. IsIn r records) m
  restart_underway all =
      IsRestartOf-same (λ r. IsIn r (records_at records order)) (λ r. IsIn r records) m (in_records records order o) (in_order records order o)
      (played_all (records_at records order) n m next (omega (arith, length-records_at records order o)) h.played).0

  pub next_underway : length order ≤ n → IsNext (λ r. IsIn r records) next
  next_underway all =
      IsNext-same (λ r. IsIn r (records_at records order)) (λ r. IsIn r records) (in_records records order o) (in_order records order o) next
      (played_all (records_at records order) n m next (omega (arith, length-records_at records order o)) h.played).1
