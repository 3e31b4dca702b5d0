-- Events that go from a backlog into the ring, some after others.
use Rattle.std.proofs.Common.{◌≡◌, ℕ, ◌+◌, ◌≤◌, zero, suc, List, [], ◌∷◌, ◌++◌, length, take, drop, refl, sym, ap, ◌∙◌, arith, take-append-drop, length-drop, length-append, append_assoc, append-nil}
use Rattle.std.proofs.lemmas.List.{drop-drop, drop_all}
use mathlib.Core.List.{IsPrefix}
use Rattle.gc_event.specs.declared.event.Event.{Event}
use Rattle.hr_base.specs.declared.name.Named.{Ghosts as NamedGhosts}
use Rattle.gc_queue.specs.declared.ends.Teller.{Teller}
use Rattle.gc_queue.specs.declared.ends.Hearer.{Hearer}
use Rattle.gc_queue.specs.Queues.{SameTeller, Tells, backlog, heard, known, noted, told}

-- some elements, and then some more
take_by : {X : Type 0} (n m k : ℕ) (xs : List X) → k ≡ n + m → take k xs ≡ take n xs ++ take m (drop n xs)
take_by zero m k xs e = ap (λ j. take j xs) (omega (arith, e))
take_by (suc n) zero zero [] e = refl
take_by (suc n) zero (suc k) [] e = refl
take_by (suc n) (suc m) zero [] e = refl
take_by (suc n) (suc m) (suc k) [] e = refl
take_by (suc n) m zero (x ∷ xs) e = absurd (omega (arith, e))
take_by (suc n) m (suc k) (x ∷ xs) e = ap (λ ys. x ∷ ys) (take_by n m k xs (omega (arith, e)))

take_then : {X : Type 0} (n m : ℕ) (xs : List X) → take (n + m) xs ≡ take n xs ++ take m (drop n xs)
take_then n m xs = take_by n m (n + m) xs refl

-- where none is known, all that was told was heard
pub none_known : {X : Type 0} (heard known told : List X) → heard ++ known ≡ told → length known ≡ 0 → heard ≡ told
none_known heard [] told whole none = sym (append-nil heard) ∙ whole
none_known heard (x ∷ xs) told whole none = absurd (omega (arith, none))

-- where the next one went, and none is there, all had gone before
pub all_heard : {X : Type 0} (before after heard known waiting : List X)
    → after ≡ before ++ take 1 waiting → heard ≡ before → heard ++ known ≡ after → length known ≡ 0 → heard ≡ after ++ drop 1 waiting
all_heard before after heard known [] went same whole none =
    same ∙ sym (append-nil before) ∙ sym went ∙ sym (append-nil after)
all_heard before after heard known (x ∷ xs) went same whole none =
    absurd (omega (arith, ap length went, length-append before (x ∷ []), ap length whole, length-append heard known, ap length same, none))

module _ {File : Type 0} {h : NamedGhosts File} where
  same_then : (a b c : Teller File h) → SameTeller a b → SameTeller b c → SameTeller a c
  same_then a b c p q = ((q.0.0 ∙ p.0.0, q.0.1 ∙ p.0.1, q.0.2 ∙ p.0.2, q.0.3 ∙ p.0.3), q.1 ∙ p.1)

  pub tells_none : (a : Teller File h) → Tells 0 a a
  tells_none a = record {
    same = ((refl, refl, refl, refl), refl);
    within = omega arith;
    told = sym (append-nil (told a));
    waiting = refl;
    room = omega arith;
    spare = omega arith;
  }

  pub tells_then : (n m : ℕ) (a b c : Teller File h) → Tells n a b → Tells m b c → Tells (n + m) a c
  tells_then n m a b c p q = record {
    same = same_then a b c p.same q.same;
    within = omega (arith, p.within, q.within, ap length p.waiting, length-drop n (backlog a));
    told = q.told ∙ ap (λ xs. xs ++ take m (backlog b)) p.told ∙ append_assoc (told a) (take n (backlog a)) (take m (backlog b))
        ∙ ap (λ xs. told a ++ xs) (ap (λ xs. take n (backlog a) ++ take m xs) p.waiting ∙ sym (take_then n m (backlog a)));
    waiting = q.waiting ∙ ap (drop m) p.waiting ∙ drop-drop m n (backlog a);
    room = omega (arith, p.room, q.room);
    spare = omega (arith, p.spare, q.spare);
  }

  pub tells_noted : (n : ℕ) (a b : Teller File h) → Tells n a b → noted b ≡ noted a
  tells_noted n a b p =
      ap (λ xs. xs ++ backlog b) p.told ∙ ap (λ xs. (told a ++ take n (backlog a)) ++ xs) p.waiting
      ∙ append_assoc (told a) (take n (backlog a)) (drop n (backlog a)) ∙ ap (λ xs. told a ++ xs) (take-append-drop n (backlog a))

  -- where as many went as were there, none is left
  pub tells_all : (n : ℕ) (a b : Teller File h) → Tells n a b → length (backlog a) ≤ n → backlog b ≡ []
  tells_all n a b p all = p.waiting ∙ drop_all n (backlog a) all

  -- the next one of those that are known is the next one that was noted
  pub next_is_front : (t : Teller File h) (a b : Hearer File h) (e : Event File)
      → heard a ++ known a ≡ told t → heard b ≡ heard a ++ e ∷ [] → known a ≡ e ∷ known b → IsPrefix (heard b) (noted t)
  next_is_front t a b e whole more next = (
    known b ++ backlog t,
    sym (append_assoc (heard b) (known b) (backlog t))
        ∙ ap (λ xs. xs ++ backlog t)
        (ap (λ xs. xs ++ known b) more ∙ append_assoc (heard a) (e ∷ []) (known b) ∙ ap (λ xs. heard a ++ xs) (sym next) ∙ whole),
  )
