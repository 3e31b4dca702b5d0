-- Writers in a list, one for each partition: one of them changes, one more is there.
use Rattle.std.specs.Prelude.{◌≡◌, ◌≢◌, ℕ, ◌<◌, ◌≤◌, ◌==◌, true, false, List, [], ◌∷◌, ◌++◌, length, map, Some, get_or, slice_get, slice_set, refl, zero, suc}
use Rattle.std.specs.Option.{option_map}
use Rattle.std.proofs.Common.{sym, ◌∙◌, ap, subst, inl, inr, arith, eq-eqb, ◌⊎◌}
use Rattle.std.proofs.lemmas.List.Sums.{get_or-le-sum_by, sum_by-set}
use Rattle.std.proofs.lemmas.Option.{slice_get-get_or, slice_get-map}
use Rattle.script_text.specs.Replies.{changed_at}
use Rattle.partition_writer.specs.Standing.{Standing}
use Rattle.restart_load.specs.Writers.{EachIs}
use Rattle.store_drill.specs.Writers.{EachFits, faults_of}

-- ---- lists

get_set_same : {A : Type 0} (xs : List A) (i : ℕ) (x y : A) → slice_get (slice_set xs i x) i ≡ Some y → y ≡ x
get_set_same [] i x y is = cc
get_set_same (z ∷ xs) zero x y is = cc
get_set_same (z ∷ xs) (suc i) x y is = get_set_same xs i x y is

get_set_other : {A : Type 0} (xs : List A) (i j : ℕ) (x : A) → j ≢ i → slice_get (slice_set xs i x) j ≡ slice_get xs j
get_set_other [] i j x apart = refl
get_set_other (z ∷ xs) zero zero x apart = absurd (apart refl)
get_set_other (z ∷ xs) zero (suc j) x apart = refl
get_set_other (z ∷ xs) (suc i) zero x apart = refl
get_set_other (z ∷ xs) (suc i) (suc j) x apart = get_set_other xs i j x (λ e. apart (ap suc e))

pub get_at_end : {A : Type 0} (xs : List A) (x : A) (ys : List A) → slice_get (xs ++ x ∷ ys) (length xs) ≡ Some x
get_at_end [] x ys = refl
get_at_end (z ∷ xs) x ys = get_at_end xs x ys

pub get_mapped : {A B : Type 0} (f : A → B) (xs : List A) (i : ℕ) (x : A) → i < length xs → slice_get (map f xs) i ≡ Some (f (get_or xs i x))
get_mapped f xs i x below = slice_get-map f xs i ∙ ap (option_map f) (slice_get-get_or xs i x below)

-- ---- one writer changes

same_or_not : (p q : ℕ) → (p ≡ q) ⊎ (p ≢ q)
same_or_not p q = grind arith

changed_same : {A : Type 0} (values : ℕ → A) (q : ℕ) (value : A) → changed_at values q value q ≡ value
changed_same values q value = let same : (q == q) ≡ true = eq-eqb q q refl in rw same refl

changed_other : {A : Type 0} (values : ℕ → A) (p q : ℕ) (value : A) → p ≢ q → changed_at values q value p ≡ values p
changed_other values p q value apart = let other : (p == q) ≡ false = grind arith in rw other refl

pub each_changed : {A : Type 0} (says : ℕ → A → Standing → Type 0) (writers : List Standing) (values : ℕ → A) (q : ℕ) (t : Standing) (value : A)
    → EachFits says writers values → says q value t → EachFits says (slice_set writers q t) (changed_at values q value)
each_changed says writers values q t value each here p s is = elim (same_or_not p q) [
  | inl same ↦
      let at : slice_get (slice_set writers q t) q ≡ Some s = subst (λ (n : ℕ). slice_get (slice_set writers q t) n ≡ Some s) same is in
      subst (λ (n : ℕ). says n (changed_at values q value n) s) (sym same)
      (subst (λ (v : _). says q v s) (sym (changed_same values q value)) (subst (λ (u : Standing). says q value u) (sym (get_set_same writers q t s at)) here))
  | inr apart ↦
      subst (λ (v : _). says p v s) (sym (changed_other values p q value apart))
      (each p s (sym (get_set_other writers q p t apart) ∙ is))
]

pub each_is_changed : (says : Standing → Type 0) (writers : List Standing) (q : ℕ) (t : Standing) → EachIs says writers → says t → EachIs says (slice_set writers q t)
each_is_changed says writers q t each here p s is = elim (same_or_not p q) [
  | inl same ↦
      let at : slice_get (slice_set writers q t) q ≡ Some s = subst (λ (n : ℕ). slice_get (slice_set writers q t) n ≡ Some s) same is in
      subst says (sym (get_set_same writers q t s at)) here
  | inr apart ↦ each p s (sym (get_set_other writers q p t apart) ∙ is)
]

-- what was said of each of them lasts where it does of the one
pub each_kept : {A : Type 0} (says : ℕ → A → Standing → Type 0) (writers : List Standing) (values : ℕ → A) (q : ℕ) (t : Standing)
    → EachFits says writers values → says q (values q) t → EachFits says (slice_set writers q t) values
each_kept says writers values q t each here p s is = elim (same_or_not p q) [
  | inl same ↦
      let at : slice_get (slice_set writers q t) q ≡ Some s = subst (λ (n : ℕ). slice_get (slice_set writers q t) n ≡ Some s) same is in
      subst (λ (n : ℕ). says n (values n) s) (sym same) (subst (λ (u : Standing). says q (values q) u) (sym (get_set_same writers q t s at)) here)
  | inr apart ↦ each p s (sym (get_set_other writers q p t apart) ∙ is)
]

-- ---- faults

-- where one port saw a fault, all together did
pub faults_at : (writers : List Standing) (q : ℕ) (t : Standing) → q < length writers → 1 ≤ t.faults → 1 ≤ faults_of (slice_set writers q t)
faults_at writers q t within some = omega (arith, sum_by-set (λ (s : Standing). s.faults) writers q t t within, get_or-le-sum_by (λ (s : Standing). s.faults) writers q t within)
