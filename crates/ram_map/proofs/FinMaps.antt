-- Finite maps with a part of their keys, and how their entries follow from a list of them.
use Rattle.std.specs.Prelude.{◌≡◌, suc, ◌+◌, Bool, true, false, ◌&&◌, not, cond, T, List, [], ◌∷◌, length, map, count_by, None, Some, refl}
use Rattle.std.proofs.Common.{sym, ◌∙◌, ap, subst}
use Rattle.std.specs.FinMap.{FinMap, IsAntisymmetric, entries, entries_sorted, empty, retain_keys, len, keys, from_entries, from_sorted, find, put, is_sorted, get-entries, len-entries, len-empty, get-retain_keys, get-from_sorted, get-from_entries, entries-from_sorted, entries-insert, same_map}
use Rattle.std.specs.FinMap.Entries.{by_order, where_key, below_all, is_sorted-where_key, find-where_key}
use Rattle.std.specs.Ordering.{eq_by_cmp, is_lt, is_eq}
use Rattle.std.specs.declared.cmp.Ordering.{Ordering}
use Rattle.std.specs.declared.cmp.Ordering.TheVariants.{Less, Equal, Greater}
use Rattle.std.specs.Cmp.{IsTotalOrder, eq_by_cmp_equiv}
use Rattle.std.specs.List.{IsDistinct, AllByRecursion, filter}
use Rattle.std.specs.List.Sorted.{IsPermutation, IsStrictlySortedBy}
use Rattle.std.specs.Map.{keys_of, lookup}
use Rattle.std.proofs.lemmas.List.{length-map, nil_from_length}
use Rattle.std.proofs.lemmas.List.Sums.{length-filter}
use Rattle.std.proofs.lemmas.List.Filters.{length-filter_both}
use Rattle.std.proofs.lemmas.List.Sorted.{IsPermutation-refl, IsPermutation-cons, IsPermutation-trans, IsPermutation-map, IsPermutation-middle, sum_by-IsPermutation, length_permutation}
use Rattle.std.proofs.lemmas.Map.Keys.{sorted_head, sorted_tail, IsDistinct-head, IsDistinct-tail, IsDistinct-from_sorted}
use Rattle.indexmap.proofs.MapLemmas.{lookup_permutation}

module _ {X Y : Type 0} (f : X → Y) (p : Y → Bool) where
  length-filter-map : (xs : List X) → length (filter p (map f xs)) ≡ length (filter (λ x. p (f x)) xs)
  length-filter-map [] = refl
  length-filter-map (x ∷ xs) =
      elim (p (f x)) as (λ t. length (cond t (f x ∷ filter p (map f xs)) (filter p (map f xs))) ≡ length (cond t (x ∷ filter (λ x. p (f x)) xs) (filter (λ x. p (f x)) xs))) [
        | true ↦ ap suc (length-filter-map xs)
        | false ↦ length-filter-map xs
      ]

  pub count_by-map : (xs : List X) → count_by p (map f xs) ≡ count_by (λ x. p (f x)) xs
  count_by-map xs = sym (length-filter p (map f xs)) ∙ length-filter-map xs ∙ length-filter (λ x. p (f x)) xs

both : (a b : Bool) → T a → T b → T (a && b)
both true b p q = q
both false b p q = p

is_less : (r : Ordering) → r ≡ Less → T (is_lt r)
is_less r e = subst (λ r. T (is_lt r)) (sym e) tt

pub length-keys : {K X : Type 0} {R : K → K → Ordering} (m : FinMap R X) → length (keys m) ≡ len m
length-keys m = length-map (entries m) (λ e. e.0) ∙ sym (len-entries m)

module _ {K X : Type 0} (R : K → K → Ordering) where
  below_each : (k : K) (es : List (K × X)) → AllByRecursion (λ y. R k y ≡ Less) (keys_of es) → T (below_all R k es)
  below_each k [] h = tt
  below_each k (e ∷ es) h = both _ _ (is_less _ h.0) (below_each k es h.1)

  pub sorted_from_keys : (es : List (K × X)) → IsStrictlySortedBy R (keys_of es) → T (is_sorted R es)
  sorted_from_keys [] h = tt
  sorted_from_keys (e ∷ es) h = both _ _ (below_each e.0 es (sorted_head R e.0 (keys_of es) h)) (sorted_from_keys es (sorted_tail R e.0 (keys_of es) h))

  find-lookup : (q : K) (es : List (K × X)) → find R q es ≡ lookup (eq_by_cmp R q) es
  find-lookup q [] = refl
  find-lookup q (e ∷ es) = ap (cond (eq_by_cmp R q e.0) (Some e.1)) (find-lookup q es)

  find_apart : (q : K) (es : List (K × X)) → AllByRecursion (λ y. eq_by_cmp R q y ≡ false) (keys_of es) → find R q es ≡ None
  find_apart q [] h = refl
  find_apart q (e ∷ es) h = ap (λ t. cond t (Some e.1) (find R q es)) h.0 ∙ find_apart q es h.1

  IsPermutation-put : (k : K) (v : X) (es : List (K × X)) → find R k es ≡ None → IsPermutation ((k, v) ∷ es) (put R k v es)
  IsPermutation-put k v [] none = IsPermutation-refl _
  IsPermutation-put k v (e ∷ es) none =
      elim (R k e.0) as (λ r. cond (is_eq r) (Some e.1) (find R k es) ≡ None → IsPermutation ((k, v) ∷ e ∷ es) (by_order r ((k, v) ∷ e ∷ es) ((e.0, v) ∷ es) (e ∷ put R k v es))) [
        | Less ↦ λ n. IsPermutation-refl _
        | Equal ↦ λ n. cc
        | Greater ↦ λ n. IsPermutation-trans _ _ _ (IsPermutation-middle ((k, v) ∷ []) e es) (IsPermutation-cons e _ _ (IsPermutation-put k v es n))
      ] none

  entries-empty : entries (empty {X = X} {R = R}) ≡ []
  entries-empty = nil_from_length _ (sym (len-entries empty) ∙ len-empty R X)

module _ {K X : Type 0} {R : K → K → Ordering} (o : IsTotalOrder R) where
  -- the entries of a map that is made from a list with no key twice are those of the list
  pub entries_from_list : (es : List (K × X)) → IsDistinct (eq_by_cmp R) (keys_of es) → IsPermutation es (entries (from_entries {R = R} es))
  entries_from_list [] d = subst (λ l. IsPermutation [] l) (sym (entries-empty R)) (IsPermutation-refl [])
  entries_from_list (e ∷ es) d =
      let m = from_entries {R = R} es in
      let new : find R e.0 (entries m) ≡ None = sym (get-entries m e.0) ∙ get-from_entries o es e.0 ∙ find_apart R e.0 es (IsDistinct-head (eq_by_cmp R) e.0 (keys_of es) d) in
      subst (λ l. IsPermutation (e ∷ es) l) (sym (entries-insert o m e.0 e.1))
      (IsPermutation-trans _ _ _ (IsPermutation-cons e es (entries m) (entries_from_list es (IsDistinct-tail (eq_by_cmp R) e.0 (keys_of es) d))) (IsPermutation-put R e.0 e.1 (entries m) new))

  pub count_by-from_entries : (p : K → Bool) (es : List (K × X)) → IsDistinct (eq_by_cmp R) (keys_of es) → count_by p (keys (from_entries {R = R} es)) ≡ count_by p (keys_of es)
  count_by-from_entries p es d = sum_by-IsPermutation (λ k. cond (p k) 1 0) _ _ (IsPermutation-map (λ e. e.0) _ _ (entries_from_list es d))

  pub len-from_entries : (es : List (K × X)) → IsDistinct (eq_by_cmp R) (keys_of es) → len (from_entries {R = R} es) ≡ length es
  len-from_entries es d = len-entries _ ∙ length_permutation _ _ (entries_from_list es d)

  module _ (exact : IsAntisymmetric R) where
    entries-retain_keys : (m : FinMap R X) (p : K → Bool) → entries (retain_keys m p) ≡ where_key R p (entries m)
    entries-retain_keys m p =
        let sorted = is_sorted-where_key R p (entries m) (entries_sorted m) in
        ap entries (same_map o exact (retain_keys m p) (from_sorted (where_key R p (entries m))) (λ q.
        let alike : (x : K) → R q x ≡ Equal → p x ≡ p q = λ x t. ap p (sym (exact q x t)) in
        get-retain_keys m p q alike ∙ ap (λ r. cond (p q) r None) (get-entries m q) ∙ sym (get-from_sorted R (where_key R p (entries m)) q sorted ∙ find-where_key R p q alike (entries m))))
        ∙ entries-from_sorted R (where_key R p (entries m)) sorted

    -- as many keys are kept as pass
    pub len-retain_keys : (m : FinMap R X) (p : K → Bool) → len (retain_keys m p) ≡ count_by p (keys m)
    len-retain_keys m p = len-entries (retain_keys m p) ∙ ap length (entries-retain_keys m p) ∙ length-filter (λ e. p e.0) (entries m) ∙ sym (count_by-map (λ e. e.0) p (entries m))

    -- and those that pass and those that do not are all
    pub count_by_both : (m : FinMap R X) (p : K → Bool) → count_by p (keys m) + len (retain_keys m (λ k. not (p k))) ≡ len m
    count_by_both m p =
        let passing = count_by-map (λ (e : K × X). e.0) p (entries m) ∙ sym (length-filter (λ e. p e.0) (entries m)) in
        let others = len-entries (retain_keys m (λ k. not (p k))) ∙ ap length (entries-retain_keys m (λ k. not (p k))) in
        ap (λ n. n + len (retain_keys m (λ k. not (p k)))) passing ∙ ap (λ n. length (filter (λ (e : K × X). p e.0) (entries m)) + n) others
        ∙ length-filter_both (λ e. p e.0) (λ e. not (p e.0)) (λ e. refl) (entries m) ∙ sym (len-entries m)

    -- the entries of that map are the list's in the order of their keys
    pub entries_in_order : (es fs : List (K × X)) → IsDistinct (eq_by_cmp R) (keys_of es) → IsPermutation es fs → IsStrictlySortedBy R (keys_of fs) → entries (from_entries {R = R} es) ≡ fs
    entries_in_order es fs d moves s =
        let sorted = sorted_from_keys R fs s in
        let equiv = eq_by_cmp_equiv o in
        ap entries (same_map o exact (from_entries es) (from_sorted fs) (λ q.
        get-from_entries o es q ∙ find-lookup R q es ∙ sym (get-from_sorted R fs q sorted ∙ find-lookup R q fs ∙ lookup_permutation equiv es fs moves (IsDistinct-from_sorted R (keys_of fs) s) (eq_by_cmp R q) (equiv.congr q))))
        ∙ entries-from_sorted R fs sorted
