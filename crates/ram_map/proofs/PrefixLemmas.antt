-- The keys of one prefix among all: how many they are, what is left without them, and that no key stands twice.
use Rattle.std.specs.Prelude.{◌≡◌, ℕ, ◌==◌, Bool, true, false, not, cond, List, [], ◌∷◌, ◌++◌, length, nat_eq, Option, None, option_map, option_and_then, refl}
use Rattle.std.proofs.Common.{sym, ◌∙◌, ap, subst, eq-eqb}
use Rattle.std.specs.Cmp.{nat_eq_equiv}
use Rattle.std.specs.Cmp.Lexicographic.{pointwise}
use Rattle.std.specs.FinMap.{find, get, retain_keys, from_entries, len, get-retain_keys, get-from_entries}
use Rattle.std.specs.HashMap.{HashMap}
use Rattle.std.specs.List.{IsDistinct, AllByRecursion}
use Rattle.std.specs.Map.{lookup, keys_of}
use Rattle.std.proofs.lemmas.Bool.Decides.{Decides-eqb}
use Rattle.std.proofs.lemmas.List.{append-nil, length-map}
use Rattle.std.proofs.lemmas.Map.Keys.{IsDistinct-head, IsDistinct-tail, IsDistinct-cons}
use Rattle.hr_base.specs.Entries.{Key, Content, key_cmp, key_at, content_of, is_key, count_under, without_prefix}
use Rattle.hr_base.proofs.EntryLaws.{key_total, key_exact, same_entries}
use Rattle.ram_map.specs.Nested.{has_bytes, same_bytes, entries_under, flat_entries, all_entries, nested_get}
use Rattle.ram_map.proofs.FinMaps.{len-from_entries, len-retain_keys}
use Rattle.ram_map.proofs.NestedLemmas.{key_ties, find_own, find_other, first_of_two-none, get-all_entries}

same_prefix : (p : ℕ) → nat_eq p p ≡ true
same_prefix p = eq-eqb p p refl

none_distinct : {A : Type 0} (eq : A → A → Bool) → IsDistinct eq []
unfolding IsDistinct
none_distinct eq = tt

module _ {K : Type 0} (bytes : K → List ℕ) where
  pub none_distinct_keys : IsDistinct (same_bytes bytes) []
  none_distinct_keys = none_distinct (same_bytes bytes)

  module _ (p : ℕ) (rest : List (Key × Content)) where
    apart_from : (b : List ℕ) (es : List (K × List ℕ)) → AllByRecursion (λ y. pointwise nat_eq b (bytes y) ≡ false) (keys_of es) → AllByRecursion (λ k. nat_eq p k.prefix ≡ false) (keys_of rest)
        → AllByRecursion (λ k. is_key (key_at p b) k ≡ false) (keys_of (entries_under bytes p es ++ rest))
    apart_from b [] own others = by rest others
      where
        by : (rest : List (Key × Content)) → AllByRecursion (λ k. nat_eq p k.prefix ≡ false) (keys_of rest) → AllByRecursion (λ k. is_key (key_at p b) k ≡ false) (keys_of rest)
        by [] h = h
        by (e ∷ es) h = (key_ties (key_at p b) e.0.prefix e.0.bytes ∙ ap (λ t. cond t (pointwise nat_eq b e.0.bytes) false) h.0, by es h.1)
    apart_from b (e ∷ es) own others =
        (key_ties (key_at p b) p (bytes e.0) ∙ ap (λ t. cond t (pointwise nat_eq b (bytes e.0)) false) (same_prefix p) ∙ own.0, apart_from b es own.1 others)

    -- the entries of one map before others that are of other prefixes
    under_distinct : (es : List (K × List ℕ)) → IsDistinct (same_bytes bytes) (keys_of es) → IsDistinct is_key (keys_of rest) → AllByRecursion (λ k. nat_eq p k.prefix ≡ false) (keys_of rest)
        → IsDistinct is_key (keys_of (entries_under bytes p es ++ rest))
    under_distinct [] own d others = d
    under_distinct (e ∷ es) own d others =
        IsDistinct-cons is_key (key_at p (bytes e.0)) (keys_of (entries_under bytes p es ++ rest))
        (apart_from (bytes e.0) es (IsDistinct-head (same_bytes bytes) e.0 (keys_of es) own) others)
        (under_distinct es (IsDistinct-tail (same_bytes bytes) e.0 (keys_of es) own) d others)

  other_prefix : (p o : ℕ) (es : List (K × List ℕ)) (rest : List (Key × Content)) → nat_eq p o ≡ false → AllByRecursion (λ k. nat_eq p k.prefix ≡ false) (keys_of rest)
      → AllByRecursion (λ k. nat_eq p k.prefix ≡ false) (keys_of (entries_under bytes o es ++ rest))
  other_prefix p o [] rest apart h = h
  other_prefix p o (e ∷ es) rest apart h = (apart, other_prefix p o es rest apart h)

  module _ {S : Type 0} where
    other_prefixes : (p : ℕ) (ms : List (ℕ × HashMap K (List ℕ) S)) → AllByRecursion (λ y. nat_eq p y ≡ false) (keys_of ms) → AllByRecursion (λ k. nat_eq p k.prefix ≡ false) (keys_of (flat_entries bytes ms))
    other_prefixes p [] h = h
    other_prefixes p (m ∷ ms) h = other_prefix p m.0 m.1.entries (flat_entries bytes ms) h.0 (other_prefixes p ms h.1)

    -- no key stands twice among all entries, where no prefix does and no key does in a map
    pub flat_distinct : (ms : List (ℕ × HashMap K (List ℕ) S)) → IsDistinct nat_eq (keys_of ms) → AllByRecursion (λ m. IsDistinct (same_bytes bytes) (keys_of m.1.entries)) ms → IsDistinct is_key (keys_of (flat_entries bytes ms))
    unfolding IsDistinct
    flat_distinct [] outer inner = tt
    flat_distinct (m ∷ ms) outer inner =
        under_distinct m.0 (flat_entries bytes ms) m.1.entries inner.0 (flat_distinct ms (IsDistinct-tail nat_eq m.0 (keys_of ms) outer) inner.1) (other_prefixes m.0 ms (IsDistinct-head nat_eq m.0 (keys_of ms) outer))

    module _ (ms : List (ℕ × HashMap K (List ℕ) S)) (p : ℕ) (d : IsDistinct nat_eq (keys_of ms)) where
      -- what a part of the keys, by prefix, answers
      get-part : (test : ℕ → Bool) (q : Key) → get (retain_keys (all_entries bytes ms) (λ k. test k.prefix)) q ≡ cond (test q.prefix) (option_map content_of (nested_get bytes ms q.prefix q.bytes)) None
      get-part test q =
          get-retain_keys (all_entries bytes ms) (λ k. test k.prefix) q (λ x t. ap (λ k. test k.prefix) (sym (key_exact q x t))) ∙ ap (λ r. cond (test q.prefix) r None) (get-all_entries bytes ms q d)

      -- what is under a prefix is the map there
      under_is : (es : List (K × List ℕ)) → ((b : List ℕ) → nested_get bytes ms p b ≡ lookup (has_bytes bytes b) es)
          → from_entries (entries_under bytes p es) ≡ retain_keys (all_entries bytes ms) (λ k. p == k.prefix)
      under_is es is = same_entries _ _ (λ q. get-from_entries key_total (entries_under bytes p es) q ∙ ap (find key_cmp q) (sym (append-nil (entries_under bytes p es))) ∙ by q (nat_eq q.prefix p) refl ∙ sym (get-part (λ x. p == x) q))
        where
          by : (q : Key) (t : Bool) → nat_eq q.prefix p ≡ t → find key_cmp q (entries_under bytes p es ++ []) ≡ cond (p == q.prefix) (option_map content_of (nested_get bytes ms q.prefix q.bytes)) None
          by q true here =
              find_own bytes q p es [] here ∙ first_of_two-none _
              ∙ ap (option_map content_of) (sym (ap (λ x. nested_get bytes ms x q.bytes) ((Decides-eqb q.prefix p).0 here) ∙ is q.bytes))
              ∙ ap (λ t. cond t (option_map content_of (nested_get bytes ms q.prefix q.bytes)) None) (sym (nat_eq_equiv.symm p q.prefix ∙ here))
          by q false there =
              find_other bytes q p es [] there
              ∙ ap (λ t. cond t (option_map content_of (nested_get bytes ms q.prefix q.bytes)) None) (sym (nat_eq_equiv.symm p q.prefix ∙ there))

      -- and has as many keys
      pub count_under_is : (es : List (K × List ℕ)) → IsDistinct (same_bytes bytes) (keys_of es) → ((b : List ℕ) → nested_get bytes ms p b ≡ lookup (has_bytes bytes b) es) → count_under p (all_entries bytes ms) ≡ length es
      count_under_is es own is =
          sym (len-retain_keys key_total key_exact (all_entries bytes ms) (λ k. p == k.prefix)) ∙ ap len (sym (under_is es is))
          ∙ len-from_entries key_total (entries_under bytes p es) (subst (λ l. IsDistinct is_key (keys_of l)) (append-nil (entries_under bytes p es)) (under_distinct p [] es own (none_distinct is_key) tt))
          ∙ length-map es (λ e. (key_at p (bytes e.0), content_of e.1))

      -- the maps without the map of a prefix
      pub all_entries-cleared : (ns : List (ℕ × HashMap K (List ℕ) S)) → IsDistinct nat_eq (keys_of ns) → ((o : ℕ) → lookup (nat_eq o) ns ≡ cond (nat_eq p o) None (lookup (nat_eq o) ms))
          → all_entries bytes ns ≡ without_prefix p (all_entries bytes ms)
      all_entries-cleared ns e removed = same_entries _ _ (λ q.
          get-all_entries bytes ns q e ∙ ap (λ o. option_map content_of (option_and_then (λ m. lookup (has_bytes bytes q.bytes) m.entries) o)) (removed q.prefix)
          ∙ unless (nat_eq p q.prefix) (lookup (nat_eq q.prefix) ms) q.bytes ∙ sym (get-part (λ x. not (p == x)) q))
        where
          unless : (t : Bool) (o : Option (HashMap K (List ℕ) S)) (b : List ℕ)
              → option_map content_of (option_and_then (λ m. lookup (has_bytes bytes b) m.entries) (cond t None o)) ≡ cond (not t) (option_map content_of (option_and_then (λ m. lookup (has_bytes bytes b) m.entries) o)) None
          unless true o b = refl
          unless false o b = refl
