-- What one map of all entries answers is what the look-ups in the nested maps find.
use Rattle.std.proofs.Common.{◌≡◌, ℕ, Bool, true, false, cond, List, [], ◌∷◌, ◌++◌, nat_eq, Option, None, Some, option_map, option_and_then, IsSome, refl, sym, ap, ◌∙◌, true≢false}
use Rattle.std.specs.Ordering.{is_eq, nat_cmp, ordering_then}
use Rattle.std.specs.declared.cmp.Ordering.{Ordering}
use Rattle.std.specs.declared.cmp.Ordering.TheVariants.{Less, Equal, Greater}
use Rattle.std.specs.Cmp.{nat_eq_equiv, unsigned_ties}
use Rattle.std.specs.Cmp.Lexicographic.{pointwise, slice_cmp, bytes_decides, nat_list_eq_equiv, texts_ties}
use Rattle.std.specs.FinMap.{empty, find, get, insert, remove, from_entries, get-from_entries, get-insert, get-remove}
use Rattle.std.specs.HashMap.{HashMap}
use Rattle.std.specs.List.{IsDistinct}
use Rattle.std.specs.Map.{lookup, keys_of, KeepsOthers}
use Rattle.std.proofs.lemmas.Map.{NonePasses}
use Rattle.std.proofs.lemmas.Map.Keys.{IsDistinct-tail}
use Rattle.std.proofs.lemmas.Map.Entries.{none_past_head}
use Rattle.std.proofs.lemmas.Bool.Decides.{Decides-eqb}
use Rattle.indexmap.specs.IndexMap.{insert_entry}
use Rattle.hr_base.specs.Entries.{Key, Content, key_cmp, key_at, content_of}
use Rattle.hr_base.specs.Entries.{is_key}
use Rattle.hr_base.proofs.EntryLaws.{key_total, same_entries}
use Rattle.ram_map.specs.Nested.{has_bytes, entries_under, flat_entries, all_entries, nested_get}

-- two keys tie where the prefixes and the bytes do
then_ties : (a b : Ordering) → is_eq (ordering_then a b) ≡ cond (is_eq a) (is_eq b) false
then_ties Less b = refl
then_ties Equal b = refl
then_ties Greater b = refl

pub key_ties : (q : Key) (p : ℕ) (b : List ℕ) → is_key q (key_at p b) ≡ cond (nat_eq q.prefix p) (pointwise nat_eq q.bytes b) false
key_ties q p b = then_ties (nat_cmp q.prefix p) (slice_cmp nat_cmp q.bytes b) ∙ (λ i. cond (sym (unsigned_ties q.prefix p) i) (sym (texts_ties q.bytes b) i) false)

-- the first that there is
abbrev pub first_of_two : {X : Type 0} → Option X → Option X → Option X
first_of_two None o = o
first_of_two (Some x) o = Some x

pub first_of_two-none : {X : Type 0} (o : Option X) → first_of_two o None ≡ o
first_of_two-none None = refl
first_of_two-none (Some x) = refl

first_by_test : (b : Bool) (v : List ℕ) (o : Option (List ℕ)) (r : Option Content)
    → cond b (Some (content_of v)) (first_of_two (option_map content_of o) r) ≡ first_of_two (option_map content_of (cond b (Some v) o)) r
first_by_test true v o r = refl
first_by_test false v o r = refl

-- two tests, of which the inner branch of a repeated one is never reached
shadowed : {X : Type 0} (t : Bool) (x y z : X) → cond t x z ≡ cond t x (cond t y z)
shadowed true x y z = refl
shadowed false x y z = refl

-- and two that never both pass, in either order
swapped : {X : Type 0} (s t : Bool) (x y z : X) → (s ≡ true → t ≡ true → ⊥) → cond s x (cond t y z) ≡ cond t y (cond s x z)
swapped true true x y z apart = absurd (apart refl refl)
swapped true false x y z apart = refl
swapped false t x y z apart = refl

pub option_map-option_map : {X Y Z : Type 0} (f : Y → Z) (g : X → Y) (o : Option X) → option_map (λ x. f (g x)) o ≡ option_map f (option_map g o)
option_map-option_map f g None = refl
option_map-option_map f g (Some x) = refl

pub IsSome-option_map : {X Y : Type 0} (f : X → Y) (o : Option X) → IsSome (option_map f o) → IsSome o
IsSome-option_map f None h = h
IsSome-option_map f (Some x) h = h

option_map-cond : (t : Bool) (w o : Option (List ℕ)) → option_map content_of (cond t w o) ≡ cond t (option_map content_of w) (option_map content_of o)
option_map-cond true w o = refl
option_map-cond false w o = refl

module _ {K : Type 0} (bytes : K → List ℕ) where
  -- an insert changes the answer for the key's bytes alone
  lookup-insert_entry : (b : List ℕ) (k : K) (v : List ℕ) (es : List (K × List ℕ))
      → lookup (has_bytes bytes b) (insert_entry (λ x y. pointwise nat_eq (bytes x) (bytes y)) es k v) ≡ cond (has_bytes bytes b k) (Some v) (lookup (has_bytes bytes b) es)
  lookup-insert_entry b k v [] = refl
  lookup-insert_entry b k v (e ∷ es) = by (has_bytes bytes (bytes k) e.0) refl (lookup-insert_entry b k v es)
    where
      by : (t : Bool) → has_bytes bytes (bytes k) e.0 ≡ t
          → lookup (has_bytes bytes b) (insert_entry (λ x y. pointwise nat_eq (bytes x) (bytes y)) es k v) ≡ cond (has_bytes bytes b k) (Some v) (lookup (has_bytes bytes b) es)
          → lookup (has_bytes bytes b) (cond t ((e.0, v) ∷ es) (e ∷ insert_entry (λ x y. pointwise nat_eq (bytes x) (bytes y)) es k v))
          ≡ cond (has_bytes bytes b k) (Some v) (cond (has_bytes bytes b e.0) (Some e.1) (lookup (has_bytes bytes b) es))
      by true same rest = shadowed (has_bytes bytes b e.0) (Some v) (Some e.1) (lookup (has_bytes bytes b) es)
          ∙ ap (λ c. cond (pointwise nat_eq b c) (Some v) (cond (has_bytes bytes b e.0) (Some e.1) (lookup (has_bytes bytes b) es))) (sym ((bytes_decides (bytes k) (bytes e.0)).0 same))
      by false apart rest = ap (cond (has_bytes bytes b e.0) (Some e.1)) rest
          ∙ swapped (has_bytes bytes b e.0) (has_bytes bytes b k) (Some e.1) (Some v) (lookup (has_bytes bytes b) es)
          (λ at_e at_k. true≢false (sym ((bytes_decides (bytes k) (bytes e.0)).1 (sym ((bytes_decides b (bytes k)).0 at_k) ∙ (bytes_decides b (bytes e.0)).0 at_e)) ∙ apart))

  -- where the key with the bytes kb is gone and others are kept, a look-up of other bytes finds what it found
  lookup-taken : (kb : List ℕ) (es fs : List (K × List ℕ)) → lookup (has_bytes bytes kb) fs ≡ None
      → KeepsOthers (λ x y. pointwise nat_eq (bytes x) (bytes y)) (has_bytes bytes kb) es fs
      → (b : List ℕ) → lookup (has_bytes bytes b) fs ≡ cond (pointwise nat_eq b kb) None (lookup (has_bytes bytes b) es)
  unfolding KeepsOthers
  lookup-taken kb es fs gone others b = by (pointwise nat_eq b kb) refl
    where
      by : (t : Bool) → pointwise nat_eq b kb ≡ t → lookup (has_bytes bytes b) fs ≡ cond t None (lookup (has_bytes bytes b) es)
      by true same = ap (λ x. lookup (has_bytes bytes x) fs) ((bytes_decides b kb).0 same) ∙ gone
      by false apart = others (has_bytes bytes b) (λ x y h. nat_list_eq_equiv.congr b (bytes x) (bytes y) h) (λ k h. lone k (pointwise nat_eq b (bytes k)) refl h)
        where
          lone : (k : K) (t : Bool) → pointwise nat_eq b (bytes k) ≡ t → pointwise nat_eq kb (bytes k) ≡ true → pointwise nat_eq b (bytes k) ≡ false
          lone k true at_b at_k = absurd (true≢false (sym ((bytes_decides b kb).1 ((bytes_decides b (bytes k)).0 at_b ∙ sym ((bytes_decides kb (bytes k)).0 at_k))) ∙ apart))
          lone k false at_b at_k = at_b

  pub find_own : (q : Key) (p : ℕ) (es : List (K × List ℕ)) (rest : List (Key × Content)) → nat_eq q.prefix p ≡ true
      → find key_cmp q (entries_under bytes p es ++ rest) ≡ first_of_two (option_map content_of (lookup (has_bytes bytes q.bytes) es)) (find key_cmp q rest)
  find_own q p [] rest same = refl
  find_own q p (e ∷ es) rest same =
      ap (λ t. cond t (Some (content_of e.1)) (find key_cmp q (entries_under bytes p es ++ rest))) (key_ties q p (bytes e.0) ∙ ap (λ t. cond t (has_bytes bytes q.bytes e.0) false) same)
      ∙ ap (cond (has_bytes bytes q.bytes e.0) (Some (content_of e.1))) (find_own q p es rest same)
      ∙ first_by_test (has_bytes bytes q.bytes e.0) e.1 (lookup (has_bytes bytes q.bytes) es) (find key_cmp q rest)

  pub find_other : (q : Key) (p : ℕ) (es : List (K × List ℕ)) (rest : List (Key × Content)) → nat_eq q.prefix p ≡ false
      → find key_cmp q (entries_under bytes p es ++ rest) ≡ find key_cmp q rest
  find_other q p [] rest apart = refl
  find_other q p (e ∷ es) rest apart =
      ap (λ t. cond t (Some (content_of e.1)) (find key_cmp q (entries_under bytes p es ++ rest))) (key_ties q p (bytes e.0) ∙ ap (λ t. cond t (has_bytes bytes q.bytes e.0) false) apart)
      ∙ find_other q p es rest apart

  module _ {S : Type 0} where
    find_absent : (q : Key) (ms : List (ℕ × HashMap K (List ℕ) S)) → NonePasses (nat_eq q.prefix) ms → find key_cmp q (flat_entries bytes ms) ≡ None
    find_absent q [] none = refl
    find_absent q (m ∷ ms) none = find_other q m.0 m.1.entries (flat_entries bytes ms) none.0 ∙ find_absent q ms none.1

    -- what a look-up of the prefix and then of the bytes finds
    find_all : (q : Key) (ms : List (ℕ × HashMap K (List ℕ) S)) → IsDistinct nat_eq (keys_of ms)
        → find key_cmp q (flat_entries bytes ms) ≡ option_map content_of (nested_get bytes ms q.prefix q.bytes)
    find_all q [] distinct = refl
    find_all q (m ∷ ms) distinct = by (nat_eq q.prefix m.0) refl (find_all q ms (IsDistinct-tail nat_eq m.0 (keys_of ms) distinct))
      where
        found : Bool → Option Content
        found b = option_map content_of (option_and_then (λ n. lookup (has_bytes bytes q.bytes) n.entries) (cond b (Some m.1) (lookup (nat_eq q.prefix) ms)))

        by : (b : Bool) → nat_eq q.prefix m.0 ≡ b → find key_cmp q (flat_entries bytes ms) ≡ option_map content_of (nested_get bytes ms q.prefix q.bytes)
            → find key_cmp q (flat_entries bytes (m ∷ ms)) ≡ found (nat_eq q.prefix m.0)
        by true same rest = find_own q m.0 m.1.entries (flat_entries bytes ms) same
            ∙ ap (first_of_two _) (find_absent q ms (none_past_head nat_eq_equiv q.prefix m ms distinct same))
            ∙ first_of_two-none _ ∙ ap found (sym same)
        by false apart rest = find_other q m.0 m.1.entries (flat_entries bytes ms) apart ∙ rest ∙ ap found (sym apart)

    -- at each key the maps as one answer as the look-ups do
    pub get-all_entries : (ms : List (ℕ × HashMap K (List ℕ) S)) (q : Key) → IsDistinct nat_eq (keys_of ms)
        → get (all_entries bytes ms) q ≡ option_map content_of (nested_get bytes ms q.prefix q.bytes)
    unfolding all_entries
    get-all_entries ms q distinct = get-from_entries key_total (flat_entries bytes ms) q ∙ find_all q ms distinct

    pub all_entries-empty : (ms : List (ℕ × HashMap K (List ℕ) S)) → ms ≡ [] → all_entries bytes ms ≡ empty
    unfolding all_entries
    all_entries-empty ms none = ap (λ l. from_entries (flat_entries bytes l)) none

    -- maps in which look-ups find the same are one as a whole
    pub same_all_entries : (ms ns : List (ℕ × HashMap K (List ℕ) S)) → IsDistinct nat_eq (keys_of ms) → IsDistinct nat_eq (keys_of ns)
        → ((p : ℕ) (b : List ℕ) → nested_get bytes ns p b ≡ nested_get bytes ms p b) → all_entries bytes ns ≡ all_entries bytes ms
    same_all_entries ms ns d e same = same_entries _ _ (λ q. get-all_entries ns q e ∙ ap (option_map content_of) (same q.prefix q.bytes) ∙ sym (get-all_entries ms q d))

    module _ (ms ns : List (ℕ × HashMap K (List ℕ) S)) (p : ℕ) (n : HashMap K (List ℕ) S)
        (replaced : (o : ℕ) → lookup (nat_eq o) ns ≡ cond (nat_eq p o) (Some n) (lookup (nat_eq o) ms)) where
      -- what a look-up finds under the prefix
      found_here : (o : ℕ) (b : List ℕ) → nat_eq p o ≡ true → nested_get bytes ns o b ≡ lookup (has_bytes bytes b) n.entries
      found_here o b here = ap (option_and_then (λ m. lookup (has_bytes bytes b) m.entries)) (replaced o ∙ ap (λ t. cond t (Some n) (lookup (nat_eq o) ms)) here)

      -- and under others
      found_there : (o : ℕ) (b : List ℕ) → nat_eq p o ≡ false → nested_get bytes ns o b ≡ nested_get bytes ms o b
      found_there o b there = ap (option_and_then (λ m. lookup (has_bytes bytes b) m.entries)) (replaced o ∙ ap (λ t. cond t (Some n) (lookup (nat_eq o) ms)) there)

      module _ (d : IsDistinct nat_eq (keys_of ms)) (e : IsDistinct nat_eq (keys_of ns)) where
        under : ((b : List ℕ) → lookup (has_bytes bytes b) n.entries ≡ nested_get bytes ms p b) → all_entries bytes ns ≡ all_entries bytes ms
        under alike = same_all_entries ms ns d e (λ o b. by o b (nat_eq p o) refl)
          where
            by : (o : ℕ) (b : List ℕ) (t : Bool) → nat_eq p o ≡ t → nested_get bytes ns o b ≡ nested_get bytes ms o b
            by o b true here = found_here o b here ∙ alike b ∙ ap (λ x. nested_get bytes ms x b) ((Decides-eqb p o).0 here)
            by o b false there = found_there o b there

        -- a map with the same entries, in the place of the map
        pub all_entries-kept : (m : HashMap K (List ℕ) S) → lookup (nat_eq p) ms ≡ Some m → n.entries ≡ m.entries → all_entries bytes ns ≡ all_entries bytes ms
        all_entries-kept m was is = under (λ b. ap (lookup (has_bytes bytes b)) is ∙ ap (option_and_then (λ x. lookup (has_bytes bytes b) x.entries)) (sym was))

        -- a map with no entry, where there was no map
        pub all_entries-opened : lookup (nat_eq p) ms ≡ None → n.entries ≡ [] → all_entries bytes ns ≡ all_entries bytes ms
        all_entries-opened was is = under (λ b. ap (lookup (has_bytes bytes b)) is ∙ ap (option_and_then (λ x. lookup (has_bytes bytes b) x.entries)) (sym was))

        -- a map that answers w for the bytes kb and else as m does, in the place of m
        changed : (m : HashMap K (List ℕ) S) (kb : List ℕ) (w : Option (List ℕ)) → lookup (nat_eq p) ms ≡ Some m
            → ((b : List ℕ) → lookup (has_bytes bytes b) n.entries ≡ cond (pointwise nat_eq b kb) w (lookup (has_bytes bytes b) m.entries))
            → (q : Key) → get (all_entries bytes ns) q ≡ cond (is_key q (key_at p kb)) (option_map content_of w) (get (all_entries bytes ms) q)
        changed m kb w was is q = get-all_entries ns q e ∙ by (nat_eq p q.prefix) refl
            ∙ ap (λ t. cond t (option_map content_of w) (option_map content_of (nested_get bytes ms q.prefix q.bytes))) (sym (key_ties q p kb ∙ ap (λ t. cond t (pointwise nat_eq q.bytes kb) false) (nat_eq_equiv.symm q.prefix p)))
            ∙ ap (cond (is_key q (key_at p kb)) (option_map content_of w)) (sym (get-all_entries ms q d))
          where
            by : (t : Bool) → nat_eq p q.prefix ≡ t
                → option_map content_of (nested_get bytes ns q.prefix q.bytes) ≡ cond (cond (nat_eq p q.prefix) (pointwise nat_eq q.bytes kb) false) (option_map content_of w) (option_map content_of (nested_get bytes ms q.prefix q.bytes))
            by true here = ap (option_map content_of) (
                found_here q.prefix q.bytes here ∙ is q.bytes
                ∙ ap (λ o. cond (pointwise nat_eq q.bytes kb) w (option_and_then (λ x. lookup (has_bytes bytes q.bytes) x.entries) o)) (sym was)
                ∙ ap (λ x. cond (pointwise nat_eq q.bytes kb) w (nested_get bytes ms x q.bytes)) ((Decides-eqb p q.prefix).0 here))
                ∙ option_map-cond (pointwise nat_eq q.bytes kb) w (nested_get bytes ms q.prefix q.bytes)
                ∙ ap (λ t. cond (cond t (pointwise nat_eq q.bytes kb) false) (option_map content_of w) (option_map content_of (nested_get bytes ms q.prefix q.bytes))) (sym here)
            by false there = ap (option_map content_of) (found_there q.prefix q.bytes there)
                ∙ ap (λ t. cond (cond t (pointwise nat_eq q.bytes kb) false) (option_map content_of w) (option_map content_of (nested_get bytes ms q.prefix q.bytes))) (sym there)

        -- a map with one more entry, in the place of the map without
        pub all_entries-put : (m : HashMap K (List ℕ) S) (k : K) (v : List ℕ) → lookup (nat_eq p) ms ≡ Some m
            → n.entries ≡ insert_entry (λ x y. pointwise nat_eq (bytes x) (bytes y)) m.entries k v
            → all_entries bytes ns ≡ insert (all_entries bytes ms) (key_at p (bytes k)) (content_of v)
        all_entries-put m k v was is = same_entries _ _ (λ q.
            changed m (bytes k) (Some v) was (λ b. ap (lookup (has_bytes bytes b)) is ∙ lookup-insert_entry b k v m.entries) q
            ∙ sym (get-insert key_total (all_entries bytes ms) (key_at p (bytes k)) (content_of v) q))

        -- a map without an entry, in the place of the map with it
        pub all_entries-taken : (m : HashMap K (List ℕ) S) (kb : List ℕ) → lookup (nat_eq p) ms ≡ Some m
            → lookup (has_bytes bytes kb) n.entries ≡ None → KeepsOthers (λ x y. pointwise nat_eq (bytes x) (bytes y)) (has_bytes bytes kb) m.entries n.entries
            → all_entries bytes ns ≡ remove (all_entries bytes ms) (key_at p kb)
        all_entries-taken m kb was gone others = same_entries _ _ (λ q.
            changed m kb None was (lookup-taken kb m.entries n.entries gone others) q ∙ sym (get-remove key_total (all_entries bytes ms) (key_at p kb) q))
