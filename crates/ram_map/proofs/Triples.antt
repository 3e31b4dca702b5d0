-- Entries as triples, in the order that a sort gives them.
use Rattle.std.specs.Prelude.{◌≡◌, ℕ, ◌+◌, ◌<◌, false, List, [], ◌∷◌, ◌++◌, length, map, slice_index_or, refl}
use Rattle.std.proofs.Common.{sym, ◌∙◌, ap, subst, arith, true≢false, append_assoc}
use Rattle.std.specs.Ordering.{nat_cmp, ordering_then, ordering_reverse, is_lt, is_eq}
use Rattle.std.specs.declared.cmp.Ordering.{Ordering}
use Rattle.std.specs.declared.cmp.Ordering.TheVariants.{Less, Equal, Greater}
use Rattle.std.specs.Cmp.{eq_by_cmp_equiv}
use Rattle.std.specs.Cmp.Lexicographic.{slice_cmp}
use Rattle.std.specs.FinMap.{entries, from_entries}
use Rattle.std.specs.List.{IsDistinct}
use Rattle.std.specs.List.Sorted.{IsPermutation, IsSorted, IsStrictlySortedBy}
use Rattle.std.specs.Map.{keys_of}
use Rattle.std.proofs.lemmas.List.{append-nil, get_or-map, length-map, map-append}
use Rattle.std.proofs.lemmas.List.Sorted.{IsPermutation-map}
use Rattle.std.proofs.lemmas.Map.Keys.{apart_from_distinct, sorted_from_all_adjacent, IsDistinct-IsPermutation}
use Rattle.hr_base.specs.Entries.{Key, Content, key_cmp, key_at, content_of, is_key}
use Rattle.hr_base.proofs.EntryLaws.{key_total, key_exact}
use Rattle.std.specs.HashMap.{HashMap}
use Rattle.ram_map.specs.Nested.{entries_under, flat_entries, triple_of}
use Rattle.ram_map.proofs.FinMaps.{entries_in_order}

-- the order of std on triples
abbrev pub triple_cmp : ℕ × List ℕ × List ℕ → ℕ × List ℕ × List ℕ → Ordering
triple_cmp x y = ordering_then (ordering_then (nat_cmp x.0 y.0) (slice_cmp nat_cmp x.1 y.1)) (slice_cmp nat_cmp x.2 y.2)

entry_of : ℕ × List ℕ × List ℕ → Key × Content
entry_of t = (key_at t.0 t.1, content_of t.2)

map-map-back : {A B : Type 0} (f : A → B) (g : B → A) → ((x : A) → g (f x) ≡ x) → (xs : List A) → map g (map f xs) ≡ xs
map-map-back f g back [] = refl
map-map-back f g back (x ∷ xs) = λ i. back x i ∷ map-map-back f g back xs i

-- keys that are not one, of which the later is not below the earlier, rise
rises : (a b s : Ordering) → b ≡ ordering_reverse a → is_eq a ≡ false → is_lt (ordering_then b s) ≡ false → a ≡ Less
rises Less b s turn apart h = refl
rises Equal b s turn apart h = absurd (true≢false apart)
rises Greater b s turn apart h = absurd (true≢false (ap (λ (x : Ordering). is_lt (ordering_then x s)) (sym turn) ∙ h))

key_of_entry : (ts : List (ℕ × List ℕ × List ℕ)) (k : ℕ) (t : ℕ × List ℕ × List ℕ) → k < length ts → slice_index_or (keys_of (map entry_of ts)) k (key_at t.0 t.1) ≡ key_at (slice_index_or ts k t).0 (slice_index_or ts k t).1
unfolding entry_of
key_of_entry ts k t h =
    get_or-map (λ (e : Key × Content). e.0) (map entry_of ts) k (entry_of t) (key_at t.0 t.1) (omega (arith, length-map ts entry_of)) ∙ ap (λ (e : Key × Content). e.0) (get_or-map entry_of ts k t (entry_of t) h)

-- sorted triples whose keys are distinct have keys that rise
keys_rise : (ts : List (ℕ × List ℕ × List ℕ)) → IsDistinct is_key (keys_of (map entry_of ts)) → IsSorted triple_cmp ts → IsStrictlySortedBy key_cmp (keys_of (map entry_of ts))
keys_rise ts d s =
    let t : ℕ × List ℕ × List ℕ = (0, [], []) in
    sorted_from_all_adjacent key_total (keys_of (map entry_of ts)) (key_at 0 []) (λ k h.
    let here : k + 1 < length ts = omega (arith, h, length-map (map entry_of ts) (λ (e : Key × Content). e.0), length-map ts entry_of) in
    let a = slice_index_or ts k t in
    let b = slice_index_or ts (k + 1) t in
    let apart = apart_from_distinct is_key (keys_of (map entry_of ts)) k (k + 1) (key_at 0 []) d (omega arith) h in
    let x = key_of_entry ts k t (omega (arith, here)) in
    let y = key_of_entry ts (k + 1) t here in
    let rise : key_cmp (key_at a.0 a.1) (key_at b.0 b.1) ≡ Less =
    rises (key_cmp (key_at a.0 a.1) (key_at b.0 b.1)) (key_cmp (key_at b.0 b.1) (key_at a.0 a.1)) (slice_cmp nat_cmp b.2 a.2) (key_total.antisymm (key_at b.0 b.1) (key_at a.0 a.1))
    (ap (λ (k : Key). is_key k (key_at b.0 b.1)) (sym x) ∙ ap (λ (l : Key). is_key (slice_index_or (keys_of (map entry_of ts)) k (key_at 0 [])) l) (sym y) ∙ apart)
    (s k t (omega arith) here) in
    ap (λ (l : Key). key_cmp l (slice_index_or (keys_of (map entry_of ts)) (k + 1) (key_at 0 []))) x ∙ ap (key_cmp (key_at a.0 a.1)) y ∙ rise)

-- a sort of the triples of a list in which no key stands twice gives those of its map, in the map's order
pub triples_in_order : (es : List (Key × Content)) (ts : List (ℕ × List ℕ × List ℕ)) → IsDistinct is_key (keys_of es) → IsPermutation (map triple_of es) ts → IsSorted triple_cmp ts
    → ts ≡ map triple_of (entries (from_entries {R = key_cmp} es))
unfolding entry_of
triples_in_order es ts d moves s =
    let moved = subst (λ (l : List (Key × Content)). IsPermutation l (map entry_of ts)) (map-map-back triple_of entry_of (λ e. refl) es) (IsPermutation-map entry_of _ _ moves) in
    let distinct = IsDistinct-IsPermutation is_key (eq_by_cmp_equiv key_total).symm (keys_of es) (keys_of (map entry_of ts)) (IsPermutation-map (λ (e : Key × Content). e.0) _ _ moved) d in
    sym (ap (map triple_of) (entries_in_order key_total key_exact es (map entry_of ts) d moved (keys_rise ts distinct s)) ∙ map-map-back entry_of triple_of (λ t. refl) ts)

-- ---- triples that are put one after another

module _ {K : Type 0} (bytes : K → List ℕ) where
  -- one more of those that are left
  pub triples_more : (p : ℕ) (ts ts' : List (ℕ × List ℕ × List ℕ)) (rest rest' : List (K × List ℕ)) (k : K) (v : List ℕ) → ts' ≡ ts ++ (p, bytes k, v) ∷ [] → rest ≡ (k, v) ∷ rest'
      → ts' ++ map triple_of (entries_under bytes p rest') ≡ ts ++ map triple_of (entries_under bytes p rest)
  triples_more p ts ts' rest rest' k v put left =
      ap (λ (t : List (ℕ × List ℕ × List ℕ)). t ++ map triple_of (entries_under bytes p rest')) put ∙ append_assoc ts ((p, bytes k, v) ∷ []) (map triple_of (entries_under bytes p rest'))
      ∙ ap (λ (r : List (K × List ℕ)). ts ++ map triple_of (entries_under bytes p r)) (sym left)

  -- all of them, once none is left
  pub triples_whole : (p : ℕ) (ts all : List (ℕ × List ℕ × List ℕ)) (rest : List (K × List ℕ)) → ts ++ map triple_of (entries_under bytes p rest) ≡ all → rest ≡ [] → ts ≡ all
  triples_whole p ts all rest is none = sym (append-nil ts) ∙ ap (λ (r : List (K × List ℕ)). ts ++ map triple_of (entries_under bytes p r)) (sym none) ∙ is

  module _ {S : Type 0} where
    -- those of one more map
    pub maps_more : (ts ts' : List (ℕ × List ℕ × List ℕ)) (rest rest' : List (ℕ × HashMap K (List ℕ) S)) (p : ℕ) (m : HashMap K (List ℕ) S)
        → ts' ≡ ts ++ map triple_of (entries_under bytes p m.entries) → rest ≡ (p, m) ∷ rest'
        → ts' ++ map triple_of (flat_entries bytes rest') ≡ ts ++ map triple_of (flat_entries bytes rest)
    maps_more ts ts' rest rest' p m put left =
        ap (λ (t : List (ℕ × List ℕ × List ℕ)). t ++ map triple_of (flat_entries bytes rest')) put ∙ append_assoc ts (map triple_of (entries_under bytes p m.entries)) (map triple_of (flat_entries bytes rest'))
        ∙ ap (λ (t : List (ℕ × List ℕ × List ℕ)). ts ++ t) (sym (map-append triple_of (entries_under bytes p m.entries) (flat_entries bytes rest')))
        ∙ ap (λ (r : List (ℕ × HashMap K (List ℕ) S)). ts ++ map triple_of (flat_entries bytes r)) (sym left)

    pub maps_whole : (ts all : List (ℕ × List ℕ × List ℕ)) (rest : List (ℕ × HashMap K (List ℕ) S)) → ts ++ map triple_of (flat_entries bytes rest) ≡ all → rest ≡ [] → ts ≡ all
    maps_whole ts all rest is none = sym (append-nil ts) ∙ ap (λ (r : List (ℕ × HashMap K (List ℕ) S)). ts ++ map triple_of (flat_entries bytes r)) (sym none) ∙ is
