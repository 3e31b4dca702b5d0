-- Records in the order that a sort of their numbers gives.
use Rattle.std.specs.Prelude.{◌≡◌, ℕ, ◌<◌, ◌≤◌, false, List, length, All, slice_index_or, refl}
use Rattle.std.proofs.Common.{sym, ◌∙◌, ap, subst, arith}
use Rattle.std.specs.Ordering.{nat_cmp, ordering_then, is_lt}
use Rattle.std.specs.declared.cmp.Ordering.{Ordering}
use Rattle.std.specs.declared.cmp.Ordering.TheVariants.{Less, Equal, Greater}
use Rattle.std.specs.List.Sorted.{IsPermutation, IsSorted, IsNonDecreasingBy}
use Rattle.std.proofs.lemmas.List.{length-map, get_or-map, same_lists, get_or_default}
use Rattle.std.proofs.lemmas.List.Sorted.{All-permutation, Contains-permutation, IsPermutation-map, IsPermutation-sym, IsNonDecreasingBy-from_all_adjacent}
use Rattle.std.proofs.lemmas.Map.Keys.{ge_from_not_lt}
use Rattle.record_format.specs.declared.record.Record.{Record}
use Rattle.record_format.specs.Spelling.{seq_of}
use Rattle.crash_law.specs.Numbered.{IsIn}
use Rattle.crash_law.specs.Placed.{Placed, records_of}
use Rattle.crash_law.proofs.NumberedLaws.{Contains-from_in, in_from_Contains}
use Rattle.record_replay.specs.Orders.{IsNumbered, IsOrder, IsPlace, left_behind, records_at}

-- ---- a sort

-- the order of std on pairs
abbrev pub pair_cmp : ℕ × ℕ → ℕ × ℕ → Ordering
pair_cmp x y = ordering_then (nat_cmp x.0 y.0) (nat_cmp x.1 y.1)

not_lt_first : (a b : Ordering) → is_lt (ordering_then a b) ≡ false → is_lt a ≡ false
not_lt_first Less b h = h
not_lt_first Equal b h = refl
not_lt_first Greater b h = refl

rising_from_sort : (order : List (ℕ × ℕ)) → IsSorted pair_cmp order → IsNonDecreasingBy (λ e. e.0) order
rising_from_sort order s = IsNonDecreasingBy-from_all_adjacent (λ e. e.0) order (λ k d h.
    ge_from_not_lt _ _ (not_lt_first _ _ (s k d (omega arith) h)))

module _ (records : List Record) (order : List (ℕ × ℕ)) (n : IsNumbered records order) where
  numbered_places : All (IsPlace records) order
  numbered_places = λ k d h.
      let here : k < length records = omega (arith, n.count) in
      let is = n.each k d here in
      subst (λ (e : ℕ × ℕ). IsPlace records e) (sym is) (record { within = here; number = refl })

  all_places : records_at records order ≡ records
  all_places =
      let f : ℕ × ℕ → Record = λ e. slice_index_or records e.1 left_behind in
      same_lists (records_at records order) records (length-map order f ∙ n.count) (λ k d h.
      let within : k < length order = omega (arith, length-map order f) in
      let here : k < length records = omega (arith, n.count) in
      get_or-map f order k (0, 0) d within ∙ ap f (n.each k (0, 0) here) ∙ get_or_default records k left_behind d here)

  -- the sorted numbers of records are an order of them
  pub order_from_sort : (sorted : List (ℕ × ℕ)) → IsPermutation order sorted → IsSorted pair_cmp sorted → IsOrder records sorted
  order_from_sort sorted moves s = record {
    places = All-permutation (IsPlace records) order sorted moves numbered_places;
    rising = rising_from_sort sorted s;
    moves = subst (λ (rs : List Record). IsPermutation rs (records_at records sorted)) all_places
        (IsPermutation-map (λ e. slice_index_or records e.1 left_behind) order sorted moves);
  }

-- ---- the records in order

module _ (records : List Record) (order : List (ℕ × ℕ)) (o : IsOrder records order) where
  place_of : ℕ × ℕ → Record
  place_of e = slice_index_or records e.1 left_behind

  pub length-records_at : length (records_at records order) ≡ length order
  length-records_at = length-map order (λ e. slice_index_or records e.1 left_behind)

  -- the record at a place
  pub at_place : (k : ℕ) (e : ℕ × ℕ) → k < length order → e ≡ slice_index_or order k e
      → slice_index_or (records_at records order) k left_behind ≡ slice_index_or records e.1 left_behind
  at_place k e h is =
      get_or-map (λ (e : ℕ × ℕ). slice_index_or records e.1 left_behind) order k e left_behind h ∙ ap (λ (x : ℕ × ℕ). slice_index_or records x.1 left_behind) (sym is)

  -- and its number
  pub seq_of-at : (k : ℕ) (e : ℕ × ℕ) → k < length order → e ≡ slice_index_or order k e
      → seq_of (slice_index_or (records_at records order) k left_behind) ≡ e.0
  seq_of-at k e h is =
      ap seq_of (at_place k e h is) ∙ (subst (λ (x : ℕ × ℕ). IsPlace records x) (sym is) (o.places k e h)).number

  pub number_at : (k : ℕ) → k < length order → seq_of (slice_index_or (records_at records order) k left_behind) ≡ (slice_index_or order k (0, 0)).0
  number_at k h = seq_of-at k (slice_index_or order k (0, 0)) h (get_or_default order k (0, 0) (slice_index_or order k (0, 0)) h)

  -- the numbers do not fall
  pub rising_at : (i j : ℕ) → i ≤ j → j < length (records_at records order)
      → seq_of (slice_index_or (records_at records order) i left_behind) ≤ seq_of (slice_index_or (records_at records order) j left_behind)
  rising_at i j up h =
      let within : j < length order = omega (arith, length-records_at) in
      let low : i < length order = omega (arith, within) in
      omega (arith, number_at i low, number_at j within, o.rising i j (0, 0) up within)

  -- they are the same records
  pub in_order : (r : Record) → IsIn r records → IsIn r (records_at records order)
  in_order r i = in_from_Contains r _ (Contains-permutation _ _ r o.moves (Contains-from_in r _ i))

  pub in_records : (r : Record) → IsIn r (records_at records order) → IsIn r records
  in_records r i = in_from_Contains r _ (Contains-permutation _ _ r (IsPermutation-sym _ _ o.moves) (Contains-from_in r _ i))

-- an entry that is read
pub entry_at : (order : List (ℕ × ℕ)) (k : ℕ) → k < length order → slice_index_or order k (0, 0) ≡ slice_index_or order k (slice_index_or order k (0, 0))
entry_at order k h = get_or_default order k (0, 0) (slice_index_or order k (0, 0)) h

-- the record at a place, as it was found
pub found_at : (list : List Placed) (order : List (ℕ × ℕ)) → IsOrder (records_of list) order → (k : ℕ) (x : Placed) → k < length order
    → x ≡ slice_index_or list (slice_index_or order k (0, 0)).1 x → slice_index_or (records_at (records_of list) order) k left_behind ≡ x.content
found_at list order o k x h is =
    let e = slice_index_or order k (0, 0) in
    let within : e.1 < length list = omega (arith, (o.places k (0, 0) h).within, length-map list (λ (y : Placed). y.content)) in
    at_place (records_of list) order o k e h (entry_at order k h)
    ∙ get_or-map (λ (y : Placed). y.content) list e.1 x left_behind within ∙ ap (λ (y : Placed). y.content) (sym is)
