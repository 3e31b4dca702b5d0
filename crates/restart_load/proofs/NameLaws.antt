-- Names in the order of their texts, and listings.
use Rattle.std.proofs.Common.{◌≡◌, ◌⊎◌, ◌<◌, ◌≤◌, ℕ, true, List, All, IsSome, sym, subst, ap, ◌∙◌, get_or, length, take, inl, inr, arith}
use Rattle.std.specs.List.{IsDistinct}
use Rattle.std.specs.List.Sorted.{IsPermutation, IsSorted}
use Rattle.std.proofs.lemmas.Bool.{cases_Bool}
use Rattle.std.proofs.lemmas.List.{get_or-take, get_or_default, length-take}
use Rattle.std.proofs.lemmas.List.Elements.{All-get_or}
use Rattle.std.proofs.lemmas.List.Sorted.{All-permutation, Contains-permutation, IsPermutation-sym}
use Rattle.std.proofs.lemmas.Map.Keys.{IsDistinct-IsPermutation, IsDistinct-from_apart, apart_from_distinct}
use Rattle.hr_base.specs.declared.name.ChunkName.{ChunkName}
use Rattle.hr_base.specs.contracts.name.ChunkNameOrd.TheImpl as name_ord
use Rattle.hr_base.specs.Names.{IsChunkName, IsUpTo}
use Rattle.hr_base.specs.NameTests.{is_name}
use Rattle.hr_base.proofs.NameOrder.{sorted_up_to, up_to-itself}
use Rattle.hr_base.proofs.NameTestLaws.{is_name-false, is_name-other, is_name-same, is_name-true}
use Rattle.dir_files.specs.Ports.{IsListing, Port, SamePort}
use Rattle.restart_load.specs.Contents.{InNameOrder}

-- sorted names stand in the order of their texts
pub in_order : (names sorted : List ChunkName) → All IsChunkName names → IsPermutation names sorted → IsSorted name_ord.ghosts.cmp sorted → InNameOrder sorted
in_order names sorted valid moves is i j d less below =
    sorted_up_to sorted (All-permutation IsChunkName names sorted moves valid) is i j d (omega (arith, less)) below

flips : (a b : ChunkName) → is_name a b ≡ is_name b a
flips a b = elim (cases_Bool (is_name a b)) [
  | inl same ↦ same ∙ sym (subst (λ (x : ChunkName). is_name b x ≡ true) (sym (is_name-true a b same)) (is_name-same b))
  | inr differ ↦ differ ∙ sym (is_name-other b a (λ e. is_name-false a b differ (sym e)))
]

-- a listing in another order is one
pub listing_moved : (port : Port) (names sorted : List ChunkName) → IsPermutation names sorted → IsListing port names → IsListing port sorted
listing_moved port names sorted moves listing =
    let distinct : IsDistinct is_name names = IsDistinct-from_apart is_name names (λ i j d less below. is_name-other _ _ (listing.once i j d less below)) in
    let moved : IsDistinct is_name sorted = IsDistinct-IsPermutation is_name flips names sorted moves distinct in
    record {
      listed = λ name. (
        (λ has. (listing.listed name).0 (Contains-permutation sorted names name (IsPermutation-sym names sorted moves) has)),
        (λ there. Contains-permutation names sorted name moves ((listing.listed name).1 there)),
      );
      once = λ i j d less below. is_name-false _ _ (apart_from_distinct is_name sorted i j d moved less below);
      valid = All-permutation IsChunkName names sorted moves listing.valid;
    }

-- a port that stays has the same listings
pub listing_same : (old new : Port) (names : List ChunkName) → SamePort old new → IsListing old names → IsListing new names
listing_same old new names same listing = record {
  listed = λ name. ((λ has. subst IsSome (sym (same.held name)) ((listing.listed name).0 has)), (λ there. (listing.listed name).1 (subst IsSome (same.held name) there)));
  once = listing.once;
  valid = listing.valid;
}

three : (i j : ℕ) → (j < i) ⊎ ((i ≡ j) ⊎ (i < j))
three i j = grind arith

-- Of the names in order, this one is the first that is not known.
pub first_unknown : (names : List ChunkName) (partitions i : ℕ) (d : ChunkName) → InNameOrder names → i < length names
    → All (λ (name : ChunkName). name.partition.0 < partitions) (take i names) → All (λ (other : ChunkName). partitions ≤ other.partition.0 → IsUpTo (get_or names i d) other) names
first_unknown names partitions i d sorted within known j e below unknown = elim (three i j) [
  | inl less ↦
      let at : get_or names j e ≡ get_or (take i names) j e = sym (get_or-take i names j e less) in
      let small : (get_or (take i names) j e).partition.0 < partitions = All-get_or (λ (name : ChunkName). name.partition.0 < partitions) (take i names) j e (omega (arith, less, within, length-take i names)) known in
      let same : (get_or names j e).partition.0 ≡ (get_or (take i names) j e).partition.0 = ap (λ (name : ChunkName). name.partition.0) at in
      let never : ⊥ = omega (arith, unknown, small, same) in absurd never
  | inr more ↦ elim more [
    | inl here ↦ subst (λ (name : ChunkName). IsUpTo (get_or names i d) name) (get_or_default names i d e within ∙ ap (λ (k : ℕ). get_or names k e) here) (up_to-itself (get_or names i d))
    | inr past ↦ subst (λ (name : ChunkName). IsUpTo name (get_or names j e)) (get_or_default names i e d within) (sorted i j e past below)
  ]
]
