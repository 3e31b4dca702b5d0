-- The names of the held files are a listing.
use Rattle.std.proofs.Common.{◌≡◌, ◌≢◌, ◌⊎◌, zero, suc, Bool, true, false, cond, List, [], ◌∷◌, ◌++◌, append-nil, append_assoc, is_some, Contains, AllPairs, refl, ap, sym, ◌∙◌, subst, inl, inr, arith}
use Rattle.std.proofs.lemmas.Bool.{cases_Bool, false≢true}
use Rattle.std.proofs.lemmas.List.Elements.{Contains-append_right, Contains-get_or, All-nil, All-cons}
use Rattle.hr_base.specs.declared.name.ChunkName.{ChunkName}
use Rattle.hr_base.specs.NameTests.{is_name}
use Rattle.hr_base.proofs.NameTestLaws.{is_name-true, is_name-same}
use Rattle.hr_base.specs.Names.{IsChunkName}
use Rattle.mem_folder.specs.declared.chain.Entry.{Entry}
use Rattle.mem_folder.specs.declared.chain.Slot.{Slot}
use Rattle.dir_files.specs.Ports.{IsListing}
use Rattle.mem_folder.specs.Memory.{entry_at, has_name, held_names, memory_port}
use Rattle.mem_folder.proofs.Slots.{entry_at-here, entry_at-past, entry_at-absent}

-- one more element in front, that is none of the others
pub AllPairs-cons : {X : Type 0} (x : X) (xs : List X) → (Contains xs x → ⊥) → AllPairs (λ a b. a ≢ b) xs → AllPairs (λ a b. a ≢ b) (x ∷ xs)
AllPairs-cons {X} x xs new once zero zero d before within = absurd (omega (arith, before))
AllPairs-cons {X} x xs new once zero (suc j) d before within =
    λ same. new (subst (Contains xs) (sym same) (Contains-get_or xs j d (omega (arith, within))))
AllPairs-cons {X} x xs new once (suc i) zero d before within = absurd (omega (arith, before))
AllPairs-cons {X} x xs new once (suc i) (suc j) d before within = once i j d (omega (arith, before)) (omega (arith, within))

-- an element of a list with one more in front
pub Contains-cons_cases : {X : Type 0} (x : X) (xs : List X) (y : X) → Contains (x ∷ xs) y → (x ≡ y) ⊎ Contains xs y
Contains-cons_cases x xs y (zero, within, is) = inl is
Contains-cons_cases x xs y (suc k, within, is) = inr (k, omega (arith, within), is)

pub Contains-head : {X : Type 0} (x : X) (xs : List X) → Contains (x ∷ xs) x
Contains-head x xs = (0, omega arith, refl)

pub Contains-tail : {X : Type 0} (x : X) (xs : List X) (y : X) → Contains xs y → Contains (x ∷ xs) y
Contains-tail x xs y there = Contains-append_right (x ∷ []) xs y there

pub IsListing-empty : IsListing (memory_port []) (held_names [])
unfolding entry_at held_names
IsListing-empty = record {
  listed = λ name. (λ there. absurd (omega (arith, there.1)), λ held. absurd (false≢true held));
  once = λ i j d before within. absurd (omega (arith, within));
  valid = All-nil IsChunkName;
}

module _ (slot : Slot) (slots : List Slot) (valid : IsChunkName slot.name) (absent : has_name slots slot.name ≡ false) (rest : IsListing (memory_port slots) (held_names slots)) where
  -- the name is none of the others that are held
  pub not_listed : Contains (held_names slots) slot.name → ⊥
  not_listed there =
      false≢true (sym (ap (λ (e : Entry). is_some e.held) (entry_at-absent slots slot.name absent)) ∙ (rest.listed slot.name).0 there)

  pub held_names-more : is_some slot.entry.held ≡ true → held_names (slot ∷ slots) ≡ slot.name ∷ held_names slots
  unfolding held_names
  held_names-more held = ap (λ (b : Bool). cond b (slot.name ∷ held_names slots) (held_names slots)) held

  pub held_names-same : is_some slot.entry.held ≡ false → held_names (slot ∷ slots) ≡ held_names slots
  unfolding held_names
  held_names-same none = ap (λ (b : Bool). cond b (slot.name ∷ held_names slots) (held_names slots)) none

  pub held_at_here : (name : ChunkName) → is_name name slot.name ≡ true → is_some (entry_at (slot ∷ slots) name).held ≡ is_some slot.entry.held
  held_at_here name here = ap (λ (e : Entry). is_some e.held) (entry_at-here name slot slots here)

  pub held_at_past : (name : ChunkName) → is_name name slot.name ≡ false → is_some (entry_at (slot ∷ slots) name).held ≡ is_some (entry_at slots name).held
  held_at_past name past = ap (λ (e : Entry). is_some e.held) (entry_at-past name slot slots past)

  -- a listed name behind is held there, and not shadowed
  pub held_behind : (name : ChunkName) → Contains (held_names slots) name → is_some (entry_at (slot ∷ slots) name).held ≡ true
  held_behind name there = elim (cases_Bool (is_name name slot.name)) [
    | inl here ↦ absurd (not_listed (subst (Contains (held_names slots)) (is_name-true name slot.name here) there))
    | inr past ↦ held_at_past name past ∙ (rest.listed name).0 there
  ]

  listing_more : is_some slot.entry.held ≡ true → IsListing (memory_port (slot ∷ slots)) (slot.name ∷ held_names slots)
  listing_more held = record {
    listed = λ name. (
      λ there. elim (Contains-cons_cases slot.name (held_names slots) name there) [
        | inl same ↦ held_at_here name (subst (λ (x : ChunkName). is_name x slot.name ≡ true) same (is_name-same slot.name)) ∙ held
        | inr behind ↦ held_behind name behind
      ],
      λ is_held. elim (cases_Bool (is_name name slot.name)) [
        | inl here ↦ subst (Contains (slot.name ∷ held_names slots)) (sym (is_name-true name slot.name here)) (Contains-head slot.name (held_names slots))
        | inr past ↦ Contains-tail slot.name (held_names slots) name ((rest.listed name).1 (sym (held_at_past name past) ∙ is_held))
      ],
    );
    once = AllPairs-cons slot.name (held_names slots) not_listed rest.once;
    valid = All-cons IsChunkName slot.name (held_names slots) valid rest.valid;
  }

  listing_same : is_some slot.entry.held ≡ false → IsListing (memory_port (slot ∷ slots)) (held_names slots)
  listing_same none = record {
    listed = λ name. (
      λ there. held_behind name there,
      λ is_held. elim (cases_Bool (is_name name slot.name)) [
        | inl here ↦ absurd (false≢true (sym none ∙ sym (held_at_here name here) ∙ is_held))
        | inr past ↦ (rest.listed name).1 (sym (held_at_past name past) ∙ is_held)
      ],
    );
    once = rest.once;
    valid = rest.valid;
  }

  -- with one more slot in front
  pub IsListing-more : IsListing (memory_port (slot ∷ slots)) (held_names (slot ∷ slots))
  IsListing-more = elim (cases_Bool (is_some slot.entry.held)) [
    | inl held ↦ subst (IsListing (memory_port (slot ∷ slots))) (sym (held_names-more held)) (listing_more held)
    | inr none ↦ subst (IsListing (memory_port (slot ∷ slots))) (sym (held_names-same none)) (listing_same none)
  ]

-- the same at a chain's end, and at a node
pub listing_at_end : (slots : List Slot) → slots ≡ [] → IsListing (memory_port slots) (held_names slots)
listing_at_end slots is = subst (λ (s : List Slot). IsListing (memory_port s) (held_names s)) (sym is) IsListing-empty

pub added_at_end : (slots : List Slot) (names : List ChunkName) → slots ≡ [] → names ≡ names ++ held_names slots
unfolding held_names
added_at_end slots names is = sym (ap (λ (s : List Slot). names ++ held_names s) is ∙ append-nil names)

pub added_held : (slots rest : List Slot) (slot : Slot) (before now after : List ChunkName) → slots ≡ slot ∷ rest → is_some slot.entry.held ≡ true → now ≡ before ++ slot.name ∷ [] → after ≡ now ++ held_names rest → after ≡ before ++ held_names slots
unfolding held_names
added_held slots rest slot before now after is held pushed added =
    added
    ∙ ap (λ (n : List ChunkName). n ++ held_names rest) pushed
    ∙ append_assoc before (slot.name ∷ []) (held_names rest)
    ∙ ap (λ (n : List ChunkName). before ++ n) (sym (ap (λ (b : Bool). cond b (slot.name ∷ held_names rest) (held_names rest)) held))
    ∙ sym (ap (λ (s : List Slot). before ++ held_names s) is)

pub added_none : (slots rest : List Slot) (slot : Slot) (before after : List ChunkName) → slots ≡ slot ∷ rest → is_some slot.entry.held ≡ false → after ≡ before ++ held_names rest → after ≡ before ++ held_names slots
unfolding held_names
added_none slots rest slot before after is none added =
    added
    ∙ ap (λ (n : List ChunkName). before ++ n) (sym (ap (λ (b : Bool). cond b (slot.name ∷ held_names rest) (held_names rest)) none))
    ∙ sym (ap (λ (s : List Slot). before ++ held_names s) is)
