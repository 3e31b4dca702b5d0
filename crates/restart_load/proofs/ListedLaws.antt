-- Files in hand, as a listing tells them.
use Rattle.std.proofs.Common.{◌≡◌, ℕ, zero, suc, ◌+◌, ◌<◌, true, false, List, [], ◌∷◌, ◌++◌, length, map, take, All, Contains, Option, Some, None, IfSome, IsSome, is_some, get_or, refl, ap, sym, ◌∙◌, subst, inl, inr, arith}
use Rattle.std.proofs.lemmas.Bool.{cases_Bool}
use Rattle.std.proofs.lemmas.List.{get_or-take, get_or_default, length-map, length-take, take_more}
use Rattle.std.proofs.Math.Seq.{take-length}
use Rattle.std.proofs.lemmas.List.Elements.{All-head, All-tail, Contains-get_or, Contains-append_right}
use Rattle.hr_base.specs.declared.name.ChunkName.{ChunkName}
use Rattle.hr_base.specs.NameTests.{is_name}
use Rattle.hr_base.proofs.NameTestLaws.{is_name-same, is_name-true}
use Rattle.dir_files.specs.Files.{FileState, IsDurable, Rises}
use Rattle.dir_files.specs.Ports.{IsListing, Port, either_file}
use Rattle.dir_files.specs.PortStates.{IsGivenBack}
use Rattle.dir_files.proofs.JoinLaws.{rises_same}
use Rattle.restart_load.specs.Taking.{AllDurableWith, AllNamed, HasTaken, TakenFile, files_with, in_hand}

some_of : (o : Option FileState) → is_some o ≡ true → (file : FileState) × (o ≡ Some file)
some_of (Some f) is = (f, refl)
some_of None is = cc

head_here : (a : TakenFile) (files : List TakenFile) (n : ChunkName) → is_name n a.name ≡ true → in_hand (a ∷ files) n ≡ Some a.file
head_here a files n here = rw here refl

head_past : (a : TakenFile) (files : List TakenFile) (n : ChunkName) → is_name n a.name ≡ false → in_hand (a ∷ files) n ≡ in_hand files n
head_past a files n past = rw past refl

one_some : {f g : FileState} → Some f ≡ Some g → f ≡ g
one_some e = cc

-- ---- names in hand

-- a file that is in hand has a name of the list
pub named_of : (files : List TakenFile) (n : ChunkName) → is_some (in_hand files n) ≡ true → Contains (map (λ (t : TakenFile). t.name) files) n
named_of [] n is = cc
named_of (a ∷ files) n is = elim (cases_Bool (is_name n a.name)) [
  | inl here ↦ (0, omega arith, sym (is_name-true n a.name here))
  | inr past ↦
      Contains-append_right (a.name ∷ []) (map (λ (t : TakenFile). t.name) files) n (named_of files n (ap is_some (sym (head_past a files n past)) ∙ is))
]

-- and a name of the list is in hand
pub in_hand_at : (files : List TakenFile) (k : ℕ) (d n : ChunkName) → k < length files → get_or (map (λ (t : TakenFile). t.name) files) k d ≡ n → is_some (in_hand files n) ≡ true
in_hand_at [] k d n below is = let never : ⊥ = omega (arith, below) in absurd never
in_hand_at (a ∷ files) zero d n below is =
    ap is_some (head_here a files n (ap (λ (m : ChunkName). is_name m a.name) (sym is) ∙ is_name-same a.name))
in_hand_at (a ∷ files) (suc k) d n below is = elim (cases_Bool (is_name n a.name)) [
  | inl here ↦ ap is_some (head_here a files n here)
  | inr past ↦ ap is_some (head_past a files n past) ∙ in_hand_at files k d n (omega (arith, below)) is
]

pub in_hand_of : (files : List TakenFile) (n : ChunkName) → Contains (map (λ (t : TakenFile). t.name) files) n → is_some (in_hand files n) ≡ true
in_hand_of files n (k, within, is) = in_hand_at files k n n (omega (arith, within, length-map files (λ (t : TakenFile). t.name))) is

pub all_in_hand : (P : FileState → Type 0) (files : List TakenFile) (n : ChunkName) (file : FileState) → All (λ t. P t.file) files → in_hand files n ≡ Some file → P file
all_in_hand P [] n file all is = cc
all_in_hand P (a ∷ files) n file all is = elim (cases_Bool (is_name n a.name)) [
  | inl here ↦ subst P (one_some (sym (head_here a files n here) ∙ is)) (All-head (λ (t : TakenFile). P t.file) a files all)
  | inr past ↦ all_in_hand P files n file (All-tail (λ (t : TakenFile). P t.file) a files all) (sym (head_past a files n past) ∙ is)
]

-- ---- taking files one after another

rises_some : (old new : Option FileState) → IsSome old → Rises old new → is_some new ≡ true
rises_some None new is rises = cc
rises_some (Some f) (Some g) is rises = refl
rises_some (Some f) None is rises = absurd rises

rises_back : (old : Option FileState) (file : FileState) → Rises old (Some file) → IsSome old
rises_back (Some f) file rises = refl
rises_back None file rises = cc

some_is : (o : Option FileState) → is_some o ≡ true → IsSome o
some_is (Some f) is = refl
some_is None is = cc

held_of : (own held : Option FileState) → is_some own ≡ false → is_some (either_file own held) ≡ true → IsSome held
held_of None held none some = some_is held some
held_of (Some f) held none some = cc

none_some : (o : Option FileState) (file : FileState) → o ≡ None → o ≡ Some file → ⊥
none_some o file none some = cc

module _ (start now : Port) (names : List ChunkName) (files : List TakenFile) (listing : IsListing start names) (has : HasTaken start now files) where
  -- a name stands in the listing once
  twice : (i : ℕ) (d : ChunkName) → i < length names → Contains (take i names) (get_or names i d) → ⊥
  twice i d below (k, within, is) =
      let name : ChunkName = get_or names i d in
      let less : k < i = omega (arith, within, length-take i names) in
      listing.once k i name less below (sym (get_or-take i names k name less) ∙ is ∙ get_or_default names i d name below)

  -- the next name of the listing is that of a held file
  pub next_held : (i : ℕ) (d : ChunkName) → i < length names → map (λ (t : TakenFile). t.name) files ≡ take i names → IsSome (now.held (get_or names i d))
  next_held i d below taken =
      let name : ChunkName = get_or names i d in
      let there : IsSome (start.held name) = (listing.listed name).0 (Contains-get_or names i d below) in
      elim (cases_Bool (is_some (in_hand files name))) [
        | inl out ↦ absurd (twice i d below (subst (λ (list : List ChunkName). Contains list name) taken (named_of files name out)))
        | inr none ↦ held_of (in_hand files name) (now.held name) none (rises_some (start.held name) (files_with now files name) there (has.rises name))
      ]

  either_of : (own held : Option FileState) (file : FileState) → own ≡ None → held ≡ Some file → either_file own held ≡ Some file
  either_of None held file none is = is
  either_of (Some f) held file none is = cc

  durable_at : (name : ChunkName) (own held : Option FileState) → map (λ (t : TakenFile). t.name) files ≡ names → All (λ taken. IsDurable taken.file) files
      → in_hand files name ≡ own → now.held name ≡ held → IfSome (either_file own held) IsDurable
  durable_at name (Some file) held taken all is there = all_in_hand IsDurable files name file all is
  durable_at name None None taken all is there = tt
  durable_at name None (Some file) taken all is there =
      let was : IsSome (start.held name) =
      rises_back (start.held name) file (subst (λ (o : Option FileState). Rises (start.held name) o) (either_of (in_hand files name) (now.held name) file is there) (has.rises name)) in
      let out : is_some (in_hand files name) ≡ true = in_hand_of files name (subst (λ (list : List ChunkName). Contains list name) (sym taken) ((listing.listed name).1 was)) in
      absurd (none_some (now.held name) file (has.out name out) there)

  -- once all of them are in hand, and durable, all files are
  pub all_durable : map (λ (t : TakenFile). t.name) files ≡ names → All (λ taken. IsDurable taken.file) files → AllDurableWith now files
  all_durable taken all name = durable_at name (in_hand files name) (now.held name) taken all refl refl

-- a port between calls has nothing in hand
pub nothing_taken : (port : Port) → IsGivenBack port → HasTaken port port []
nothing_taken port given = record {
  rises = λ name. rises_same (port.held name);
  out = λ name there. cc;
  lent = given.calm.lent;
  gone = given.gone;
  foreign = given.calm.foreign;
  apart = tt;
}

-- a lasting name lasts
still_named : (old : Option FileState) (file : FileState) → ((f : FileState) → old ≡ Some f → f.named ≡ true) → Rises old (Some file) → file.named ≡ true
still_named (Some f) file named rises = rises.named (named f refl)
still_named None file named rises = cc

alone : (own held : Option FileState) (file : FileState) → (is_some own ≡ true → held ≡ None) → held ≡ Some file → either_file own held ≡ Some file
alone None held file out is = is
alone (Some f) held file out is = absurd (none_some held file (out refl) is)

pub names_last : (start now : Port) (files : List TakenFile) → AllNamed start → HasTaken start now files → AllNamed now
names_last start now files named has name file held =
    still_named (start.held name) file (named name)
    (subst (λ (o : Option FileState). Rises (start.held name) o) (alone (in_hand files name) (now.held name) file (λ out. has.out name out) held) (has.rises name))

-- one more name was taken, and all of them were
pub names_more : (names : List ChunkName) (i : ℕ) (d : ChunkName) (old new : List ChunkName) → i < length names → new ≡ old ++ get_or names i d ∷ [] → old ≡ take i names → new ≡ take (i + 1) names
names_more names i d old new below more taken = more ∙ ap (λ (front : List ChunkName). front ++ get_or names i d ∷ []) taken ∙ sym (take_more names i d below)

pub names_all : (names : List ChunkName) (i : ℕ) (taken : List ChunkName) → i ≡ length names → taken ≡ take i names → taken ≡ names
names_all names i taken end is = is ∙ ap (λ (n : ℕ). take n names) end ∙ take-length names
