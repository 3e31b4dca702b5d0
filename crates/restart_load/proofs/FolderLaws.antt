-- What files in hand tell of a folder, and what it keeps once they are given back.
use Rattle.std.proofs.Common.{◌≡◌, ◌⊎◌, ℕ, zero, suc, ◌<◌, Bool, true, false, List, [], ◌∷◌, ◌++◌, length, map, take, drop, Result, Ok, Err, IfOk, IfErr, All, Contains, Option, Some, None, IfSome, IsSome, get_or, refl, ap, sym, ◌∙◌, subst, inl, inr, arith}
use Rattle.std.specs.Option.{option_map}
use Rattle.std.proofs.lemmas.Bool.{false≢true}
use Rattle.std.proofs.lemmas.List.{append-nil, drop_all, get_or-map, length-map, take_all}
use Rattle.std.proofs.lemmas.List.Elements.{All-contains, All-from_get_or, Contains-get_or}
use Rattle.std.proofs.lemmas.Option.{get_or_from_slice_get, slice_get-get_or, slice_get_within}
use Rattle.hr_base.specs.declared.name.ChunkName.{ChunkName}
use Rattle.hr_base.specs.declared.name.Kind.TheVariants.{T}
use Rattle.hr_base.specs.Names.{IsChunkName, IsUpTo}
use Rattle.hr_base.specs.NameTests.{is_name}
use Rattle.hr_base.proofs.NameOrder.{up_to-itself}
use Rattle.hr_base.proofs.NameTestLaws.{is_name-other, is_name-same}
use Rattle.dir_files.specs.Files.{FileState, IsDurable, KeepsMore, Rises}
use Rattle.dir_files.specs.Images.{KeepsFront, KeepsImages, MayLeave, read_of}
use Rattle.dir_files.specs.Ports.{IsListing, Port, SamePort, either_file}
use Rattle.dir_files.specs.PortStates.{IsAtRest, IsGivenBack}
use Rattle.dir_files.proofs.JoinLaws.{no_some}
use Rattle.restart_load.specs.Contents.{AreFilesOf, FileBytes, InNameOrder}
use Rattle.restart_load.specs.Reading.{IsFirstLarge, IsFolderRefusal, IsLarge, StandsLargeAt}
use Rattle.restart_load.specs.Refusals.{IsFirstName, IsTooLarge}
use Rattle.restart_load.specs.Taking.{AllDurableWith, AreApart, HasTaken, TakenFile, read_bytes, in_hand}
use Rattle.restart_load.specs.declared.refusal.RestartRefusal.{RestartRefusal}
use Rattle.restart_load.specs.declared.refusal.RestartRefusal.TheVariants.{Memory, DiskFault, Partition, TooLarge, Damaged, Clash}

one_some : {A : Type 0} {x y : A} → Some x ≡ Some y → x ≡ y
one_some e = cc

-- ---- a port that stays

pub taken_same : (start now new : Port) (files : List TakenFile) → SamePort now new → HasTaken start now files → HasTaken start new files
taken_same start now new files same has = record {
  rises = λ name. subst (λ (o : Option FileState). Rises (start.held name) (either_file (in_hand files name) o)) (sym (same.held name)) (has.rises name);
  out = λ name there. same.held name ∙ has.out name there;
  lent = λ name. same.lent name ∙ has.lent name;
  gone = λ name. same.gone name ∙ has.gone name;
  foreign = λ name. same.foreign name ∙ has.foreign name;
  apart = has.apart;
}

pub durable_same : (now new : Port) (files : List TakenFile) → SamePort now new → AllDurableWith now files → AllDurableWith new files
durable_same now new files same durable name =
    subst (λ (o : Option FileState). IfSome (either_file (in_hand files name) o) IsDurable) (sym (same.held name)) (durable name)

-- ---- all files are given back

keeps_front : (old new : FileState) (bytes : List ℕ) → KeepsMore old new → KeepsFront new bytes → KeepsFront old bytes
keeps_front old new bytes more keeps = record {
  rest = keeps.rest;
  prefix = sym more.bytes ∙ keeps.prefix;
  front = omega (arith, more.front, keeps.front);
}

unnamed : (old new : Bool) → (old ≡ true → new ≡ true) → new ≡ false → old ≡ false
unnamed false new lasts is = refl
unnamed true new lasts is = absurd (false≢true (sym is ∙ lasts refl))

keeps_at : (old new : Option FileState) (image : Option (List ℕ)) → Rises old new → MayLeave new None image → MayLeave old None image
keeps_at None new image rises may = subst (λ (o : Option FileState). MayLeave o None image) rises may
keeps_at (Some f) None image rises may = absurd rises
keeps_at (Some f) (Some h) (Some bytes) rises may = keeps_front f h bytes rises may
keeps_at (Some f) (Some h) None rises may = unnamed f.named h.named rises.named may

read_same : (old new : Option FileState) → Rises old new → option_map (λ (f : FileState). f.bytes) new ≡ option_map (λ (f : FileState). f.bytes) old
read_same None new rises = ap (option_map (λ (f : FileState). f.bytes)) rises
read_same (Some f) None rises = absurd rises
read_same (Some f) (Some h) rises = ap (λ (bytes : List ℕ). Some bytes) rises.bytes

module _ (start now : Port) (given : IsGivenBack start) (has : HasTaken start now []) where
  pub all_keep : KeepsImages start now
  all_keep = record {
    read = λ name. read_same (start.held name) (now.held name) (has.rises name);
    images = λ image is name.
        subst (λ (gone : Option FileState). MayLeave (start.held name) gone (image name)) (sym (given.gone name))
        (keeps_at (start.held name) (now.held name) (image name) (has.rises name) (subst (λ (gone : Option FileState). MayLeave (now.held name) gone (image name)) (has.gone name) (is name)));
  }

  pub all_given : IsGivenBack now
  all_given = record { calm = record { lent = has.lent; foreign = has.foreign }; gone = has.gone }

  durable_of : (o : Option FileState) (file : FileState) → IfSome o IsDurable → o ≡ Some file → IsDurable file
  durable_of None file durable is = cc
  durable_of (Some f) file durable is = subst IsDurable (one_some is) durable

  pub all_at_rest : AllDurableWith now [] → IsAtRest now
  all_at_rest durable = record {
    given_back = all_given;
    named = λ name file held. (durable_of (now.held name) file (durable name) held).named;
    front = λ name file held. (durable_of (now.held name) file (durable name) held).front;
  }

-- one call after another
pub keeps_after : (a b c : Port) → KeepsImages a b → KeepsImages b c → KeepsImages a c
keeps_after a b c first second = record {
  read = λ name. second.read name ∙ first.read name;
  images = λ image is. first.images image (second.images image is);
}

-- ---- what is read of files in hand

in_hand_past : (a : TakenFile) (files : List TakenFile) (n : ChunkName) → is_name n a.name ≡ false → in_hand (a ∷ files) n ≡ in_hand files n
in_hand_past a files n past = rw past refl

in_hand_here : (a : TakenFile) (files : List TakenFile) → in_hand (a ∷ files) a.name ≡ Some a.file
in_hand_here a files = rw (is_name-same a.name) refl

-- each file in hand is found by its name
itself : (files : List TakenFile) (k : ℕ) (d : TakenFile) → AreApart files → k < length files → in_hand files (get_or files k d).name ≡ Some (get_or files k d).file
itself [] k d apart below = let never : ⊥ = omega (arith, below) in absurd never
itself (a ∷ files) zero d apart below = in_hand_here a files
itself (a ∷ files) (suc k) d apart below =
    let t : TakenFile = get_or files k d in
    let there : in_hand files t.name ≡ Some t.file = itself files k d apart.1 (omega (arith, below)) in
    in_hand_past a files t.name (is_name-other t.name a.name (λ same. no_some (in_hand files a.name) t.file apart.0 (ap (in_hand files) (sym same) ∙ there))) ∙ there

bytes_from : (old : Option FileState) (file : FileState) → Rises old (Some file) → option_map (λ (f : FileState). f.bytes) old ≡ Some file.bytes
bytes_from None file rises = cc
bytes_from (Some f) file rises = ap (λ (bytes : List ℕ). Some bytes) (sym rises.bytes)

held_from : (old : Option FileState) (bytes : List ℕ) → option_map (λ (f : FileState). f.bytes) old ≡ Some bytes → IsSome old
held_from None bytes is = cc
held_from (Some f) bytes is = refl

same_bytes : (t : TakenFile) (name : ChunkName) (bytes : List ℕ) → t.name ≡ name → t.file.bytes ≡ bytes → read_bytes t ≡ record { name = name; bytes = bytes }
same_bytes t name bytes is has = ap (λ (n : ChunkName). let one : FileBytes = record { name = n; bytes = t.file.bytes } in one) is ∙ ap (λ (b : List ℕ). let one : FileBytes = record { name = name; bytes = b } in one) has

default : FileBytes
default = record { name = record { partition = record { 0 = 0 }; kind = T; number = record { 0 = 0 } }; bytes = [] }

module _ (start now : Port) (names : List ChunkName) (files : List TakenFile) (listing : IsListing start names) (has : HasTaken start now files)
    (named : map (λ (t : TakenFile). t.name) files ≡ names) where
  -- the file at a place has the bytes that are read under its name
  pub read_at : (k : ℕ) (d : TakenFile) → k < length files → read_of start (get_or files k d).name ≡ Some (get_or files k d).file.bytes
  read_at k d below =
      let t : TakenFile = get_or files k d in
      bytes_from (start.held t.name) t.file
      (subst (λ (o : Option FileState). Rises (start.held t.name) (either_file o (now.held t.name))) (itself files k d has.apart below) (has.rises t.name))

  -- and each name that is read has a place
  pub place_of : (name : ChunkName) (bytes : List ℕ) → read_of start name ≡ Some bytes
      → (k : ℕ) × (k < length files) × ((d : TakenFile) → (get_or files k d).name ≡ name) × ((d : TakenFile) → (get_or files k d).file.bytes ≡ bytes)
  place_of name bytes is =
      let found : Contains (map (λ (t : TakenFile). t.name) files) name =
      subst (λ (list : List ChunkName). Contains list name) (sym named) ((listing.listed name).1 (held_from (start.held name) bytes is)) in
      let below : found.0 < length files = omega (arith, found.1, length-map files (λ (t : TakenFile). t.name)) in
      let here = λ (d : TakenFile). sym (get_or-map (λ (t : TakenFile). t.name) files found.0 d name below) ∙ found.2 in
      (found.0, below, here, λ d. one_some (sym (read_at found.0 d below) ∙ ap (read_of start) (here d) ∙ is))

  read_all : (k : ℕ) (d : FileBytes) → k < length (map read_bytes files) → read_of start (get_or (map read_bytes files) k d).name ≡ Some (get_or (map read_bytes files) k d).bytes
  read_all k d below =
      let within : k < length files = omega (arith, below, length-map files read_bytes) in
      let e : TakenFile = record { name = d.name; file = record { bytes = d.bytes; front = 0; named = false } } in
      subst (λ (one : FileBytes). read_of start one.name ≡ Some one.bytes) (sym (get_or-map read_bytes files k e d within)) (read_at k e within)

  pub files_read : AreFilesOf (read_of start) (map read_bytes files)
  files_read = record {
    each = All-from_get_or (λ (one : FileBytes). read_of start one.name ≡ Some one.bytes) (map read_bytes files) default (λ k below. read_all k default below);
    all = λ name bytes is.
        let place = place_of name bytes is in
        let one : FileBytes = record { name = name; bytes = bytes } in
        let d : TakenFile = record { name = name; file = record { bytes = bytes; front = 0; named = false } } in
        let at : get_or (map read_bytes files) place.0 one ≡ one =
        get_or-map read_bytes files place.0 d one place.1 ∙ same_bytes (get_or files place.0 d) name bytes (place.2 d) (place.3 d) in
        subst (Contains (map read_bytes files)) at (Contains-get_or (map read_bytes files) place.0 one (omega (arith, place.1, length-map files read_bytes)));
  }

  later : (i j : ℕ) → (j < i) ⊎ ((i ≡ j) ⊎ (i < j))
  later i j = grind arith

  before_other : (name : ChunkName) → InNameOrder names → (stands : StandsLargeAt files name) → stands.place < length files → get_or files stands.place stands.taken ≡ stands.taken
      → (other : ChunkName) → (large : IsTooLarge (read_of start) other)
      → ((k : ℕ) × (k < length files) × ((d : TakenFile) → (get_or files k d).name ≡ other) × ((d : TakenFile) → (get_or files k d).file.bytes ≡ large.bytes)) → IsUpTo name other
  before_other name sorted stands within is other large (k, below, named_so, has_bytes) =
      let t : TakenFile = get_or files k stands.taken in
      let mine : get_or names stands.place name ≡ name =
      ap (λ (list : List ChunkName). get_or list stands.place name) (sym named) ∙ get_or-map (λ (t : TakenFile). t.name) files stands.place stands.taken name within ∙ ap (λ (t : TakenFile). t.name) is ∙ stands.named in
      let its : get_or names k name ≡ other =
      ap (λ (list : List ChunkName). get_or list k name) (sym named) ∙ get_or-map (λ (t : TakenFile). t.name) files k stands.taken name below ∙ named_so stands.taken in
      let count : length names ≡ length files = sym (ap length named) ∙ length-map files (λ (t : TakenFile). t.name) in
      elim (later stands.place k) [
        | inl less ↦
            let size : length t.file.bytes ≡ length large.bytes = ap length (has_bytes stands.taken) in
            let is_large : IsLarge t = omega (arith, size, large.large) in
            absurd (stands.before k t less (slice_get-get_or files k stands.taken below) is_large)
        | inr more ↦ elim more [
          | inl here ↦ subst (IsUpTo name) (sym mine ∙ ap (λ (i : ℕ). get_or names i name) here ∙ its) (up_to-itself name)
          | inr past ↦ subst (λ (n : ChunkName). IsUpTo n other) mine (subst (IsUpTo (get_or names stands.place name)) its (sorted stands.place k name past (omega (arith, below, count))))
        ]
      ]

  -- the first file in hand that is too large is the first one of the folder
  pub first_too_large : (name : ChunkName) → InNameOrder names → StandsLargeAt files name → IsFirstName (IsTooLarge (read_of start)) name
  first_too_large name sorted stands =
      let within : stands.place < length files = slice_get_within files stands.place stands.taken stands.there in
      let is : get_or files stands.place stands.taken ≡ stands.taken = get_or_from_slice_get files stands.place stands.taken stands.taken stands.there in
      record {
        holds = record {
          bytes = stands.taken.file.bytes;
          there = ap (read_of start) (sym stands.named) ∙ subst (λ (t : TakenFile). read_of start t.name ≡ Some t.file.bytes) is (read_at stands.place stands.taken within);
          large = stands.large;
        };
        first = λ other large. before_other name sorted stands within is other large (place_of other large.bytes large.there);
      }

-- and is told of the folder
pub folder_refusal : (tells : Bool) (start : Port) (names : List ChunkName) (files : List TakenFile) (refusal : RestartRefusal) → All IsChunkName names
    → (tells ≡ true → map (λ (t : TakenFile). t.name) files ≡ names → (name : ChunkName) → StandsLargeAt files name → IsFirstName (IsTooLarge (read_of start)) name)
    → ((name : ChunkName) → refusal ≡ TooLarge name → map (λ (t : TakenFile). t.name) files ≡ names) → IsFirstLarge tells files refusal → IsFolderRefusal tells (read_of start) refusal
folder_refusal tells start names files Memory valid first named is = tt
folder_refusal tells start names files DiskFault valid first named is = tt
folder_refusal tells start names files (Partition name) valid first named is = is
folder_refusal tells start names files (Damaged name at) valid first named is = is
folder_refusal tells start names files (Clash p seq) valid first named is = is
folder_refusal tells start names files (TooLarge name) valid first named is =
    (All-contains IsChunkName names name valid (subst (λ (list : List ChunkName). Contains list name) (named name refl) is.0), λ told. first told (named name refl) name (is.1 told))

-- ---- what is answered

-- where a list was written back whole, it is that one
pub written_back : {A : Type 0} (count : ℕ) (items new : List A) → length new ≡ length items → count ≡ length items → take count (new ++ drop (length new) items) ≡ new
written_back count items new same all =
    ap (λ (rest : List _). take count (new ++ rest)) (drop_all (length new) items (omega (arith, same)))
    ∙ ap (take count) (append-nil new) ∙ take_all count new (omega (arith, same, all))

-- lists with the same names have one length
pub names_length : (new old : List TakenFile) → map (λ (t : TakenFile). t.name) new ≡ map (λ (t : TakenFile). t.name) old → length new ≡ length old
names_length new old same = sym (length-map new (λ (t : TakenFile). t.name)) ∙ ap length same ∙ length-map old (λ (t : TakenFile). t.name)

pub first_large_same : (tells : Bool) (old new : List TakenFile) (e : RestartRefusal) → map (λ (t : TakenFile). t.name) new ≡ map (λ (t : TakenFile). t.name) old → (tells ≡ true → new ≡ old)
    → IsFirstLarge tells old e → IsFirstLarge tells new e
first_large_same tells old new Memory names same is = tt
first_large_same tells old new DiskFault names same is = tt
first_large_same tells old new (Partition name) names same is = is
first_large_same tells old new (Damaged name at) names same is = is
first_large_same tells old new (Clash p seq) names same is = is
first_large_same tells old new (TooLarge name) names same is =
    (subst (λ (list : List ChunkName). Contains list name) (sym names) is.0, λ told. subst (λ (files : List TakenFile). StandsLargeAt files name) (sym (same told)) (is.1 told))

names_of_bytes : (files : List TakenFile) → map (λ (f : FileBytes). f.name) (map read_bytes files) ≡ map (λ (t : TakenFile). t.name) files
names_of_bytes [] = refl
names_of_bytes (t ∷ files) = ap (λ (names : List ChunkName). t.name ∷ names) (names_of_bytes files)

-- what was read is all of the folder's files
pub all_read : {A E : Type 0} (items : A → List FileBytes) (result : Result A E) (start now : Port) (names : List ChunkName) (files : List TakenFile) → IsListing start names → HasTaken start now files
    → IfOk result (λ x. items x ≡ map read_bytes files) → IfOk result (λ x. map (λ (f : FileBytes). f.name) (items x) ≡ names) → IfOk result (λ x. AreFilesOf (read_of start) (items x))
all_read items (Ok x) start now names files listing has read named =
    subst (AreFilesOf (read_of start)) (sym read)
    (files_read start now names files listing has (sym (names_of_bytes files) ∙ ap (map (λ (f : FileBytes). f.name)) (sym read) ∙ named))
all_read items (Err e) start now names files listing has read named = tt

-- and where it was refused, that is told of the folder
pub all_refused : {A : Type 0} (result : Result A RestartRefusal) (tells : Bool) (start now : Port) (names : List ChunkName) (files : List TakenFile) → All IsChunkName names → InNameOrder names
    → (tells ≡ true → IsListing start names) → (tells ≡ true → HasTaken start now files) → IfErr result (IsFirstLarge tells files)
    → IfErr result (λ e. (name : ChunkName) → e ≡ TooLarge name → map (λ (t : TakenFile). t.name) files ≡ names) → IfErr result (IsFolderRefusal tells (read_of start))
all_refused (Ok x) tells start now names files valid sorted listing has large listed = tt
all_refused (Err e) tells start now names files valid sorted listing has large listed =
    folder_refusal tells start names files e valid (λ told named name stands. first_too_large start now names files (listing told) (has told) named name sorted stands) listed large
