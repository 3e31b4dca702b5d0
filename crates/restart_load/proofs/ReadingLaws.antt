-- Reading files in hand one after another.
use Rattle.std.proofs.Common.{◌≡◌, ◌⊎◌, inl, inr, ℕ, ◌+◌, ◌<◌, ◌≤◌, Bool, true, List, [], ◌∷◌, ◌++◌, length, map, take, set, Some, get_or, slice_get, ap, sym, ◌∙◌, subst, arith}
use Rattle.std.proofs.lemmas.List.{get_or-map, length-map, map-append, map-set, map_more, set-get_or}
use Rattle.std.proofs.lemmas.Option.{get_or_from_slice_get, slice_get-get_or}
use Rattle.hr_base.specs.declared.limits.TheConstants.{MAX_FILE_LEN}
use Rattle.hr_base.specs.declared.name.ChunkName.{ChunkName}
use Rattle.restart_load.specs.Contents.{FileBytes}
use Rattle.restart_load.specs.Reading.{IsFirstLarge, IsLarge, IsReadRefusal}
use Rattle.restart_load.specs.Taking.{TakenFile, read_bytes}
use Rattle.restart_load.specs.declared.refusal.RestartRefusal.{RestartRefusal}
use Rattle.restart_load.specs.declared.refusal.RestartRefusal.TheVariants.{Memory, DiskFault, Partition, TooLarge, Damaged, Clash}

two : (k i : ℕ) → k < i + 1 → (k < i) ⊎ (k ≡ i)
two k i less = grind (arith, less)

-- a file that keeps its name leaves all names
pub names_set : (files : List TakenFile) (i : ℕ) (d new : TakenFile) → i < length files → new.name ≡ (get_or files i d).name
    → map (λ (t : TakenFile). t.name) (set files i new) ≡ map (λ (t : TakenFile). t.name) files
names_set files i d new below same =
    let names : List ChunkName = map (λ (t : TakenFile). t.name) files in
    map-set (λ (t : TakenFile). t.name) files i new
    ∙ ap (λ (n : ChunkName). set names i n) (same ∙ sym (get_or-map (λ (t : TakenFile). t.name) files i d new.name below))
    ∙ set-get_or names i new.name

-- a file that stays leaves all files
pub files_set : (files : List TakenFile) (i : ℕ) (d new : TakenFile) → new ≡ get_or files i d → set files i new ≡ files
files_set files i d new same = ap (λ (t : TakenFile). set files i t) same ∙ set-get_or files i d

-- one more was read
pub bytes_more : (files now : List TakenFile) (i : ℕ) (d : TakenFile) (old new : List FileBytes) (one : FileBytes) → i < length files → now ≡ files → one ≡ read_bytes (get_or now i d)
    → new ≡ old ++ one ∷ [] → old ≡ map read_bytes (take i files) → new ≡ map read_bytes (take (i + 1) files)
bytes_more files now i d old new one below same is more read =
    more ∙ ap (λ (x : FileBytes). old ++ x ∷ []) (is ∙ ap (λ (list : List TakenFile). read_bytes (get_or list i d)) same)
    ∙ ap (λ (front : List FileBytes). front ++ read_bytes (get_or files i d) ∷ []) read ∙ sym (map_more read_bytes files i d below)

one_name : (files now : List TakenFile) (i : ℕ) (d : TakenFile) → i < length files → i < length now → map (λ (t : TakenFile). t.name) now ≡ map (λ (t : TakenFile). t.name) files → (get_or now i d).name ≡ (get_or files i d).name
one_name files now i d below within same =
    sym (get_or-map (λ (t : TakenFile). t.name) now i d d.name within) ∙ ap (λ (names : List ChunkName). get_or names i d.name) same ∙ get_or-map (λ (t : TakenFile). t.name) files i d d.name below

pub read_names_more : (files now : List TakenFile) (i : ℕ) (d : TakenFile) (old new : List FileBytes) (one : FileBytes) → i < length files → map (λ (t : TakenFile). t.name) now ≡ map (λ (t : TakenFile). t.name) files
    → one.name ≡ (get_or now i d).name → new ≡ old ++ one ∷ [] → map (λ (x : FileBytes). x.name) old ≡ map (λ (t : TakenFile). t.name) (take i files)
    → map (λ (x : FileBytes). x.name) new ≡ map (λ (t : TakenFile). t.name) (take (i + 1) files)
read_names_more files now i d old new one below same is more read =
    let within : i < length now = omega (arith, below, sym (length-map now (λ (t : TakenFile). t.name)) ∙ ap length same ∙ length-map files (λ (t : TakenFile). t.name)) in
    ap (map (λ (x : FileBytes). x.name)) more ∙ map-append (λ (x : FileBytes). x.name) old (one ∷ [])
    ∙ ap (λ (front : List ChunkName). front ++ one.name ∷ []) read
    ∙ ap (λ (n : ChunkName). map (λ (t : TakenFile). t.name) (take i files) ++ n ∷ []) (is ∙ one_name files now i d below within same)
    ∙ sym (map_more (λ (t : TakenFile). t.name) files i d below)

pub not_large : (files now : List TakenFile) (i : ℕ) (d : TakenFile) (one : FileBytes) → now ≡ files → one ≡ read_bytes (get_or now i d) → length one.bytes ≤ MAX_FILE_LEN
    → ¬ IsLarge (get_or files i d)
not_large files now i d one same is small large =
    let e : length one.bytes ≡ length (get_or files i d).file.bytes = ap (λ (x : FileBytes). length x.bytes) is ∙ ap (λ (list : List TakenFile). length (get_or list i d).file.bytes) same in
    omega (arith, small, large, e)

-- none before is too large, and this one is not
pub none_more : (files : List TakenFile) (i : ℕ) (d : TakenFile) → i < length files → ((k : ℕ) (other : TakenFile) → k < i → slice_get files k ≡ Some other → ¬ IsLarge other)
    → ¬ IsLarge (get_or files i d) → (k : ℕ) (other : TakenFile) → k < i + 1 → slice_get files k ≡ Some other → ¬ IsLarge other
none_more files i d below none this k other less is = elim (two k i less) [
  | inl before ↦ none k other before is
  | inr here ↦
      let e : get_or files i d ≡ other = get_or_from_slice_get files i other d (ap (slice_get files) (sym here) ∙ is) in
      subst (λ (t : TakenFile). ¬ IsLarge t) e this
]

-- the first that is too large is told
pub first_large : (tells : Bool) (files now : List TakenFile) (i : ℕ) (d : TakenFile) (refusal : RestartRefusal) → i < length files → map (λ (t : TakenFile). t.name) now ≡ map (λ (t : TakenFile). t.name) files
    → (tells ≡ true → now ≡ files) → (tells ≡ true → (k : ℕ) (other : TakenFile) → k < i → slice_get files k ≡ Some other → ¬ IsLarge other)
    → IsReadRefusal tells (get_or now i d) refusal → IsFirstLarge tells files refusal
first_large tells files now i d Memory below names same none is = tt
first_large tells files now i d DiskFault below names same none is = tt
first_large tells files now i d (Partition name) below names same none is = is
first_large tells files now i d (Damaged name at) below names same none is = is
first_large tells files now i d (Clash p seq) below names same none is = is
first_large tells files now i d (TooLarge name) below names same none is =
    let within : i < length now = omega (arith, below, sym (length-map now (λ (t : TakenFile). t.name)) ∙ ap length names ∙ length-map files (λ (t : TakenFile). t.name)) in
    let here : name ≡ (get_or files i d).name = is.0 ∙ one_name files now i d below within names in (
      (i, omega (arith, below, length-map files (λ (t : TakenFile). t.name)), get_or-map (λ (t : TakenFile). t.name) files i d name below ∙ sym here),
      λ told. record {
        place = i;
        taken = get_or files i d;
        there = slice_get-get_or files i d below;
        named = sym here;
        large = subst (λ (list : List TakenFile). IsLarge (get_or list i d)) (same told) (is.1 told);
        before = none told;
      },
    )
