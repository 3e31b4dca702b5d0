-- Laws of the files among chunks in hand, where each has a name of its own.
use Rattle.std.proofs.Common.{◌≡◌, ◌≢◌, Bool, true, false, cond, List, [], ◌∷◌, ◌++◌, Option, Some, None, is_some, refl, ap, sym, ◌∙◌, subst, inl, inr}
use Rattle.std.specs.List.{AllZip}
use Rattle.std.proofs.lemmas.Bool.{cases_Bool, false≢true, cond-true, cond-false}
use Rattle.hr_base.specs.declared.name.ChunkName.{ChunkName}
use Rattle.hr_base.specs.NameTests.{is_name}
use Rattle.hr_base.proofs.NameTestLaws.{is_name-same, is_name-other, is_name-true, is_name-false}
use Rattle.dir_files.specs.Files.{FileState, Files, ChangesAt, SameAt, KeepsMore, Rises}
use Rattle.dir_files.specs.Ports.{either_file}
use Rattle.value_chunk.specs.Chunks.{Chunk}
use Rattle.writer_files.specs.Hands.{file_among, AreOnce}

-- ---- the first chunk of a name

pub file_among-here : (c : Chunk) (cs : List Chunk) (n : ChunkName) → is_name c.name n ≡ true → file_among (c ∷ cs) n ≡ Some c.file
file_among-here c cs n here = cond-true (is_name c.name n) (Some c.file) (file_among cs n) here

pub file_among-past : (c : Chunk) (cs : List Chunk) (n : ChunkName) → is_name c.name n ≡ false → file_among (c ∷ cs) n ≡ file_among cs n
file_among-past c cs n past = cond-false (is_name c.name n) (Some c.file) (file_among cs n) past

either_cond : (b : Bool) (f : FileState) (p q r : Option FileState) → r ≡ either_file p q → cond b (Some f) r ≡ either_file (cond b (Some f) p) q
either_cond true f p q r e = refl
either_cond false f p q r e = e

pub file_among-append : (xs ys : List Chunk) (n : ChunkName) → file_among (xs ++ ys) n ≡ either_file (file_among xs n) (file_among ys n)
file_among-append [] ys n = refl
file_among-append (x ∷ xs) ys n =
    either_cond (is_name x.name n) x.file (file_among xs n) (file_among ys n) (file_among (xs ++ ys) n) (file_among-append xs ys n)

-- a chunk that is first and is not found has another name
first_other : (c : Chunk) (cs : List Chunk) (n : ChunkName) → file_among (c ∷ cs) n ≡ None → (c.name ≢ n) × (file_among cs n ≡ None)
first_other c cs n none = elim (cases_Bool (is_name c.name n)) [
  | inl here ↦ absurd (let e : Some c.file ≡ None = sym (file_among-here c cs n here) ∙ none in cc)
  | inr past ↦ (λ same. is_name-false c.name n past same, sym (file_among-past c cs n past) ∙ none)
]

other_first : (c : Chunk) (cs : List Chunk) (n : ChunkName) → c.name ≢ n → file_among (c ∷ cs) n ≡ file_among cs n
other_first c cs n apart = file_among-past c cs n (is_name-other c.name n apart)

-- ---- a chunk among others

-- the list has this chunk beside those of the first list
pub record Adds (c : Chunk) (base xs : List Chunk) : Type 0 where
  pub before : List Chunk
  pub after : List Chunk
  pub beside : base ≡ before ++ after
  pub is : xs ≡ before ++ c ∷ after

middle_at : (pre post : List Chunk) (c : Chunk) → file_among (pre ++ post) c.name ≡ None → file_among (pre ++ c ∷ post) c.name ≡ Some c.file
middle_at [] post c none = file_among-here c post c.name (is_name-same c.name)
middle_at (x ∷ pre) post c none =
    let other = first_other x (pre ++ post) c.name none in
    other_first x (pre ++ c ∷ post) c.name other.0 ∙ middle_at pre post c other.1

same_past : (b : Bool) (f : FileState) (p q : Option FileState) → p ≡ q → cond b (Some f) p ≡ cond b (Some f) q
same_past b f p q e = ap (λ (o : Option FileState). cond b (Some f) o) e

middle_others : (pre post : List Chunk) (c : Chunk) (n : ChunkName) → n ≢ c.name → file_among (pre ++ c ∷ post) n ≡ file_among (pre ++ post) n
middle_others [] post c n apart = other_first c post n (λ e. apart (sym e))
middle_others (x ∷ pre) post c n apart =
    same_past (is_name x.name n) x.file (file_among (pre ++ c ∷ post) n) (file_among (pre ++ post) n) (middle_others pre post c n apart)

middle_once : (pre post : List Chunk) (c : Chunk) → AreOnce (pre ++ post) → file_among (pre ++ post) c.name ≡ None → AreOnce (pre ++ c ∷ post)
middle_once [] post c once none = (none, once)
middle_once (x ∷ pre) post c once none =
    let other = first_other x (pre ++ post) c.name none in
    (middle_others pre post c x.name other.0 ∙ once.0, middle_once pre post c once.1 other.1)

-- a name that is not found with the chunk is another one
middle_none : (pre post : List Chunk) (c : Chunk) (n : ChunkName) → file_among (pre ++ c ∷ post) n ≡ None → n ≢ c.name
middle_none [] post c n none same = (first_other c post n none).0 (sym same)
middle_none (x ∷ pre) post c n none same = middle_none pre post c n (first_other x (pre ++ c ∷ post) n none).1 same

middle_from : (pre post : List Chunk) (c : Chunk) → AreOnce (pre ++ c ∷ post) → AreOnce (pre ++ post) × (file_among (pre ++ post) c.name ≡ None)
middle_from [] post c once = (once.1, once.0)
middle_from (x ∷ pre) post c once =
    let rest = middle_from pre post c once.1 in
    let apart = middle_none pre post c x.name once.0 in
    ((sym (middle_others pre post c x.name apart) ∙ once.0, rest.0), other_first x (pre ++ post) c.name apart ∙ rest.1)

module _ (c : Chunk) (base xs : List Chunk) (adds : Adds c base xs) where
  pub adds_files : file_among base c.name ≡ None → ChangesAt (file_among base) (file_among xs) c.name (Some c.file)
  adds_files none = record {
    at =
        ap (λ (cs : List Chunk). file_among cs c.name) adds.is
        ∙ middle_at adds.before adds.after c (sym (ap (λ (cs : List Chunk). file_among cs c.name) adds.beside) ∙ none);
    others = λ n apart.
        ap (λ (cs : List Chunk). file_among cs n) adds.is ∙ middle_others adds.before adds.after c n apart
        ∙ sym (ap (λ (cs : List Chunk). file_among cs n) adds.beside);
  }

  pub adds_once : AreOnce base → file_among base c.name ≡ None → AreOnce xs
  adds_once once none =
      subst AreOnce (sym adds.is)
      (middle_once adds.before adds.after c (subst AreOnce adds.beside once) (sym (ap (λ (cs : List Chunk). file_among cs c.name) adds.beside) ∙ none))

  pub once_base : AreOnce xs → AreOnce base
  once_base once = subst AreOnce (sym adds.beside) (middle_from adds.before adds.after c (subst AreOnce adds.is once)).0

  pub none_base : AreOnce xs → file_among base c.name ≡ None
  none_base once =
      ap (λ (cs : List Chunk). file_among cs c.name) adds.beside ∙ (middle_from adds.before adds.after c (subst AreOnce adds.is once)).1

-- the same chunk beside the same others
pub adds_same : (c : Chunk) (base xs ys : List Chunk) → Adds c base xs → Adds c base ys → AreOnce xs → SameAt (file_among xs) (file_among ys)
adds_same c base xs ys first second once n =
    let none = none_base c base xs first once in
    let one = adds_files c base xs first none in
    let two = adds_files c base ys second none in
    elim (cases_Bool (is_name n c.name)) [
      | inl here ↦ ap (file_among ys) (is_name-true n c.name here) ∙ two.at ∙ sym (ap (file_among xs) (is_name-true n c.name here) ∙ one.at)
      | inr past ↦ two.others n (is_name-false n c.name past) ∙ sym (one.others n (is_name-false n c.name past))
    ]

-- another chunk of the same name
pub adds_other : (c d : Chunk) (base xs ys : List Chunk) → d.name ≡ c.name → Adds c base xs → Adds d base ys → AreOnce xs → ChangesAt (file_among xs) (file_among ys) c.name (Some d.file)
adds_other c d base xs ys same first second once =
    let none = none_base c base xs first once in
    let one = adds_files c base xs first none in
    let two = adds_files d base ys second (ap (file_among base) same ∙ none) in record {
      at = ap (file_among ys) (sym same) ∙ two.at;
      others = λ n apart. two.others n (λ e. apart (e ∙ same)) ∙ sym (one.others n apart);
    }

-- ---- two lists

pub once_back : (xs ys : List Chunk) → AreOnce (xs ++ ys) → AreOnce ys
once_back [] ys once = once
once_back (x ∷ xs) ys once = once_back xs ys once.1

none_parts : (p q : Option FileState) → either_file p q ≡ None → (p ≡ None) × (q ≡ None)
none_parts None q none = (refl, none)
none_parts (Some f) q none = absurd cc

pub among_none : (xs ys : List Chunk) (n : ChunkName) → file_among (xs ++ ys) n ≡ None → (file_among xs n ≡ None) × (file_among ys n ≡ None)
among_none xs ys n none = none_parts (file_among xs n) (file_among ys n) (sym (file_among-append xs ys n) ∙ none)

pub once_front : (xs ys : List Chunk) → AreOnce (xs ++ ys) → AreOnce xs
once_front [] ys once = tt
once_front (x ∷ xs) ys once = ((among_none xs ys x.name once.0).0, once_front xs ys once.1)

-- a name of the first list is of none of the second
pub once_parts : (xs ys : List Chunk) → AreOnce (xs ++ ys) → (n : ChunkName) → is_some (file_among xs n) ≡ true → file_among ys n ≡ None
once_parts [] ys once n found = absurd (false≢true found)
once_parts (x ∷ xs) ys once n found = elim (cases_Bool (is_name x.name n)) [
  | inl here ↦ ap (file_among ys) (sym (is_name-true x.name n here)) ∙ (among_none xs ys x.name once.0).1
  | inr past ↦ once_parts xs ys once.1 n (sym (ap is_some (file_among-past x xs n past)) ∙ found)
]

-- ---- chunks that keep their names

found_either : (b c : Bool) (f g : FileState) (p q : Option FileState) → c ≡ b → is_some q ≡ is_some p → is_some (cond c (Some g) q) ≡ is_some (cond b (Some f) p)
found_either true true f g p q e rest = refl
found_either true false f g p q e rest = absurd (false≢true e)
found_either false true f g p q e rest = absurd (false≢true (sym e))
found_either false false f g p q e rest = rest

abbrev pub SameName : Chunk → Chunk → Type 0
SameName c d = d.name ≡ c.name

-- the same names are found
pub found_alike : (xs ys : List Chunk) → AllZip SameName xs ys → (n : ChunkName) → is_some (file_among ys n) ≡ is_some (file_among xs n)
found_alike [] [] zip n = refl
found_alike [] (y ∷ ys) zip n = absurd zip
found_alike (x ∷ xs) [] zip n = absurd zip
found_alike (x ∷ xs) (y ∷ ys) zip n =
    found_either (is_name x.name n) (is_name y.name n) x.file y.file (file_among xs n) (file_among ys n) (ap (λ (m : ChunkName). is_name m n) zip.0) (found_alike xs ys zip.1 n)

none_found : (p : Option FileState) → is_some p ≡ false → p ≡ None
none_found None e = refl
none_found (Some f) e = absurd (false≢true (sym e))

pub none_alike : (xs ys : List Chunk) → AllZip SameName xs ys → (n : ChunkName) → file_among xs n ≡ None → file_among ys n ≡ None
none_alike xs ys zip n none = none_found (file_among ys n) (found_alike xs ys zip n ∙ ap is_some none)

pub once_alike : (xs ys : List Chunk) → AllZip SameName xs ys → AreOnce xs → AreOnce ys
once_alike [] [] zip once = tt
once_alike [] (y ∷ ys) zip once = absurd zip
once_alike (x ∷ xs) [] zip once = absurd zip
once_alike (x ∷ xs) (y ∷ ys) zip once =
    (ap (file_among ys) zip.0 ∙ none_alike xs ys zip.1 x.name once.0, once_alike xs ys zip.1 once.1)

-- ---- files that rise

-- the chunk after has the name of the one before, and its file rose
pub record RisesTo (c d : Chunk) : Type 0 where
  pub name : d.name ≡ c.name
  pub file : KeepsMore c.file d.file

rises_either : (b c : Bool) (f g : FileState) (p q : Option FileState) → c ≡ b → KeepsMore f g → Rises p q → Rises (cond b (Some f) p) (cond c (Some g) q)
rises_either true true f g p q e keeps rest = keeps
rises_either true false f g p q e keeps rest = absurd (false≢true e)
rises_either false true f g p q e keeps rest = absurd (false≢true (sym e))
rises_either false false f g p q e keeps rest = rest

pub rises_among : (xs ys : List Chunk) → AllZip RisesTo xs ys → (n : ChunkName) → Rises (file_among xs n) (file_among ys n)
rises_among [] [] zip n = refl
rises_among [] (y ∷ ys) zip n = absurd zip
rises_among (x ∷ xs) [] zip n = absurd zip
rises_among (x ∷ xs) (y ∷ ys) zip n =
    rises_either (is_name x.name n) (is_name y.name n) x.file y.file (file_among xs n) (file_among ys n) (ap (λ (m : ChunkName). is_name m n) zip.0.name) zip.0.file (rises_among xs ys zip.1 n)

pub rises_beside : (p q h k : Option FileState) → Rises p q → Rises h k → (is_some p ≡ is_some q) → Rises (either_file p h) (either_file q k)
rises_beside None None h k first second same = second
rises_beside None (Some g) h k first second same = absurd (false≢true same)
rises_beside (Some f) None h k first second same = absurd first
rises_beside (Some f) (Some g) h k first second same = first

-- ---- the files at a port beside those in hand

either_at : (p q h k : Option FileState) → q ≡ p → k ≡ h → either_file q k ≡ either_file p h
either_at p q h k e f = cc

pub seen_changes : (before after held now : Files) (name : ChunkName) (f : FileState) → ChangesAt before after name (Some f) → SameAt held now → ChangesAt (λ n. either_file (before n) (held n)) (λ n. either_file (after n) (now n)) name (Some f)
seen_changes before after held now name f changes same = record {
  at = ap (λ (p : Option FileState). either_file p (now name)) changes.at;
  others = λ other differ. either_at (before other) (after other) (held other) (now other) (changes.others other differ) (same other);
}

pub seen_same : (before after held now : Files) → SameAt before after → SameAt held now → SameAt (λ n. either_file (before n) (held n)) (λ n. either_file (after n) (now n))
seen_same before after held now alike same n = either_at (before n) (after n) (held n) (now n) (alike n) (same n)
