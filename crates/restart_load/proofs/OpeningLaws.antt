-- How writers are opened and closed, one for each partition.
use Rattle.std.proofs.Common.{◌≡◌, ◌≢◌, ◌⊎◌, ℕ, ◌<◌, Bool, true, List, [], ◌∷◌, ◌++◌, length, get_or, Some, None, refl, ap, sym, ◌∙◌, subst, inl, inr, arith, zero, suc}
use Rattle.std.specs.Prelude.{slice_get, slice_set}
use Rattle.std.proofs.lemmas.List.{length-map, map-append}
use Rattle.std.proofs.lemmas.Option.{slice_get-get_or, slice_get_within}
use Rattle.hr_base.specs.declared.name.ChunkName.{ChunkName}
use Rattle.hr_base.specs.declared.limits.Limits.{Limits}
use Rattle.hr_base.specs.declared.name.Named.{Ghosts as NamedGhosts}
use Rattle.dir_files.specs.declared.folder.Folder.{Ghosts as FolderGhosts}
use Rattle.dir_files.specs.Ports.{Joins, Port, SamePort}
use Rattle.dir_files.specs.PortStates.{IsGivenBack}
use Rattle.dir_files.proofs.JoinLaws.{either_same, given_back_joined, given_back_same}
use Rattle.partition_writer.specs.declared.writer.Writer.{Writer}
use Rattle.partition_writer.specs.Standing.{Standing}
use Rattle.partition_writer.specs.WriterViews.{standing}
use Rattle.record_replay.specs.declared.play.Replayed.{Replayed}
use Rattle.restart_load.specs.Opening.{AreOpened, HasNoFile, IsOpened}
use Rattle.restart_load.specs.Taking.{IsPortKept}
use Rattle.restart_load.specs.Writers.{EachIs, standings}

-- ---- lists

module _ {A : Type 0} where
  pub get_set_same : (xs : List A) (i : ℕ) (x y : A) → slice_get (slice_set xs i x) i ≡ Some y → y ≡ x
  get_set_same [] i x y is = cc
  get_set_same (z ∷ xs) zero x y is = cc
  get_set_same (z ∷ xs) (suc i) x y is = get_set_same xs i x y is

  pub get_set_other : (xs : List A) (i j : ℕ) (x : A) → j ≢ i → slice_get (slice_set xs i x) j ≡ slice_get xs j
  get_set_other [] i j x apart = refl
  get_set_other (z ∷ xs) zero zero x apart = absurd (apart refl)
  get_set_other (z ∷ xs) zero (suc j) x apart = refl
  get_set_other (z ∷ xs) (suc i) zero x apart = refl
  get_set_other (z ∷ xs) (suc i) (suc j) x apart = get_set_other xs i j x (λ e. apart (ap suc e))

  pub get_at_end : (xs : List A) (x : A) (ys : List A) → slice_get (xs ++ x ∷ ys) (length xs) ≡ Some x
  get_at_end [] x ys = refl
  get_at_end (z ∷ xs) x ys = get_at_end xs x ys

  pub get_pushed : (xs : List A) (x y : A) (i : ℕ) → slice_get (xs ++ x ∷ []) i ≡ Some y → (slice_get xs i ≡ Some y) ⊎ ((i ≡ length xs) × (y ≡ x))
  get_pushed [] x y zero is = inr (refl, cc)
  get_pushed [] x y (suc i) is = cc
  get_pushed (z ∷ xs) x y zero is = inl is
  get_pushed (z ∷ xs) x y (suc i) is = elim (get_pushed xs x y i is) [ inl h ↦ inl h | inr h ↦ inr (ap suc h.0, h.1) ]

  pub get_front : (xs ys : List A) (x : A) (i : ℕ) → slice_get xs i ≡ Some x → slice_get (xs ++ ys) i ≡ Some x
  get_front [] ys x i is = cc
  get_front (z ∷ xs) ys x zero is = is
  get_front (z ∷ xs) ys x (suc i) is = get_front xs ys x i is

  -- what is said of each element and its place is said of those of a longer list where it is said of the last one
  pub each_pushed : (says : ℕ → A → Type 0) (xs : List A) (x : A) → ((p : ℕ) (y : A) → slice_get xs p ≡ Some y → says p y) → says (length xs) x
      → (p : ℕ) (y : A) → slice_get (xs ++ x ∷ []) p ≡ Some y → says p y
  each_pushed says xs x each here p y is = elim (get_pushed xs x y p is) [
    | inl before ↦ each p y before
    | inr last ↦ subst (λ (n : ℕ). says n y) (sym last.0) (subst (λ (z : A). says (length xs) z) (sym last.1) here)
  ]

  -- and the other way round
  pub each_before : (says : ℕ → A → Type 0) (xs : List A) (x : A) → ((p : ℕ) (y : A) → slice_get (xs ++ x ∷ []) p ≡ Some y → says p y)
      → (p : ℕ) (y : A) → slice_get xs p ≡ Some y → says p y
  each_before says xs x each p y is = each p y (get_front xs (x ∷ []) y p is)

  pub each_last : (says : ℕ → A → Type 0) (xs : List A) (x : A) → ((p : ℕ) (y : A) → slice_get (xs ++ x ∷ []) p ≡ Some y → says p y) → says (length xs) x
  each_last says xs x each = each (length xs) x (get_at_end xs x [])

  -- the element behind the first ones
  pub get_behind : (all xs : List A) (x : A) (ys : List A) → xs ++ x ∷ ys ≡ all → slice_get all (length xs) ≡ Some x
  get_behind all xs x ys is = subst (λ (l : List A). slice_get l (length xs) ≡ Some x) is (get_at_end xs x ys)

-- ---- writers

module _ {F File : Type 0} {g : FolderGhosts F File} {h : NamedGhosts File} where
  pub standings_pushed : (writers longer : List (Writer F File g h)) (writer : Writer F File g h) → longer ≡ writers ++ writer ∷ []
      → standings longer ≡ standings writers ++ standing writer ∷ []
  standings_pushed writers longer writer is =
      ap (λ (all : List (Writer F File g h)). standings all) is ∙ map-append (λ (one : Writer F File g h). standing one) writers (writer ∷ [])

  pub length_standings : (writers : List (Writer F File g h)) → length (standings writers) ≡ length writers
  length_standings writers = length-map writers (λ (one : Writer F File g h). standing one)

-- ---- the port keeps its files

pub kept_itself : (port : Port) → IsGivenBack port → IsPortKept port port
kept_itself port given = record { given_back = given; held = λ n. refl }

pub kept_after : (a b c : Port) → IsPortKept a b → IsPortKept b c → IsPortKept a c
kept_after a b c first second = record { given_back = second.given_back; held = λ n. second.held n ∙ first.held n }

pub kept_same : (old new : Port) → SamePort old new → IsGivenBack old → IsPortKept old new
kept_same old new same given = record { given_back = given_back_same old new same given; held = same.held }

-- the port that joined it had no file
pub kept_joined : (a b new : Port) → IsGivenBack a → IsGivenBack b → ((name : ChunkName) → b.held name ≡ None) → Joins a b new → IsPortKept a new
kept_joined a b new given given' none joins = record {
  given_back = given_back_joined a b new given given' joins;
  held = λ n. joins.held n ∙ either_same (a.held n) (b.held n) (none n);
}

-- ---- writers are opened

-- the part that comes next, and its number
pub part_at : (parts before rest left : List Replayed) (chunks : List ℕ) (part : Replayed) (p : ℕ) → before ++ rest ≡ parts → rest ≡ part ∷ left → length before ≡ p
    → length chunks ≡ length parts → (slice_get parts p ≡ Some part) × (slice_get chunks p ≡ Some (get_or chunks p 0))
part_at parts before rest left chunks part p all step place same =
    let here : slice_get parts (length before) ≡ Some part = get_behind parts before part left (ap (λ (l : List Replayed). before ++ l) (sym step) ∙ all) in
    let at : slice_get parts p ≡ Some part = subst (λ (n : ℕ). slice_get parts n ≡ Some part) place here in
    let within : p < length chunks = omega (arith, slice_get_within parts p part at, same) in
    (at, slice_get-get_or chunks p 0 within)

module _ (tells : Bool) (limits : Limits) (parts : List Replayed) (chunks : List ℕ) (writers : List Standing) where
  -- one more writer
  pub opened_pushed : (s : Standing) (part : Replayed) (chunk p : ℕ) → length writers ≡ p → AreOpened tells limits parts chunks writers
      → slice_get parts p ≡ Some part → slice_get chunks p ≡ Some chunk → IsOpened tells limits p part chunk s
      → AreOpened tells limits parts chunks (writers ++ s ∷ [])
  opened_pushed s part chunk p place opened here there one =
      each_pushed (λ (q : ℕ) (t : Standing). (part : Replayed) × (chunk : ℕ) × (slice_get parts q ≡ Some part) × (slice_get chunks q ≡ Some chunk) × IsOpened tells limits q part chunk t)
      writers s opened
      (subst (λ (q : ℕ). (part : Replayed) × (chunk : ℕ) × (slice_get parts q ≡ Some part) × (slice_get chunks q ≡ Some chunk) × IsOpened tells limits q part chunk s) (sym place) (part, chunk, here, there, one))

  -- none of them has a file
  pub opened_no_file : tells ≡ true → AreOpened tells limits parts chunks writers → EachIs HasNoFile writers
  opened_no_file told opened p s is = (opened p s is).4.files told

-- ---- one writer of a list is closed

pub no_file_before : (writers : List Standing) (s : Standing) → EachIs HasNoFile (writers ++ s ∷ []) → EachIs HasNoFile writers
no_file_before writers s each = each_before (λ (p : ℕ) (t : Standing). HasNoFile t) writers s each

pub no_file_last : (writers : List Standing) (s : Standing) → EachIs HasNoFile (writers ++ s ∷ []) → HasNoFile s
no_file_last writers s each = each_last (λ (p : ℕ) (t : Standing). HasNoFile t) writers s each
