-- Lists of events, cut in two, and what is known of records by them.
use Rattle.std.specs.Prelude.{◌≡◌, ◌⊎◌, ℕ, ◌≤◌, Bool, true, false, cond, List, [], ◌∷◌, ◌++◌, filter, map, Option, Some, None, refl}
use Rattle.std.proofs.Common.{sym, ◌∙◌, ap, subst, inl, inr, arith, true≢false}
use Rattle.hr_base.specs.declared.name.ChunkName.{ChunkName}
use Rattle.hr_base.specs.NameTests.{is_name}
use Rattle.hr_base.proofs.NameTestLaws.{is_name-true, is_name-same}
use Rattle.hr_base.specs.Entries.{Key}
use Rattle.dir_files.specs.Files.{FileState}
use Rattle.record_format.specs.declared.record.Record.{Record}
use Rattle.record_format.specs.declared.record.Record.TheVariants.{Value, Tomb, Clear}
use Rattle.record_format.specs.Spelling.{seq_of}
use Rattle.crash_law.specs.Commands.{command_of, touches}
use Rattle.crash_law.specs.Numbered.{IsIn}
use Rattle.crash_law.specs.Restarts.{Fact}
use Rattle.crash_law.specs.Placed.{Placed, in_chunk, IsPlaced}
use Rattle.crash_law.proofs.NumberedLaws.{in_from_Contains}
use Rattle.std.specs.List.{AllByRecursion}
use Rattle.std.specs.Option.{option_map}
use Rattle.hr_base.specs.Names.{class_of_kind}
use Rattle.record_format.specs.Splits.{Splits}
use Rattle.record_format.proofs.SplitLaws.{one_split}
use Rattle.gc_event.specs.Notes.{IsOneOf, Identity, identity_of, concerns, Note, Own, Dead, id_of, chunk_of, number_of}
use Rattle.gc_law.specs.Events.{NotedEvent, RecordEvent, SealEvent, notes, seal_of, sealed_image, placed_of, NotFalling, IsClosed, SealsLast, IsSealedFile, IsTelling, IsTold}
use Rattle.dir_files.specs.Ports.{either_file}

pub none_some : {A : Type 0} (a : A) → None ≡ Some a → ⊥
none_some a e = cc

pub one_some : {A : Type 0} (a b : A) → Some a ≡ Some b → a ≡ b
one_some a b e = cc

pub both : {A : Type 0} (b : Bool) → b ≡ true → b ≡ false → A
both b t f = absurd (true≢false (sym t ∙ f))

-- a record's command touches the keys that its identity concerns
pub touches_is : (r : Record) (k : Key) → touches (command_of r) k ≡ concerns (identity_of r) k
touches_is (Value seq prefix key value) k = refl
touches_is (Tomb seq prefix key) k = refl
touches_is (Clear prefix seq) k = refl

-- ---- members

pub one_of_append : {A : Type 0} (xs ys : List A) (x : A) → IsOneOf x (xs ++ ys) → IsOneOf x xs ⊎ IsOneOf x ys
one_of_append [] ys x h = inr h
one_of_append (y ∷ xs) ys x h =
    elim h [ inl e ↦ inl (inl e) | inr more ↦ elim (one_of_append xs ys x more) [ inl a ↦ inl (inr a) | inr b ↦ inr b ] ]

pub one_of_left : {A : Type 0} (xs ys : List A) (x : A) → IsOneOf x xs → IsOneOf x (xs ++ ys)
one_of_left [] ys x h = absurd h
one_of_left (y ∷ xs) ys x h = elim h [ inl e ↦ inl e | inr more ↦ inr (one_of_left xs ys x more) ]

pub one_of_right : {A : Type 0} (xs ys : List A) (x : A) → IsOneOf x ys → IsOneOf x (xs ++ ys)
one_of_right [] ys x h = h
one_of_right (y ∷ xs) ys x h = inr (one_of_right xs ys x h)

pub in_filter : {A : Type 0} (test : A → Bool) (xs : List A) (x : A) → IsOneOf x xs → test x ≡ true → IsOneOf x (filter test xs)
in_filter test [] x h t = absurd h
in_filter test (y ∷ xs) x h t = elim h [
  | inl e ↦ first (test y) (ap test (sym e) ∙ t) e
  | inr more ↦ later (test y) (in_filter test xs x more t)
] where
  first : (b : Bool) → b ≡ true → x ≡ y → IsOneOf x (cond b (y ∷ filter test xs) (filter test xs))
  first true u e = inl e
  first false u e = absurd (true≢false (sym u))

  later : (b : Bool) → IsOneOf x (filter test xs) → IsOneOf x (cond b (y ∷ filter test xs) (filter test xs))
  later true i = inr i
  later false i = i

pub from_filter : {A : Type 0} (test : A → Bool) (xs : List A) (x : A) → IsOneOf x (filter test xs) → IsOneOf x xs × (test x ≡ true)
from_filter test [] x h = absurd h
from_filter test (y ∷ xs) x h = by_test (test y) refl (from_filter test xs x) h where
  by_test : (b : Bool) → test y ≡ b → (IsOneOf x (filter test xs) → IsOneOf x xs × (test x ≡ true)) → IsOneOf x (cond b (y ∷ filter test xs) (filter test xs)) → IsOneOf x (y ∷ xs) × (test x ≡ true)
  by_test true e later i = elim i [ inl same ↦ (inl same, ap test same ∙ e) | inr more ↦ (inr (later more).0, (later more).1) ]
  by_test false e later i = (inr (later i).0, (later i).1)

pub in_map : {A B : Type 0} (f : A → B) (xs : List A) (x : A) → IsOneOf x xs → IsOneOf (f x) (map f xs)
in_map f [] x h = absurd h
in_map f (y ∷ xs) x h = elim h [ inl e ↦ inl (ap f e) | inr more ↦ inr (in_map f xs x more) ]

pub from_map : {A B : Type 0} (f : A → B) (xs : List A) (y : B) → IsOneOf y (map f xs) → (x : A) × IsOneOf x xs × (y ≡ f x)
from_map f [] y h = absurd h
from_map f (x ∷ xs) y h = elim h [
  | inl e ↦ (x, inl refl, e)
  | inr more ↦
      let w = from_map f xs y more in
      (w.0, inr w.1, w.2)
]

-- ---- lists in two parts

pub notes-append : (xs ys : List NotedEvent) → notes (xs ++ ys) ≡ notes xs ++ notes ys
notes-append [] ys = refl
notes-append (RecordEvent note ∷ xs) ys = ap (λ (ns : List Note). note ∷ ns) (notes-append xs ys)
notes-append (SealEvent name file size ∷ xs) ys = notes-append xs ys

or_by : (b : Bool) (file : FileState) (x y : Option FileState) → cond b (Some file) (either_file x y) ≡ either_file (cond b (Some file) x) y
or_by true file x y = refl
or_by false file x y = refl

pub seal_of-append : (xs ys : List NotedEvent) (name : ChunkName) → seal_of (xs ++ ys) name ≡ either_file (seal_of xs name) (seal_of ys name)
seal_of-append [] ys name = refl
seal_of-append (RecordEvent note ∷ xs) ys name = seal_of-append xs ys name
seal_of-append (SealEvent own file size ∷ xs) ys name =
    ap (λ (x : Option FileState). cond (is_name name own) (Some file) x) (seal_of-append xs ys name) ∙ or_by (is_name name own) file (seal_of xs name) (seal_of ys name)

closed_by : (b : Bool) (name own : ChunkName) (file f : FileState) (xs ys : List NotedEvent) → is_name name own ≡ b → IsClosed own (xs ++ ys)
    → (seal_of xs name ≡ Some f → IsClosed name ys) → cond b (Some file) (seal_of xs name) ≡ Some f → IsClosed name ys
closed_by true name own file f xs ys same closed later h =
    let is : name ≡ own = is_name-true name own same in
    subst (λ (n : ChunkName). IsClosed n ys) (sym is)
    (record {
      none_noted = λ n i. closed.none_noted n (subst (λ (ns : List Note). IsOneOf n ns) (sym (notes-append xs ys)) (one_of_right (notes xs) (notes ys) n i));
      none_sealed = right_none (seal_of xs own) (seal_of ys own) (sym (seal_of-append xs ys own) ∙ closed.none_sealed);
    })
  where
    right_none : (x y : Option FileState) → either_file x y ≡ None → y ≡ None
    right_none None y e = e
    right_none (Some g) y e = absurd (none_some g (sym e))
closed_by false name own file f xs ys apart closed later h = later h

-- where a chunk's Seal is in the first part, none of the second is of it
pub closed_behind : (xs ys : List NotedEvent) (name : ChunkName) (f : FileState) → SealsLast (xs ++ ys) → seal_of xs name ≡ Some f → IsClosed name ys
closed_behind [] ys name f last h = absurd (none_some f h)
closed_behind (RecordEvent note ∷ xs) ys name f last h = closed_behind xs ys name f last h
closed_behind (SealEvent own file size ∷ xs) ys name f last h =
    closed_by (is_name name own) name own file f xs ys refl last.0 (closed_behind xs ys name f last.1) h

falling_from : (low : ℕ) (ns : List Note) (n : Note) → NotFalling low ns → IsOneOf n ns → low ≤ number_of n
falling_from low [] n h i = absurd i
falling_from low (m ∷ ns) n h i =
    elim i [ inl e ↦ omega (arith, h.0, ap number_of e) | inr more ↦ omega (arith, h.0, falling_from (number_of m) ns n h.1 more) ]

-- and no number of the second part is below one of the first
pub falling_across : (low : ℕ) (xs ys : List Note) (m n : Note) → NotFalling low (xs ++ ys) → IsOneOf m xs → IsOneOf n ys → number_of m ≤ number_of n
falling_across low [] ys m n h i j = absurd i
falling_across low (x ∷ xs) ys m n h i j =
    elim i [
      | inl e ↦ omega (arith, ap number_of e, falling_from (number_of x) (xs ++ ys) n h.1 (one_of_right xs ys n j))
      | inr more ↦ falling_across (number_of x) xs ys m n h.1 more j
    ]

-- ---- records of events of their own kind

own_here : (name chunk : ChunkName) (r content : Record) (xs : List Record) (b : Bool) → is_name name chunk ≡ b → r ≡ content → name ≡ chunk → IsIn r (cond b (content ∷ xs) xs)
own_here name chunk r content xs true same e is = inl e
own_here name chunk r content xs false apart e is = absurd (true≢false (sym (is_name-same chunk) ∙ (ap (λ (n : ChunkName). is_name n chunk) (sym is) ∙ apart)))

own_later : (r content : Record) (xs : List Record) (b : Bool) → IsIn r xs → IsIn r (cond b (content ∷ xs) xs)
own_later r content xs true h = inr h
own_later r content xs false h = h

abbrev content_of_note : Note → Record → Record
content_of_note (Own content chunk) r = content
content_of_note (Dead id chunk) r = r

own_content : (r content : Record) (name chunk : ChunkName) → Own r name ≡ Own content chunk → (r ≡ content) × (name ≡ chunk)
own_content r content name chunk e = (content_same, ap chunk_of e) where
  content_same : r ≡ content
  content_same = ap (λ (n : Note). content_of_note n r) e

own_not_dead : (r : Record) (name chunk : ChunkName) (id : Identity) → Own r name ≡ Dead id chunk → ⊥
own_not_dead r name chunk id e = cc

-- such a record is one of its chunk
pub placed_in_chunk : (ns : List Note) (name : ChunkName) (r : Record) → IsOneOf (Own r name) ns → IsIn r (in_chunk name (placed_of ns))
placed_in_chunk [] name r h = absurd h
placed_in_chunk (Own content chunk ∷ ns) name r h =
    elim h [
      | inl e ↦ own_here name chunk r content (in_chunk name (placed_of ns)) (is_name name chunk) refl (own_content r content name chunk e).0 (own_content r content name chunk e).1
      | inr more ↦ own_later r content (in_chunk name (placed_of ns)) (is_name name chunk) (placed_in_chunk ns name r more)
    ]
placed_in_chunk (Dead id chunk ∷ ns) name r h = elim h [ inl e ↦ absurd (own_not_dead r name chunk id e) | inr more ↦ placed_in_chunk ns name r more ]

from_chunk_by : (ns : List Note) (name chunk : ChunkName) (r content : Record) (xs : List Record) (b : Bool) → is_name name chunk ≡ b
    → (IsIn r xs → IsOneOf (Own r name) ns) → IsIn r (cond b (content ∷ xs) xs) → (Own r name ≡ Own content chunk) ⊎ IsOneOf (Own r name) ns
from_chunk_by ns name chunk r content xs true same later h =
    elim h [ inl e ↦ inl (subst (λ (n : ChunkName). Own r n ≡ Own content chunk) (sym (is_name-true name chunk same)) (ap (λ (x : Record). Own x chunk) e)) | inr more ↦ inr (later more) ]
from_chunk_by ns name chunk r content xs false apart later h = inr (later h)

pub in_chunk_placed : (ns : List Note) (name : ChunkName) (r : Record) → IsIn r (in_chunk name (placed_of ns)) → IsOneOf (Own r name) ns
in_chunk_placed [] name r h = absurd h
in_chunk_placed (Own content chunk ∷ ns) name r h =
    from_chunk_by ns name chunk r content (in_chunk name (placed_of ns)) (is_name name chunk) refl (in_chunk_placed ns name r) h
in_chunk_placed (Dead id chunk ∷ ns) name r h = inr (in_chunk_placed ns name r h)

-- and stands where it may
pub placed_at : (p : ℕ) (ns : List Note) (xs : List Placed) (r : Record) (chunk : ChunkName) → AllByRecursion (IsPlaced p) (placed_of ns ++ xs) → IsOneOf (Own r chunk) ns
    → IsPlaced p (record { content = r; chunk = chunk })
placed_at p [] xs r chunk placed h = absurd h
placed_at p (Own content own ∷ ns) xs r chunk placed h =
    elim h [
      | inl e ↦ subst (λ (n : Note). placed_by n) (sym e) placed.0
      | inr more ↦ placed_at p ns xs r chunk placed.1 more
    ]
  where
    placed_by : Note → Type 0
    placed_by (Own x c) = IsPlaced p (record { content = x; chunk = c })
    placed_by (Dead id c) = Unit {0}
placed_at p (Dead id own ∷ ns) xs r chunk placed h = elim h [ inl e ↦ absurd (own_not_dead r chunk own id e) | inr more ↦ placed_at p ns xs r chunk placed more ]

-- ---- sources

-- the file of a Seal has the record
pub record InSeal (p : ℕ) (es : List NotedEvent) (r : Record) : Type 0 where
  pub name : ChunkName
  pub file : FileState
  pub sealed : IsSealedFile p es name file
  pub member : IsIn r sealed.records

module _ (p : ℕ) (es : List NotedEvent) (telling : IsTelling p es) where
  in_seal_by : (r : Record) (f : Fact (sealed_image es) p r) (s : Option FileState) → seal_of es f.name ≡ s → option_map (λ (file : FileState). file.bytes) s ≡ Some f.bytes → InSeal p es r
  in_seal_by r f None e there = absurd (none_some f.bytes there)
  in_seal_by r f (Some g) e there =
      let sealed = telling.seals f.name g e in
      let bytes : f.bytes ≡ g.bytes = cc in
      record {
        name = f.name;
        file = g;
        sealed = sealed;
        member =
            subst (λ (rs : List Record). IsIn r rs)
            (one_split (class_of_kind f.name.kind) g.bytes f.records sealed.records f.rest sealed.rest
            (subst (λ (b : List ℕ). Splits (class_of_kind f.name.kind) b f.records f.rest) bytes f.whole) sealed.split).0
            (in_from_Contains r f.records f.has);
      }

  pub in_seal : (r : Record) → Fact (sealed_image es) p r → InSeal p es r
  in_seal r f = in_seal_by r f (seal_of es f.name) refl f.there

  -- a source is noted
  pub told_noted : (r : Record) → IsTold p es r → (n : Note) × IsOneOf n (notes es) × (id_of n ≡ identity_of r)
  told_noted r (inl own) = (Own r own.0, own.1, refl)
  told_noted r (inr f) =
      let s = in_seal r f in
      let n = s.sealed.noted r s.member in
      (n.note, n.member, n.is)

  -- and two with one number are one
  pub one_told : (r s : Record) → IsTold p es r → IsTold p es s → seq_of r ≡ seq_of s → r ≡ s
  one_told r s (inl a) (inl b) e = telling.content r s a.0 b.0 a.1 b.1 e
  one_told r s (inl a) (inr g) e =
      let x = in_seal s g in
      sym (x.sealed.content s r a.0 x.member a.1 e)
  one_told r s (inr f) (inl b) e =
      let x = in_seal r f in
      x.sealed.content r s b.0 x.member b.1 (sym e)
  one_told r s (inr f) (inr g) e = telling.agree r s f g e
