-- A collector's steps keep its facts.
use Rattle.std.specs.Prelude.{◌≡◌, ◌≢◌, ◌⊎◌, ℕ, ◌≤◌, Bool, true, false, not, cond, List, [], ◌∷◌, ◌++◌, length, take, All, Option, Some, None, IsSome, refl}
use Rattle.std.proofs.Common.{sym, ◌∙◌, ap, subst, inl, inr, arith, true≢false, append_assoc, length-append}
use Rattle.std.specs.Option.{option_map}
use Rattle.std.proofs.lemmas.List.{append-nil}
use Rattle.std.proofs.lemmas.Grind.{flat_map-append}
use Rattle.std.specs.List.{AllByRecursion}
use Rattle.std.proofs.lemmas.List.Elements.{All-nil, recursion_from_All, All-from_recursion}
use Rattle.hr_base.specs.declared.limits.TheConstants.{MAX_FILE_LEN}
use Rattle.hr_base.specs.declared.name.ChunkName.{ChunkName}
use Rattle.hr_base.specs.declared.name.Class.{Class}
use Rattle.hr_base.specs.declared.name.Class.TheVariants.{Value as Values, Tomb as Tombs, Clear as Clears}
use Rattle.hr_base.specs.Entries.{Key}
use Rattle.hr_base.specs.Names.{class_of_kind}
use Rattle.hr_base.specs.NameTests.{is_name}
use Rattle.hr_base.proofs.NameTestLaws.{is_name-true, is_name-same, same_name_or_not}
use Rattle.dir_files.specs.Files.{FileState, Files, Names, Rises, new_file, with_bytes}
use Rattle.record_format.specs.declared.record.Record.{Record}
use Rattle.record_format.specs.Spelling.{seq_of, class_of_record, spelling, spellings}
use Rattle.record_format.specs.Splits.{Splits, IsOfClass}
use Rattle.record_format.specs.Prefixes.{PrefixSplit}
use Rattle.record_format.proofs.SplitLaws.{one_split, a_prefix_splits, whole_spellings_split, nothing_is_torn}
use Rattle.crash_law.specs.Chunks.{LeavesFront}
use Rattle.crash_law.specs.Numbered.{IsIn}
use Rattle.crash_law.proofs.ChunkLaws.{leaves_front}
use Rattle.crash_law.proofs.NumberedLaws.{Contains-from_in}
use Rattle.crash_law.proofs.PlacedLaws.{in_front, in_append}
use Rattle.gc_event.specs.Notes.{IsOneOf, Identity, identity_of, Note, Own, Dead, id_of, chunk_of, number_of, top, Occurrence, occurrence, NoSmallerValue}
use Rattle.gc_law.specs.Events.{NotedEvent, RecordEvent, SealEvent, notes, seal_of, NotFalling, SealsLast, IsSealedFile, IsTelling, IsTold}
use Rattle.dir_files.specs.Ports.{either_file}
use Rattle.gc_law.specs.CollectorFacts.{Gathered, HoldsSplit, IsSafeAt, IsSafe, HasPlace, KeepsBy, KeepsTop, IsGatheredFile, KeptBy, nothing_gathered}
use Rattle.gc_law.specs.Steps.{HearsNote, HearsSeal, BeginsCopyFile, RecordCopy, CopiesRecord, SecuresFiles, IsSpare, RemovesSource, outside, FixesRemovals}
use Rattle.gc_event.proofs.NoteLaws.{top_is, top-push_cases}
use Rattle.gc_law.proofs.EventLaws.{none_some, one_some, in_filter, from_filter, one_of_append, one_of_left, one_of_right, notes-append, seal_of-append, closed_behind, falling_across}

-- ---- what is kept of a top

pub keeps_more : (class : Class) (kept bare kept' bare' : Type 0) → (kept → kept') → (bare → bare') → KeepsBy class kept bare → KeepsBy class kept' bare'
keeps_more Values kept bare kept' bare' f g h = f h
keeps_more Tombs kept bare kept' bare' f g h = elim h [ inl a ↦ inl (f a) | inr b ↦ inr (g b) ]
keeps_more Clears kept bare kept' bare' f g h = elim h [ inl a ↦ inl (f a) | inr b ↦ inr (g b) ]

pub keeps_placed : (class : Class) (kept bare : Type 0) → kept → KeepsBy class kept bare
keeps_placed Values kept bare h = h
keeps_placed Tombs kept bare h = inl h
keeps_placed Clears kept bare h = inl h

-- of each top what is kept goes over
tops_more : (p : ℕ) (heard later : List NotedEvent) (c t : Gathered) (k : Key) (n : Option Note)
    → ((r : Record) (chunk : ChunkName) → n ≡ Some (Own r chunk) → KeepsBy (class_of_record r) (HasPlace p heard c.files r chunk) (NoSmallerValue c.present k (seq_of r))
    → KeepsBy (class_of_record r) (HasPlace p later t.files r chunk) (NoSmallerValue t.present k (seq_of r)))
    → KeepsTop p heard c k n → KeepsTop p later t k n
tops_more p heard later c t k None f h = tt
tops_more p heard later c t k (Some (Dead id chunk)) f h = tt
tops_more p heard later c t k (Some (Own r chunk)) f h = f r chunk refl h

-- ---- files

pub safe_same : (files changed : Files) (name : ChunkName) (r : Record) → changed name ≡ files name → IsSafeAt files name r → IsSafeAt changed name r
safe_same files changed name r same s = record { file = s.file; safe = s.safe; more = s.more; rest = s.rest; there = same ∙ s.there; named = s.named; holds = s.holds; has = s.has }

known_later : (p : ℕ) (heard more : List NotedEvent) (r : Record) → IsTold p heard r → IsTold p (heard ++ more) r
known_later p heard more r (inl own) = inl (own.0, subst (λ (ns : List Note). IsOneOf (Own r own.0) ns) (sym (notes-append heard more)) (one_of_left (notes heard) (notes more) (Own r own.0) own.1))
known_later p heard more r (inr f) = inr (record {
  name = f.name;
  bytes = f.bytes;
  records = f.records;
  rest = f.rest;
  partition = f.partition;
  there = ap (option_map (λ (file : FileState). file.bytes)) (seal_of-append heard more f.name) ∙ left_some (seal_of heard f.name) (seal_of more f.name) f.bytes f.there;
  whole = f.whole;
  has = f.has;
}) where
  left_some : (x y : Option FileState) (b : List ℕ) → option_map (λ (file : FileState). file.bytes) x ≡ Some b → option_map (λ (file : FileState). file.bytes) (either_file x y) ≡ Some b
  left_some None y b e = absurd (none_some b e)
  left_some (Some g) y b e = e

gathered_later : (p : ℕ) (heard more : List NotedEvent) (present others : List Occurrence) (name : ChunkName) (file : FileState)
    → ((o : Occurrence) → IsOneOf o present → o.chunk ≡ name → IsOneOf o others) → IsGatheredFile p heard present name file → IsGatheredFile p (heard ++ more) others name file
gathered_later p heard more present others name file there h = record {
  small = h.small;
  records = h.records;
  rest = h.rest;
  split = h.split;
  torn = h.torn;
  marked = λ r i. there (occurrence (identity_of r) name) (h.marked r i) refl;
  told = λ r i. known_later p heard more r (h.told r i);
}

gathered_same : (p : ℕ) (heard : List NotedEvent) (present others : List Occurrence) (name : ChunkName) (file : FileState)
    → ((o : Occurrence) → IsOneOf o present → o.chunk ≡ name → IsOneOf o others) → IsGatheredFile p heard present name file → IsGatheredFile p heard others name file
gathered_same p heard present others name file there h = record {
  small = h.small;
  records = h.records;
  rest = h.rest;
  split = h.split;
  torn = h.torn;
  marked = λ r i. there (occurrence (identity_of r) name) (h.marked r i) refl;
  told = h.told;
}

gathered_bytes : (p : ℕ) (heard : List NotedEvent) (present : List Occurrence) (name : ChunkName) (file other : FileState) → other.bytes ≡ file.bytes → IsGatheredFile p heard present name file → IsGatheredFile p heard present name other
gathered_bytes p heard present name file other e h = record {
  small = subst (λ (b : List ℕ). length b ≤ MAX_FILE_LEN) (sym e) h.small;
  records = h.records;
  rest = h.rest;
  split = subst (λ (b : List ℕ). Splits (class_of_kind name.kind) b h.records h.rest) (sym e) h.split;
  torn = h.torn;
  marked = h.marked;
  told = h.told;
}

-- ---- what is present outside some chunks

pub still_present : (c t : Gathered) (removed : Names) → t.present ≡ outside removed c.present → (o : Occurrence) → IsOneOf o c.present → removed o.chunk ≡ false → IsOneOf o t.present
still_present c t removed e o i stays = subst (λ (os : List Occurrence). IsOneOf o os) (sym e) (in_filter (λ (x : Occurrence). not (removed x.chunk)) c.present o i (ap not stays))

pub was_present : (c t : Gathered) (removed : Names) → t.present ≡ outside removed c.present → (o : Occurrence) → IsOneOf o t.present → IsOneOf o c.present
was_present c t removed e o i = (from_filter (λ (x : Occurrence). not (removed x.chunk)) c.present o (subst (λ (os : List Occurrence). IsOneOf o os) e i)).0

-- ---- a record event is heard

module _ (p : ℕ) (heard unheard : List NotedEvent) (c t : Gathered) (n : Note) (telling : IsTelling p (heard ++ RecordEvent n ∷ unheard)) (h : KeptBy p heard c) (hears : HearsNote c t n) where
  pub unsealed : seal_of heard (chunk_of n) ≡ None
  unsealed = by_seal (seal_of heard (chunk_of n)) refl where
    by_seal : (s : Option FileState) → seal_of heard (chunk_of n) ≡ s → seal_of heard (chunk_of n) ≡ None
    by_seal None e = e
    by_seal (Some g) e = absurd ((closed_behind heard (RecordEvent n ∷ unheard) (chunk_of n) g telling.last e).none_noted n (inl refl) refl)

  pub seal_same : (name : ChunkName) → seal_of (heard ++ RecordEvent n ∷ []) name ≡ seal_of heard name
  seal_same name = seal_of-append heard (RecordEvent n ∷ []) name ∙ or_none (seal_of heard name) where
    or_none : (x : Option FileState) → either_file x None ≡ x
    or_none None = refl
    or_none (Some g) = refl

  pub notes_same : notes (heard ++ RecordEvent n ∷ []) ≡ notes heard ++ n ∷ []
  notes_same = notes-append heard (RecordEvent n ∷ [])

  present_left : (o : Occurrence) → IsOneOf o c.present → IsOneOf o t.present
  present_left o i = subst (λ (os : List Occurrence). IsOneOf o os) (sym hears.present) (one_of_left c.present (occurrence (id_of n) (chunk_of n) ∷ []) o i)

  -- the new occurrence has no smaller number than what was heard
  pub none_smaller : (k : Key) (m : Note) → IsOneOf m (notes heard) → NoSmallerValue c.present k (number_of m) → NoSmallerValue t.present k (number_of m)
  none_smaller k m i none o j value concerned =
      elim (one_of_append c.present (occurrence (id_of n) (chunk_of n) ∷ []) o (subst (λ (os : List Occurrence). IsOneOf o os) hears.present j)) [
        | inl before ↦ none o before value concerned
        | inr now ↦ elim now [
          | inl e ↦
              omega (
                arith,
                falling_across 0 (notes heard) (n ∷ notes unheard) m n (subst (NotFalling 0) (notes-append heard (RecordEvent n ∷ unheard)) telling.rising) i (inl refl),
                ap (λ (x : Occurrence). x.id.seq) e,
              )
          | inr more ↦ absurd more
        ]
      ]

  safe_on : (r : Record) → IsSafe p c.files r → IsSafe p t.files r
  safe_on r s = (s.0, s.1, safe_same c.files t.files s.0 r (hears.files s.0) s.2)

  place_on : (r : Record) (chunk : ChunkName) → HasPlace p heard c.files r chunk → HasPlace p (heard ++ RecordEvent n ∷ []) t.files r chunk
  place_on r chunk (inl none) = inl (seal_same chunk ∙ none)
  place_on r chunk (inr safe) = inr (safe_on r safe)

  top_new : (k : Key) (m : Note) → m ≡ n → KeepsTop p (heard ++ RecordEvent n ∷ []) t k (Some m)
  top_new k (Dead id chunk) e = tt
  top_new k (Own r chunk) e = keeps_placed (class_of_record r) _ _ (inl (seal_same chunk ∙ (ap (λ (x : Note). seal_of heard (chunk_of x)) e ∙ unsealed)))

  tops_heard : (k : Key) → KeepsTop p (heard ++ RecordEvent n ∷ []) t k (top (notes (heard ++ RecordEvent n ∷ [])) k)
  tops_heard k =
      subst (λ (ns : List Note). KeepsTop p (heard ++ RecordEvent n ∷ []) t k (top ns k)) (sym notes_same)
      (elim (top-push_cases (notes heard) k n) [
        | inl old ↦ subst (KeepsTop p (heard ++ RecordEvent n ∷ []) t k) (sym old)
            (tops_more p heard (heard ++ RecordEvent n ∷ []) c t k (top (notes heard) k)
            (λ r chunk e. keeps_more (class_of_record r) _ _ _ _ (place_on r chunk) (none_smaller k (Own r chunk) (top_is (notes heard) k (Own r chunk) e).member)) (h.tops k))
        | inr new ↦ subst (KeepsTop p (heard ++ RecordEvent n ∷ []) t k) (sym new) (top_new k n refl)
      ])

  noted_before : (m : Note) → IsOneOf m (notes (heard ++ RecordEvent n ∷ [])) → IsOneOf m (notes heard) ⊎ (m ≡ n)
  noted_before m i =
      elim (one_of_append (notes heard) (n ∷ []) m (subst (λ (ns : List Note). IsOneOf m ns) notes_same i)) [
        | inl before ↦ inl before
        | inr now ↦ elim now [ inl e ↦ inr e | inr more ↦ absurd more ]
      ]

  pub kept_noted : KeptBy p (heard ++ RecordEvent n ∷ []) t
  kept_noted = record {
    tops = tops_heard;
    files = λ name file of e. gathered_later p heard (RecordEvent n ∷ []) c.present t.present name file (λ o i _. present_left o i) (h.files name file of (sym (hears.files name) ∙ e));
    gone = λ name file of e. gathered_later p heard (RecordEvent n ∷ []) c.present t.present name file (λ o i _. present_left o i) (h.gone name file of (sym (hears.gone name) ∙ e));
    noted = λ o i. elim (one_of_append c.present (occurrence (id_of n) (chunk_of n) ∷ []) o (subst (λ (os : List Occurrence). IsOneOf o os) hears.present i)) [
      | inl before ↦
          let w = h.noted o before in
          (w.0, subst (λ (ns : List Note). IsOneOf w.0 ns) (sym notes_same) (one_of_left (notes heard) (n ∷ []) w.0 w.1), w.2)
      | inr now ↦ elim now [
        | inl e ↦ (n, subst (λ (ns : List Note). IsOneOf n ns) (sym notes_same) (one_of_right (notes heard) (n ∷ []) n (inl refl)), ap (λ (x : Occurrence). x.id) (sym e))
        | inr more ↦ absurd more
      ]
    ];
    unsealed = λ m i e. elim (noted_before m i) [
      | inl before ↦ present_left _ (h.unsealed m before (sym (seal_same (chunk_of m)) ∙ e))
      | inr same ↦ subst (λ (x : Note). IsOneOf (occurrence (id_of x) (chunk_of x)) t.present) (sym same)
          (subst (λ (os : List Occurrence). IsOneOf (occurrence (id_of n) (chunk_of n)) os) (sym hears.present) (one_of_right c.present (occurrence (id_of n) (chunk_of n) ∷ []) _ (inl refl)))
    ];
  }

-- ---- a Seal is heard

module _ (p : ℕ) (heard unheard : List NotedEvent) (c t : Gathered) (name : ChunkName) (file : FileState) (size : ℕ)
    (telling : IsTelling p (heard ++ SealEvent name file size ∷ unheard)) (h : KeptBy p heard c) (hears : HearsSeal c t name file) where
  abbrev pub now : List NotedEvent
  now = heard ++ SealEvent name file size ∷ []

  not_sealed : seal_of heard name ≡ None
  not_sealed = by_seal (seal_of heard name) refl where
    clash : (b : Bool) (x : Option FileState) → b ≡ true → cond b (Some file) x ≡ None → ⊥
    clash true x e f = none_some file (sym f)
    clash false x e f = true≢false (sym e)

    by_seal : (s : Option FileState) → seal_of heard name ≡ s → seal_of heard name ≡ None
    by_seal None e = e
    by_seal (Some g) e = absurd (clash (is_name name name) (seal_of unheard name) (is_name-same name) (closed_behind heard (SealEvent name file size ∷ unheard) name g telling.last e).none_sealed)

  sealed_here_by : (b : Bool) (x : Option FileState) → b ≡ true → cond b (Some file) x ≡ Some file
  sealed_here_by true x e = refl
  sealed_here_by false x e = absurd (true≢false (sym e))

  sealed_all : seal_of (heard ++ SealEvent name file size ∷ unheard) name ≡ Some file
  sealed_all =
      seal_of-append heard (SealEvent name file size ∷ unheard) name
      ∙ ap (λ (x : Option FileState). either_file x (cond (is_name name name) (Some file) (seal_of unheard name))) not_sealed
      ∙ sealed_here_by (is_name name name) (seal_of unheard name) (is_name-same name)

  pub sealed : IsSealedFile p (heard ++ SealEvent name file size ∷ unheard) name file
  sealed = telling.seals name file sealed_all

  pub notes_now : notes now ≡ notes heard
  notes_now = notes-append heard (SealEvent name file size ∷ []) ∙ append-nil (notes heard)

  -- what was noted with the chunk was heard
  noted_heard : (m : Note) → IsOneOf m (notes (heard ++ SealEvent name file size ∷ unheard)) → chunk_of m ≡ name → IsOneOf m (notes heard)
  noted_heard m i e =
      elim (one_of_append (notes heard) (notes unheard) m (subst (λ (ns : List Note). IsOneOf m ns) (notes-append heard (SealEvent name file size ∷ unheard)) i)) [
        | inl before ↦ before
        | inr behind ↦ absurd (closed_now m behind e)
      ]
    where
      last_of : (xs : List NotedEvent) → SealsLast (xs ++ SealEvent name file size ∷ unheard) → (x : Note) → IsOneOf x (notes unheard) → chunk_of x ≡ name → ⊥
      last_of [] l x j f = l.0.none_noted x j f
      last_of (RecordEvent y ∷ xs) l x j f = last_of xs l x j f
      last_of (SealEvent y g z ∷ xs) l x j f = last_of xs l.1 x j f

      closed_now : (x : Note) → IsOneOf x (notes unheard) → chunk_of x ≡ name → ⊥
      closed_now = last_of heard telling.last

  pub seal_other : (other : ChunkName) → other ≢ name → seal_of now other ≡ seal_of heard other
  seal_other other ne = seal_of-append heard (SealEvent name file size ∷ []) other ∙ by_other (is_name other name) refl (seal_of heard other) where
    by_other : (b : Bool) → is_name other name ≡ b → (x : Option FileState) → either_file x (cond b (Some file) None) ≡ x
    by_other true e x = absurd (ne (is_name-true other name e))
    by_other false e None = refl
    by_other false e (Some g) = refl

  heard_in_all : (m : Note) → IsOneOf m (notes heard) → IsOneOf m (notes (heard ++ SealEvent name file size ∷ unheard))
  heard_in_all m i = subst (λ (ns : List Note). IsOneOf m ns) (sym (notes-append heard (SealEvent name file size ∷ unheard))) (one_of_left (notes heard) (notes unheard) m i)

  -- each record of the chunk is safe in the file
  pub safe_now : (r : Record) → IsOneOf (Own r name) (notes heard) → IsSafeAt t.files name r
  safe_now r i =
      let w = sealed.all (Own r name) (heard_in_all (Own r name) i) refl in
      record {
        file = file;
        safe = sealed.records;
        more = [];
        rest = sealed.rest;
        there = hears.files.at;
        named = sealed.durable.named;
        holds = record {
          split = subst (λ (rs : List Record). Splits (class_of_kind name.kind) file.bytes rs sealed.rest) (sym (append-nil sealed.records)) sealed.split;
          torn = sealed.torn;
          front = omega (arith, sealed.durable.front, ap length sealed.split.whole, length-append (spellings sealed.records) sealed.rest);
        };
        has = subst (λ (x : Record). IsIn x sealed.records) (sealed.content w.0 r name w.1 (heard_in_all (Own r name) i) (sym (ap (λ (id : Identity). id.seq) w.2))) w.1;
      }

  place_now : (k : Key) (r : Record) (chunk : ChunkName) → IsOneOf (Own r chunk) (notes heard) → HasPlace p heard c.files r chunk → HasPlace p now t.files r chunk
  place_now k r chunk i (inr s) = inr (s.0, s.1, safe_same c.files t.files s.0 r (hears.files.others s.0 (λ e. none_some s.2.file (sym hears.none ∙ (ap c.files (sym e) ∙ s.2.there)))) s.2)
  place_now k r chunk i (inl none) = elim (same_name_or_not chunk name) [
    | inl e ↦ inr (name, sealed.partition, safe_now r (subst (λ (x : ChunkName). IsOneOf (Own r x) (notes heard)) e i))
    | inr ne ↦ inl (seal_other chunk ne ∙ none)
  ]

  gathered_now : IsGatheredFile p now t.present name file
  gathered_now = record {
    small = sealed.small;
    records = sealed.records;
    rest = sealed.rest;
    split = sealed.split;
    torn = sealed.torn;
    marked = λ r i.
        let w = sealed.noted r i in
        let there = h.unsealed w.note (noted_heard w.note w.member w.chunk) (ap (seal_of heard) w.chunk ∙ not_sealed) in
        subst (λ (os : List Occurrence). IsOneOf (occurrence (identity_of r) name) os) (sym hears.present)
        (subst (λ (id : Identity). IsOneOf (occurrence id name) c.present) w.is (subst (λ (x : ChunkName). IsOneOf (occurrence (id_of w.note) x) c.present) w.chunk there));
    told = λ r i. inr (record {
      name = name;
      bytes = file.bytes;
      records = sealed.records;
      rest = sealed.rest;
      partition = sealed.partition;
      there = ap (option_map (λ (f : FileState). f.bytes)) sealed_now;
      whole = sealed.split;
      has = Contains-from_in r sealed.records i;
    });
  } where
    sealed_now : seal_of now name ≡ Some file
    sealed_now =
        seal_of-append heard (SealEvent name file size ∷ []) name
        ∙ ap (λ (x : Option FileState). either_file x (cond (is_name name name) (Some file) None)) not_sealed
        ∙ sealed_here_by (is_name name name) None (is_name-same name)

  same_present : (o : Occurrence) → IsOneOf o c.present → IsOneOf o t.present
  same_present o i = subst (λ (os : List Occurrence). IsOneOf o os) (sym hears.present) i

  files_now : (other : ChunkName) (f : FileState) → other.partition.0 ≡ p → t.files other ≡ Some f → IsGatheredFile p now t.present other f
  files_now other f of e = elim (same_name_or_not other name) [
    | inl same ↦
        let is : f ≡ file = one_some f file (sym e ∙ (ap t.files same ∙ hears.files.at)) in
        subst (λ (x : ChunkName). IsGatheredFile p now t.present x f) (sym same) (subst (IsGatheredFile p now t.present name) (sym is) gathered_now)
    | inr ne ↦ gathered_later p heard (SealEvent name file size ∷ []) c.present t.present other f (λ o i _. same_present o i) (h.files other f of (sym (hears.files.others other ne) ∙ e))
  ]

  pub kept_sealed : KeptBy p now t
  kept_sealed = record {
    tops = λ k. subst (λ (ns : List Note). KeepsTop p now t k (top ns k)) (sym notes_now)
        (tops_more p heard now c t k (top (notes heard) k)
        (λ r chunk e. keeps_more (class_of_record r) _ _ _ _ (place_now k r chunk (top_is (notes heard) k (Own r chunk) e).member)
        (λ none. subst (λ (os : List Occurrence). NoSmallerValue os k (seq_of r)) (sym hears.present) none)) (h.tops k));
    files = files_now;
    gone = λ other f of e. gathered_later p heard (SealEvent name file size ∷ []) c.present t.present other f (λ o i _. same_present o i) (h.gone other f of (sym (hears.gone other) ∙ e));
    noted = λ o i.
        let w = h.noted o (subst (λ (os : List Occurrence). IsOneOf o os) hears.present i) in
        (w.0, subst (λ (ns : List Note). IsOneOf w.0 ns) (sym notes_now) w.1, w.2);
    unsealed = λ m i e. same_present _ (h.unsealed m (subst (λ (ns : List Note). IsOneOf m ns) notes_now i) (before (seal_of heard (chunk_of m)) (seal_of (SealEvent name file size ∷ []) (chunk_of m)) (sym (seal_of-append heard (SealEvent name file size ∷ []) (chunk_of m)) ∙ e)));
  } where
    before : (x y : Option FileState) → either_file x y ≡ None → x ≡ None
    before None y e = refl
    before (Some g) y e = absurd (none_some g (sym e))

-- ---- steps that hear nothing

-- the tops are kept where each safe record stays so, and no new value is present
module _ (p : ℕ) (heard : List NotedEvent) (c t : Gathered) where
  tops_on : ((k : Key) (r : Record) (chunk : ChunkName) → top (notes heard) k ≡ Some (Own r chunk)
      → KeepsBy (class_of_record r) (HasPlace p heard c.files r chunk) (NoSmallerValue c.present k (seq_of r)) → KeepsBy (class_of_record r) (HasPlace p heard t.files r chunk) (NoSmallerValue t.present k (seq_of r)))
      → ((k : Key) → KeepsTop p heard c k (top (notes heard) k)) → (k : Key) → KeepsTop p heard t k (top (notes heard) k)
  tops_on f h k = tops_more p heard heard c t k (top (notes heard) k) (f k) (h k)

  place_by : (r : Record) (chunk : ChunkName) → (IsSafe p c.files r → IsSafe p t.files r) → HasPlace p heard c.files r chunk → HasPlace p heard t.files r chunk
  place_by r chunk f (inl none) = inl none
  place_by r chunk f (inr safe) = inr (f safe)

  -- where the same occurrences are present
  tops_same : t.present ≡ c.present → ((r : Record) → IsSafe p c.files r → IsSafe p t.files r) → KeptBy p heard c → (k : Key) → KeepsTop p heard t k (top (notes heard) k)
  tops_same same f h =
      tops_on (λ k r chunk e. keeps_more (class_of_record r) _ _ _ _ (place_by r chunk (f r)) (λ none. subst (λ (os : List Occurrence). NoSmallerValue os k (seq_of r)) (sym same) none)) h.tops

-- ---- files are synced

module _ (p : ℕ) (heard : List NotedEvent) (c t : Gathered) (h : KeptBy p heard c) where
  pub risen_safe_by : (name : ChunkName) (r : Record) (s : IsSafeAt c.files name r) (new : Option FileState) → t.files name ≡ new → Rises (Some s.file) new → IsSafeAt t.files name r
  risen_safe_by name r s None e more = absurd more
  risen_safe_by name r s (Some g) e more = record {
    file = g;
    safe = s.safe;
    more = s.more;
    rest = s.rest;
    there = e;
    named = more.named s.named;
    holds = record {
      split = subst (λ (b : List ℕ). Splits (class_of_kind name.kind) b (s.safe ++ s.more) s.rest) (sym more.bytes) s.holds.split;
      torn = s.holds.torn;
      front = omega (arith, s.holds.front, more.front);
    };
    has = s.has;
  }

  risen_safe : ((name : ChunkName) → name.partition.0 ≡ p → Rises (c.files name) (t.files name)) → (r : Record) → IsSafe p c.files r → IsSafe p t.files r
  risen_safe rises r s =
      (s.0, s.1, risen_safe_by s.0 r s.2 (t.files s.0) refl (subst (λ (x : Option FileState). Rises x (t.files s.0)) s.2.there (rises s.0 s.1)))

  risen_file : (name : ChunkName) (old : Option FileState) (file : FileState) → name.partition.0 ≡ p → c.files name ≡ old → t.files name ≡ Some file → Rises old (Some file) → IsGatheredFile p heard c.present name file
  risen_file name None file of e there more = absurd (none_some file (sym more))
  risen_file name (Some g) file of e there more = gathered_bytes p heard c.present name g file more.bytes (h.files name g of e)

  pub kept_secured : SecuresFiles p c t → KeptBy p heard t
  kept_secured s = record {
    tops = tops_same p heard c t s.present (risen_safe s.rises) h;
    files = λ name file of e.
        subst (λ (os : List Occurrence). IsGatheredFile p heard os name file) (sym s.present)
        (risen_file name (c.files name) file of refl e (subst (λ (x : Option FileState). Rises (c.files name) x) e (s.rises name of)));
    gone = λ name file of e. subst (λ (os : List Occurrence). IsGatheredFile p heard os name file) (sym s.present) (h.gone name file of (s.gone name file of e));
    noted = λ o i. h.noted o (subst (λ (os : List Occurrence). IsOneOf o os) s.present i);
    unsealed = λ n i e. subst (λ (os : List Occurrence). IsOneOf (occurrence (id_of n) (chunk_of n)) os) (sym s.present) (h.unsealed n i e);
  }

  -- ---- a copy file is created

  new_gathered : (name : ChunkName) → IsGatheredFile p heard c.present name new_file
  new_gathered name = record {
    small = omega arith;
    records = [];
    rest = [];
    split = whole_spellings_split (class_of_kind name.kind) [] (All-nil (IsOfClass (class_of_kind name.kind)));
    torn = nothing_is_torn (class_of_kind name.kind);
    marked = λ r i. absurd i;
    told = λ r i. absurd i;
  }

  pub kept_begun : (name : ChunkName) → BeginsCopyFile c t name → KeptBy p heard t
  kept_begun name b = record {
    tops = tops_same p heard c t b.present
        (λ r s. (s.0, s.1, safe_same c.files t.files s.0 r (b.files.others s.0 (λ e. none_some s.2.file (sym b.none ∙ (ap c.files (sym e) ∙ s.2.there)))) s.2)) h;
    files = λ other file of e.
        subst (λ (os : List Occurrence). IsGatheredFile p heard os other file) (sym b.present)
        (elim (same_name_or_not other name) [
          | inl same ↦ subst (IsGatheredFile p heard c.present other) (one_some new_file file (sym b.files.at ∙ (ap t.files (sym same) ∙ e))) (new_gathered other)
          | inr ne ↦ h.files other file of (sym (b.files.others other ne) ∙ e)
        ]);
    gone = λ other file of e. subst (λ (os : List Occurrence). IsGatheredFile p heard os other file) (sym b.present) (h.gone other file of (sym (b.gone other) ∙ e));
    noted = λ o i. h.noted o (subst (λ (os : List Occurrence). IsOneOf o os) b.present i);
    unsealed = λ n i e. subst (λ (os : List Occurrence). IsOneOf (occurrence (id_of n) (chunk_of n)) os) (sym b.present) (h.unsealed n i e);
  }

  -- ---- a file is removed

  pub kept_removed : (name : ChunkName) → name.partition.0 ≡ p → RemovesSource c t name → IsSpare p heard c name → KeptBy p heard t
  kept_removed name at m spare = record {
    tops = tops_on p heard c t (λ k r chunk e. kept_by k r chunk e) h.tops;
    files = λ other file of e.
        subst (λ (os : List Occurrence). IsGatheredFile p heard os other file) (sym m.stays)
        (elim (same_name_or_not other name) [
          | inl same ↦ absurd (none_some file (sym m.files.at ∙ (ap t.files (sym same) ∙ e)))
          | inr ne ↦ h.files other file of (sym (m.files.others other ne) ∙ e)
        ]);
    gone = λ other file of e.
        subst (λ (os : List Occurrence). IsGatheredFile p heard os other file) (sym m.stays)
        (elim (same_name_or_not other name) [
          | inl same ↦ h.files other file of (ap c.files same ∙ (m.there ∙ (sym m.gone.at ∙ (ap t.gone (sym same) ∙ e))))
          | inr ne ↦ h.gone other file of (sym (m.gone.others other ne) ∙ e)
        ]);
    noted = λ o i. h.noted o (subst (λ (os : List Occurrence). IsOneOf o os) m.stays i);
    unsealed = λ n i e. subst (λ (os : List Occurrence). IsOneOf (occurrence (id_of n) (chunk_of n)) os) (sym m.stays) (h.unsealed n i e);
  } where
    bare_by : (class : Class) (kept bare : Type 0) → (class ≢ Values) → bare → KeepsBy class kept bare
    bare_by Values kept bare apart b = absurd (apart refl)
    bare_by Tombs kept bare apart b = inr b
    bare_by Clears kept bare apart b = inr b

    stays : (other : ChunkName) (r : Record) → other ≢ name → IsSafeAt c.files other r → IsSafeAt t.files other r
    stays other r ne s = safe_same c.files t.files other r (m.files.others other ne) s

    spared : (k : Key) (r : Record) (chunk : ChunkName) → top (notes heard) k ≡ Some (Own r chunk) → IsSafeAt c.files name r
        → KeepsBy (class_of_record r) (HasPlace p heard t.files r chunk) (NoSmallerValue t.present k (seq_of r))
    spared k r chunk e s = elim (spare k r chunk e s) [
      | inl none ↦ keeps_placed (class_of_record r) _ _ (inl none)
      | inr more ↦ elim more [
        | inl other ↦ keeps_placed (class_of_record r) _ _ (inr (other.0, other.1, stays other.0 r other.2 other.3))
        | inr bare ↦ bare_by (class_of_record r) _ _ bare.0 (subst (λ (os : List Occurrence). NoSmallerValue os k (seq_of r)) (sym m.stays) bare.1)
      ]
    ]

    placed_on : (k : Key) (r : Record) (chunk : ChunkName) → top (notes heard) k ≡ Some (Own r chunk) → HasPlace p heard c.files r chunk
        → KeepsBy (class_of_record r) (HasPlace p heard t.files r chunk) (NoSmallerValue t.present k (seq_of r))
    placed_on k r chunk e (inl none) = keeps_placed (class_of_record r) _ _ (inl none)
    placed_on k r chunk e (inr s) = elim (same_name_or_not s.0 name) [
      | inl same ↦ spared k r chunk e (subst (λ (x : ChunkName). IsSafeAt c.files x r) same s.2)
      | inr ne ↦ keeps_placed (class_of_record r) _ _ (inr (s.0, s.1, stays s.0 r ne s.2))
    ]

    kept_class : (class : Class) (kept bare bare' all : Type 0) → (kept → all) → (class ≢ Values → bare → all) → KeepsBy class kept bare → all
    kept_class Values kept bare bare' all f g x = f x
    kept_class Tombs kept bare bare' all f g (inl x) = f x
    kept_class Tombs kept bare bare' all f g (inr b) = g apart b where
      apart : Tombs ≢ Values
      apart e = cc
    kept_class Clears kept bare bare' all f g (inl x) = f x
    kept_class Clears kept bare bare' all f g (inr b) = g apart b where
      apart : Clears ≢ Values
      apart e = cc

    kept_by : (k : Key) (r : Record) (chunk : ChunkName) → top (notes heard) k ≡ Some (Own r chunk)
        → KeepsBy (class_of_record r) (HasPlace p heard c.files r chunk) (NoSmallerValue c.present k (seq_of r)) → KeepsBy (class_of_record r) (HasPlace p heard t.files r chunk) (NoSmallerValue t.present k (seq_of r))
    kept_by k r chunk e x =
        kept_class (class_of_record r) _ _ (NoSmallerValue t.present k (seq_of r)) _ (placed_on k r chunk e)
        (λ apart b. bare_by (class_of_record r) _ _ apart (subst (λ (os : List Occurrence). NoSmallerValue os k (seq_of r)) (sym m.stays) b)) x

  -- ---- removals are made good

  pub kept_fixed : (removed : ChunkName → Bool) → FixesRemovals p heard c t removed → KeptBy p heard t
  kept_fixed removed f = record {
    tops = tops_on p heard c t (λ k r chunk e. keeps_more (class_of_record r) _ _ _ _ (place_by p heard c t r chunk (risen_safe f.files r)) (λ none o i. none o (was_present c t removed f.forgotten o i))) h.tops;
    files = λ name file of e.
        gathered_same p heard c.present t.present name file (λ o i same. still_present c t removed f.forgotten o i (stays_by name file (c.files name) of refl e (subst (λ (x : Option FileState). Rises (c.files name) x) e (f.files name of)) o same))
        (risen_file name (c.files name) file of refl e (subst (λ (x : Option FileState). Rises (c.files name) x) e (f.files name of)));
    gone = λ name file of e. absurd (none_some file (sym (f.gone name of) ∙ e));
    noted = λ o i. h.noted o (was_present c t removed f.forgotten o i);
    unsealed = λ n i e. still_present c t removed f.forgotten (occurrence (id_of n) (chunk_of n)) (h.unsealed n i e) (open_by n i e (removed (chunk_of n)) refl);
  } where
    stays_by : (name : ChunkName) (file : FileState) (old : Option FileState) → name.partition.0 ≡ p → c.files name ≡ old → t.files name ≡ Some file → Rises old (Some file) → (o : Occurrence) → o.chunk ≡ name → removed o.chunk ≡ false
    stays_by name file None of e there more o same = absurd (none_some file (sym more))
    stays_by name file (Some g) of e there more o same = not_removed (removed o.chunk) refl where
      not_removed : (b : Bool) → removed o.chunk ≡ b → removed o.chunk ≡ false
      not_removed false x = x
      not_removed true x = absurd (none_some g (sym (f.none o.chunk x) ∙ (ap c.files same ∙ e)))

    open_by : (n : Note) → IsOneOf n (notes heard) → seal_of heard (chunk_of n) ≡ None → (b : Bool) → removed (chunk_of n) ≡ b → removed (chunk_of n) ≡ false
    open_by n i e false x = x
    open_by n i e true x = absurd (not_some (seal_of heard (chunk_of n)) e (f.closed n i x)) where
      not_some : (y : Option FileState) → y ≡ None → IsSome y → ⊥
      not_some None u v = absurd (true≢false (sym v))
      not_some (Some g) u v = none_some g (sym u)

pub each_left : (P : Record → Type 0) (xs ys : List Record) → AllByRecursion P (xs ++ ys) → AllByRecursion P xs
each_left P [] ys h = tt
each_left P (x ∷ xs) ys h = (h.0, each_left P xs ys h.1)

-- ---- a copy is appended

module _ (p : ℕ) (heard : List NotedEvent) (c t : Gathered) (h : KeptBy p heard c) (q : RecordCopy) (at : q.target.partition.0 ≡ p) (copies : CopiesRecord p heard c t q) where
  after_bytes : spellings (copies.records ++ q.content ∷ []) ≡ (copies.file.bytes ++ q.piece) ++ q.missing
  after_bytes =
      flat_map-append spelling copies.records (q.content ∷ [])
      ∙ ap (λ (b : List ℕ). spellings copies.records ++ b) (append-nil (spelling q.content) ∙ copies.spelled)
      ∙ ap (λ (b : List ℕ). b ++ (q.piece ++ q.missing)) (sym copies.whole)
      ∙ sym (append_assoc copies.file.bytes q.piece q.missing)

  front : PrefixSplit (class_of_kind q.target.kind) (copies.records ++ q.content ∷ []) (copies.file.bytes ++ q.piece)
  front = a_prefix_splits (class_of_kind q.target.kind) (copies.records ++ q.content ∷ []) (copies.file.bytes ++ q.piece) q.missing copies.valid after_bytes

  old_split : Splits (class_of_kind q.target.kind) copies.file.bytes copies.records []
  old_split =
      subst (λ (b : List ℕ). Splits (class_of_kind q.target.kind) b copies.records []) (sym copies.whole)
      (whole_spellings_split (class_of_kind q.target.kind) copies.records (valid_front copies.records copies.valid)) where
        valid_front : (rs : List Record) → All (IsOfClass (class_of_kind q.target.kind)) (rs ++ q.content ∷ []) → All (IsOfClass (class_of_kind q.target.kind)) rs
        valid_front rs each = All-from_recursion (IsOfClass (class_of_kind q.target.kind)) rs (each_left (IsOfClass (class_of_kind q.target.kind)) rs (q.content ∷ []) (recursion_from_All (IsOfClass (class_of_kind q.target.kind)) (rs ++ q.content ∷ []) each))

  old_file : IsGatheredFile p heard c.present q.target copies.file
  old_file = h.files q.target copies.file at copies.there

  present_kept : (o : Occurrence) → IsOneOf o c.present → IsOneOf o t.present
  present_kept o i = subst (λ (os : List Occurrence). IsOneOf o os) (sym copies.present) (one_of_left c.present (occurrence (identity_of q.content) q.target ∷ []) o i)

  -- what is present now was so before, in some chunk
  present_before : (o : Occurrence) → IsOneOf o t.present → (from : ChunkName) × IsOneOf (occurrence o.id from) c.present
  present_before o i =
      elim (one_of_append c.present (occurrence (identity_of q.content) q.target ∷ []) o (subst (λ (os : List Occurrence). IsOneOf o os) copies.present i)) [
        | inl before ↦ (o.chunk, before)
        | inr now ↦ elim now [
          | inl e ↦ (q.source, subst (λ (id : Identity). IsOneOf (occurrence id q.source) c.present) (ap (λ (x : Occurrence). x.id) (sym e)) copies.copied)
          | inr more ↦ absurd more
        ]
      ]

  pub none_on : (k : Key) (n : ℕ) → NoSmallerValue c.present k n → NoSmallerValue t.present k n
  none_on k n none o i value concerned =
      let w = present_before o i in
      none (occurrence o.id w.0) w.1 value concerned

  -- a record of the file before
  in_old : (s : Record) → IsIn s copies.records → IsIn s old_file.records
  in_old s i = subst (λ (rs : List Record). IsIn s rs) (one_split (class_of_kind q.target.kind) copies.file.bytes copies.records old_file.records [] old_file.rest old_split old_file.split).0 i

  copy_gathered : IsGatheredFile p heard t.present q.target (with_bytes copies.file q.piece)
  copy_gathered = record {
    small = omega (arith, copies.within, length-append copies.file.bytes q.piece);
    records = take front.count (copies.records ++ q.content ∷ []);
    rest = front.left;
    split = front.split;
    torn = front.torn;
    marked = λ s i. elim (in_append copies.records (q.content ∷ []) s (in_front front.count (copies.records ++ q.content ∷ []) s i)) [
      | inl before ↦ present_kept _ (old_file.marked s (in_old s before))
      | inr now ↦ elim now [
        | inl e ↦ subst (λ (x : Record). IsOneOf (occurrence (identity_of x) q.target) t.present) (sym e)
            (subst (λ (os : List Occurrence). IsOneOf (occurrence (identity_of q.content) q.target) os) (sym copies.present) (one_of_right c.present (occurrence (identity_of q.content) q.target ∷ []) _ (inl refl)))
        | inr more ↦ absurd more
      ]
    ];
    told = λ s i. elim (in_append copies.records (q.content ∷ []) s (in_front front.count (copies.records ++ q.content ∷ []) s i)) [
      | inl before ↦ old_file.told s (in_old s before)
      | inr now ↦ elim now [ inl e ↦ subst (IsTold p heard) (sym e) copies.told | inr more ↦ absurd more ]
    ];
  }

  -- what was safe in the copy file still is
  pub safe_here : (s : Record) → IsSafeAt c.files q.target s → IsSafeAt t.files q.target s
  safe_here s x =
      let is : x.file ≡ copies.file = one_some x.file copies.file (sym x.there ∙ copies.there) in
      let holds : HoldsSplit (class_of_kind q.target.kind) copies.file x.safe x.more x.rest = subst (λ (f : FileState). HoldsSplit (class_of_kind q.target.kind) f x.safe x.more x.rest) is x.holds in
      let same = one_split (class_of_kind q.target.kind) copies.file.bytes copies.records (x.safe ++ x.more) [] x.rest old_split holds.split in
      let records : copies.records ++ q.content ∷ [] ≡ x.safe ++ (x.more ++ q.content ∷ []) = ap (λ (rs : List Record). rs ++ q.content ∷ []) same.0 ∙ append_assoc x.safe x.more (q.content ∷ []) in
      let left : LeavesFront (class_of_kind q.target.kind) x.safe (x.more ++ q.content ∷ []) (copies.file.bytes ++ q.piece) =
      leaves_front (class_of_kind q.target.kind) (record { bytes = copies.file.bytes ++ q.piece; front = copies.file.front; named = true }) x.safe (x.more ++ q.content ∷ []) q.missing (copies.file.bytes ++ q.piece)
      (subst (All (IsOfClass (class_of_kind q.target.kind))) records copies.valid)
      (record { bytes = ap spellings (sym records) ∙ after_bytes; front = holds.front; named = inr refl })
      (record { rest = []; prefix = sym (append-nil (copies.file.bytes ++ q.piece)); front = front_fits holds }) in
      record {
        file = with_bytes copies.file q.piece;
        safe = x.safe;
        more = take left.count (x.more ++ q.content ∷ []);
        rest = left.rest;
        there = copies.files.at;
        named = subst (λ (f : FileState). f.named ≡ true) is x.named;
        holds = record { split = left.split; torn = left.torn; front = holds.front };
        has = x.has;
      }
    where
      front_fits : HoldsSplit (class_of_kind q.target.kind) copies.file x.safe x.more x.rest → copies.file.front ≤ length (copies.file.bytes ++ q.piece)
      front_fits holds = omega (arith, copies.fits, length-append copies.file.bytes q.piece)

  safe_copied : (s : Record) → IsSafe p c.files s → IsSafe p t.files s
  safe_copied s x = elim (same_name_or_not x.0 q.target) [
    | inl same ↦ (q.target, at, safe_here s (subst (λ (n : ChunkName). IsSafeAt c.files n s) same x.2))
    | inr ne ↦ (x.0, x.1, safe_same c.files t.files x.0 s (copies.files.others x.0 ne) x.2)
  ]

  pub kept_copied : KeptBy p heard t
  kept_copied = record {
    tops = tops_on p heard c t (λ k s chunk e. keeps_more (class_of_record s) _ _ _ _ (place_by p heard c t s chunk (safe_copied s)) (none_on k (seq_of s))) h.tops;
    files = λ other file of e. elim (same_name_or_not other q.target) [
      | inl same ↦
          subst (λ (n : ChunkName). IsGatheredFile p heard t.present n file) (sym same)
          (subst (IsGatheredFile p heard t.present q.target) (one_some (with_bytes copies.file q.piece) file (sym copies.files.at ∙ (ap t.files (sym same) ∙ e))) copy_gathered)
      | inr ne ↦ gathered_same p heard c.present t.present other file (λ o i _. present_kept o i) (h.files other file of (sym (copies.files.others other ne) ∙ e))
    ];
    gone = λ other file of e. gathered_same p heard c.present t.present other file (λ o i _. present_kept o i) (h.gone other file of (sym (copies.gone other) ∙ e));
    noted = λ o i.
        let w = present_before o i in
        let m = h.noted (occurrence o.id w.0) w.1 in
        (m.0, m.1, m.2);
    unsealed = λ n i e. present_kept _ (h.unsealed n i e);
  }

-- ---- nothing is heard yet

pub kept_nothing : (p : ℕ) → KeptBy p [] nothing_gathered
kept_nothing p = record {
  tops = λ k. tt;
  files = λ name file of e. absurd (none_some file e);
  gone = λ name file of e. absurd (none_some file e);
  noted = λ o i. absurd i;
  unsealed = λ n i e. absurd i;
}
