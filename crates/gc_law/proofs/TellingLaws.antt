-- How lists of events grow.
use Rattle.std.specs.Prelude.{◌≡◌, ◌≢◌, ◌⊎◌, ℕ, ◌<◌, ◌≤◌, Bool, true, false, cond, List, [], ◌∷◌, ◌++◌, length, Option, Some, None, refl}
use Rattle.std.proofs.Common.{sym, ◌∙◌, ap, subst, inl, inr, arith, true≢false}
use Rattle.std.specs.Option.{option_map}
use Rattle.std.proofs.lemmas.List.{append-nil}
use Rattle.hr_base.specs.declared.name.ChunkName.{ChunkName}
use Rattle.hr_base.specs.NameTests.{is_name}
use Rattle.hr_base.proofs.NameTestLaws.{is_name-true, is_name-same}
use Rattle.hr_base.specs.Names.{class_of_kind}
use Rattle.dir_files.specs.Files.{FileState}
use Rattle.record_format.specs.declared.record.Record.{Record}
use Rattle.record_format.specs.Spelling.{seq_of}
use Rattle.record_format.specs.Splits.{Splits}
use Rattle.crash_law.specs.Numbered.{IsIn}
use Rattle.crash_law.specs.Restarts.{Fact}
use Rattle.crash_law.proofs.NumberedLaws.{in_from_Contains}
use Rattle.record_format.proofs.SplitLaws.{one_split}
use Rattle.gc_event.specs.Notes.{IsOneOf, Identity, Note, Own, id_of, chunk_of, number_of}
use Rattle.gc_law.specs.Events.{NotedEvent, RecordEvent, SealEvent, notes, seal_of, sealed_image, NotFalling, IsClosed, SealsLast, IsSealedFile, IsTelling}
use Rattle.dir_files.specs.Ports.{either_file}
use Rattle.gc_law.proofs.EventLaws.{none_some, one_of_append, one_of_left, notes-append, seal_of-append, in_seal}

pub or_none : (x y : Option FileState) → y ≡ None → either_file x y ≡ x
or_none None y e = e
or_none (Some g) y e = refl

-- ---- one event more

falling_push : (low : ℕ) (ns : List Note) (n : Note) → NotFalling low ns → low ≤ number_of n → ((m : Note) → IsOneOf m ns → number_of m ≤ number_of n) → NotFalling low (ns ++ n ∷ [])
falling_push low [] n h from below = (from, tt)
falling_push low (m ∷ ns) n h from below = (h.0, falling_push (number_of m) ns n h.1 (below m (inl refl)) (λ x i. below x (inr i)))

closed_push : (name : ChunkName) (es : List NotedEvent) (n : Note) → IsClosed name es → chunk_of n ≢ name → IsClosed name (es ++ RecordEvent n ∷ [])
closed_push name es n h apart = record {
  none_noted = λ m i. elim (one_of_append (notes es) (n ∷ []) m (subst (λ (ns : List Note). IsOneOf m ns) (notes-append es (RecordEvent n ∷ [])) i)) [
    | inl before ↦ h.none_noted m before
    | inr now ↦ elim now [ inl e ↦ (λ f. apart (ap chunk_of (sym e) ∙ f)) | inr more ↦ absurd more ]
  ];
  none_sealed = seal_of-append es (RecordEvent n ∷ []) name ∙ or_none (seal_of es name) None refl ∙ h.none_sealed;
}

last_push : (es : List NotedEvent) (n : Note) → SealsLast es → seal_of es (chunk_of n) ≡ None → SealsLast (es ++ RecordEvent n ∷ [])
last_push [] n h e = tt
last_push (RecordEvent m ∷ es) n h e = last_push es n h e
last_push (SealEvent name file size ∷ es) n h e =
    (closed_push name es n h.0 (apart (is_name (chunk_of n) name) refl e), last_push es n h.1 (rest (is_name (chunk_of n) name) (seal_of es (chunk_of n)) e))
  where
    apart : (b : Bool) → is_name (chunk_of n) name ≡ b → cond b (Some file) (seal_of es (chunk_of n)) ≡ None → chunk_of n ≢ name
    apart true x f same = absurd (none_some file (sym f))
    apart false x f same = true≢false (sym (is_name-same name) ∙ (ap (λ (c : ChunkName). is_name c name) (sym same) ∙ x))

    rest : (b : Bool) (s : Option FileState) → cond b (Some file) s ≡ None → s ≡ None
    rest true s f = absurd (none_some file (sym f))
    rest false s f = f

module _ (p : ℕ) (es : List NotedEvent) (h : IsTelling p es) (r : Record) (chunk : ChunkName) (above : (m : Note) → IsOneOf m (notes es) → number_of m < seq_of r) (open_chunk : seal_of es chunk ≡ None) where
  abbrev pub noted_more : List NotedEvent
  noted_more = es ++ RecordEvent (Own r chunk) ∷ []

  notes_more : notes noted_more ≡ notes es ++ Own r chunk ∷ []
  notes_more = notes-append es (RecordEvent (Own r chunk) ∷ [])

  in_more : (m : Note) → IsOneOf m (notes noted_more) → IsOneOf m (notes es) ⊎ (m ≡ Own r chunk)
  in_more m i = elim (one_of_append (notes es) (Own r chunk ∷ []) m (subst (λ (ns : List Note). IsOneOf m ns) notes_more i)) [
    | inl before ↦ inl before
    | inr now ↦ elim now [ inl e ↦ inr e | inr more ↦ absurd more ]
  ]

  was_in : (m : Note) → IsOneOf m (notes es) → IsOneOf m (notes noted_more)
  was_in m i = subst (λ (ns : List Note). IsOneOf m ns) (sym notes_more) (one_of_left (notes es) (Own r chunk ∷ []) m i)

  seals_same : (name : ChunkName) → seal_of noted_more name ≡ seal_of es name
  seals_same name = seal_of-append es (RecordEvent (Own r chunk) ∷ []) name ∙ or_none (seal_of es name) None refl

  content_of_own : (x y : Record) (c d : ChunkName) → Own x c ≡ Own y d → x ≡ y
  content_of_own x y c d e = cc

  sealed_more : (name : ChunkName) (file : FileState) → seal_of noted_more name ≡ Some file → IsSealedFile p noted_more name file
  sealed_more name file e =
      let s = h.seals name file (sym (seals_same name) ∙ e) in
      record {
        partition = s.partition;
        durable = s.durable;
        small = s.small;
        records = s.records;
        rest = s.rest;
        split = s.split;
        torn = s.torn;
        noted = λ x i.
            let n = s.noted x i in
            record { note = n.note; member = was_in n.note n.member; chunk = n.chunk; is = n.is };
        all = λ n i c. elim (in_more n i) [
          | inl before ↦ s.all n before c
          | inr now ↦ absurd (none_some file (sym open_chunk ∙ (ap (λ (m : Note). seal_of es (chunk_of m)) (sym now) ∙ (ap (seal_of es) c ∙ (sym (seals_same name) ∙ e)))))
        ];
        content = λ x y c i j f. elim (in_more (Own y c) j) [
          | inl before ↦ s.content x y c i before f
          | inr now ↦
              let n = s.noted x i in
              absurd (omega (arith, above n.note n.member, ap (λ (id : Identity). id.seq) n.is, f, ap number_of now))
        ];
      }

  fact_same : (x : Record) → Fact (sealed_image noted_more) p x → Fact (sealed_image es) p x
  fact_same x f = record {
    name = f.name;
    bytes = f.bytes;
    records = f.records;
    rest = f.rest;
    partition = f.partition;
    there = ap (option_map (λ (g : FileState). g.bytes)) (sym (seals_same f.name)) ∙ f.there;
    whole = f.whole;
    has = f.has;
  }

  one_by : (m n : Note) → IsOneOf m (notes es) ⊎ (m ≡ Own r chunk) → IsOneOf n (notes es) ⊎ (n ≡ Own r chunk) → number_of m ≡ number_of n → id_of m ≡ id_of n
  one_by m n (inl i) (inl j) e = h.one m n i j e
  one_by m n (inl i) (inr j) e = absurd (omega (arith, above m i, e, ap number_of j))
  one_by m n (inr i) (inl j) e = absurd (omega (arith, above n j, e, ap number_of i))
  one_by m n (inr i) (inr j) e = ap id_of (i ∙ sym j)

  content_by : (x y : Record) (c d : ChunkName) → IsOneOf (Own x c) (notes es) ⊎ (Own x c ≡ Own r chunk) → IsOneOf (Own y d) (notes es) ⊎ (Own y d ≡ Own r chunk) → seq_of x ≡ seq_of y → x ≡ y
  content_by x y c d (inl i) (inl j) e = h.content x y c d i j e
  content_by x y c d (inl i) (inr j) e = absurd (omega (arith, above (Own x c) i, e, ap number_of j))
  content_by x y c d (inr i) (inl j) e = absurd (omega (arith, above (Own y d) j, e, ap number_of i))
  content_by x y c d (inr i) (inr j) e = content_of_own x y c d (i ∙ sym j)

  -- a record with a greater number, in a chunk without a Seal
  pub telling_noted : IsTelling p noted_more
  telling_noted = record {
    rising = subst (NotFalling 0) (sym notes_more) (falling_push 0 (notes es) (Own r chunk) h.rising (omega arith) (λ m i. omega (arith, above m i)));
    one = λ m n i j e. one_by m n (in_more m i) (in_more n j) e;
    content = λ x y c d i j e. content_by x y c d (in_more (Own x c) i) (in_more (Own y d) j) e;
    last = last_push es (Own r chunk) h.last open_chunk;
    sizes = λ name file size i. elim (one_of_append es (RecordEvent (Own r chunk) ∷ []) (SealEvent name file size) i) [
      | inl before ↦ h.sizes name file size before
      | inr now ↦ elim now [ inl e ↦ absurd (not_sealed name file size e) | inr more ↦ absurd more ]
    ];
    seals = sealed_more;
    agree = λ x y f g e. h.agree x y (fact_same x f) (fact_same y g) e;
  } where
    not_sealed : (name : ChunkName) (file : FileState) (size : ℕ) → SealEvent name file size ≡ RecordEvent (Own r chunk) → ⊥
    not_sealed name file size e = cc

-- ---- one Seal more

last_seal : (es : List NotedEvent) (name : ChunkName) (file : FileState) (size : ℕ) → SealsLast es → seal_of es name ≡ None → SealsLast (es ++ SealEvent name file size ∷ [])
last_seal [] name file size h e = (record { none_noted = λ n i. absurd i; none_sealed = refl }, tt)
last_seal (RecordEvent m ∷ es) name file size h e = last_seal es name file size h e
last_seal (SealEvent other f n ∷ es) name file size h e = (
  record {
    none_noted = λ m i. h.0.none_noted m (subst (λ (ns : List Note). IsOneOf m ns) (notes-append es (SealEvent name file size ∷ []) ∙ append-nil (notes es)) i);
    none_sealed = seal_of-append es (SealEvent name file size ∷ []) other ∙ both_none (seal_of es other) (cond (is_name other name) (Some file) None) h.0.none_sealed (other_by (is_name other name) refl);
  },
  last_seal es name file size h.1 (rest (is_name name other) (seal_of es name) e),
)
  where
    both_none : (x y : Option FileState) → x ≡ None → y ≡ None → either_file x y ≡ None
    both_none None y u v = v
    both_none (Some g) y u v = absurd (none_some g (sym u))

    rest : (b : Bool) (s : Option FileState) → cond b (Some f) s ≡ None → s ≡ None
    rest true s u = absurd (none_some f (sym u))
    rest false s u = u

    clash : (b : Bool) (s : Option FileState) → b ≡ true → cond b (Some f) s ≡ None → ⊥
    clash true s u v = none_some f (sym v)
    clash false s u v = true≢false (sym u)

    other_by : (b : Bool) → is_name other name ≡ b → cond b (Some file) None ≡ None
    other_by true u = absurd (clash (is_name name other) (seal_of es name) (ap (λ (x : ChunkName). is_name name x) (is_name-true other name u) ∙ is_name-same name) e)
    other_by false u = refl

module _ (p : ℕ) (es : List NotedEvent) (h : IsTelling p es) (name : ChunkName) (file : FileState) (free : seal_of es name ≡ None) (sealed : IsSealedFile p es name file)
    (own : (r : Record) → IsIn r sealed.records → IsOneOf (Own r name) (notes es)) where
  abbrev pub sealed_more_events : List NotedEvent
  sealed_more_events = es ++ SealEvent name file (length file.bytes) ∷ []

  notes_stay : notes sealed_more_events ≡ notes es
  notes_stay = notes-append es (SealEvent name file (length file.bytes) ∷ []) ∙ append-nil (notes es)

  noted_stay : (n : Note) → IsOneOf n (notes sealed_more_events) → IsOneOf n (notes es)
  noted_stay n i = subst (λ (ns : List Note). IsOneOf n ns) notes_stay i

  noted_back : (n : Note) → IsOneOf n (notes es) → IsOneOf n (notes sealed_more_events)
  noted_back n i = subst (λ (ns : List Note). IsOneOf n ns) (sym notes_stay) i

  sealed_again : (other : ChunkName) (f : FileState) → IsSealedFile p es other f → IsSealedFile p sealed_more_events other f
  sealed_again other f s = record {
    partition = s.partition;
    durable = s.durable;
    small = s.small;
    records = s.records;
    rest = s.rest;
    split = s.split;
    torn = s.torn;
    noted = λ x i.
        let n = s.noted x i in
        record { note = n.note; member = noted_back n.note n.member; chunk = n.chunk; is = n.is };
    all = λ n i c. s.all n (noted_stay n i) c;
    content = λ x y c i j f. s.content x y c i (noted_stay (Own y c) j) f;
  }

  seal_at : (other : ChunkName) → seal_of sealed_more_events other ≡ either_file (seal_of es other) (cond (is_name other name) (Some file) None)
  seal_at other = seal_of-append es (SealEvent name file (length file.bytes) ∷ []) other

  one_some : (x y : FileState) → Some x ≡ Some y → x ≡ y
  one_some x y e = cc

  seal_cases_by : (other : ChunkName) (f : FileState) (s : Option FileState) (b : Bool) → seal_of es other ≡ s → is_name other name ≡ b → either_file s (cond b (Some file) None) ≡ Some f
      → (seal_of es other ≡ Some f) ⊎ ((other ≡ name) × (f ≡ file))
  seal_cases_by other f (Some g) b e u h = inl (e ∙ h)
  seal_cases_by other f None true e u h = inr (is_name-true other name u, sym (one_some file f h))
  seal_cases_by other f None false e u h = absurd (none_some f h)

  seal_cases : (other : ChunkName) (f : FileState) → seal_of sealed_more_events other ≡ Some f → (seal_of es other ≡ Some f) ⊎ ((other ≡ name) × (f ≡ file))
  seal_cases other f e = seal_cases_by other f (seal_of es other) (is_name other name) refl refl (sym (seal_at other) ∙ e)

  seals_more : (other : ChunkName) (f : FileState) → seal_of sealed_more_events other ≡ Some f → IsSealedFile p sealed_more_events other f
  seals_more other f e = elim (seal_cases other f e) [
    | inl before ↦ sealed_again other f (h.seals other f before)
    | inr now ↦
        sealed_again other f (subst (λ (x : ChunkName). IsSealedFile p es x f) (sym now.0) (subst (IsSealedFile p es name) (sym now.1) sealed))
  ]

  -- a whole record of the Seals: of one of those before, or of this one
  fact_cases : (r : Record) → Fact (sealed_image sealed_more_events) p r → Fact (sealed_image es) p r ⊎ IsOneOf (Own r name) (notes es)
  fact_cases r f = by_seal (seal_of sealed_more_events f.name) refl f.there where
    by_seal : (s : Option FileState) → seal_of sealed_more_events f.name ≡ s → option_map (λ (g : FileState). g.bytes) s ≡ Some f.bytes → Fact (sealed_image es) p r ⊎ IsOneOf (Own r name) (notes es)
    by_seal None e there = absurd (none_some f.bytes there)
    by_seal (Some g) e there = elim (seal_cases f.name g e) [
      | inl before ↦ inl (record {
        name = f.name;
        bytes = f.bytes;
        records = f.records;
        rest = f.rest;
        partition = f.partition;
        there = ap (option_map (λ (x : FileState). x.bytes)) before ∙ there;
        whole = f.whole;
        has = f.has;
      })
      | inr now ↦
          let bytes : f.bytes ≡ g.bytes = some_bytes f.bytes g there in
          inr (own r (subst (λ (rs : List Record). IsIn r rs)
          (one_split (class_of_kind name.kind) file.bytes f.records sealed.records f.rest sealed.rest
          (subst (λ (x : ChunkName). Splits (class_of_kind x.kind) file.bytes f.records f.rest) now.0
          (subst (λ (x : List ℕ). Splits (class_of_kind f.name.kind) x f.records f.rest) (bytes ∙ ap (λ (x : FileState). x.bytes) now.1) f.whole)) sealed.split).0
          (in_from_Contains r f.records f.has)))
    ]
      where
        some_bytes : (x : List ℕ) (y : FileState) → Some y.bytes ≡ Some x → x ≡ y.bytes
        some_bytes x y u = cc

  agree_by : (r s : Record) → Fact (sealed_image es) p r ⊎ IsOneOf (Own r name) (notes es) → Fact (sealed_image es) p s ⊎ IsOneOf (Own s name) (notes es) → seq_of r ≡ seq_of s → r ≡ s
  agree_by r s (inl f) (inl g) e = h.agree r s f g e
  agree_by r s (inl f) (inr j) e =
      let x = in_seal p es h r f in
      x.sealed.content r s name x.member j (sym e)
  agree_by r s (inr i) (inl g) e =
      let x = in_seal p es h s g in
      sym (x.sealed.content s r name x.member i e)
  agree_by r s (inr i) (inr j) e = h.content r s name name i j e

  -- a Seal of a chunk without one, whose file has the records of its events
  pub telling_sealed : IsTelling p sealed_more_events
  telling_sealed = record {
    rising = subst (NotFalling 0) (sym notes_stay) h.rising;
    one = λ m n i j e. h.one m n (noted_stay m i) (noted_stay n j) e;
    content = λ x y c d i j e. h.content x y c d (noted_stay (Own x c) i) (noted_stay (Own y d) j) e;
    last = last_seal es name file (length file.bytes) h.last free;
    sizes = λ other f size i. elim (one_of_append es (SealEvent name file (length file.bytes) ∷ []) (SealEvent other f size) i) [
      | inl before ↦ h.sizes other f size before
      | inr now ↦ elim now [ inl e ↦ size_of other f size e | inr more ↦ absurd more ]
    ];
    seals = seals_more;
    agree = λ r s f g e. agree_by r s (fact_cases r f) (fact_cases s g) e;
  } where
    size_of : (other : ChunkName) (f : FileState) (size : ℕ) → SealEvent other f size ≡ SealEvent name file (length file.bytes) → size ≡ length f.bytes
    size_of other f size e =
        let a : f ≡ file = cc in
        let b : size ≡ length file.bytes = cc in
        b ∙ ap (λ (x : FileState). length x.bytes) (sym a)
