-- A collector's steps keep what ties its table to its files.
use Rattle.std.specs.Prelude.{◌≡◌, ◌≢◌, ◌⊎◌, ℕ, ◌==◌, ◌&&◌, ◌||◌, ◌≤◌, nat_lt, not, Bool, true, false, cond, if◌then◌else◌, List, [], ◌∷◌, ◌++◌, map, filter, Option, Some, None, is_some, IsSome, refl}
use Rattle.std.specs.List.{list_any}
use Rattle.std.proofs.Common.{sym, ◌∙◌, ap, subst, inl, inr, arith, true≢false}
use Rattle.std.proofs.lemmas.Bool.{ltb-true, eqb-true, eq-eqb, and_parts, and_from}
use Rattle.std.proofs.lemmas.List.{map-append}
use Rattle.hr_base.specs.declared.name.ChunkName.{ChunkName}
use Rattle.hr_base.specs.declared.name.Class.{Class}
use Rattle.hr_base.specs.declared.name.Class.TheVariants.{Value as Values, Tomb as Tombs, Clear as Clears}
use Rattle.hr_base.proofs.NameTestLaws.{same_name_or_not}
use Rattle.hr_base.specs.NameTests.{is_name}
use Rattle.hr_base.specs.Entries.{Key}
use Rattle.dir_files.specs.Files.{FileState, Files, Names, Rises}
use Rattle.record_format.specs.declared.record.Record.{Record}
use Rattle.record_format.specs.Spelling.{seq_of, class_of_record}
use Rattle.gc_event.specs.Notes.{IsOneOf, Identity, identity_of, concerns, Note, Own, Dead, id_of, chunk_of, is_own, number_of, stays_above, top, Occurrence, occurrence, NoSmallerValue}
use Rattle.gc_law.specs.Events.{NotedEvent, RecordEvent, SealEvent, notes, seal_of, IsTelling}
use Rattle.gc_law.specs.CollectorFacts.{Gathered, IsSafeAt, KeepsBy, KeptBy, nothing_gathered}
use Rattle.gc_law.specs.Steps.{HearsNote, HearsSeal, BeginsCopyFile, RecordCopy, CopiesRecord, SecuresFiles, RemovesSource, among, outside, FixesRemovals}
use Rattle.gc_event.specs.Books.{Entry, Book, new_book, with_place, heard_in, is_at, last_in, copy_of, copied_in, is_waiting, has_copy, settled, moved_in, entry_of, forgotten_in}
use Rattle.gc_event.specs.Live.{is_live, is_needed}
use Rattle.gc_law.specs.Ties.{HasPlaceIn, IsOfEvent, Ties, table_outside, forgotten_each, AreSecured}
use Rattle.gc_event.proofs.NoteLaws.{top_is, top-push_cases, top-push, push}
use Rattle.gc_law.proofs.EventLaws.{none_some, one_some, both, in_filter, from_filter, in_map, from_map, one_of_append, one_of_left, one_of_right, notes-append}
use Rattle.gc_law.proofs.StepLaws.{was_present, keeps_more, keeps_placed, safe_same, unsealed, seal_same, none_smaller, notes_same, safe_now, seal_other, notes_now, sealed, risen_safe_by, safe_here, none_on}
use Rattle.gc_law.proofs.BookLaws.{not_needed, any_here}

-- ---- a record event is heard

occurrence_of : Entry → Occurrence
occurrence_of e = occurrence e.id e.chunk

unplaced : Note → Entry → Entry
unplaced n e = if is_own n && (e.id.seq == number_of n) then with_place false e else e

unplaced_same : (b : Bool) (e : Entry) → occurrence (cond b (with_place false e) e).id (cond b (with_place false e) e).chunk ≡ occurrence e.id e.chunk
unplaced_same true e = refl
unplaced_same false e = refl

map_unplaced : (n : Note) (es : List Entry) → map (λ e. occurrence e.id e.chunk) (map (λ e. if is_own n && (e.id.seq == number_of n) then with_place false e else e) es) ≡ map (λ e. occurrence e.id e.chunk) es
map_unplaced n [] = refl
map_unplaced n (e ∷ es) =
    ap (λ (o : Occurrence). o ∷ map (λ e. occurrence e.id e.chunk) (map (λ e. if is_own n && (e.id.seq == number_of n) then with_place false e else e) es)) (unplaced_same (is_own n && (e.id.seq == number_of n)) e)
    ∙ ap (λ (os : List Occurrence). occurrence e.id e.chunk ∷ os) (map_unplaced n es)

-- what is told, as an entry
entry_id : (n : Note) → (entry_of n).id ≡ id_of n
entry_id (Own content chunk) = refl
entry_id (Dead id chunk) = refl

entry_chunk : (n : Note) → (entry_of n).chunk ≡ chunk_of n
entry_chunk (Own content chunk) = refl
entry_chunk (Dead id chunk) = refl

entry_place : (n : Note) → (entry_of n).place ≡ is_own n
entry_place (Own content chunk) = refl
entry_place (Dead id chunk) = refl

entry_occurrence : (n : Note) → occurrence (entry_of n).id (entry_of n).chunk ≡ occurrence (id_of n) (chunk_of n)
entry_occurrence (Own content chunk) = refl
entry_occurrence (Dead id chunk) = refl

told_content : (n : Note) (r : Record) → (entry_of n).content ≡ Some r → (chunk : ChunkName) × (n ≡ Own r chunk)
told_content (Own content chunk) r e = (chunk, ap (λ (x : Record). Own x chunk) (one_some content r e))
told_content (Dead id chunk) r e = absurd (none_some r e)

told_filled : (n : Note) → (entry_of n).place ≡ true → IsSome (entry_of n).content
told_filled (Own content chunk) e = refl
told_filled (Dead id chunk) e = absurd (true≢false (sym e))

-- what stays of an entry that may be a place no more
unplaced_id : (x : Bool) (e : Entry) → (cond x (with_place false e) e).id ≡ e.id
unplaced_id true e = refl
unplaced_id false e = refl

unplaced_content : (x : Bool) (e : Entry) → (cond x (with_place false e) e).content ≡ e.content
unplaced_content true e = refl
unplaced_content false e = refl

placed_before : (x : Bool) (e : Entry) → (cond x (with_place false e) e).place ≡ true → e.place ≡ true
placed_before true e h = absurd (true≢false (sym h))
placed_before false e h = h

event_later : (heard more : List NotedEvent) (old new : Entry) (r : Record) → new.id ≡ old.id → IsOfEvent heard old r → IsOfEvent (heard ++ more) new r
event_later heard more old new r same o = record {
  chunk = o.chunk;
  own = subst (λ (ns : List Note). IsOneOf (Own r o.chunk) ns) (sym (notes-append heard more)) (one_of_left (notes heard) (notes more) (Own r o.chunk) o.own);
  is = same ∙ o.is;
}

event_same : (heard : List NotedEvent) (old new : Entry) (r : Record) → new.id ≡ old.id → IsOfEvent heard old r → IsOfEvent heard new r
event_same heard old new r same o = record { chunk = o.chunk; own = o.own; is = same ∙ o.is }

module _ (p : ℕ) (heard unheard : List NotedEvent) (c t : Gathered) (b : Book) (n : Note) (telling : IsTelling p (heard ++ RecordEvent n ∷ unheard)) (h : KeptBy p heard c) (hears : HearsNote c t n) (ties : Ties p heard c b) where
  -- an entry stays the place where the event is dead or of another number
  stays : (e : Entry) → IsOneOf e b.present → (is_own n && (e.id.seq == number_of n)) ≡ false → IsOneOf e (heard_in b n).present
  stays e i f =
      one_of_left (map (λ e. if is_own n && (e.id.seq == number_of n) then with_place false e else e) b.present) _ e
      (subst (λ (x : Entry). IsOneOf x (map (λ e. if is_own n && (e.id.seq == number_of n) then with_place false e else e) b.present)) (ap (λ (x : Bool). cond x (with_place false e) e) f)
      (in_map (λ e. if is_own n && (e.id.seq == number_of n) then with_place false e else e) b.present e i))

  place_stays : (r : Record) (chunk : ChunkName) (place : HasPlaceIn p heard c.files b.present (record { content = r; chunk = chunk })) → (is_own n && (place.entry.id.seq == number_of n)) ≡ false
      → HasPlaceIn p (heard ++ RecordEvent n ∷ []) t.files (heard_in b n).present (record { content = r; chunk = chunk })
  place_stays r chunk place f = record {
    entry = place.entry;
    member = stays place.entry place.member f;
    is = place.is;
    place = place.place;
    kept = elim place.kept [
      | inl own ↦ inl (own.0, seal_same p heard unheard c t n telling h hears chunk ∙ own.1)
      | inr safe ↦ inr (safe.0, safe_same c.files t.files place.entry.chunk r (hears.files place.entry.chunk) safe.1)
    ];
  }

  place_new : (r : Record) (chunk : ChunkName) → n ≡ Own r chunk → HasPlaceIn p (heard ++ RecordEvent n ∷ []) t.files (heard_in b n).present (record { content = r; chunk = chunk })
  place_new r chunk e = record {
    entry = entry_of n;
    member = one_of_right (map (λ e. if is_own n && (e.id.seq == number_of n) then with_place false e else e) b.present) _ _ (inl refl);
    is = entry_id n ∙ ap id_of e;
    place = entry_place n ∙ ap is_own e;
    kept = inl (entry_chunk n ∙ ap chunk_of e, ap (seal_of (heard ++ RecordEvent n ∷ [])) (sym (ap chunk_of e)) ∙ seal_same p heard unheard c t n telling h hears (chunk_of n) ∙ unsealed p heard unheard c t n telling h hears);
  }

  own_of : (m : Note) → is_own m ≡ true → (r : Record) × (chunk : ChunkName) × (m ≡ Own r chunk)
  own_of (Own r chunk) e = (r, chunk, refl)
  own_of (Dead id chunk) e = absurd (true≢false (sym e))

  not_above_same : (m : Note) → is_own n ≡ true → number_of m ≡ number_of n → stays_above m n ≡ false
  not_above_same m own same =
      ap (λ (x : Bool). cond x true (cond (nat_lt (number_of m) (number_of n)) false (cond (is_own n) false (is_own m)))) (not_less (number_of n) (number_of m) (omega (arith, same)))
      ∙ ap (λ (x : Bool). cond x false (cond (is_own n) false (is_own m))) (not_less (number_of m) (number_of n) (omega (arith, same)))
      ∙ ap (λ (x : Bool). cond x false (is_own m)) own
    where
      not_less : (x y : ℕ) → y ≤ x → nat_lt x y ≡ false
      not_less x y below = by_test (nat_lt x y) refl where
        by_test : (z : Bool) → nat_lt x y ≡ z → nat_lt x y ≡ false
        by_test true e = absurd (omega (arith, below, ltb-true x y e))
        by_test false e = e

  -- the old top and an event of its own kind with its number: that event is the top
  replaced : (k : Key) (r : Record) (chunk : ChunkName) → top (notes heard) k ≡ Some (Own r chunk) → top (notes heard ++ n ∷ []) k ≡ Some (Own r chunk) → is_own n ≡ true → seq_of r ≡ number_of n → n ≡ Own r chunk
  replaced k r chunk old now own same =
      let i : IsOneOf (Own r chunk) (notes heard) = (top_is (notes heard) k (Own r chunk) old).member in
      let id : identity_of r ≡ id_of n = telling.one (Own r chunk) n (in_first (Own r chunk) i) in_new same in
      let concerned : concerns (id_of n) k ≡ true = ap (λ (x : Identity). concerns x k) (sym id) ∙ (top_is (notes heard) k (Own r chunk) old).touching in
      some_note n (Own r chunk) (sym (ap (λ (x : Bool). cond x (Some (Own r chunk)) (Some n)) (not_above_same (Own r chunk) own same)) ∙ (ap (λ (x : Option Note). push x n) (sym old) ∙ (sym (top-push (notes heard) k n concerned) ∙ now)))
    where
      some_note : (x y : Note) → Some x ≡ Some y → x ≡ y
      some_note x y e = cc

      in_new : IsOneOf n (notes (heard ++ RecordEvent n ∷ unheard))
      in_new = subst (λ (ns : List Note). IsOneOf n ns) (sym (notes-append heard (RecordEvent n ∷ unheard))) (one_of_right (notes heard) (n ∷ notes unheard) n (inl refl))

      in_first : (m : Note) → IsOneOf m (notes heard) → IsOneOf m (notes (heard ++ RecordEvent n ∷ unheard))
      in_first m j = subst (λ (ns : List Note). IsOneOf m ns) (sym (notes-append heard (RecordEvent n ∷ unheard))) (one_of_left (notes heard) (n ∷ notes unheard) m j)

  place_by : (k : Key) (r : Record) (chunk : ChunkName) → top (notes heard) k ≡ Some (Own r chunk) → top (notes heard ++ n ∷ []) k ≡ Some (Own r chunk)
      → (place : HasPlaceIn p heard c.files b.present (record { content = r; chunk = chunk })) (x : Bool) → (is_own n && (place.entry.id.seq == number_of n)) ≡ x → HasPlaceIn p (heard ++ RecordEvent n ∷ []) t.files (heard_in b n).present (record { content = r; chunk = chunk })
  place_by k r chunk old now place false f = place_stays r chunk place f
  place_by k r chunk old now place true f =
      let parts = and_parts (is_own n) (place.entry.id.seq == number_of n) f in
      place_new r chunk (replaced k r chunk old now parts.0 (ap (λ (id : Identity). id.seq) (sym place.is) ∙ eqb-true place.entry.id.seq (number_of n) parts.1))

  pub ties_noted : Ties p (heard ++ RecordEvent n ∷ []) t (heard_in b n)
  ties_noted = record {
    told = ap (λ (ns : List Note). ns ++ n ∷ []) ties.told ∙ sym (notes_same p heard unheard c t n telling h hears);
    present =
        hears.present
        ∙ ap (λ (os : List Occurrence). os ++ occurrence (id_of n) (chunk_of n) ∷ []) (ties.present ∙ sym (map_unplaced n b.present))
        ∙ ap (λ (o : Occurrence). map (λ e. occurrence e.id e.chunk) (map (λ e. if is_own n && (e.id.seq == number_of n) then with_place false e else e) b.present) ++ o ∷ []) (sym (entry_occurrence n))
        ∙ sym (map-append (λ e. occurrence e.id e.chunk) (map (λ e. if is_own n && (e.id.seq == number_of n) then with_place false e else e) b.present) (entry_of n ∷ []));
    places = λ k r chunk e. places_now k r chunk (ap (λ (ns : List Note). top ns k) (sym (notes_same p heard unheard c t n telling h hears)) ∙ e) (top-push_cases (notes heard) k n);
    contents = contents_now;
    filled = λ e i x. elim (entry_cases e i) [
      | inl old ↦
          let test = is_own n && (old.0.id.seq == number_of n) in
          subst IsSome (sym (ap (λ (y : Entry). y.content) old.2 ∙ unplaced_content test old.0)) (ties.filled old.0 old.1 (placed_before test old.0 (ap (λ (y : Entry). y.place) (sym old.2) ∙ x)))
      | inr new ↦ subst IsSome (ap (λ (y : Entry). y.content) (sym new)) (told_filled n (ap (λ (y : Entry). y.place) (sym new) ∙ x))
    ];
  } where
    entry_cases : (e : Entry) → IsOneOf e (heard_in b n).present
        → ((x : Entry) × IsOneOf x b.present × (e ≡ (if is_own n && (x.id.seq == number_of n) then with_place false x else x))) ⊎ (e ≡ entry_of n)
    entry_cases e i =
        elim (one_of_append (map (λ e. if is_own n && (e.id.seq == number_of n) then with_place false e else e) b.present) (entry_of n ∷ []) e i) [
          | inl before ↦ inl (from_map (λ e. if is_own n && (e.id.seq == number_of n) then with_place false e else e) b.present e before)
          | inr now ↦ elim now [ inl same ↦ inr same | inr more ↦ absurd more ]
        ]

    contents_now : (e : Entry) (r : Record) → IsOneOf e (heard_in b n).present → e.content ≡ Some r → IsOfEvent (heard ++ RecordEvent n ∷ []) e r
    contents_now e r i x = elim (entry_cases e i) [
      | inl old ↦
          let test = is_own n && (old.0.id.seq == number_of n) in
          event_later heard (RecordEvent n ∷ []) old.0 e r (ap (λ (y : Entry). y.id) old.2 ∙ unplaced_id test old.0)
          (ties.contents old.0 r old.1 (sym (unplaced_content test old.0) ∙ (ap (λ (y : Entry). y.content) (sym old.2) ∙ x)))
      | inr new ↦
          let own = told_content n r (ap (λ (y : Entry). y.content) (sym new) ∙ x) in
          record {
            chunk = own.0;
            own = subst (λ (ns : List Note). IsOneOf (Own r own.0) ns) (sym (notes_same p heard unheard c t n telling h hears)) (one_of_right (notes heard) (n ∷ []) (Own r own.0) (inl (sym own.1)));
            is = ap (λ (y : Entry). y.id) new ∙ entry_id n ∙ ap id_of own.1;
          }
    ]

    some_note : (x y : Note) → Some x ≡ Some y → x ≡ y
    some_note x y e = cc

    places_now : (k : Key) (r : Record) (chunk : ChunkName) → top (notes heard ++ n ∷ []) k ≡ Some (Own r chunk)
        → (top (notes heard ++ n ∷ []) k ≡ top (notes heard) k) ⊎ (top (notes heard ++ n ∷ []) k ≡ Some n)
        → KeepsBy (class_of_record r) (HasPlaceIn p (heard ++ RecordEvent n ∷ []) t.files (heard_in b n).present (record { content = r; chunk = chunk })) (NoSmallerValue t.present k (seq_of r))
    places_now k r chunk now (inl old) =
        let was : top (notes heard) k ≡ Some (Own r chunk) = sym old ∙ now in
        keeps_more (class_of_record r) _ _ _ _
        (λ place. place_by k r chunk was now place (is_own n && (place.entry.id.seq == number_of n)) refl)
        (none_smaller p heard unheard c t n telling h hears k (Own r chunk) (top_is (notes heard) k (Own r chunk) was).member)
        (ties.places k r chunk was)
    places_now k r chunk now (inr new) = keeps_placed (class_of_record r) _ _ (place_new r chunk (some_note n (Own r chunk) (sym new ∙ now)))

-- ---- a Seal is heard

module _ (p : ℕ) (heard unheard : List NotedEvent) (c t : Gathered) (b : Book) (name : ChunkName) (file : FileState) (size : ℕ)
    (telling : IsTelling p (heard ++ SealEvent name file size ∷ unheard)) (h : KeptBy p heard c) (hears : HearsSeal c t name file) (ties : Ties p heard c b) where
  pub ties_sealed : Ties p (heard ++ SealEvent name file size ∷ []) t b
  ties_sealed = record {
    told = ties.told ∙ sym (notes_now p heard unheard c t name file size telling h hears);
    present = hears.present ∙ ties.present;
    places = λ k r chunk e.
        let was : top (notes heard) k ≡ Some (Own r chunk) = ap (λ (ns : List Note). top ns k) (sym (notes_now p heard unheard c t name file size telling h hears)) ∙ e in
        keeps_more (class_of_record r) _ _ _ _ (place_now r chunk (top_is (notes heard) k (Own r chunk) was).member)
        (λ none. subst (λ (os : List Occurrence). NoSmallerValue os k (seq_of r)) (sym hears.present) none) (ties.places k r chunk was);
    contents = λ e r i x. event_later heard (SealEvent name file size ∷ []) e e r refl (ties.contents e r i x);
    filled = ties.filled;
  } where
    place_now : (r : Record) (chunk : ChunkName) → IsOneOf (Own r chunk) (notes heard) → HasPlaceIn p heard c.files b.present (record { content = r; chunk = chunk }) → HasPlaceIn p (heard ++ SealEvent name file size ∷ []) t.files b.present (record { content = r; chunk = chunk })
    place_now r chunk i place = record {
      entry = place.entry;
      member = place.member;
      is = place.is;
      place = place.place;
      kept = elim place.kept [
        | inr safe ↦ inr (safe.0, safe_same c.files t.files place.entry.chunk r (hears.files.others place.entry.chunk (λ e. none_some safe.1.file (sym hears.none ∙ (ap c.files (sym e) ∙ safe.1.there)))) safe.1)
        | inl own ↦ elim (same_name_or_not chunk name) [
          | inr ne ↦ inl (own.0, seal_other p heard unheard c t name file size telling h hears chunk ne ∙ own.1)
          | inl same ↦ inr (
            ap (λ (x : ChunkName). x.partition.0) (own.0 ∙ same) ∙ (sealed p heard unheard c t name file size telling h hears).partition,
            subst (λ (x : ChunkName). IsSafeAt t.files x r) (sym (own.0 ∙ same))
                (safe_now p heard unheard c t name file size telling h hears r (subst (λ (x : ChunkName). IsOneOf (Own r x) (notes heard)) same i)),
          )
        ]
      ];
    }

-- ---- where the places move

abbrev settle_one : List Entry → List Entry → Entry → Entry
settle_one all es e = record {
  id = e.id;
  content = e.content;
  chunk = e.chunk;
  waiting = false;
  place = if is_waiting e then not (has_copy es e.id.seq) else e.place && not (has_copy all e.id.seq);
}

in_settled : (all es : List Entry) (e : Entry) → IsOneOf e es → (rest : List Entry) × IsOneOf (settle_one all rest e) (settled all es)
in_settled all [] e h = absurd h
in_settled all (x ∷ es) e h = elim h [
  | inl same ↦ (es, inl (ap (settle_one all es) same))
  | inr more ↦
      let w = in_settled all es e more in
      (w.0, inr w.1)
]

from_settled : (all es : List Entry) (e : Entry) → IsOneOf e (settled all es) → (x : Entry) × (rest : List Entry) × IsOneOf x es × (e ≡ settle_one all rest x)
from_settled all [] e h = absurd h
from_settled all (x ∷ es) e h = elim h [
  | inl same ↦ (x, es, inl refl, same)
  | inr more ↦
      let w = from_settled all es e more in
      (w.0, w.1, inr w.2, w.3)
]

-- what is a place then was one before, or is a copy of a record
filled_by : (all rest : List Entry) (x : Entry) → (settle_one all rest x).place ≡ true → (x.place ≡ true → IsSome x.content) → IsSome x.content
filled_by all rest x place f = by_test (is_waiting x) refl place where
  by_test : (y : Bool) → is_waiting x ≡ y → (if y then not (has_copy rest x.id.seq) else x.place && not (has_copy all x.id.seq)) ≡ true → IsSome x.content
  by_test true e h = (and_parts x.waiting (is_some x.content) e).1
  by_test false e h = f (and_parts x.place (not (has_copy all x.id.seq)) h).0

-- the copy of a record that was entered last
record LastCopy (all es : List Entry) (seq : ℕ) : Type 0 where
  entry : Entry
  rest : List Entry
  member : IsOneOf entry es
  settled_member : IsOneOf (settle_one all rest entry) (settled all es)
  number : entry.id.seq ≡ seq
  waiting : is_waiting entry ≡ true
  place : (settle_one all rest entry).place ≡ true

last_copy_here : (all es : List Entry) (e : Entry) (seq : ℕ) → (e.id.seq == seq) && is_waiting e ≡ true → has_copy es seq ≡ false → LastCopy all (e ∷ es) seq
last_copy_here all es e seq h none =
    let parts = and_parts (e.id.seq == seq) (is_waiting e) h in
    record {
      entry = e;
      rest = es;
      member = inl refl;
      settled_member = inl refl;
      number = eqb-true e.id.seq seq parts.0;
      waiting = parts.1;
      place =
          ap (λ (x : Bool). cond x (not (has_copy es e.id.seq)) (e.place && not (has_copy all e.id.seq))) parts.1
          ∙ ap (λ (n : ℕ). not (has_copy es n)) (eqb-true e.id.seq seq parts.0) ∙ ap not none;
    }

last_copy_by : (all es : List Entry) (e : Entry) (seq : ℕ) (x y : Bool) → has_copy es seq ≡ x → (e.id.seq == seq) && is_waiting e ≡ y → (has_copy es seq ≡ true → LastCopy all es seq)
    → (y || x) ≡ true → LastCopy all (e ∷ es) seq
last_copy_by all es e seq true y more here later h =
    let w = later more in
    record { entry = w.entry; rest = w.rest; member = inr w.member; settled_member = inr w.settled_member; number = w.number; waiting = w.waiting; place = w.place }
last_copy_by all es e seq false true none here later h = last_copy_here all es e seq here none
last_copy_by all es e seq false false none here later h = absurd (true≢false (sym h))

last_copy : (all es : List Entry) (seq : ℕ) → has_copy es seq ≡ true → LastCopy all es seq
last_copy all [] seq h = absurd (true≢false (sym h))
last_copy all (e ∷ es) seq h = last_copy_by all es e seq (has_copy es seq) ((e.id.seq == seq) && is_waiting e) refl refl (last_copy all es seq) h

-- where no copy of its record waits, it is none itself
no_copy : (es : List Entry) (e : Entry) → IsOneOf e es → has_copy es e.id.seq ≡ false → is_waiting e ≡ false
no_copy es e i none = by_test (is_waiting e) refl where
  by_test : (x : Bool) → is_waiting e ≡ x → is_waiting e ≡ false
  by_test false f = f
  by_test true f = both (has_copy es e.id.seq) (any_here (λ o. (o.id.seq == e.id.seq) && is_waiting o) es e i (and_from (e.id.seq == e.id.seq) (is_waiting e) (eq-eqb e.id.seq e.id.seq refl) f)) none

stays_place : (all rest : List Entry) (e : Entry) → e.place ≡ true → is_waiting e ≡ false → has_copy all e.id.seq ≡ false → (settle_one all rest e).place ≡ true
stays_place all rest e place own none =
    ap (λ (x : Bool). cond x (not (has_copy rest e.id.seq)) (e.place && not (has_copy all e.id.seq))) own
    ∙ ap (λ (x : Bool). x && not (has_copy all e.id.seq)) place ∙ ap (λ (x : Bool). true && not x) none

-- of the entries of a record in a chunk, the last is one
last_member : (es : List Entry) (seq : ℕ) (chunk : ChunkName) (e : Entry) → last_in es seq chunk ≡ Some e → IsOneOf e es
last_member [] seq chunk e h = absurd (none_some e h)
last_member (x ∷ xs) seq chunk e h = by_tests (list_any (is_at seq chunk) xs) (is_at seq chunk x) (last_member xs seq chunk e) h where
  by_tests : (y z : Bool) → (last_in xs seq chunk ≡ Some e → IsOneOf e xs) → cond y (last_in xs seq chunk) (cond z (Some x) None) ≡ Some e → IsOneOf e (x ∷ xs)
  by_tests true z later k = inr (later k)
  by_tests false true later k = inl (sym (one_some x e k))
  by_tests false false later k = absurd (none_some e k)

outside_map : (removed : Names) (es : List Entry) → outside removed (map (λ e. occurrence e.id e.chunk) es) ≡ map (λ e. occurrence e.id e.chunk) (filter (λ e. not (removed e.chunk)) es)
outside_map removed [] = refl
outside_map removed (e ∷ es) = by_test (not (removed e.chunk)) (outside_map removed es) where
  by_test : (y : Bool) → outside removed (map (λ e. occurrence e.id e.chunk) es) ≡ map (λ e. occurrence e.id e.chunk) (filter (λ e. not (removed e.chunk)) es) → cond y (occurrence e.id e.chunk ∷ outside removed (map (λ e. occurrence e.id e.chunk) es)) (outside removed (map (λ e. occurrence e.id e.chunk) es))
      ≡ map (λ e. occurrence e.id e.chunk) (cond y (e ∷ filter (λ e. not (removed e.chunk)) es) (filter (λ e. not (removed e.chunk)) es))
  by_test true later = ap (λ (os : List Occurrence). occurrence e.id e.chunk ∷ os) later
  by_test false later = later

-- ---- a new table

pub ties_new : (p : ℕ) → Ties p [] nothing_gathered new_book
ties_new p = record {
  told = refl;
  present = refl;
  places = λ k r chunk e. absurd (none_some (Own r chunk) e);
  contents = λ e r i x. absurd i;
  filled = λ e i x. absurd i;
}

-- ---- chunks are forgotten one by one

filter_all : (es : List Entry) → filter (λ (e : Entry). not false) es ≡ es
filter_all [] = refl
filter_all (e ∷ es) = ap (λ (xs : List Entry). e ∷ xs) (filter_all es)

filter_twice : (f g : Entry → Bool) (es : List Entry) → filter (λ e. not (g e)) (filter (λ e. not (f e)) es) ≡ filter (λ e. not (f e || g e)) es
filter_twice f g [] = refl
filter_twice f g (e ∷ es) = by_tests (f e) (g e) refl (filter_twice f g es) where
  by_tests : (x y : Bool) → g e ≡ y → filter (λ e. not (g e)) (filter (λ e. not (f e)) es) ≡ filter (λ e. not (f e || g e)) es
      → filter (λ e. not (g e)) (cond (not x) (e ∷ filter (λ e. not (f e)) es) (filter (λ e. not (f e)) es)) ≡ cond (not (x || y)) (e ∷ filter (λ e. not (f e || g e)) es) (filter (λ e. not (f e || g e)) es)
  by_tests true y k later = later
  by_tests false true k later = ap (λ (z : Bool). cond (not z) (e ∷ filter (λ e. not (g e)) (filter (λ e. not (f e)) es)) (filter (λ e. not (g e)) (filter (λ e. not (f e)) es))) k ∙ later
  by_tests false false k later =
      ap (λ (z : Bool). cond (not z) (e ∷ filter (λ e. not (g e)) (filter (λ e. not (f e)) es)) (filter (λ e. not (g e)) (filter (λ e. not (f e)) es))) k
      ∙ ap (λ (xs : List Entry). e ∷ xs) later

pub each_forgotten : (b : Book) (names : List ChunkName) → forgotten_each b names ≡ table_outside (among names) b
each_forgotten b [] = ap (λ (es : List Entry). record { told = b.told; present = es }) (sym (filter_all b.present))
each_forgotten b (name ∷ names) =
    each_forgotten (forgotten_in b name) names
    ∙ ap (λ (es : List Entry). record { told = b.told; present = es }) (filter_twice (λ (e : Entry). is_name e.chunk name) (λ (e : Entry). among names e.chunk) b.present)

-- ---- steps that hear nothing

module _ (p : ℕ) (heard : List NotedEvent) (c t : Gathered) (b : Book) (h : KeptBy p heard c) (ties : Ties p heard c b) where
  -- a place goes over to other files and another list
  place_over : (files : Files) (others : List Entry) (r : Record) (chunk : ChunkName) (place : HasPlaceIn p heard c.files b.present (record { content = r; chunk = chunk })) → IsOneOf place.entry others
      → (IsSafeAt c.files place.entry.chunk r → IsSafeAt files place.entry.chunk r) → HasPlaceIn p heard files others (record { content = r; chunk = chunk })
  place_over files others r chunk place i f = record {
    entry = place.entry;
    member = i;
    is = place.is;
    place = place.place;
    kept = elim place.kept [ inl own ↦ inl own | inr safe ↦ inr (safe.0, f safe.1) ];
  }

  -- a copy is entered, and a piece of it appended
  pub ties_copied : (q : RecordCopy) (at : q.target.partition.0 ≡ p) (copies : CopiesRecord p heard c t q) (e : Entry)
      → last_in b.present (seq_of q.content) q.source ≡ Some e → e.id ≡ identity_of q.content → Ties p heard t (copied_in b (seq_of q.content) q.source q.target)
  ties_copied q at copies e last is = record {
    told = ties.told;
    present =
        copies.present
        ∙ ap (λ (os : List Occurrence). os ++ occurrence (identity_of q.content) q.target ∷ []) ties.present
        ∙ ap (λ (id : Identity). map (λ e. occurrence e.id e.chunk) b.present ++ occurrence id q.target ∷ []) (sym is)
        ∙ sym (map-append (λ e. occurrence e.id e.chunk) b.present (record { id = e.id; content = e.content; chunk = q.target; waiting = true; place = false } ∷ []))
        ∙ ap (λ (x : Option Entry). map (λ e. occurrence e.id e.chunk) (b.present ++ copy_of x q.target)) (sym last);
    places = λ k s chunk top_e. keeps_more (class_of_record s) _ _ _ _
        (λ place. place_over t.files (copied_in b (seq_of q.content) q.source q.target).present s chunk place
        (one_of_left b.present (copy_of (last_in b.present (seq_of q.content) q.source) q.target) place.entry place.member) (safe_moved s place.entry.chunk))
        (none_on p heard c t h q at copies k (seq_of s)) (ties.places k s chunk top_e);
    contents = λ x s i has. elim (entry_cases x i) [
      | inl old ↦ ties.contents x s old has
      | inr new ↦ event_same heard e x s (ap (λ (y : Entry). y.id) new) (ties.contents e s (last_member b.present (seq_of q.content) q.source e last) (ap (λ (y : Entry). y.content) (sym new) ∙ has))
    ];
    filled = λ x i place. elim (entry_cases x i) [ inl old ↦ ties.filled x old place | inr new ↦ absurd (true≢false (sym place ∙ ap (λ (y : Entry). y.place) new)) ];
  } where
    entry_cases : (x : Entry) → IsOneOf x (copied_in b (seq_of q.content) q.source q.target).present
        → IsOneOf x b.present ⊎ (x ≡ record { id = e.id; content = e.content; chunk = q.target; waiting = true; place = false })
    entry_cases x i =
        elim (one_of_append b.present (copy_of (last_in b.present (seq_of q.content) q.source) q.target) x i) [
          | inl before ↦ inl before
          | inr now ↦ elim (subst (λ (o : Option Entry). IsOneOf x (copy_of o q.target)) last now) [ inl same ↦ inr same | inr more ↦ absurd more ]
        ]

    safe_moved : (s : Record) (other : ChunkName) → IsSafeAt c.files other s → IsSafeAt t.files other s
    safe_moved s other x = elim (same_name_or_not other q.target) [
      | inl same ↦ subst (λ (n : ChunkName). IsSafeAt t.files n s) (sym same) (safe_here p heard c t h q at copies s (subst (λ (n : ChunkName). IsSafeAt c.files n s) same x))
      | inr ne ↦ safe_same c.files t.files other s (copies.files.others other ne) x
    ]

  -- a copy file is created
  pub ties_begun : (name : ChunkName) → BeginsCopyFile c t name → Ties p heard t b
  ties_begun name m = record {
    told = ties.told;
    present = m.present ∙ ties.present;
    places = λ k r chunk e. keeps_more (class_of_record r) _ _ _ _
        (λ place. place_over t.files b.present r chunk place place.member
        (λ s. safe_same c.files t.files place.entry.chunk r (m.files.others place.entry.chunk (λ same. none_some s.file (sym m.none ∙ (ap c.files (sym same) ∙ s.there)))) s))
        (λ none. subst (λ (os : List Occurrence). NoSmallerValue os k (seq_of r)) (sym m.present) none) (ties.places k r chunk e);
    contents = ties.contents;
    filled = ties.filled;
  }

  risen_more : ((name : ChunkName) → name.partition.0 ≡ p → Rises (c.files name) (t.files name)) → (name : ChunkName) (r : Record) → name.partition.0 ≡ p → IsSafeAt c.files name r → IsSafeAt t.files name r
  risen_more rises name r at x = risen_safe_by p heard c t h name r x (t.files name) refl (subst (λ (y : Option FileState). Rises y (t.files name)) x.there (rises name at))

  -- a crash keeps more of some files
  pub ties_risen : SecuresFiles p c t → Ties p heard t b
  ties_risen s = record {
    told = ties.told;
    present = s.present ∙ ties.present;
    places = λ k r chunk e. keeps_more (class_of_record r) _ _ _ _ (place_risen r chunk)
        (λ none. subst (λ (os : List Occurrence). NoSmallerValue os k (seq_of r)) (sym s.present) none) (ties.places k r chunk e);
    contents = ties.contents;
    filled = ties.filled;
  } where
    place_risen : (r : Record) (chunk : ChunkName) → HasPlaceIn p heard c.files b.present (record { content = r; chunk = chunk }) → HasPlaceIn p heard t.files b.present (record { content = r; chunk = chunk })
    place_risen r chunk place = record {
      entry = place.entry;
      member = place.member;
      is = place.is;
      place = place.place;
      kept = elim place.kept [ inl own ↦ inl own | inr safe ↦ inr (safe.0, risen_more s.rises place.entry.chunk r safe.0 safe.1) ];
    }

  -- a file is removed in whose chunk nothing is live
  pub ties_removed : (name : ChunkName) → RemovesSource c t name → ((e : Entry) → IsOneOf e b.present → e.chunk ≡ name → is_live b e ≡ false) → Ties p heard t b
  ties_removed name m dead = record {
    told = ties.told;
    present = m.stays ∙ ties.present;
    places = λ k r chunk e. by_class (class_of_record r) _ _ _ _ (moved k r chunk e)
        (λ none. subst (λ (os : List Occurrence). NoSmallerValue os k (seq_of r)) (sym m.stays) none) (ties.places k r chunk e);
    contents = ties.contents;
    filled = ties.filled;
  } where
    right_false : (x y : Bool) → x ≡ true → (x && y) ≡ false → y ≡ false
    right_false true y u f = f
    right_false false y u f = both false u refl

    moved : (k : Key) (r : Record) (chunk : ChunkName) → top (notes heard) k ≡ Some (Own r chunk) → (place : HasPlaceIn p heard c.files b.present (record { content = r; chunk = chunk }))
        → HasPlaceIn p heard t.files b.present (record { content = r; chunk = chunk }) ⊎ ((class_of_record r ≢ Values) × NoSmallerValue t.present k (seq_of r))
    moved k r chunk e place = elim (same_name_or_not place.entry.chunk name) [
      | inr ne ↦ inl (place_over t.files b.present r chunk place place.member (safe_same c.files t.files place.entry.chunk r (m.files.others place.entry.chunk ne)))
      | inl same ↦
          let w =
          not_needed p heard c b ties k r chunk (top_is (notes heard) k (Own r chunk) e)
          (subst (λ (id : Identity). is_needed id.class b id ≡ false) place.is
          (right_false place.entry.place (is_needed place.entry.id.class b place.entry.id) place.place (dead place.entry place.member same))) in
          inr (w.0, subst (λ (os : List Occurrence). NoSmallerValue os k (seq_of r)) (sym m.stays) w.1)
    ]

    by_class : (class : Class) (kept bare kept' bare' : Type 0) → (kept → kept' ⊎ ((class ≢ Values) × bare')) → (bare → bare') → KeepsBy class kept bare → KeepsBy class kept' bare'
    by_class Values kept bare kept' bare' f g x = elim (f x) [ inl a ↦ a | inr y ↦ absurd (y.0 refl) ]
    by_class Tombs kept bare kept' bare' f g (inl x) = elim (f x) [ inl a ↦ inl a | inr y ↦ inr y.1 ]
    by_class Tombs kept bare kept' bare' f g (inr x) = inr (g x)
    by_class Clears kept bare kept' bare' f g (inl x) = elim (f x) [ inl a ↦ inl a | inr y ↦ inr y.1 ]
    by_class Clears kept bare kept' bare' f g (inr x) = inr (g x)

  -- ---- copies are secured

  settled_same : (all es : List Entry) → map (λ e. occurrence e.id e.chunk) (settled all es) ≡ map (λ e. occurrence e.id e.chunk) es
  settled_same all [] = refl
  settled_same all (e ∷ es) = ap (λ (os : List Occurrence). occurrence e.id e.chunk ∷ os) (settled_same all es)

  -- copies are secured, and the table moves its places
  pub ties_secured : (unheard : List NotedEvent) → IsTelling p (heard ++ unheard) → SecuresFiles p c t → AreSecured p heard t.files b.present → Ties p heard t (moved_in b)
  ties_secured unheard telling s secured = record {
    told = ties.told;
    present = s.present ∙ ties.present ∙ sym (settled_same b.present b.present);
    places = λ k r chunk e. keeps_more (class_of_record r) _ _ _ _
        (moved r chunk (top_is (notes heard) k (Own r chunk) e).member)
        (λ none. subst (λ (os : List Occurrence). NoSmallerValue os k (seq_of r)) (sym s.present) none) (ties.places k r chunk e);
    contents = λ e r i x.
        let w = from_settled b.present b.present e i in
        event_same heard w.0 e r (ap (λ (y : Entry). y.id) w.3) (ties.contents w.0 r w.2 (ap (λ (y : Entry). y.content) (sym w.3) ∙ x));
    filled = λ e i x.
        let w = from_settled b.present b.present e i in
        subst IsSome (ap (λ (y : Entry). y.content) (sym w.3)) (filled_by b.present w.1 w.0 (ap (λ (y : Entry). y.place) (sym w.3) ∙ x) (ties.filled w.0 w.2));
  } where
    heard_in_all : (m : Note) → IsOneOf m (notes heard) → IsOneOf m (notes (heard ++ unheard))
    heard_in_all m j = subst (λ (ns : List Note). IsOneOf m ns) (sym (notes-append heard unheard)) (one_of_left (notes heard) (notes unheard) m j)

    -- an entry's identity is that of the record with its number
    same_id : (e : Entry) (r : Record) (chunk : ChunkName) → IsOneOf e b.present → IsOneOf (Own r chunk) (notes heard) → e.id.seq ≡ seq_of r → e.id ≡ identity_of r
    same_id e r chunk i j same =
        let n = h.noted (occurrence e.id e.chunk) (subst (λ (os : List Occurrence). IsOneOf (occurrence e.id e.chunk) os) (sym ties.present) (in_map (λ x. occurrence x.id x.chunk) b.present e i)) in
        sym n.2 ∙ telling.one n.0 (Own r chunk) (heard_in_all n.0 n.1) (heard_in_all (Own r chunk) j) (ap (λ (id : Identity). id.seq) n.2 ∙ same)

    safe_more : (name : ChunkName) (r : Record) → name.partition.0 ≡ p → IsSafeAt c.files name r → IsSafeAt t.files name r
    safe_more name r at x = risen_safe_by p heard c t h name r x (t.files name) refl (subst (λ (y : Option FileState). Rises y (t.files name)) x.there (s.rises name at))

    moved_by : (r : Record) (chunk : ChunkName) → IsOneOf (Own r chunk) (notes heard) → (place : HasPlaceIn p heard c.files b.present (record { content = r; chunk = chunk })) (x : Bool) → has_copy b.present (seq_of r) ≡ x
        → HasPlaceIn p heard t.files (moved_in b).present (record { content = r; chunk = chunk })
    moved_by r chunk j place true x =
        let w = last_copy b.present b.present (seq_of r) x in
        let is : w.entry.id ≡ identity_of r = same_id w.entry r chunk w.member j w.number in
        record { entry = settle_one b.present w.rest w.entry; member = w.settled_member; is = is; place = w.place; kept = inr (secured w.entry r chunk w.member w.waiting j is) }
    moved_by r chunk j place false x =
        let w = in_settled b.present b.present place.entry place.member in
        let number : place.entry.id.seq ≡ seq_of r = ap (λ (id : Identity). id.seq) place.is in
        record {
          entry = settle_one b.present w.0 place.entry;
          member = w.1;
          is = place.is;
          place = stays_place b.present w.0 place.entry place.place (no_copy b.present place.entry place.member (ap (has_copy b.present) number ∙ x)) (ap (has_copy b.present) number ∙ x);
          kept = elim place.kept [ inl own ↦ inl own | inr safe ↦ inr (safe.0, safe_more place.entry.chunk r safe.0 safe.1) ];
        }

    moved : (r : Record) (chunk : ChunkName) → IsOneOf (Own r chunk) (notes heard) → HasPlaceIn p heard c.files b.present (record { content = r; chunk = chunk }) → HasPlaceIn p heard t.files (moved_in b).present (record { content = r; chunk = chunk })
    moved r chunk j place = moved_by r chunk j place (has_copy b.present (seq_of r)) refl

  -- ---- removals are made good

  pub ties_fixed : (removed : Names) → FixesRemovals p heard c t removed → Ties p heard t (table_outside removed b)
  ties_fixed removed f = record {
    told = ties.told;
    present = f.forgotten ∙ ap (outside removed) ties.present ∙ outside_map removed b.present;
    places = λ k r chunk e. keeps_more (class_of_record r) _ _ _ _
        (λ place. fixed r chunk (top_is (notes heard) k (Own r chunk) e).member place (removed place.entry.chunk) refl)
        (λ none o i. none o (was_present c t removed f.forgotten o i)) (ties.places k r chunk e);
    contents = λ e r i x. ties.contents e r (from_filter (λ (y : Entry). not (removed y.chunk)) b.present e i).0 x;
    filled = λ e i x. ties.filled e (from_filter (λ (y : Entry). not (removed y.chunk)) b.present e i).0 x;
  } where
    not_some : (y : Option FileState) → y ≡ None → IsSome y → ⊥
    not_some None u v = absurd (true≢false (sym v))
    not_some (Some g) u v = none_some g (sym u)

    gone_place : (r : Record) (chunk : ChunkName) → IsOneOf (Own r chunk) (notes heard) → (place : HasPlaceIn p heard c.files b.present (record { content = r; chunk = chunk })) → removed place.entry.chunk ≡ true → ⊥
    gone_place r chunk j place x = elim place.kept [
      | inl own ↦ not_some (seal_of heard chunk) own.1 (f.closed (Own r chunk) j (ap removed (sym own.0) ∙ x))
      | inr safe ↦ none_some safe.1.file (sym (f.none place.entry.chunk x) ∙ safe.1.there)
    ]

    fixed : (r : Record) (chunk : ChunkName) → IsOneOf (Own r chunk) (notes heard) → (place : HasPlaceIn p heard c.files b.present (record { content = r; chunk = chunk })) (x : Bool) → removed place.entry.chunk ≡ x
        → HasPlaceIn p heard t.files (filter (λ e. not (removed e.chunk)) b.present) (record { content = r; chunk = chunk })
    fixed r chunk j place true x = absurd (gone_place r chunk j place x)
    fixed r chunk j place false x = record {
      entry = place.entry;
      member = in_filter (λ e. not (removed e.chunk)) b.present place.entry place.member (ap not x);
      is = place.is;
      place = place.place;
      kept = elim place.kept [ inl own ↦ inl own | inr safe ↦ inr (safe.0, risen_more f.files place.entry.chunk r safe.0 safe.1) ];
    }
