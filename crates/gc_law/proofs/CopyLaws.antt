-- Copies lie whole in their copy files until they are secured.
use Rattle.std.specs.Prelude.{◌≡◌, ℕ, ◌==◌, ◌&&◌, Bool, true, false, cond, if◌then◌else◌, List, [], ◌∷◌, ◌++◌, length, map, All, Option, Some, None, is_some, refl}
use Rattle.std.proofs.Common.{sym, ◌∙◌, ap, subst, inl, inr, arith, true≢false}
use Rattle.std.proofs.lemmas.Bool.{and_parts}
use Rattle.std.proofs.lemmas.List.{append-nil}
use Rattle.std.proofs.lemmas.List.Elements.{All-from_recursion, recursion_from_All}
use Rattle.std.proofs.lemmas.Grind.{flat_map-append}
use Rattle.hr_base.specs.declared.name.ChunkName.{ChunkName}
use Rattle.hr_base.specs.Names.{class_of_kind}
use Rattle.hr_base.proofs.NameTestLaws.{same_name_or_not}
use Rattle.dir_files.specs.Files.{FileState, Files, Rises, IsDurable, with_bytes}
use Rattle.record_format.specs.declared.record.Record.{Record}
use Rattle.record_format.specs.Spelling.{seq_of, spelling, spellings}
use Rattle.record_format.specs.Splits.{Splits, IsOfClass}
use Rattle.record_format.proofs.SplitLaws.{one_split, whole_spellings_split, nothing_is_torn}
use Rattle.crash_law.specs.Numbered.{IsIn}
use Rattle.crash_law.proofs.PlacedLaws.{in_left, in_right}
use Rattle.gc_law.specs.Events.{NotedEvent, RecordEvent, SealEvent, notes, IsTelling}
use Rattle.gc_law.specs.CollectorFacts.{Gathered, IsSafeAt}
use Rattle.gc_law.proofs.EventLaws.{none_some, one_some, from_map, one_of_append, one_of_left, notes-append}
use Rattle.gc_event.specs.Notes.{IsOneOf, Identity, identity_of, Note, Own, Dead, is_own, number_of}
use Rattle.gc_event.specs.Books.{Entry, Book, with_place, entry_of, heard_in, last_in, copy_of, copied_in, is_waiting, settled, moved_in}
use Rattle.gc_law.proofs.StepLaws.{each_left}
use Rattle.gc_law.specs.Steps.{HearsNote, HearsSeal, BeginsCopyFile, RecordCopy, CopiesRecord, SecuresFiles}
use Rattle.gc_law.specs.Ties.{IsCopied, AreCopied, AreSecured}

-- ---- they are secured

safe_by : (p : ℕ) (heard : List NotedEvent) (files changed : Files) (e : Entry) (copied : IsCopied p heard files e) (new : Option FileState) → changed e.chunk ≡ new → Rises (Some copied.file) new
    → ((file : FileState) → changed e.chunk ≡ Some file → IsDurable file) → IsSafeAt changed e.chunk copied.content
safe_by p heard files changed e copied None there rises durable = absurd rises
safe_by p heard files changed e copied (Some g) there rises durable =
    let bytes : g.bytes ≡ spellings copied.records = rises.bytes ∙ copied.whole in
    record {
      file = g;
      safe = copied.records;
      more = [];
      rest = [];
      there = there;
      named = (durable g there).named;
      holds = record {
        split =
            subst (λ (rs : List Record). Splits (class_of_kind e.chunk.kind) g.bytes rs []) (sym (append-nil copied.records))
            (subst (λ (b : List ℕ). Splits (class_of_kind e.chunk.kind) b copied.records []) (sym bytes) (whole_spellings_split (class_of_kind e.chunk.kind) copied.records copied.valid));
        torn = nothing_is_torn (class_of_kind e.chunk.kind);
        front = omega (arith, (durable g there).front, ap length bytes);
      };
      has = copied.has;
    }

-- after both syncs each of them is kept
pub copies_secured : (p : ℕ) (heard unheard : List NotedEvent) (c t : Gathered) (present : List Entry) → IsTelling p (heard ++ unheard) → AreCopied p heard c.files present → SecuresFiles p c t
    → ((e : Entry) (file : FileState) → IsOneOf e present → is_waiting e ≡ true → t.files e.chunk ≡ Some file → IsDurable file) → AreSecured p heard t.files present
copies_secured p heard unheard c t present telling copied s durable e r chunk i waiting own is =
    let x = copied e i waiting in
    let same : x.content ≡ r = telling.content x.content r x.chunk chunk (in_all x.content x.chunk x.own) (in_all r chunk own) (ap (λ (id : Identity). id.seq) (sym x.is ∙ is)) in (
      x.partition,
      subst (IsSafeAt t.files e.chunk) same
          (safe_by p heard c.files t.files e x (t.files e.chunk) refl (subst (λ (o : Option FileState). Rises o (t.files e.chunk)) x.there (s.rises e.chunk x.partition))
          (λ file there. durable e file i waiting there)),
    )
  where
    in_all : (y : Record) (d : ChunkName) → IsOneOf (Own y d) (notes heard) → IsOneOf (Own y d) (notes (heard ++ unheard))
    in_all y d j = subst (λ (ns : List Note). IsOneOf (Own y d) ns) (sym (notes-append heard unheard)) (one_of_left (notes heard) (notes unheard) (Own y d) j)

-- and then none waits
none_waits : (all es : List Entry) (e : Entry) → IsOneOf e (settled all es) → e.waiting ≡ false
none_waits all [] e h = absurd h
none_waits all (x ∷ es) e h = elim h [ inl same ↦ ap (λ (y : Entry). y.waiting) same | inr more ↦ none_waits all es e more ]

pub copies_moved : (p : ℕ) (heard : List NotedEvent) (files : Files) (b : Book) → AreCopied p heard files (moved_in b).present
copies_moved p heard files b e i waiting = absurd (true≢false (sym (and_parts e.waiting (is_some e.content) waiting).0 ∙ none_waits b.present b.present e i))

-- ---- a copy more

each_front : (P : Record → Type 0) (xs ys : List Record) → All P (xs ++ ys) → All P xs
each_front P xs ys h = All-from_recursion P xs (each_left P xs ys (recursion_from_All P (xs ++ ys) h))

module _ (p : ℕ) (heard : List NotedEvent) (c t : Gathered) (q : RecordCopy) (copies : CopiesRecord p heard c t q) (all : q.missing ≡ []) where
  bytes_now : (copies.file.bytes ++ q.piece) ≡ spellings (copies.records ++ q.content ∷ [])
  bytes_now =
      ap (λ (b : List ℕ). b ++ q.piece) copies.whole
      ∙ ap (λ (b : List ℕ). spellings copies.records ++ b) (sym (append-nil q.piece) ∙ (ap (λ (b : List ℕ). q.piece ++ b) (sym all) ∙ (sym copies.spelled ∙ sym (append-nil (spelling q.content)))))
      ∙ sym (flat_map-append spelling copies.records (q.content ∷ []))

  -- what lay whole in a copy file still does
  still : (e : Entry) → IsCopied p heard c.files e → IsCopied p heard t.files e
  still e x = elim (same_name_or_not e.chunk q.target) [
    | inr ne ↦ record {
      content = x.content;
      chunk = x.chunk;
      own = x.own;
      is = x.is;
      partition = x.partition;
      file = x.file;
      records = x.records;
      there = copies.files.others e.chunk ne ∙ x.there;
      whole = x.whole;
      valid = x.valid;
      has = x.has;
    }
    | inl same ↦
        let is : x.file ≡ copies.file = one_some x.file copies.file (sym x.there ∙ (ap c.files same ∙ copies.there)) in
        let valid : All (IsOfClass (class_of_kind q.target.kind)) x.records = subst (λ (n : ChunkName). All (IsOfClass (class_of_kind n.kind)) x.records) same x.valid in
        let records : x.records ≡ copies.records =
        (one_split (class_of_kind q.target.kind) (spellings x.records) x.records copies.records [] [] (whole_spellings_split (class_of_kind q.target.kind) x.records valid)
        (subst (λ (b : List ℕ). Splits (class_of_kind q.target.kind) b copies.records []) (sym copies.whole ∙ (ap (λ (f : FileState). f.bytes) (sym is) ∙ x.whole)) (old_split copies.valid))).0 in
        record {
          content = x.content;
          chunk = x.chunk;
          own = x.own;
          is = x.is;
          partition = x.partition;
          file = with_bytes copies.file q.piece;
          records = copies.records ++ q.content ∷ [];
          there = ap t.files same ∙ copies.files.at;
          whole = bytes_now;
          valid = subst (λ (n : ChunkName). All (IsOfClass (class_of_kind n.kind)) (copies.records ++ q.content ∷ [])) (sym same) copies.valid;
          has = in_left copies.records (q.content ∷ []) x.content (subst (λ (rs : List Record). IsIn x.content rs) records x.has);
        }
  ] where
    old_split : All (IsOfClass (class_of_kind q.target.kind)) (copies.records ++ q.content ∷ []) → Splits (class_of_kind q.target.kind) (spellings copies.records) copies.records []
    old_split valid = whole_spellings_split (class_of_kind q.target.kind) copies.records (each_front (IsOfClass (class_of_kind q.target.kind)) copies.records (q.content ∷ []) valid)

  -- a record that had an event of its own kind was copied whole
  pub copies_more : (b : Book) (e : Entry) (chunk : ChunkName) → q.target.partition.0 ≡ p → AreCopied p heard c.files b.present → last_in b.present (seq_of q.content) q.source ≡ Some e → e.id ≡ identity_of q.content
      → IsOneOf (Own q.content chunk) (notes heard) → AreCopied p heard t.files (copied_in b (seq_of q.content) q.source q.target).present
  copies_more b e chunk at copied last is own x i waiting =
      elim (one_of_append b.present (copy_of (last_in b.present (seq_of q.content) q.source) q.target) x i) [
        | inl before ↦ still x (copied x before waiting)
        | inr now ↦ elim (subst (λ (o : Option Entry). IsOneOf x (copy_of o q.target)) last now) [
          | inl same ↦ record {
            content = q.content;
            chunk = chunk;
            own = own;
            is = ap (λ (y : Entry). y.id) same ∙ is;
            partition = ap (λ (y : Entry). y.chunk.partition.0) same ∙ at;
            file = with_bytes copies.file q.piece;
            records = copies.records ++ q.content ∷ [];
            there = ap (λ (y : Entry). t.files y.chunk) same ∙ copies.files.at;
            whole = bytes_now;
            valid = subst (λ (n : ChunkName). All (IsOfClass (class_of_kind n.kind)) (copies.records ++ q.content ∷ [])) (sym (ap (λ (y : Entry). y.chunk) same)) copies.valid;
            has = in_right copies.records (q.content ∷ []) q.content (inl refl);
          }
          | inr more ↦ absurd more
        ]
      ]

-- ---- other steps

copied_over : (p : ℕ) (heard more : List NotedEvent) (files changed : Files) (e : Entry) → changed e.chunk ≡ files e.chunk → IsCopied p heard files e → IsCopied p (heard ++ more) changed e
copied_over p heard more files changed e same x = record {
  content = x.content;
  chunk = x.chunk;
  own = subst (λ (ns : List Note). IsOneOf (Own x.content x.chunk) ns) (sym (notes-append heard more)) (one_of_left (notes heard) (notes more) (Own x.content x.chunk) x.own);
  is = x.is;
  partition = x.partition;
  file = x.file;
  records = x.records;
  there = same ∙ x.there;
  whole = x.whole;
  valid = x.valid;
  has = x.has;
}

copied_with : (p : ℕ) (heard : List NotedEvent) (files changed : Files) (e : Entry) (x : IsCopied p heard files e) (file : FileState) → changed e.chunk ≡ Some file → file.bytes ≡ x.file.bytes → IsCopied p heard changed e
copied_with p heard files changed e x file there bytes = record {
  content = x.content;
  chunk = x.chunk;
  own = x.own;
  is = x.is;
  partition = x.partition;
  file = file;
  records = x.records;
  there = there;
  whole = bytes ∙ x.whole;
  valid = x.valid;
  has = x.has;
}

-- a Seal is heard
pub copies_sealed : (p : ℕ) (heard : List NotedEvent) (c t : Gathered) (b : Book) (name : ChunkName) (file : FileState) (size : ℕ) → AreCopied p heard c.files b.present → HearsSeal c t name file
    → AreCopied p (heard ++ SealEvent name file size ∷ []) t.files b.present
copies_sealed p heard c t b name file size copied hears e i waiting =
    let x = copied e i waiting in
    copied_over p heard (SealEvent name file size ∷ []) c.files t.files e
    (hears.files.others e.chunk (λ same. none_some x.file (sym hears.none ∙ (ap c.files (sym same) ∙ x.there)))) x

-- a copy file is created
pub copies_begun : (p : ℕ) (heard : List NotedEvent) (c t : Gathered) (b : Book) (name : ChunkName) → AreCopied p heard c.files b.present → BeginsCopyFile c t name → AreCopied p heard t.files b.present
copies_begun p heard c t b name copied m e i waiting =
    let x = copied e i waiting in
    copied_with p heard c.files t.files e x x.file
    (m.files.others e.chunk (λ same. none_some x.file (sym m.none ∙ (ap c.files (sym same) ∙ x.there))) ∙ x.there) refl

-- a crash keeps more of some files
pub copies_risen : (p : ℕ) (heard : List NotedEvent) (c t : Gathered) (b : Book) → AreCopied p heard c.files b.present → SecuresFiles p c t → AreCopied p heard t.files b.present
copies_risen p heard c t b copied s e i waiting =
    let x = copied e i waiting in
    risen x (t.files e.chunk) refl (subst (λ (o : Option FileState). Rises o (t.files e.chunk)) x.there (s.rises e.chunk x.partition))
  where
    risen : (x : IsCopied p heard c.files e) (new : Option FileState) → t.files e.chunk ≡ new → Rises (Some x.file) new → IsCopied p heard t.files e
    risen x None there rises = absurd rises
    risen x (Some g) there rises = copied_with p heard c.files t.files e x g there rises.bytes

-- ---- an event is heard

unplaced_by : (x : Bool) (e : Entry) → ((cond x (with_place false e) e).id ≡ e.id) × ((cond x (with_place false e) e).chunk ≡ e.chunk) × (is_waiting (cond x (with_place false e) e) ≡ is_waiting e)
unplaced_by true e = (refl, refl, refl)
unplaced_by false e = (refl, refl, refl)

told_waits : (n : Note) → is_waiting (entry_of n) ≡ false
told_waits (Own content chunk) = refl
told_waits (Dead id chunk) = refl

pub copies_noted : (p : ℕ) (heard : List NotedEvent) (c t : Gathered) (b : Book) (n : Note) → AreCopied p heard c.files b.present → HearsNote c t n → AreCopied p (heard ++ RecordEvent n ∷ []) t.files (heard_in b n).present
copies_noted p heard c t b n copied hears e i waiting =
    elim (one_of_append (map (λ e. if is_own n && (e.id.seq == number_of n) then with_place false e else e) b.present)
    (entry_of n ∷ []) e i) [
      | inl before ↦
          let w = from_map (λ e. if is_own n && (e.id.seq == number_of n) then with_place false e else e) b.present e before in
          let u = unplaced_by (is_own n && (w.0.id.seq == number_of n)) w.0 in
          let x = copied w.0 w.1 (sym u.2 ∙ (ap is_waiting (sym w.2) ∙ waiting)) in
          let chunk : e.chunk ≡ w.0.chunk = ap (λ (y : Entry). y.chunk) w.2 ∙ u.1 in
          record {
            content = x.content;
            chunk = x.chunk;
            own = subst (λ (ns : List Note). IsOneOf (Own x.content x.chunk) ns) (sym (notes-append heard (RecordEvent n ∷ []))) (one_of_left (notes heard) (n ∷ []) (Own x.content x.chunk) x.own);
            is = ap (λ (y : Entry). y.id) w.2 ∙ u.0 ∙ x.is;
            partition = ap (λ (d : ChunkName). d.partition.0) chunk ∙ x.partition;
            file = x.file;
            records = x.records;
            there = hears.files e.chunk ∙ (ap c.files chunk ∙ x.there);
            whole = x.whole;
            valid = subst (λ (d : ChunkName). All (IsOfClass (class_of_kind d.kind)) x.records) (sym chunk) x.valid;
            has = x.has;
          }
      | inr now ↦ elim now [ inl same ↦ absurd (true≢false (sym waiting ∙ (ap is_waiting same ∙ told_waits n))) | inr more ↦ absurd more ]
    ]
