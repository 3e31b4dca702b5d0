-- What every crash leaves under one name of a partition, beside a collector.
use Rattle.std.specs.Prelude.{◌≡◌, ◌⊎◌, ℕ, ◌≤◌, List, [], ◌++◌, length, take, Option, Some, None, refl}
use Rattle.std.proofs.Common.{sym, ◌∙◌, ap, subst, inl, inr, arith, true≢false, length-append}
use Rattle.std.specs.List.{AllByRecursion}
use Rattle.std.specs.Option.{option_map}
use Rattle.std.proofs.lemmas.List.{append-nil, nil_from_length}
use Rattle.std.proofs.lemmas.List.Elements.{recursion_from_All, All-from_recursion}
use Rattle.hr_base.specs.declared.limits.TheConstants.{MAX_FILE_LEN}
use Rattle.hr_base.specs.declared.name.ChunkName.{ChunkName}
use Rattle.hr_base.specs.Names.{class_of_kind}
use Rattle.dir_files.specs.Files.{FileState, Files, IsDurable}
use Rattle.dir_files.specs.Images.{Image, KeepsFront, MayLeave}
use Rattle.record_format.specs.declared.record.Record.{Record}
use Rattle.record_format.specs.Splits.{Splits, IsOfClass, IsTorn}
use Rattle.record_format.proofs.SplitLaws.{one_split}
use Rattle.crash_law.specs.Accounts.{Account}
use Rattle.crash_law.specs.Chunks.{LeavesFront}
use Rattle.crash_law.specs.Crashes.{IsImageOfPart}
use Rattle.crash_law.specs.Numbered.{IsIn}
use Rattle.crash_law.specs.Placed.{in_chunk, IsPlaced}
use Rattle.crash_law.specs.Growth.{IsOwnBut}
use Rattle.crash_law.specs.Restarts.{Fact}
use Rattle.crash_law.specs.Writers.{Written}
use Rattle.crash_law.proofs.ChunkLaws.{leaves_front}
use Rattle.crash_law.proofs.NumberedLaws.{Contains-from_in}
use Rattle.crash_law.proofs.PlacedLaws.{in_chunk-append, in_chunk_valid, in_front, in_append, in_left, in_right}
use Rattle.gc_event.specs.Notes.{IsOneOf, Identity, identity_of, Note, Own, occurrence}
use Rattle.gc_law.specs.Events.{NotedEvent, notes, seal_of, sealed_image, placed_of, IsNotedAt, IsTold}
use Rattle.dir_files.specs.Ports.{either_file}
use Rattle.gc_law.specs.WriterFacts.{Tells, IsWritersAt}
use Rattle.gc_law.specs.CollectorFacts.{Gathered, HoldsSplit, IsSafeAt, IsGatheredFile, KeptBy}
use Rattle.gc_law.specs.Both.{files_of_both, AreApart}
use Rattle.gc_law.proofs.EventLaws.{one_some, one_of_append, one_of_left, one_of_right, notes-append, seal_of-append, closed_behind, placed_in_chunk, in_chunk_placed}
use Rattle.gc_law.proofs.SplitLaws.{split_leaves}

-- ---- what is read under a name

-- the file of this name in the image has the record, whole
pub record FactAt (image : Image) (name : ChunkName) (r : Record) : Type 0 where
  pub bytes : List ℕ
  pub records : List Record
  pub rest : List ℕ
  pub there : image name ≡ Some bytes
  pub whole : Splits (class_of_kind name.kind) bytes records rest
  pub has : IsIn r records

pub record Reads (image : Image) (name : ChunkName) (recs : List Record) : Type 0 where
  pub facts : (r : Record) → FactAt image name r → IsIn r recs
  pub back : (r : Record) → IsIn r recs → FactAt image name r
  pub small : (bytes : List ℕ) → image name ≡ Some bytes → length bytes ≤ MAX_FILE_LEN
  pub torn : (bytes : List ℕ) (records : List Record) (rest : List ℕ) → image name ≡ Some bytes → Splits (class_of_kind name.kind) bytes records rest → IsTorn (class_of_kind name.kind) rest

some_none : {A : Type 0} (a : A) → Some a ≡ None → ⊥
some_none a e = cc

reads_none : (image : Image) (name : ChunkName) → image name ≡ None → Reads image name []
reads_none image name none = record {
  facts = λ r f. absurd (some_none f.bytes (sym f.there ∙ none));
  back = λ r i. absurd i;
  small = λ bytes h. absurd (some_none bytes (sym h ∙ none));
  torn = λ bytes records rest h s. absurd (some_none bytes (sym h ∙ none));
}

reads_some : (image : Image) (name : ChunkName) (bytes : List ℕ) (recs : List Record) (rest : List ℕ) → image name ≡ Some bytes
    → Splits (class_of_kind name.kind) bytes recs rest → IsTorn (class_of_kind name.kind) rest → length bytes ≤ MAX_FILE_LEN → Reads image name recs
reads_some image name bytes recs rest there split torn small = record {
  facts = λ r f. subst (λ (rs : List Record). IsIn r rs) (same f.bytes f.records f.rest f.there f.whole).0 f.has;
  back = λ r i. record { bytes = bytes; records = recs; rest = rest; there = there; whole = split; has = i };
  small = λ b h. subst (λ (x : List ℕ). length x ≤ MAX_FILE_LEN) (one_some bytes b (sym there ∙ h)) small;
  torn = λ b records x h s. subst (λ (y : List ℕ). IsTorn (class_of_kind name.kind) y) (sym (same b records x h s).1) torn;
} where
  same : (b : List ℕ) (records : List Record) (x : List ℕ) → image name ≡ Some b → Splits (class_of_kind name.kind) b records x → (records ≡ recs) × (x ≡ rest)
  same b records x h s =
      one_split (class_of_kind name.kind) bytes records recs x rest
      (subst (λ (y : List ℕ). Splits (class_of_kind name.kind) y records x) (one_some b bytes (sym h ∙ there)) s) split

kept_small : (file : FileState) (bytes : List ℕ) → KeepsFront file bytes → length file.bytes ≤ MAX_FILE_LEN → length bytes ≤ MAX_FILE_LEN
kept_small file bytes may small = omega (arith, small, ap length may.prefix, length-append bytes may.rest)

whole_kept : (file : FileState) (bytes : List ℕ) → IsDurable file → KeepsFront file bytes → bytes ≡ file.bytes
whole_kept file bytes durable keeps =
    let none : keeps.rest ≡ [] = nil_from_length keeps.rest (omega (arith, keeps.front, durable.front, ap length keeps.prefix, length-append bytes keeps.rest)) in
    sym (append-nil bytes) ∙ ap (λ (r : List ℕ). bytes ++ r) (sym none) ∙ sym keeps.prefix

-- ---- the writer's files

pub writers_some : (s file : Option FileState) (f : FileState) (noted since lost : List Record) → IsWritersAt s file noted since lost → file ≡ Some f → (s ≡ None) × IsOwnBut (Some f) noted since lost
writers_some None file f noted since lost h e = (refl, subst (λ (x : Option FileState). IsOwnBut x noted since lost) e h)
writers_some (Some g) file f noted since lost h e = absurd (some_none f (sym e ∙ h.0))

writers_sealed : (s file : Option FileState) (g : FileState) (noted since lost : List Record) → IsWritersAt s file noted since lost → s ≡ Some g → since ≡ []
writers_sealed None file g noted since lost h e = absurd (some_none g (sym e))
writers_sealed (Some x) file g noted since lost h e = h.1

writers_none : (s file : Option FileState) (noted since lost : List Record) → IsWritersAt s file noted since lost → s ≡ None → file ≡ None → noted ≡ []
writers_none None None noted since lost h e f = h.0
writers_none None (Some g) noted since lost h e f = absurd (some_none g f)
writers_none (Some g) file noted since lost h e f = absurd (some_none g e)

left_none : (x y : Option FileState) → either_file x y ≡ None → x ≡ None
left_none None y e = refl
left_none (Some g) y e = absurd (some_none g e)

both_none : (x y : Option FileState) → x ≡ None → y ≡ None → either_file x y ≡ None
both_none None y e f = f
both_none (Some g) y e f = absurd (some_none g e)

left_some : (x y : Option FileState) (b : List ℕ) → option_map (λ (file : FileState). file.bytes) x ≡ Some b → option_map (λ (file : FileState). file.bytes) (either_file x y) ≡ Some b
left_some None y b e = absurd (some_none b (sym e))
left_some (Some g) y b e = e

-- ---- the collector's files

safe_left : (image : Image) (files : Files) (name : ChunkName) (r : Record) (recs : List Record) (f : FileState) (bytes rest : List ℕ) → files name ≡ Some f → KeepsFront f bytes
    → Splits (class_of_kind name.kind) bytes recs rest → IsSafeAt files name r → IsIn r recs
safe_left image files name r recs f bytes rest there keeps split safe =
    let is : safe.file ≡ f = one_some safe.file f (sym safe.there ∙ there) in
    let left : LeavesFront (class_of_kind name.kind) safe.safe safe.more bytes =
    split_leaves (class_of_kind name.kind) f safe.safe safe.more safe.rest bytes
    (subst (λ (g : FileState). HoldsSplit (class_of_kind name.kind) g safe.safe safe.more safe.rest) is safe.holds) keeps in
    subst (λ (rs : List Record). IsIn r rs) (one_split (class_of_kind name.kind) bytes (safe.safe ++ take left.count safe.more) recs left.rest rest left.split split).0
    (in_left safe.safe (take left.count safe.more) r safe.has)

module _ (w : Written) (heard unheard : List NotedEvent) (a : Account) (c : Gathered) (told : Tells w (heard ++ unheard) a) (kept : KeptBy w.partition heard c)
    (apart : AreApart w unheard c) (image : Image) (is : IsImageOfPart w.partition (files_of_both w unheard c) c.gone image) where
  -- ---- what was heard, and what was not

  pub heard_noted : (n : Note) → IsOneOf n (notes heard) → IsOneOf n (notes (heard ++ unheard))
  heard_noted n i = subst (λ (ns : List Note). IsOneOf n ns) (sym (notes-append heard unheard)) (one_of_left (notes heard) (notes unheard) n i)

  pub unheard_noted : (n : Note) → IsOneOf n (notes unheard) → IsOneOf n (notes (heard ++ unheard))
  unheard_noted n i = subst (λ (ns : List Note). IsOneOf n ns) (sym (notes-append heard unheard)) (one_of_right (notes heard) (notes unheard) n i)

  pub noted_in : (n : Note) → IsOneOf n (notes (heard ++ unheard)) → IsOneOf n (notes heard) ⊎ IsOneOf n (notes unheard)
  noted_in n i = one_of_append (notes heard) (notes unheard) n (subst (λ (ns : List Note). IsOneOf n ns) (notes-append heard unheard) i)

  unsealed_heard : (name : ChunkName) → seal_of (heard ++ unheard) name ≡ None → seal_of heard name ≡ None
  unsealed_heard name e = left_none (seal_of heard name) (seal_of unheard name) (sym (seal_of-append heard unheard name) ∙ e)

  unsealed_both : (name : ChunkName) → seal_of heard name ≡ None → seal_of unheard name ≡ None → seal_of (heard ++ unheard) name ≡ None
  unsealed_both name e f = seal_of-append heard unheard name ∙ both_none (seal_of heard name) (seal_of unheard name) e f

  -- a Seal that was not heard
  not_heard_by : (s : Option FileState) (name : ChunkName) (f : FileState) → seal_of heard name ≡ s → seal_of unheard name ≡ Some f → seal_of heard name ≡ None
  not_heard_by None name f e h = e
  not_heard_by (Some g) name f e h = absurd (some_none f (sym h ∙ (closed_behind heard unheard name g told.telling.last e).none_sealed))

  not_heard : (name : ChunkName) (f : FileState) → seal_of unheard name ≡ Some f → seal_of heard name ≡ None
  not_heard name f h = not_heard_by (seal_of heard name) name f refl h

  sealed_all : (name : ChunkName) (f : FileState) → seal_of unheard name ≡ Some f → seal_of (heard ++ unheard) name ≡ Some f
  sealed_all name f h = seal_of-append heard unheard name ∙ ap (λ (x : Option FileState). either_file x (seal_of unheard name)) (not_heard name f h) ∙ h

  known_more : (r : Record) → IsTold w.partition heard r → IsTold w.partition (heard ++ unheard) r
  known_more r (inl own) = inl (own.0, heard_noted (Own r own.0) own.1)
  known_more r (inr f) = inr (record {
    name = f.name;
    bytes = f.bytes;
    records = f.records;
    rest = f.rest;
    partition = f.partition;
    there =
        ap (option_map (λ (file : FileState). file.bytes)) (seal_of-append heard unheard f.name)
        ∙ left_some (seal_of heard f.name) (seal_of unheard f.name) f.bytes f.there;
    whole = f.whole;
    has = f.has;
  })

  -- ---- what is left under one name

  -- the record was noted with this chunk, whose Seal was not heard, or is counted as present there
  abbrev pub IsListed : ChunkName → Record → Type 0
  IsListed name r = (IsNotedAt (heard ++ unheard) name (identity_of r) × (seal_of heard name ≡ None)) ⊎ IsOneOf (occurrence (identity_of r) name) c.present

  abbrev pub IsKnown : ChunkName → Record → Type 0
  IsKnown name r = IsTold w.partition (heard ++ unheard) r × IsListed name r

  pub record LeftAt (name : ChunkName) (count : ℕ) (recs : List Record) : Type 0 where
    pub reads : Reads image name recs
    pub known : (r : Record) → IsIn r recs → IsKnown name r ⊎ IsIn r (take count (in_chunk name w.records))
    pub since : (r : Record) → IsIn r (take count (in_chunk name w.records)) → IsIn r recs
    pub own : (r : Record) → IsOneOf (Own r name) (notes (heard ++ unheard)) → seal_of heard name ≡ None → IsIn r recs
    pub safe : (r : Record) → IsSafeAt c.files name r → IsIn r recs
    pub absent : w.files name ≡ None → count ≡ 0

  abbrev pub Left : ChunkName → Type 0
  Left name = (count : ℕ) × (recs : List Record) × LeftAt name count recs

  module _ (name : ChunkName) (of : name.partition.0 ≡ w.partition) where
    -- no file of the writer's and none in a Seal not heard: then each noted record of the chunk was heard with its Seal
    no_own : w.files name ≡ None → seal_of unheard name ≡ None → (r : Record) → IsOneOf (Own r name) (notes (heard ++ unheard)) → seal_of heard name ≡ None → ⊥
    no_own none unsealed r i e =
        let nothing : in_chunk name (placed_of (notes (heard ++ unheard))) ≡ [] =
        writers_none (seal_of (heard ++ unheard) name) (w.files name) _ _ _ (told.at name of) (unsealed_both name e unsealed) none in
        subst (λ (rs : List Record). IsIn r rs) nothing (placed_in_chunk (notes (heard ++ unheard)) name r i)

    -- nothing is there
    left_nothing : w.files name ≡ None → seal_of unheard name ≡ None → image name ≡ None → ((r : Record) → IsSafeAt c.files name r → ⊥) → Left name
    left_nothing none unsealed absent unsafe = (
      0,
      [],
      record {
        reads = reads_none image name absent;
        known = λ r i. absurd i;
        since = λ r i. i;
        own = λ r i e. absurd (no_own none unsealed r i e);
        safe = λ r s. absurd (unsafe r s);
        absent = λ e. refl;
      },
    )

    -- a file of the collector's, or one that it removed
    left_gathered : (f : FileState) (bytes : List ℕ) → w.files name ≡ None → seal_of unheard name ≡ None → image name ≡ Some bytes → KeepsFront f bytes → IsGatheredFile w.partition heard c.present name f
        → ((r : Record) → IsSafeAt c.files name r → c.files name ≡ Some f) → Left name
    left_gathered f bytes none unsealed there keeps file same =
        let left : LeavesFront (class_of_kind name.kind) [] file.records bytes =
        split_leaves (class_of_kind name.kind) f [] file.records file.rest bytes (record { split = file.split; torn = file.torn; front = omega arith }) keeps in (
          0,
          take left.count file.records,
          record {
            reads = reads_some image name bytes (take left.count file.records) left.rest there left.split left.torn (kept_small f bytes keeps file.small);
            known = λ r i.
                let in_file = in_front left.count file.records r i in
                inl (known_more r (file.told r in_file), inr (file.marked r in_file));
            since = λ r i. absurd i;
            own = λ r i e. absurd (no_own none unsealed r i e);
            safe = λ r s. safe_left image c.files name r (take left.count file.records) f bytes left.rest (same r s) keeps left.split s;
            absent = λ e. refl;
          },
        )

    by_gone : (gone : Option FileState) (left : Option (List ℕ)) → w.files name ≡ None → seal_of unheard name ≡ None → c.files name ≡ None → c.gone name ≡ gone → image name ≡ left → MayLeave None gone left → Left name
    by_gone None None none unsealed no_file e there may = left_nothing none unsealed there (λ r s. some_none s.file (sym s.there ∙ no_file))
    by_gone None (Some bytes) none unsealed no_file e there may = absurd may
    by_gone (Some g) None none unsealed no_file e there may = left_nothing none unsealed there (λ r s. some_none s.file (sym s.there ∙ no_file))
    by_gone (Some g) (Some bytes) none unsealed no_file e there may =
        left_gathered g bytes none unsealed there may (kept.gone name g of e) (λ r s. absurd (some_none s.file (sym s.there ∙ no_file)))

    by_gathered : (file : Option FileState) (left : Option (List ℕ)) → w.files name ≡ None → seal_of unheard name ≡ None → c.files name ≡ file → image name ≡ left → MayLeave file (c.gone name) left → Left name
    by_gathered None left none unsealed e there may = by_gone (c.gone name) left none unsealed e refl there may
    by_gathered (Some f) None none unsealed e there may =
        left_nothing none unsealed there (λ r s. true≢false (sym s.named ∙ (ap (λ (g : FileState). g.named) (one_some s.file f (sym s.there ∙ e)) ∙ may)))
    by_gathered (Some f) (Some bytes) none unsealed e there may =
        left_gathered f bytes none unsealed there may (kept.files name f of e) (λ r s. e)

    -- a file in a Seal that was not heard
    by_sealed : (file : Option FileState) (left : Option (List ℕ)) → w.files name ≡ None → seal_of unheard name ≡ file → image name ≡ left → MayLeave (either_file file (c.files name)) (c.gone name) left → Left name
    by_sealed None left none e there may = by_gathered (c.files name) left none e refl there may
    by_sealed (Some f) None none e there may =
        absurd (true≢false (sym (told.telling.seals name f (sealed_all name f e)).durable.named ∙ may))
    by_sealed (Some f) (Some bytes) none e there may =
        let file = told.telling.seals name f (sealed_all name f e) in
        let split : Splits (class_of_kind name.kind) bytes file.records file.rest =
        subst (λ (b : List ℕ). Splits (class_of_kind name.kind) b file.records file.rest) (sym (whole_kept f bytes file.durable may)) file.split in
        let empty : in_chunk name w.records ≡ [] = writers_sealed (seal_of (heard ++ unheard) name) (w.files name) f _ _ _ (told.at name of) (sealed_all name f e) in (
          0,
          file.records,
          record {
            reads = reads_some image name bytes file.records file.rest there split file.torn (kept_small f bytes may file.small);
            known = λ r i. inl (inr (sealed_fact f e r file.records file.rest file.split i), inl (file.noted r i, not_heard name f e));
            since = λ r i. absurd i;
            own = λ r i _.
                let w = file.all (Own r name) i refl in
                subst (λ (x : Record). IsIn x file.records) (file.content w.0 r name w.1 i (sym (ap (λ (id : Identity). id.seq) w.2))) w.1;
            safe = λ r s. absurd (some_none f (sym e ∙ (apart name s.file of s.there).1));
            absent = λ e. refl;
          },
        )
      where
        sealed_fact : (g : FileState) → seal_of unheard name ≡ Some g → (r : Record) (records : List Record) (rest : List ℕ) → Splits (class_of_kind name.kind) g.bytes records rest → IsIn r records → Fact (sealed_image (heard ++ unheard)) w.partition r
        sealed_fact g h r records rest s i = record {
          name = name;
          bytes = g.bytes;
          records = records;
          rest = rest;
          partition = of;
          there = ap (option_map (λ (file : FileState). file.bytes)) (sealed_all name g h);
          whole = s;
          has = Contains-from_in r records i;
        }

    -- a file of the writer's
    noted_own : seal_of (heard ++ unheard) name ≡ None → (r : Record) → IsIn r (in_chunk name (placed_of (notes (heard ++ unheard)))) → IsKnown name r
    noted_own unsealed r i =
        let own = in_chunk_placed (notes (heard ++ unheard)) name r i in
        (inl (name, own), inl (record { note = Own r name; member = own; chunk = refl; is = refl }, unsealed_heard name unsealed))

    of_chunk : AllByRecursion (IsOfClass (class_of_kind name.kind)) (in_chunk name (placed_of (notes (heard ++ unheard))) ++ in_chunk name w.records)
    of_chunk =
        subst (λ (rs : List Record). AllByRecursion (IsOfClass (class_of_kind name.kind)) rs) (in_chunk-append name (placed_of (notes (heard ++ unheard))) w.records)
        (in_chunk_valid w.partition name (placed_of (notes (heard ++ unheard)) ++ w.records) (recursion_from_All (IsPlaced w.partition) (placed_of (notes (heard ++ unheard)) ++ w.records) told.placed))

    by_own : (file : Option FileState) (left : Option (List ℕ)) → w.files name ≡ file → image name ≡ left → MayLeave (either_file file (either_file (seal_of unheard name) (c.files name))) (c.gone name) left → Left name
    by_own None left e there may = by_sealed (seal_of unheard name) left e refl there may
    by_own (Some f) None e there may =
        let at = writers_some (seal_of (heard ++ unheard) name) (w.files name) f _ _ _ (told.at name of) e in
        let empty : in_chunk name (placed_of (notes (heard ++ unheard))) ≡ [] = elim at.1.1.1.named [ inl none ↦ none | inr named ↦ absurd (true≢false (sym named ∙ may)) ] in (
          0,
          [],
          record {
            reads = reads_none image name there;
            known = λ r i. absurd i;
            since = λ r i. i;
            own = λ r i _. subst (λ (rs : List Record). IsIn r rs) empty (placed_in_chunk (notes (heard ++ unheard)) name r i);
            safe = λ r s. absurd (some_none f (sym e ∙ (apart name s.file of s.there).0));
            absent = λ none. absurd (some_none f (sym e ∙ none));
          },
        )
    by_own (Some f) (Some bytes) e there may =
        let at = writers_some (seal_of (heard ++ unheard) name) (w.files name) f _ _ _ (told.at name of) e in
        let left : LeavesFront (class_of_kind name.kind) (in_chunk name (placed_of (notes (heard ++ unheard)))) (in_chunk name w.records) bytes =
        leaves_front (class_of_kind name.kind) f (in_chunk name (placed_of (notes (heard ++ unheard)))) (in_chunk name w.records) at.1.1.0 bytes
        (All-from_recursion (IsOfClass (class_of_kind name.kind)) _ of_chunk) at.1.1.1 may in (
          left.count,
          in_chunk name (placed_of (notes (heard ++ unheard))) ++ take left.count (in_chunk name w.records),
          record {
            reads = reads_some image name bytes _ left.rest there left.split left.torn (kept_small f bytes may at.1.0);
            known = λ r i. elim (in_append (in_chunk name (placed_of (notes (heard ++ unheard)))) (take left.count (in_chunk name w.records)) r i) [
              | inl old ↦ inl (noted_own at.0 r old)
              | inr new ↦ inr new
            ];
            since = λ r i. in_right (in_chunk name (placed_of (notes (heard ++ unheard)))) (take left.count (in_chunk name w.records)) r i;
            own = λ r i _. in_left (in_chunk name (placed_of (notes (heard ++ unheard)))) (take left.count (in_chunk name w.records)) r (placed_in_chunk (notes (heard ++ unheard)) name r i);
            safe = λ r s. absurd (some_none f (sym e ∙ (apart name s.file of s.there).0));
            absent = λ none. absurd (some_none f (sym e ∙ none));
          },
        )

    pub left_at : Left name
    left_at = by_own (w.files name) (image name) refl refl (is name of)
