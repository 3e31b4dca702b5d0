-- Records that are gathered file by file, and replayed list by list.
use Rattle.std.specs.Prelude.{◌≡◌, ◌≢◌, ◌⊎◌, ℕ, zero, suc, ◌+◌, ◌<◌, ◌≤◌, List, [], ◌∷◌, ◌++◌, drop, length, map, replicate, All, Contains, Some, slice_get, slice_index_or, slice_set, refl}
use Rattle.std.proofs.Common.{sym, ◌∙◌, ap, subst, inl, inr, arith, get_or-set_other, get_or-set_same, length-append, length-drop, append_assoc, append-nil}
use Rattle.std.proofs.lemmas.Bool.{cases_eq, cases_lt}
use Rattle.std.proofs.lemmas.Option.{none-some, slice_get-get_or}
use Rattle.std.proofs.lemmas.List.{drop_more, get_or-map, get_or-replicate, get_or_append_left, get_or_at, get_or_past, length-map, length-replicate}
use Rattle.std.proofs.lemmas.List.Elements.{All-append, All-contains, All-nil, All-push, All-weaker, Contains-append_left, Contains-append_right, Contains-push, Contains-push_cases}
use Rattle.hr_base.specs.declared.name.ChunkName.{ChunkName}
use Rattle.hr_base.specs.Names.{IsUpTo, class_of_kind}
use Rattle.hr_base.proofs.NameOrder.{up_to-itself}
use Rattle.record_format.specs.declared.record.Record.{Record}
use Rattle.record_format.specs.Spelling.{IsRecord}
use Rattle.record_format.specs.Splits.{IsOfClass, IsTorn, Splits}
use Rattle.record_format.proofs.SplitLaws.{one_split}
use Rattle.chunk_read.specs.declared.chunk.Chunk.{Chunk}
use Rattle.chunk_read.specs.Chunks.{IsChunkOf}
use Rattle.crash_law.specs.Numbered.{IsIn}
use Rattle.crash_law.specs.Placed.{Placed, records_of}
use Rattle.crash_law.specs.Restarts.{Agree}
use Rattle.crash_law.proofs.NumberedLaws.{Contains-from_in, in_from_Contains}
use Rattle.crash_law.proofs.PlacedLaws.{in_append, in_left, in_right}
use Rattle.crash_law.proofs.RestartLaws.{IsRestartOf-same}
use Rattle.record_replay.specs.Replays.{ClashesAt, IsFirstClash, facts_in, found_in}
use Rattle.record_replay.specs.declared.play.Replayed.{Replayed}
use Rattle.record_replay.proofs.FoundLaws.{records_of-added}
use Rattle.record_replay.proofs.SameFacts.{Agree-same, IsNext-same}
use Rattle.restart_load.specs.Contents.{FileBytes, InNameOrder, IsDamagedFrom, IsFoundIn, IsTornFile}
use Rattle.restart_load.specs.Gathering.{HaveFound, IsAdded, IsFileRefusal, IsPartRefusal, IsReplayRefusal, facts_of, found_of}
use Rattle.restart_load.specs.Loading.{IsFirstDamaged, IsLoadRefusal, IsReplayOf}
use Rattle.restart_load.specs.declared.refusal.RestartRefusal.{RestartRefusal}
use Rattle.restart_load.specs.declared.refusal.RestartRefusal.TheVariants.{Memory, DiskFault, Partition, TooLarge, Damaged, Clash}

-- what clashes among facts clashes among more
pub clash_in : (facts others : Record → Type 0) (seq : ℕ) → ((r : Record) → facts r → others r) → ClashesAt facts seq → ClashesAt others seq
clash_in facts others seq there c = record {
  one = c.one;
  other = c.other;
  fact = there c.one c.fact;
  other_fact = there c.other c.other_fact;
  number = c.number;
  other_number = c.other_number;
  differ = c.differ;
}

-- ---- one file

-- the records of a chunk that was read stand behind those of its partition
pub IsAdded-from_chunk : (file : FileBytes) (before after : List (List Placed)) (own : List Placed) (chunk : Chunk)
    → IsChunkOf (class_of_kind file.name.kind) file.bytes chunk
    → own ≡ found_of before file.name.partition.0 ++ map (λ x. found_in file.name x.1) chunk.records
    → after ≡ slice_set before file.name.partition.0 own → IsAdded file before after
IsAdded-from_chunk file before after own chunk is added there = record {
  records = is.whole;
  rest = is.left;
  whole = is.split;
  torn = is.torn;
  own = own;
  has = records_of-added (class_of_kind file.name.kind) file.bytes chunk is file.name (found_of before file.name.partition.0) own added;
  there = there;
}

-- a file that was added is torn
pub IsTornFile-added : (file : FileBytes) (before after : List (List Placed)) → IsAdded file before after → IsTornFile file
IsTornFile-added file before after a records rest whole =
    subst (IsTorn (class_of_kind file.name.kind)) (one_split (class_of_kind file.name.kind) file.bytes a.records records a.rest rest a.whole whole).1 a.torn

-- ---- file by file

found_of-none : (n p : ℕ) → found_of (replicate n []) p ≡ []
found_of-none n p = elim (cases_lt p n) [
  | inl in' ↦ get_or-replicate n p [] [] in'
  | inr past ↦ get_or_past (replicate n []) p [] (omega (arith, length-replicate {A = List Placed} n []))
]

-- of no files no record is found
pub HaveFound-none : (n : ℕ) (found : List (List Placed)) → found ≡ replicate n [] → HaveFound [] found
HaveFound-none n found is = record {
  valid = λ p. subst (λ (xs : List Placed). All IsRecord (records_of xs)) (sym (none p)) (All-nil IsRecord);
  there = λ p r f. absurd (subst (λ (xs : List Placed). IsIn r (records_of xs)) (none p) f);
  back = λ p r f. absurd (omega (arith, f.listed.1));
} where
  none : (p : ℕ) → found_of found p ≡ []
  none p = ap (λ (xs : List (List Placed)). found_of xs p) is ∙ found_of-none n p

-- a record of these files is one of more files
IsFoundIn-more : (files more : List FileBytes) (p : ℕ) (r : Record) → IsFoundIn files p r → IsFoundIn (files ++ more) p r
IsFoundIn-more files more p r f = record {
  file = f.file;
  listed = Contains-append_left files more f.file f.listed;
  partition = f.partition;
  records = f.records;
  rest = f.rest;
  whole = f.whole;
  has = f.has;
}

module _ (files : List FileBytes) (file : FileBytes) (before after : List (List Placed)) (h : HaveFound files before)
    (a : IsAdded file before after) where
  in_last : (x : FileBytes) (p : ℕ) (r : Record) (records : List Record) (rest : List ℕ) → file ≡ x → x.name.partition.0 ≡ p
      → Splits (class_of_kind x.name.kind) x.bytes records rest → IsIn r records → (file.name.partition.0 ≡ p) × IsIn r a.records
  in_last x p r records rest same at whole has =
      let own : Splits (class_of_kind file.name.kind) file.bytes records rest = subst (λ (y : FileBytes). Splits (class_of_kind y.name.kind) y.bytes records rest) (sym same) whole in (
        ap (λ (y : FileBytes). y.name.partition.0) same ∙ at,
        subst (λ (rs : List Record). IsIn r rs) (one_split (class_of_kind file.name.kind) file.bytes records a.records rest a.rest own a.whole).0 has,
      )

  -- a record of the files with one more is one of the files, or of this one
  last_or_earlier : (p : ℕ) (r : Record) → IsFoundIn (files ++ file ∷ []) p r → IsFoundIn files p r ⊎ ((file.name.partition.0 ≡ p) × IsIn r a.records)
  last_or_earlier p r f = elim (Contains-push_cases files file f.file f.listed) [
    | inl early ↦
        inl (record { file = f.file; listed = early; partition = f.partition; records = f.records; rest = f.rest; whole = f.whole; has = f.has })
    | inr last ↦ inr (in_last f.file p r f.records f.rest last f.partition f.whole (in_from_Contains r f.records f.has))
  ]

  -- the list of another partition stays
  module _ (p : ℕ) (other : p ≢ file.name.partition.0) where
    stays : found_of after p ≡ found_of before p
    stays = ap (λ (xs : List (List Placed)). found_of xs p) a.there ∙ get_or-set_other before file.name.partition.0 p a.own [] other

    valid_other : All IsRecord (records_of (found_of after p))
    valid_other = subst (λ (xs : List Placed). All IsRecord (records_of xs)) (sym stays) (h.valid p)

    there_other : (r : Record) → facts_of after p r → IsFoundIn (files ++ file ∷ []) p r
    there_other r f = IsFoundIn-more files (file ∷ []) p r (h.there p r (subst (λ (xs : List Placed). facts_in xs r) stays f))

    back_other : (r : Record) → IsFoundIn (files ++ file ∷ []) p r → facts_of after p r
    back_other r f = elim (last_or_earlier p r f) [
      | inl early ↦ subst (λ (xs : List Placed). facts_in xs r) (sym stays) (h.back p r early)
      | inr last ↦ absurd (other (sym last.0))
    ]

  -- that of the file's own has its records
  module _ (within : file.name.partition.0 < length before) where
    has_own : records_of (found_of after file.name.partition.0) ≡ records_of (found_of before file.name.partition.0) ++ a.records
    has_own =
        ap (λ (xs : List (List Placed)). records_of (found_of xs file.name.partition.0)) a.there
        ∙ ap (λ (xs : List Placed). records_of xs) (get_or-set_same before file.name.partition.0 a.own [] within) ∙ a.has

    valid_own : All IsRecord (records_of (found_of after file.name.partition.0))
    valid_own =
        let of : All IsRecord a.records = All-weaker (IsOfClass (class_of_kind file.name.kind)) IsRecord (λ r o. o.valid) a.records a.whole.each in
        subst (λ (rs : List Record). All IsRecord rs) (sym has_own)
        (All-append IsRecord (records_of (found_of before file.name.partition.0)) a.records (h.valid file.name.partition.0) of)

    there_own : (r : Record) → facts_of after file.name.partition.0 r → IsFoundIn (files ++ file ∷ []) file.name.partition.0 r
    there_own r f =
        elim (in_append (records_of (found_of before file.name.partition.0)) a.records r (subst (λ (rs : List Record). IsIn r rs) has_own f)) [
          | inl early ↦ IsFoundIn-more files (file ∷ []) file.name.partition.0 r (h.there file.name.partition.0 r early)
          | inr last ↦ record {
            file = file;
            listed = Contains-push files file;
            partition = refl;
            records = a.records;
            rest = a.rest;
            whole = a.whole;
            has = Contains-from_in r a.records last;
          }
        ]

    back_own : (r : Record) → IsFoundIn (files ++ file ∷ []) file.name.partition.0 r → facts_of after file.name.partition.0 r
    back_own r f = subst (λ (rs : List Record). IsIn r rs) (sym has_own) (elim (last_or_earlier file.name.partition.0 r f) [
      | inl early ↦ in_left (records_of (found_of before file.name.partition.0)) a.records r (h.back file.name.partition.0 r early)
      | inr last ↦ in_right (records_of (found_of before file.name.partition.0)) a.records r last.1
    ])

    -- the lists have the records of the files with this one
    pub HaveFound-more : HaveFound (files ++ file ∷ []) after
    HaveFound-more = record {
      valid = λ p. elim (cases_eq p file.name.partition.0) [
        | inl own ↦ subst (λ (q : ℕ). All IsRecord (records_of (found_of after q))) (sym own) valid_own
        | inr other ↦ valid_other p other
      ];
      there = λ p r f. elim (cases_eq p file.name.partition.0) [
        | inl own ↦
            subst (λ (q : ℕ). IsFoundIn (files ++ file ∷ []) q r) (sym own) (there_own r (subst (λ (q : ℕ). facts_of after q r) own f))
        | inr other ↦ there_other p other r f
      ];
      back = λ p r f. elim (cases_eq p file.name.partition.0) [
        | inl own ↦
            subst (λ (q : ℕ). facts_of after q r) (sym own) (back_own r (subst (λ (q : ℕ). IsFoundIn (files ++ file ∷ []) q r) own f))
        | inr other ↦ back_other p other r f
      ];
    }

-- These files were read so far, and their records gathered.
pub record IsGathered (all rest : List FileBytes) (found : List (List Placed)) : Type 0 where
  pub done : List FileBytes
  pub split : done ++ rest ≡ all
  pub torn : All IsTornFile done
  pub have : HaveFound done found

pub gathered_first : (all rest : List FileBytes) (n : ℕ) (found : List (List Placed)) → rest ≡ all → found ≡ replicate n [] → IsGathered all rest found
gathered_first all rest n found whole none = record { done = []; split = whole; torn = All-nil IsTornFile; have = HaveFound-none n found none }

pub gathered_more : (all rest later : List FileBytes) (file : FileBytes) (before after : List (List Placed)) → IsGathered all rest before
    → rest ≡ file ∷ later → file.name.partition.0 < length before → IsAdded file before after → IsGathered all later after
gathered_more all rest later file before after g next within a = record {
  done = g.done ++ file ∷ [];
  split = append_assoc g.done (file ∷ []) later ∙ ap (λ (xs : List FileBytes). g.done ++ xs) (sym next) ∙ g.split;
  torn = All-push IsTornFile g.done file g.torn (IsTornFile-added file before after a);
  have = HaveFound-more g.done file before after g.have a within;
}

-- the file that comes next is one of all
pub gathered_next : (all rest later : List FileBytes) (file : FileBytes) (found : List (List Placed)) → IsGathered all rest found
    → rest ≡ file ∷ later → Contains all file
gathered_next all rest later file found g next =
    subst (λ (xs : List FileBytes). Contains xs file) (ap (λ (xs : List FileBytes). g.done ++ xs) (sym next) ∙ g.split)
    (Contains-append_right g.done (file ∷ later) file (0, omega arith, refl))

pub gathered_all : (all rest : List FileBytes) (found : List (List Placed)) → IsGathered all rest found → rest ≡ [] → All IsTornFile all × HaveFound all found
gathered_all all rest found g none =
    let whole : g.done ≡ all = sym (append-nil g.done) ∙ ap (λ (xs : List FileBytes). g.done ++ xs) (sym none) ∙ g.split in (
      subst (λ (xs : List FileBytes). All IsTornFile xs) whole g.torn,
      subst (λ (xs : List FileBytes). HaveFound xs found) whole g.have,
    )

-- ---- a file that is not read

-- a torn file is not damaged
pub torn_undamaged : (file : FileBytes) (at : ℕ) → IsTornFile file → IsDamagedFrom file at → ⊥
torn_undamaged file at torn d = torn d.whole d.left d.split d.damaged

three : (i j : ℕ) → (j < i) ⊎ ((j ≡ i) ⊎ (i < j))
three i j = grind arith

module _ (all done later : List FileBytes) (file : FileBytes) (split : done ++ file ∷ later ≡ all) (torn : All IsTornFile done)
    (sorted : InNameOrder (map (λ (x : FileBytes). x.name) all)) where
  at_place : (d : FileBytes) → slice_index_or all (length done) d ≡ file
  at_place d = ap (λ (xs : List FileBytes). slice_index_or xs (length done) d) (sym split) ∙ get_or_at done file later d (length done) refl

  within : length done < length all
  within = omega (arith, ap length split, length-append done (file ∷ later))

  -- another damaged file does not stand before it
  comes_first : (other : FileBytes) (place k : ℕ) → k < length all → slice_index_or all k other ≡ other → IsDamagedFrom other place → IsUpTo file.name other.name
  comes_first other place k below at damaged = elim (three (length done) k) [
    | inl early ↦
        let is : slice_index_or done k other ≡ other = sym (get_or_append_left done (file ∷ later) other k early) ∙ ap (λ (xs : List FileBytes). slice_index_or xs k other) split ∙ at in
        absurd (torn_undamaged other place (All-contains IsTornFile done other torn (k, early, is)) damaged)
    | inr more ↦ elim more [
      | inl here ↦
          let same : file ≡ other = sym (at_place other) ∙ ap (λ (i : ℕ). slice_index_or all i other) (sym here) ∙ at in
          subst (λ (x : FileBytes). IsUpTo file.name x.name) same (up_to-itself file.name)
      | inr late ↦
          let bound : k < length (map (λ (x : FileBytes). x.name) all) = omega (arith, length-map all (λ (x : FileBytes). x.name)) in
          let up = sorted (length done) k file.name late bound in
          let one : slice_index_or (map (λ (x : FileBytes). x.name) all) (length done) file.name ≡ file.name =
          get_or-map (λ (x : FileBytes). x.name) all (length done) file file.name within ∙ ap (λ (x : FileBytes). x.name) (at_place file) in
          let two : slice_index_or (map (λ (x : FileBytes). x.name) all) k file.name ≡ other.name =
          get_or-map (λ (x : FileBytes). x.name) all k other file.name below ∙ ap (λ (x : FileBytes). x.name) at in
          subst (λ (n : ChunkName). IsUpTo file.name n) two (subst (λ (n : ChunkName). IsUpTo n (slice_index_or (map (λ (x : FileBytes). x.name) all) k file.name)) one up)
    ]
  ]

  first_damaged : (name : ChunkName) (at : ℕ) → name ≡ file.name → IsDamagedFrom file at → IsFirstDamaged all name at
  first_damaged name at named damaged = record {
    file = file;
    listed = (length done, within, at_place file);
    named = sym named;
    damaged = damaged;
    first = λ other place c d. subst (λ (n : ChunkName). IsUpTo n other.name) (sym named) (comes_first other place c.0 c.1 c.2 d);
  }

  refused_by : (e : RestartRefusal) → IsFileRefusal file e → IsLoadRefusal all e
  refused_by (Damaged name at) h = first_damaged name at h.0 h.1
  refused_by Memory h = tt
  refused_by DiskFault h = absurd h
  refused_by (Partition name) h = absurd h
  refused_by (TooLarge name) h = absurd h
  refused_by (Clash p seq) h = absurd h

-- what is told of the file that comes next is told of all
pub refused_gathered : (all rest later : List FileBytes) (file : FileBytes) (found : List (List Placed)) → IsGathered all rest found
    → rest ≡ file ∷ later → InNameOrder (map (λ (x : FileBytes). x.name) all) → (e : RestartRefusal) → IsFileRefusal file e → IsLoadRefusal all e
refused_gathered all rest later file found g next sorted e h =
    refused_by all g.done later file (ap (λ (xs : List FileBytes). g.done ++ xs) (sym next) ∙ g.split) g.torn sorted e h

-- ---- list by list

get_push : {X : Type 0} (xs : List X) (y x : X) (q : ℕ) → slice_get (xs ++ y ∷ []) q ≡ Some x → (slice_get xs q ≡ Some x) ⊎ ((q ≡ length xs) × (y ≡ x))
get_push [] y x zero e = inr (refl, cc)
get_push [] y x (suc q) e = absurd (none-some x e)
get_push (z ∷ xs) y x zero e = inl e
get_push (z ∷ xs) y x (suc q) e = elim (get_push xs y x q e) [ inl early ↦ inl early | inr last ↦ inr (omega (arith, last.0), last.1) ]

-- the list that comes next is that of this place
module _ (found : List (List Placed)) (p : ℕ) (one : List Placed) (later : List (List Placed)) (next : drop p found ≡ one ∷ later) where
  below : p < length found
  below = omega (arith, ap length next, length-drop p found)

  unfolded : one ∷ later ≡ found_of found p ∷ drop (p + 1) found
  unfolded = sym next ∙ drop_more found p [] below

  pub next_is : one ≡ found_of found p
  next_is = cc unfolded

  pub next_left : later ≡ drop (p + 1) found
  next_left = cc unfolded

-- The first lists are replayed.
pub record AreReplayed (found : List (List Placed)) (parts : List Replayed) : Type 0 where
  pub each : (q : ℕ) (part : Replayed) → slice_get parts q ≡ Some part → IsReplayOf (facts_of found q) part

pub replayed_none : (found : List (List Placed)) (parts : List Replayed) → parts ≡ [] → AreReplayed found parts
replayed_none found parts none = record {
  each = λ q part e. absurd (none-some part (ap (λ (xs : List Replayed). slice_get xs q) (sym none) ∙ e));
}

pub replayed_more : (found : List (List Placed)) (parts after : List Replayed) (part : Replayed) (one : List Placed) → AreReplayed found parts
    → one ≡ found_of found (length parts) → IsReplayOf (facts_in one) part → after ≡ parts ++ part ∷ [] → AreReplayed found after
replayed_more found parts after part one h is replay pushed = record {
  each = λ q x e. elim (get_push parts part x q (ap (λ (xs : List Replayed). slice_get xs q) (sym pushed) ∙ e)) [
    | inl early ↦ h.each q x early
    | inr last ↦
        subst (λ (y : Replayed). IsReplayOf (facts_of found q) y) last.1
        (subst (λ (k : ℕ). IsReplayOf (facts_of found k) part) (sym last.0) (subst (λ (xs : List Placed). IsReplayOf (facts_in xs) part) is replay))
  ];
}

-- facts of lists that are replayed do not clash
agree_no_clash : (facts : Record → Type 0) (seq : ℕ) → Agree facts → ClashesAt facts seq → ⊥
agree_no_clash facts seq agree c = c.differ (agree c.one c.other c.fact c.other_fact (c.number ∙ sym c.other_number))

module _ (found : List (List Placed)) (parts : List Replayed) (h : AreReplayed found parts) where
  pub agree_before : (q : ℕ) → q < length parts → Agree (facts_of found q)
  agree_before q below = (h.each q (slice_index_or parts q (some_part parts q below)) (slice_get-get_or parts q (some_part parts q below) below)).agree where
    some_part : (xs : List Replayed) (k : ℕ) → k < length xs → Replayed
    some_part [] k l = absurd (omega (arith, l))
    some_part (x ∷ xs) k l = x

  clash_comes_first : (p seq q other : ℕ) → p ≡ length parts → ((smaller : ℕ) → smaller < seq → ¬ ClashesAt (facts_of found p) smaller) → ClashesAt (facts_of found q) other → (p < q) ⊎ ((p ≡ q) × (seq ≤ other))
  clash_comes_first p seq q other at first c = elim (three p q) [
    | inl early ↦ absurd (agree_no_clash (facts_of found q) other (agree_before q (omega (arith, early))) c)
    | inr more ↦ elim more [
      | inl here ↦ elim (cases_lt other seq) [
        | inl less ↦ absurd (first other less (subst (λ (k : ℕ). ClashesAt (facts_of found k) other) here c))
        | inr up ↦ inr (sym here, up)
      ]
      | inr late ↦ inl late
    ]
  ]

  -- what is told of the list that comes next is told of all
  pub refused_replay : (p : ℕ) (one : List Placed) → p ≡ length parts → one ≡ found_of found p → (e : RestartRefusal) → IsPartRefusal p one e → IsReplayRefusal found e
  refused_replay p one at is (Clash q seq) r =
      let own : IsFirstClash (facts_of found q.0) seq.0 = subst (λ (k : ℕ). IsFirstClash (facts_of found k) seq.0) (sym r.0) (subst (λ (xs : List Placed). IsFirstClash (facts_in xs) seq.0) is r.1) in
      record { clash = own.clash; first = λ k other c. clash_comes_first q.0 seq.0 k other (r.0 ∙ at) own.first c }
  refused_replay p one at is Memory r = tt
  refused_replay p one at is DiskFault r = absurd r
  refused_replay p one at is (Partition name) r = absurd r
  refused_replay p one at is (TooLarge name) r = absurd r
  refused_replay p one at is (Damaged name at') r = absurd r

-- ---- all of it

module _ (files : List FileBytes) (found : List (List Placed)) (have : HaveFound files found) where
  pub IsReplayOf-found : (p : ℕ) (part : Replayed) → IsReplayOf (facts_of found p) part → IsReplayOf (IsFoundIn files p) part
  IsReplayOf-found p part r = record {
    restart = IsRestartOf-same (facts_of found p) (IsFoundIn files p) part.map.entries (have.there p) (have.back p) r.restart;
    agree = Agree-same (facts_of found p) (IsFoundIn files p) (have.there p) (have.back p) r.agree;
    next = IsNext-same (facts_of found p) (IsFoundIn files p) (have.there p) (have.back p) part.next r.next;
    lengths = r.lengths;
  }

  pub IsLoadRefusal-found : All IsTornFile files → (e : RestartRefusal) → IsReplayRefusal found e → IsLoadRefusal files e
  IsLoadRefusal-found torn (Clash p seq) r = (
    torn,
    record {
      clash = clash_in (facts_of found p.0) (IsFoundIn files p.0) seq.0 (have.there p.0) r.clash;
      first = λ q other c. r.first q other (clash_in (IsFoundIn files q) (facts_of found q) other (have.back q) c);
    },
  )
  IsLoadRefusal-found torn Memory r = tt
  IsLoadRefusal-found torn DiskFault r = absurd r
  IsLoadRefusal-found torn (Partition name) r = absurd r
  IsLoadRefusal-found torn (TooLarge name) r = absurd r
  IsLoadRefusal-found torn (Damaged name at) r = absurd r
