-- What every crash leaves of a writer's files and a collector's together: the partition recovers.
use Rattle.std.specs.Prelude.{◌≡◌, ◌⊎◌, ℕ, ◌<◌, ◌≤◌, ◌==◌, ◌&&◌, ◌+◌, nat_lt, Bool, if◌then◌else◌, true, false, List, [], ◌∷◌, ◌++◌, length, take, map, All, Option, IfSome, Some, None, refl}
use Rattle.std.proofs.Common.{sym, ◌∙◌, ap, subst, inl, inr, arith, append_assoc, true≢false}
use Rattle.std.specs.List.{AllByRecursion}
use Rattle.std.specs.FinMap as finmap
use Rattle.std.proofs.lemmas.List.Elements.{All-from_recursion, recursion_from_All}
use Rattle.std.proofs.lemmas.Bool.{cases_lt, eqb-true, eq-eqb, ltb-true, lt-ltb, and_parts, and_from}
use Rattle.hr_base.specs.declared.name.ChunkName.{ChunkName}
use Rattle.hr_base.specs.declared.name.Class.{Class}
use Rattle.hr_base.specs.declared.name.Class.TheVariants.{Value as Values, Tomb as Tombs, Clear as Clears}
use Rattle.hr_base.specs.Entries.{Key, State}
use Rattle.dir_files.specs.Files.{FileState}
use Rattle.dir_files.specs.Images.{Image, KeepsFront, MayLeave}
use Rattle.dir_files.specs.Ports.{either_file}
use Rattle.record_format.specs.declared.record.Record.{Record}
use Rattle.record_format.specs.declared.record.Record.TheVariants.{Value, Tomb, Clear}
use Rattle.record_format.specs.Spelling.{seq_of, class_of_record, spelling, spellings}
use Rattle.record_format.specs.Prefixes.{PrefixSplit}
use Rattle.record_format.specs.Splits.{IsOfClass}
use Rattle.record_format.proofs.SplitLaws.{a_prefix_splits, one_split}
use Rattle.hr_base.specs.Names.{class_of_kind}
use Rattle.crash_law.specs.Chunks.{HoldsRecords}
use Rattle.crash_law.specs.Accounts.{Account}
use Rattle.crash_law.specs.Commands.{command_of, touches, state_of, maps_after_all}
use Rattle.crash_law.specs.Numbered.{Rising, IsIn, IsSublist, commands_of}
use Rattle.crash_law.specs.Restarts.{Fact, RestartsTo, IsRestartOf, IsSoundPart}
use Rattle.crash_law.specs.Crashes.{IsImageOfPart, Kept, Recovers}
use Rattle.crash_law.specs.Placed.{Placed, records_of, in_chunk, IsPlaced}
use Rattle.crash_law.specs.Writers.{Written}
use Rattle.crash_law.proofs.KeptLaws.{kept_maps, kept_restart, kept_fits}
use Rattle.std.proofs.lemmas.List.{append-nil, nil_from_length}
use Rattle.crash_law.proofs.NumberedLaws.{Contains-from_in, in_from_Contains, rising_above, rising_one}
use Rattle.crash_law.proofs.PlacedLaws.{select, select_part, select_among, in_select, in_records, in_front, in_append, in_left, in_right, in_chunk_partition, in_chunk_valid}
use Rattle.gc_event.specs.Notes.{IsOneOf, Identity, identity_of, concerns, Note, Own, Dead, id_of, chunk_of, number_of, is_own, top, IsTop, Occurrence, occurrence, NoSmallerValue}
use Rattle.gc_law.specs.Events.{NotedEvent, notes, seal_of, placed_of, NotFalling}
use Rattle.gc_law.specs.WriterFacts.{IsStateBy, Tells, IsLeast, HasLeast}
use Rattle.gc_law.proofs.SplitLaws.{cut}
use Rattle.gc_law.specs.CollectorFacts.{Gathered, HasPlace, KeepsBy, KeepsTop, KeptBy}
use Rattle.gc_law.specs.Both.{files_of_both, AreApart}
use Rattle.gc_event.proofs.NoteLaws.{top_is, top_none, some_top}
use Rattle.gc_law.proofs.EventLaws.{both, in_map, touches_is, one_of_left, one_of_right, falling_across, notes-append, closed_behind, in_chunk_placed, placed_at, told_noted, one_told}
use Rattle.gc_law.proofs.NameLaws.{LeftAt, IsKnown, left_at, heard_noted, noted_in, writers_some}

-- ---- the deciding record of a list

-- the record has the greatest number of those that the test takes
record IsGreatest (test : Record → Bool) (rs : List Record) (r : Record) : Type 0 where
  member : IsIn r rs
  taken : test r ≡ true
  greatest : (s : Record) → IsIn s rs → test s ≡ true → seq_of s ≤ seq_of r

abbrev Found : (Record → Bool) → List Record → Type 0
Found test rs = ((r : Record) × IsGreatest test rs r) ⊎ ((r : Record) → IsIn r rs → test r ≡ false)

found_by : (test : Record → Bool) (x : Record) (xs : List Record) (b : Bool) → test x ≡ b → Found test xs → Found test (x ∷ xs)
found_by test x xs false left (inl w) = inl (
  w.0,
  record {
    member = inr w.1.member;
    taken = w.1.taken;
    greatest = λ s i t. elim i [ inl e ↦ both (test s) t (ap test e ∙ left) | inr more ↦ w.1.greatest s more t ];
  },
)
found_by test x xs false left (inr none) = inr (λ s i. elim i [ inl e ↦ ap test e ∙ left | inr more ↦ none s more ])
found_by test x xs true taken (inr none) = inl (
  x,
  record {
    member = inl refl;
    taken = taken;
    greatest = λ s i t. elim i [ inl e ↦ omega (arith, ap seq_of e) | inr more ↦ both (test s) t (none s more) ];
  },
)
found_by test x xs true taken (inl w) =
    elim (cases_lt (seq_of x) (seq_of w.0)) [
      | inl less ↦ inl (
        w.0,
        record {
          member = inr w.1.member;
          taken = w.1.taken;
          greatest = λ s i t. elim i [ inl e ↦ omega (arith, ap seq_of e, less) | inr more ↦ w.1.greatest s more t ];
        },
      )
      | inr from ↦ inl (
        x,
        record {
          member = inl refl;
          taken = taken;
          greatest = λ s i t. elim i [ inl e ↦ omega (arith, ap seq_of e) | inr more ↦ omega (arith, w.1.greatest s more t, from) ];
        },
      )
    ]

found : (test : Record → Bool) (rs : List Record) → Found test rs
found test [] = inr (λ r i. absurd i)
found test (x ∷ xs) = found_by test x xs (test x) refl (found test xs)

-- ---- the records of some chunks

abbrev all_of : (ChunkName → List Record) → List ChunkName → List Record
all_of recs [] = []
all_of recs (name ∷ names) = recs name ++ all_of recs names

in_all : (recs : ChunkName → List Record) (names : List ChunkName) (name : ChunkName) (r : Record) → IsOneOf name names → IsIn r (recs name) → IsIn r (all_of recs names)
in_all recs [] name r h i = absurd h
in_all recs (x ∷ names) name r h i =
    elim h [
      | inl e ↦ in_left (recs x) (all_of recs names) r (subst (λ (n : ChunkName). IsIn r (recs n)) e i)
      | inr more ↦ in_right (recs x) (all_of recs names) r (in_all recs names name r more i)
    ]

record Somewhere (recs : ChunkName → List Record) (r : Record) : Type 0 where
  name : ChunkName
  member : IsIn r (recs name)

all_in : (recs : ChunkName → List Record) (names : List ChunkName) (r : Record) → IsIn r (all_of recs names) → Somewhere recs r
all_in recs [] r h = absurd h
all_in recs (x ∷ names) r h =
    elim (in_append (recs x) (all_of recs names) r h) [ inl here ↦ record { name = x; member = here } | inr more ↦ all_in recs names r more ]

abbrev chunks_of_notes : List Note → List ChunkName
chunks_of_notes ns = map chunk_of ns

abbrev chunks_present : List Occurrence → List ChunkName
chunks_present os = map (λ o. o.chunk) os

-- ---- classes

no_value : (r : Record) → (class_of_record r ≡ Values → ⊥) → state_of (command_of r) ≡ None
no_value (Value seq prefix key value) h = absurd (h refl)
no_value (Tomb seq prefix key) h = refl
no_value (Clear prefix seq) h = refl

keeps_value : (class : Class) (kept bare : Type 0) → class ≡ Values → KeepsBy class kept bare → kept
keeps_value Values kept bare e h = h
keeps_value Tombs kept bare e h = cc
keeps_value Clears kept bare e h = cc

keeps_some : (class : Class) (kept bare : Type 0) → KeepsBy class kept bare → kept ⊎ ((class ≡ Values → ⊥) × bare)
keeps_some Values kept bare h = inl h
keeps_some Tombs kept bare (inl a) = inl a
keeps_some Tombs kept bare (inr b) = inr (apart, b) where
  apart : Tombs ≡ Values → ⊥
  apart e = cc
keeps_some Clears kept bare (inl a) = inl a
keeps_some Clears kept bare (inr b) = inr (apart, b) where
  apart : Clears ≡ Values → ⊥
  apart e = cc

-- ---- parts of a list

-- no record was kept
none_kept : (xs : List Record) → ((r : Record) → IsIn r xs → ⊥) → xs ≡ []
none_kept [] h = refl
none_kept (x ∷ xs) h = absurd (h x (inl refl))

-- all were: what rises has no part but itself with all of them
all_kept : (low : ℕ) (xs ys : List Record) → Rising low ys → IsSublist xs ys → ((r : Record) → IsIn r ys → IsIn r xs) → xs ≡ ys
all_kept low [] [] h part all = refl
all_kept low [] (y ∷ ys) h part all = absurd (all y (inl refl))
all_kept low (x ∷ xs) [] h part all = absurd part
all_kept low (x ∷ xs) (y ∷ ys) h part all =
    elim part [
      | inl w ↦
          ap (λ (z : Record). z ∷ xs) w.0
          ∙ ap (λ (zs : List Record). y ∷ zs) (all_kept (seq_of y + 1) xs ys h.1 w.1 (λ r i. elim (all r (inr i)) [
            | inl e ↦ absurd (omega (arith, ap seq_of e, ap seq_of w.0, rising_above (seq_of y + 1) ys r h.1 i))
            | inr more ↦ more
          ]))
      | inr later ↦ absurd (missing (elim (all y (inl refl)) [ inl e ↦ in_part y x xs ys later (inl e) | inr more ↦ in_part y x xs ys later (inr more) ]))
    ]
  where
    in_sub : (zs ws : List Record) (r : Record) → IsSublist zs ws → IsIn r zs → IsIn r ws
    in_sub [] ws r s i = absurd i
    in_sub (z ∷ zs) [] r s i = absurd s
    in_sub (z ∷ zs) (v ∷ ws) r s i =
        elim s [
          | inl u ↦ elim i [ inl e ↦ inl (e ∙ u.0) | inr more ↦ inr (in_sub zs ws r u.1 more) ]
          | inr more ↦ inr (in_sub (z ∷ zs) ws r more i)
        ]

    in_part : (r z : Record) (zs ws : List Record) → IsSublist (z ∷ zs) ws → IsIn r (z ∷ zs) → IsIn r ws
    in_part r z zs ws s i = in_sub (z ∷ zs) ws r s i

    missing : IsIn y ys → ⊥
    missing i = omega (arith, rising_above (seq_of y + 1) ys y h.1 i)

-- ---- what lies below a front

pub spellings-append : (xs ys : List Record) → spellings (xs ++ ys) ≡ spellings xs ++ spellings ys
spellings-append [] ys = refl
spellings-append (x ∷ xs) ys = ap (λ (bytes : List ℕ). spelling x ++ bytes) (spellings-append xs ys) ∙ sym (append_assoc (spelling x) (spellings xs) (spellings ys))

-- bytes no longer than the first records' have just some of these
few_kept : (class : Class) (file : FileState) (first since : List Record) (missing bytes : List ℕ) → All (IsOfClass class) first → HoldsRecords file first since missing → KeepsFront file bytes
    → length bytes ≤ length (spellings first) → PrefixSplit class first bytes
few_kept class file first since missing bytes valid holds left less =
    let whole : bytes ++ (left.rest ++ missing) ≡ spellings first ++ spellings since =
    sym (holds.bytes ∙ ap (λ (s : List ℕ). s ++ missing) left.prefix ∙ append_assoc bytes left.rest missing) ∙ spellings-append first since in
    let w = cut bytes (spellings first) (left.rest ++ missing) (spellings since) whole less in
    a_prefix_splits class first bytes w.0 valid w.1

module _ (w : Written) (heard unheard : List NotedEvent) (a : Account) (c : Gathered) (told : Tells w (heard ++ unheard) a) (kept : KeptBy w.partition heard c)
    (apart : AreApart w unheard c) (image : Image) (is : IsImageOfPart w.partition (files_of_both w unheard c) c.gone image) where
  -- ---- the names

  StateAt : ChunkName → ℕ → List Record → Type 0
  StateAt name count recs =
      (name.partition.0 ≡ w.partition → LeftAt w heard unheard a c told kept apart image is name count recs) × ((r : Record) → IsIn r recs → name.partition.0 ≡ w.partition)

  state_by : (name : ChunkName) (b : Bool) → (name.partition.0 == w.partition) ≡ b → (count : ℕ) × (recs : List Record) × StateAt name count recs
  unfolding StateAt
  state_by name true same =
      let of : name.partition.0 ≡ w.partition = eqb-true name.partition.0 w.partition same in
      let left = left_at w heard unheard a c told kept apart image is name of in
      (left.0, left.1, ((λ _. left.2), (λ r i. of)))
  state_by name false other = (0, [], ((λ of. both (name.partition.0 == w.partition) (eq-eqb name.partition.0 w.partition of) other), (λ r i. absurd i)))

  state_at : (name : ChunkName) → (count : ℕ) × (recs : List Record) × StateAt name count recs
  state_at name = state_by name (name.partition.0 == w.partition) refl

  counts : ChunkName → ℕ
  counts name = (state_at name).0

  recs : ChunkName → List Record
  recs name = (state_at name).1

  at : (name : ChunkName) → name.partition.0 ≡ w.partition → LeftAt w heard unheard a c told kept apart image is name (counts name) (recs name)
  unfolding StateAt counts recs
  at name of = (state_at name).2.0 of

  of_part : (name : ChunkName) (r : Record) → IsIn r (recs name) → name.partition.0 ≡ w.partition
  unfolding StateAt recs
  of_part name r i = (state_at name).2.1 r i

  -- ---- facts

  in_recs : (r : Record) (f : Fact image w.partition r) → IsIn r (recs f.name)
  in_recs r f =
      (at f.name f.partition).reads.facts r
      (record { bytes = f.bytes; records = f.records; rest = f.rest; there = f.there; whole = f.whole; has = in_from_Contains r f.records f.has })

  fact_in : (name : ChunkName) (r : Record) → IsIn r (recs name) → Fact image w.partition r
  fact_in name r i =
      let of = of_part name r i in
      let f = (at name of).reads.back r i in
      record { name = name; bytes = f.bytes; records = f.records; rest = f.rest; partition = of; there = f.there; whole = f.whole; has = Contains-from_in r f.records f.has }

  -- ---- the records since

  since : List Record
  since = select counts w.records

  since_from : (r : Record) → IsIn r since → told.low ≤ seq_of r
  unfolding since
  since_from r i =
      let s = select_among counts w.records r i in
      rising_above told.low (records_of w.records) r told.since (in_records s.name w.records r (in_front (counts s.name) (in_chunk s.name w.records) r s.member))

  since_one : (r : Record) → IsIn r since → IsIn r (records_of w.records)
  unfolding since
  since_one r i =
      let s = select_among counts w.records r i in
      in_records s.name w.records r (in_front (counts s.name) (in_chunk s.name w.records) r s.member)

  placed_since : (xs ys : List Placed) → AllByRecursion (IsPlaced w.partition) (xs ++ ys) → AllByRecursion (IsPlaced w.partition) ys
  placed_since [] ys h = h
  placed_since (x ∷ xs) ys h = placed_since xs ys h.1

  since_fact : (r : Record) → IsIn r since → Fact image w.partition r
  unfolding since
  since_fact r i =
      let s = select_among counts w.records r i in
      let of =
      in_chunk_partition w.partition s.name w.records r
      (placed_since (placed_of (notes (heard ++ unheard))) w.records (recursion_from_All (IsPlaced w.partition) (placed_of (notes (heard ++ unheard)) ++ w.records) told.placed))
      (in_front (counts s.name) (in_chunk s.name w.records) r s.member) in
      fact_in s.name r ((at s.name of).since r s.member)

  -- ---- where a fact comes from

  abbrev IsKnownHere : Record → Type 0
  IsKnownHere r = (name : ChunkName) × IsIn r (recs name) × IsKnown w heard unheard a c told kept apart image is name r

  origin : (r : Record) → Fact image w.partition r → IsKnownHere r ⊎ IsIn r since
  unfolding since
  origin r f =
      elim ((at f.name f.partition).known r (in_recs r f)) [
        | inl known ↦ inl (f.name, in_recs r f, known)
        | inr new ↦ inr (in_select counts w.records f.name r new)
      ]

  known_noted : (r : Record) → IsKnownHere r → (n : Note) × IsOneOf n (notes (heard ++ unheard)) × (id_of n ≡ identity_of r)
  known_noted r known = told_noted w.partition (heard ++ unheard) told.telling r known.2.0

  known_below : (r : Record) → IsKnownHere r → seq_of r < told.low
  known_below r known =
      let n = known_noted r known in
      omega (arith, told.below n.0 n.1, ap (λ (id : Identity). id.seq) n.2)

  one_fact : (r s : Record) → IsKnownHere r ⊎ IsIn r since → IsKnownHere s ⊎ IsIn s since → seq_of r ≡ seq_of s → r ≡ s
  one_fact r s (inl x) (inl y) e = one_told w.partition (heard ++ unheard) told.telling r s x.2.0 y.2.0 e
  one_fact r s (inl x) (inr y) e = absurd (omega (arith, known_below r x, since_from s y, e))
  one_fact r s (inr x) (inl y) e = absurd (omega (arith, known_below s y, since_from r x, e))
  one_fact r s (inr x) (inr y) e = rising_one told.low (records_of w.records) r s told.since (since_one r x) (since_one s y) e

  sound : IsSoundPart image w.partition
  sound = record {
    small = λ name bytes of there. (at name of).reads.small bytes there;
    torn = λ name bytes records rest of there s. (at name of).reads.torn bytes records rest there s;
    agree = λ r s f g e. one_fact r s (origin r f) (origin s g) e;
  }

  -- ---- the top of a key

  -- where its chunk's Seal was not heard, the record is there
  own_fact : (r : Record) (chunk : ChunkName) → IsOneOf (Own r chunk) (notes (heard ++ unheard)) → seal_of heard chunk ≡ None → Fact image w.partition r
  own_fact r chunk i unsealed =
      let of =
      (placed_at w.partition (notes (heard ++ unheard)) w.records r chunk
      (recursion_from_All (IsPlaced w.partition) (placed_of (notes (heard ++ unheard)) ++ w.records) told.placed) i).partition in
      fact_in chunk r ((at chunk of).own r i unsealed)

  -- no value of the key with a smaller number than the record's is there
  abbrev NoOlder : Key → Record → Type 0
  NoOlder k r = (s : Record) → IsKnownHere s → class_of_record s ≡ Values → concerns (identity_of s) k ≡ true → seq_of r ≤ seq_of s

  no_older : (k : Key) (r : Record) (chunk : ChunkName) → IsOneOf (Own r chunk) (notes heard) → NoSmallerValue c.present k (seq_of r) → NoOlder k r
  no_older k r chunk i none s known value concerned =
      elim known.2.1 [
        | inl listed ↦
            elim (noted_in w heard unheard a c told kept apart image is listed.0.note listed.0.member) [
              | inl before ↦
                  let there : IsOneOf (occurrence (id_of listed.0.note) (chunk_of listed.0.note)) c.present =
                  kept.unsealed listed.0.note before (ap (seal_of heard) listed.0.chunk ∙ listed.1) in
                  none (occurrence (identity_of s) (chunk_of listed.0.note)) (subst (λ (id : Identity). IsOneOf (occurrence id (chunk_of listed.0.note)) c.present) listed.0.is there) value concerned
              | inr behind ↦
                  omega (
                    arith,
                    falling_across 0 (notes heard) (notes unheard) (Own r chunk) listed.0.note (subst (NotFalling 0) (notes-append heard unheard) told.telling.rising) i behind,
                    ap (λ (id : Identity). id.seq) listed.0.is,
                  )
            ]
        | inr present ↦ none (occurrence (identity_of s) known.0) present value concerned
      ]

  abbrev IsKept : Key → Record → Type 0
  IsKept k r = Fact image w.partition r ⊎ ((class_of_record r ≡ Values → ⊥) × NoOlder k r)

  -- the same record is the top of what was heard
  heard_top : (k : Key) (r : Record) (chunk : ChunkName) (n : Note) → IsOneOf (Own r chunk) (notes heard) → IsOneOf n (notes (heard ++ unheard)) → number_of n ≡ seq_of r → is_own n ≡ true
      → top (notes heard) k ≡ Some n → IsKept k r
  heard_top k r chunk (Dead id other) i j same own e = absurd (true≢false (sym own))
  heard_top k r chunk (Own s other) i j same own e =
      let is_r : s ≡ r = told.telling.content s r other chunk j (heard_noted w heard unheard a c told kept apart image is (Own r chunk) i) same in
      elim (keeps_some (class_of_record s) (HasPlace w.partition heard c.files s other) (NoSmallerValue c.present k (seq_of s)) (subst (KeepsTop w.partition heard c k) e (kept.tops k))) [
        | inl place ↦ inl (subst (Fact image w.partition) is_r (elim place [
          | inl unsealed ↦ own_fact s other j unsealed
          | inr safe ↦ fact_in safe.0 s ((at safe.0 safe.1).safe s safe.2)
        ]))
        | inr bare ↦ inr (subst (λ (x : Record). class_of_record x ≡ Values → ⊥) is_r bare.0, no_older k r chunk i (subst (λ (x : Record). NoSmallerValue c.present k (seq_of x)) is_r bare.1))
      ]

  top_by_seal : (k : Key) (r : Record) (chunk : ChunkName) (s : Option FileState) → IsTop (notes (heard ++ unheard)) k (Own r chunk) → seal_of heard chunk ≡ s → IsKept k r
  top_by_seal k r chunk None t e = inl (own_fact r chunk t.member e)
  top_by_seal k r chunk (Some g) t e =
      elim (noted_in w heard unheard a c told kept apart image is (Own r chunk) t.member) [
        | inl before ↦
            let u = some_top (notes heard) k (Own r chunk) before t.touching in
            let j = heard_noted w heard unheard a c told kept apart image is u.0 u.2.member in
            let same : number_of u.0 ≡ seq_of r = omega (arith, t.greatest u.0 j u.2.touching, u.2.greatest (Own r chunk) before t.touching) in
            heard_top k r chunk u.0 before j same (u.2.own (Own r chunk) before t.touching (sym same) refl) u.1
        | inr behind ↦ absurd ((closed_behind heard unheard chunk g told.telling.last e).none_noted (Own r chunk) behind refl)
      ]

  -- a crash keeps the top of a key; or it is a tombstone or prefix tombstone, and no older value is there
  top_kept : (k : Key) (r : Record) (chunk : ChunkName) → top (notes (heard ++ unheard)) k ≡ Some (Own r chunk) → IsKept k r
  top_kept k r chunk e = top_by_seal k r chunk (seal_of heard chunk) (top_is (notes (heard ++ unheard)) k (Own r chunk) e) refl

  -- ---- below the records since

  abbrev Old : Record → Type 0
  Old r = Fact image w.partition r × (seq_of r < told.low)

  old_known : (r : Record) → Old r → IsKnownHere r
  old_known r old = elim (origin r old.0) [ inl known ↦ known | inr new ↦ absurd (omega (arith, since_from r new, old.1)) ]

  known_old : (r : Record) → IsKnownHere r → Old r
  known_old r known = (fact_in known.0 r known.1, known_below r known)

  -- no fact has a greater number than the top
  under_top : (k : Key) (r : Record) (chunk : ChunkName) → IsTop (notes (heard ++ unheard)) k (Own r chunk) → (s : Record) → IsKnownHere s → concerns (identity_of s) k ≡ true → seq_of s ≤ seq_of r
  under_top k r chunk t s known concerned =
      let n = known_noted s known in
      omega (arith, t.greatest n.0 n.1 (ap (λ (id : Identity). concerns id k) n.2 ∙ concerned), ap (λ (id : Identity). id.seq) n.2)

  -- the chunks that facts may lie in
  names : List ChunkName
  names = chunks_of_notes (notes (heard ++ unheard)) ++ chunks_present c.present

  named : (r : Record) → IsKnownHere r → IsIn r (all_of recs names)
  unfolding names
  named r known =
      in_all recs names known.0 r
      (elim known.2.1 [
        | inl listed ↦ one_of_left (chunks_of_notes (notes (heard ++ unheard))) (chunks_present c.present) known.0
            (subst (λ (x : ChunkName). IsOneOf x (chunks_of_notes (notes (heard ++ unheard)))) listed.0.chunk (in_map chunk_of (notes (heard ++ unheard)) listed.0.note listed.0.member))
        | inr present ↦ one_of_right (chunks_of_notes (notes (heard ++ unheard))) (chunks_present c.present) known.0
            (in_map (λ (o : Occurrence). o.chunk) c.present (occurrence (identity_of r) known.0) present)
      ])
      known.1

  abbrev is_old : Key → Record → Bool
  is_old k r = touches (command_of r) k && nat_lt (seq_of r) told.low

  -- a tombstone that no older value needs: what decides instead is none either
  without_top : (k : Key) (r : Record) (chunk : ChunkName) → IsTop (notes (heard ++ unheard)) k (Own r chunk) → (class_of_record r ≡ Values → ⊥) → NoOlder k r → RestartsTo Old k None
  without_top k r chunk t tomb none =
      elim (found (is_old k) (all_of recs names)) [
        | inl x ↦
            let at = all_in recs names x.0 x.1.member in
            let parts = and_parts (touches (command_of x.0) k) (nat_lt (seq_of x.0) told.low) x.1.taken in
            let old : Old x.0 = (fact_in at.name x.0 at.member, ltb-true (seq_of x.0) told.low parts.1) in
            inl (
              x.0,
              record {
                fact = old;
                touching = parts.0;
                greatest = λ s f u. x.1.greatest s (named s (old_known s f)) (and_from (touches (command_of s) k) (nat_lt (seq_of s) told.low) u (lt-ltb (seq_of s) told.low f.1));
              },
              sym (no_value x.0 (no_value_old x.0 (old_known x.0 old) (sym (touches_is x.0 k) ∙ parts.0))),
            )
        | inr left ↦ inr (λ s f. untouched s f (touches (command_of s) k) refl (left s (named s (old_known s f))), refl)
      ]
    where
      no_value_old : (s : Record) → IsKnownHere s → concerns (identity_of s) k ≡ true → class_of_record s ≡ Values → ⊥
      no_value_old s known concerned value =
          let n = known_noted s known in
          let same : number_of n.0 ≡ seq_of r = omega (arith, none s known value concerned, under_top k r chunk t s known concerned, ap (λ (id : Identity). id.seq) n.2) in
          tomb (ap (λ (id : Identity). id.class) (sym (told.telling.one n.0 (Own r chunk) n.1 t.member same)) ∙ ap (λ (id : Identity). id.class) n.2 ∙ value)

      untouched : (s : Record) → Old s → (b : Bool) → touches (command_of s) k ≡ b → is_old k s ≡ false → touches (command_of s) k ≡ false
      untouched s f true u left = both (is_old k s) (and_from (touches (command_of s) k) (nat_lt (seq_of s) told.low) u (lt-ltb (seq_of s) told.low f.1)) left
      untouched s f false u left = u

  old_by : (k : Key) (n : Option Note) (s : State) → top (notes (heard ++ unheard)) k ≡ n → IsStateBy n s → RestartsTo Old k s
  old_by k None s e content = inr (λ r old. untouched r (old_known r old), content) where
    untouched : (r : Record) → IsKnownHere r → touches (command_of r) k ≡ false
    untouched r known =
        let n = known_noted r known in
        touches_is r k ∙ ap (λ (id : Identity). concerns id k) (sym n.2) ∙ top_none (notes (heard ++ unheard)) k e n.0 n.1
  old_by k (Some (Dead id chunk)) s e content = absurd content
  old_by k (Some (Own r chunk)) s e content =
      let t = top_is (notes (heard ++ unheard)) k (Own r chunk) e in
      elim (top_kept k r chunk e) [
        | inl fact ↦ inl (
          r,
          record {
            fact = (fact, told.below (Own r chunk) t.member);
            touching = touches_is r k ∙ t.touching;
            greatest = λ other old u. under_top k r chunk t other (old_known other old) (sym (touches_is other k) ∙ u);
          },
          content,
        )
        | inr bare ↦ subst (RestartsTo Old k) (sym (content ∙ no_value r bare.0)) (without_top k r chunk t bare.0 bare.1)
      ]

  old_restart : IsRestartOf Old a.durable
  old_restart k = old_by k (top (notes (heard ++ unheard)) k) (finmap.get a.durable k) refl (told.durable k)

  -- ---- all of it

  pub union_kept : Kept (Fact image w.partition) a.durable (records_of w.records)
  unfolding since
  union_kept = record {
    low = told.low;
    rising = told.since;
    old = old_restart;
    kept = since;
    part = select_part counts w.records;
    new = λ r. (λ i. (since_fact r i, since_from r i), λ f. new_origin r f.0 f.1);
  } where
    new_origin : (r : Record) → Fact image w.partition r → told.low ≤ seq_of r → IsIn r since
    new_origin r f from = elim (origin r f) [ inl known ↦ absurd (omega (arith, known_below r known, from)) | inr i ↦ i ]

  pub union_recovers : Recovers image w.partition a.durable a.tail
  union_recovers =
      subst (Recovers image w.partition a.durable) (sym told.tail)
      (record {
        sound = sound;
        maps = kept_maps (Fact image w.partition) a.durable (records_of w.records) union_kept;
        restart = kept_restart (Fact image w.partition) a.durable (records_of w.records) union_kept;
        fits = kept_fits (Fact image w.partition) a.durable (records_of w.records) union_kept;
      })

  -- none of the records since was kept
  pub union_none : ((r : Record) → IsIn r (records_of w.records) → Fact image w.partition r → ⊥) → IsRestartOf (Fact image w.partition) a.durable
  unfolding union_kept
  union_none none =
      subst (λ (rs : List Record). IsRestartOf (Fact image w.partition) (maps_after_all (commands_of rs) a.durable))
      (none_kept since (λ r i. none r (since_one r i) (since_fact r i)))
      (kept_restart (Fact image w.partition) a.durable (records_of w.records) union_kept)

  -- all of them were
  pub union_all : w.lost ≡ false → ((r : Record) → IsIn r (records_of w.records) → Fact image w.partition r) → IsRestartOf (Fact image w.partition) a.maps
  unfolding union_kept
  union_all whole all =
      let same : since ≡ records_of w.records = all_kept told.low since (records_of w.records) told.since (select_part counts w.records) (λ r i. (union_kept.new r).1 (all r i, rising_above told.low (records_of w.records) r told.since i)) in
      let lost : told.lost ≡ [] = nil_from_length told.lost (told.one_lost ∙ ap (λ (x : Bool). if x then 1 else 0) whole) in
      let records : told.kept ≡ w.records = sym (told.records ∙ ap (λ (xs : List Placed). told.kept ++ xs) lost ∙ append-nil told.kept) in
      subst (IsRestartOf (Fact image w.partition)) (sym (told.maps ∙ ap (λ (xs : List Placed). maps_after_all (commands_of (records_of xs)) a.durable) records))
      (subst (λ (rs : List Record). IsRestartOf (Fact image w.partition) (maps_after_all (commands_of rs) a.durable)) same
      (kept_restart (Fact image w.partition) a.durable (records_of w.records) union_kept))

  -- ---- the least of the writer's files

  of_first : (xs ys : List Placed) → AllByRecursion (IsPlaced w.partition) (xs ++ ys) → AllByRecursion (IsPlaced w.partition) xs
  of_first [] ys h = tt
  of_first (x ∷ xs) ys h = (h.0, of_first xs ys h.1)

  abbrev noted_at : ChunkName → List Record
  noted_at name = in_chunk name (placed_of (notes (heard ++ unheard)))

  noted_valid : (name : ChunkName) → All (IsOfClass (class_of_kind name.kind)) (noted_at name)
  noted_valid name =
      All-from_recursion (IsOfClass (class_of_kind name.kind)) (noted_at name)
      (in_chunk_valid w.partition name (placed_of (notes (heard ++ unheard)))
      (of_first (placed_of (notes (heard ++ unheard))) w.records
      (recursion_from_All (IsPlaced w.partition) (placed_of (notes (heard ++ unheard)) ++ w.records) told.placed)))

  -- a fact in a file of the writer's is noted
  least_noted : (r : Record) (f : Fact image w.partition r) (file : FileState) → w.files f.name ≡ Some file → file.front ≤ length (spellings (noted_at f.name)) → length f.bytes ≤ file.front → IsIn r (noted_at f.name)
  least_noted r f file e least few =
      let own = writers_some (seal_of (heard ++ unheard) f.name) (w.files f.name) file _ _ _ (told.at f.name f.partition) e in
      let may : KeepsFront file f.bytes =
      subst (λ (b : Option (List ℕ)). MayLeave (Some file) (c.gone f.name) b) f.there
      (subst (λ (o : Option FileState). MayLeave (either_file o (either_file (seal_of unheard f.name) (c.files f.name))) (c.gone f.name) (image f.name)) e (is f.name f.partition)) in
      let split = few_kept (class_of_kind f.name.kind) file (noted_at f.name) (in_chunk f.name w.records) own.1.1.0 f.bytes (noted_valid f.name) own.1.1.1 may (omega (arith, least, few)) in
      in_front split.count (noted_at f.name) r
      (subst (λ (rs : List Record). IsIn r rs)
      (one_split (class_of_kind f.name.kind) f.bytes f.records (take split.count (noted_at f.name)) f.rest split.left f.whole split.split).0
      (in_from_Contains r f.records f.has))

  -- none of the records since is there
  pub union_least : IsLeast w (heard ++ unheard) → HasLeast w image → (r : Record) → IsIn r (records_of w.records) → Fact image w.partition r → ⊥
  union_least least has r i f = by_file (w.files f.name) refl where
    from : told.low ≤ seq_of r
    from = rising_above told.low (records_of w.records) r told.since i

    by_file : (o : Option FileState) → w.files f.name ≡ o → ⊥
    by_file None e = elim ((at f.name f.partition).known r (in_recs r f)) [
      | inl known ↦ omega (arith, known_below r (f.name, in_recs r f, known), from)
      | inr new ↦ subst (λ (n : ℕ). IsIn r (take n (in_chunk f.name w.records))) ((at f.name f.partition).absent e) new
    ]
    by_file (Some file) e =
        let own =
        in_chunk_placed (notes (heard ++ unheard)) f.name r
        (least_noted r f file e (subst (λ (o : Option FileState). IfSome o (λ x. x.front ≤ length (spellings (noted_at f.name)))) e (least f.name)) (has f.name file f.bytes e f.there)) in
        omega (arith, told.below (Own r f.name) own, from)
