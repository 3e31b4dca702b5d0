-- What the contents of files tell of the image that they are all files of.
use Rattle.std.specs.Prelude.{◌≡◌, ◌⊎◌, ℕ, ◌<◌, ◌≤◌, false, List, length, All, Contains, Option, Some, None, IsSome, slice_get, slice_index_or, refl}
use Rattle.std.proofs.Common.{sym, ◌∙◌, ap, subst, inl, inr, arith}
use Rattle.std.specs.declared.cmp.Ordering.{Ordering}
use Rattle.std.specs.declared.cmp.Ordering.TheVariants.{Less, Equal, Greater}
use Rattle.std.specs.Cmp.Lexicographic.{slice_cmp}
use Rattle.std.specs.Ordering.{is_gt, nat_cmp, ordering_reverse}
use Rattle.std.proofs.lemmas.Bool.{cases_lt}
use Rattle.std.proofs.lemmas.Option.{same_Some, slice_get_cases}
use Rattle.std.proofs.lemmas.Cmp.{nat_list_cmp_total}
use Rattle.std.proofs.lemmas.List.Elements.{All-contains}
use Rattle.std.proofs.lemmas.Map.Lookups.{exact_bytes}
use Rattle.hr_base.specs.declared.limits.TheConstants.{MAX_FILE_LEN}
use Rattle.hr_base.specs.declared.name.ChunkName.{ChunkName}
use Rattle.hr_base.specs.declared.name.Partition.{Partition as PartitionNo}
use Rattle.hr_base.specs.declared.name.Seq.{Seq}
use Rattle.hr_base.specs.Names.{IsChunkName, IsUpTo, class_of_kind, name_text}
use Rattle.hr_base.proofs.NameTexts.{name_text_one}
use Rattle.dir_files.specs.Images.{Image}
use Rattle.record_format.specs.declared.record.Record.{Record}
use Rattle.chunk_read.specs.Chunks.{IsDamagedAt}
use Rattle.chunk_read.proofs.Reading.{one_damage}
use Rattle.crash_law.specs.Placed.{Base}
use Rattle.crash_law.specs.Restarts.{Agree, Fact, IsRestartable, IsSoundPart}
use Rattle.crash_law.proofs.RestartLaws.{IsRestartOf-same}
use Rattle.record_replay.specs.Replays.{ClashesAt, IsNext}
use Rattle.record_replay.specs.declared.play.Replayed.{Replayed}
use Rattle.record_replay.proofs.SameFacts.{Agree-same, IsNext-same}
use Rattle.restart_load.specs.Contents.{AreFilesOf, FileBytes, IsDamagedFrom, IsFoundIn, IsTornFile}
use Rattle.restart_load.specs.Loading.{IsLoadRefusal, IsReplayOf}
use Rattle.restart_load.specs.Refusals.{IsDamagedFile, IsFirstClashIn, IsFirstName, IsPrintable, IsRefusedFor, IsStray, IsTooLarge, NoneDamaged, NoneStray, NoneTooLarge, SpeaksOfContent}
use Rattle.restart_load.specs.declared.refusal.RestartRefusal.{RestartRefusal}
use Rattle.restart_load.specs.declared.refusal.RestartRefusal.TheVariants.{Memory, DiskFault, Partition, TooLarge, Damaged, Clash}
use Rattle.restart_load.proofs.GatherLaws.{clash_in, torn_undamaged}

-- ---- files and facts

-- a length that a restart takes
abbrev pub IsSmallFile : FileBytes → Type 0
IsSmallFile file = length file.bytes ≤ MAX_FILE_LEN

-- the parts that were replayed agree, each in itself
pub agree_of_parts : (files : List FileBytes) (parts : List Replayed) → ((p : ℕ) (part : Replayed) → slice_get parts p ≡ Some part → IsReplayOf (IsFoundIn files p) part)
    → (p : ℕ) → p < length parts → Agree (IsFoundIn files p)
agree_of_parts files parts replayed p below = part_at (slice_get_cases parts p).1 where
  part_at : ((x : Replayed) × (p < length parts) × (slice_get parts p ≡ Some x) × (slice_index_or parts p x ≡ x)) ⊎ ((length parts ≤ p) × (slice_get parts p ≡ None)) → Agree (IsFoundIn files p)
  part_at h = elim h [ inl there ↦ (replayed p there.0 there.2).agree | inr past ↦ absurd (omega (arith, past.0)) ]

module _ (image : Image) (files : List FileBytes) (are : AreFilesOf image files) where
  -- a record of the files is one of the image
  pub found_fact : (p : ℕ) (r : Record) → IsFoundIn files p r → Fact image p r
  found_fact p r f = record {
    name = f.file.name;
    bytes = f.file.bytes;
    records = f.records;
    rest = f.rest;
    partition = f.partition;
    there = All-contains (λ (x : FileBytes). image x.name ≡ Some x.bytes) files f.file are.each f.listed;
    whole = f.whole;
    has = f.has;
  }

  -- and the other way
  pub fact_found : (p : ℕ) (r : Record) → Fact image p r → IsFoundIn files p r
  fact_found p r f = record {
    file = record { name = f.name; bytes = f.bytes };
    listed = are.all f.name f.bytes f.there;
    partition = f.partition;
    records = f.records;
    rest = f.rest;
    whole = f.whole;
    has = f.has;
  }

  -- what holds of each of the files holds of each file of the image
  of_each : (P : FileBytes → Type 0) → All P files → (name : ChunkName) (bytes : List ℕ) → image name ≡ Some bytes → P (record { name = name; bytes = bytes })
  of_each P each name bytes there = All-contains P files (record { name = name; bytes = bytes }) each (are.all name bytes there)

  -- ---- an image that restarts

  module _ (partitions : ℕ) (small : All IsSmallFile files) (torn : All IsTornFile files)
      (agree : (p : ℕ) → p < partitions → Agree (IsFoundIn files p)) where
    pub part_sound : (p : ℕ) → p < partitions → IsSoundPart image p
    part_sound p below = record {
      small = λ name bytes at there. of_each IsSmallFile small name bytes there;
      torn = λ name bytes records rest at there whole. of_each IsTornFile torn name bytes there records rest whole;
      agree = Agree-same (IsFoundIn files p) (Fact image p) (found_fact p) (fact_found p) (agree p below);
    }

    -- an image restarts where its files are small and torn, none is stray, and the records of each partition agree
    pub loaded_sound : NoneStray image partitions → IsRestartable image partitions
    loaded_sound none = record {
      known = λ name bytes there. elim (cases_lt name.partition.0 partitions) [
        | inl below ↦ below
        | inr above ↦ absurd (none name (record { there = subst (λ (o : Option (List ℕ)). IsSome o) (sym there) refl; partition = above }))
      ];
      parts = part_sound;
    }

  -- a partition's writer may begin with what its records restart to
  pub replayed_base : (p : ℕ) → IsSoundPart image p → (part : Replayed) → IsReplayOf (IsFoundIn files p) part → Base p image part.map.entries part.next
  replayed_base p sound part replayed = record {
    sound = sound;
    restart = IsRestartOf-same (IsFoundIn files p) (Fact image p) part.map.entries (found_fact p) (fact_found p) replayed.restart;
    below = λ r f. replayed.next.above r (fact_found p r f);
  }

  pub replayed_next : (p : ℕ) (part : Replayed) → IsReplayOf (IsFoundIn files p) part → IsNext (Fact image p) part.next
  replayed_next p part replayed = IsNext-same (IsFoundIn files p) (Fact image p) (found_fact p) (fact_found p) part.next replayed.next

  -- ---- an image that is refused

  small_image : All IsSmallFile files → NoneTooLarge image
  small_image small name large = omega (arith, of_each IsSmallFile small name large.bytes large.there, large.large)

  torn_image : All IsTornFile files → NoneDamaged image
  torn_image torn name at d =
      torn_undamaged (record { name = name; bytes = d.bytes }) at (of_each IsTornFile torn name d.bytes d.there) d.damaged

  damaged_file : (file : FileBytes) (name : ChunkName) (at : ℕ) → file.name ≡ name → Contains files file → IsDamagedFrom file at → IsDamagedFile image name at
  damaged_file file name at named listed damaged =
      subst (λ (n : ChunkName). IsDamagedFile image n at) named
      (record { bytes = file.bytes; there = All-contains (λ (x : FileBytes). image x.name ≡ Some x.bytes) files file are.each listed; damaged = damaged })

  -- what is told of the files is told of the image
  pub refused_image : (partitions : ℕ) → NoneStray image partitions → All IsSmallFile files → (e : RestartRefusal) → IsLoadRefusal files e → IsRefusedFor image partitions e
  refused_image partitions stray small (Damaged name at) d =
      let here : IsDamagedFile image name at = damaged_file d.file name at d.named d.listed d.damaged in (
        stray,
        small_image small,
        here,
        record {
          holds = (at, here);
          first = λ other w. d.first (record { name = other; bytes = w.1.bytes }) w.0 (are.all other w.1.bytes w.1.there) w.1.damaged;
        },
      )
  refused_image partitions stray small (Clash p seq) c = (
    stray,
    small_image small,
    torn_image c.0,
    record {
      clash = clash_in (IsFoundIn files p.0) (Fact image p.0) seq.0 (found_fact p.0) c.1.clash;
      first = λ q other k. c.1.first q other (clash_in (Fact image q) (IsFoundIn files q) other (fact_found q) k);
    },
  )
  refused_image partitions stray small Memory h = tt
  refused_image partitions stray small DiskFault h = absurd h
  refused_image partitions stray small (Partition name) h = absurd h
  refused_image partitions stray small (TooLarge name) h = absurd h

-- the names in what is told of files with names that a file may have can be printed
pub printable_refusal : (files : List FileBytes) → All (λ (file : FileBytes). IsChunkName file.name) files → (e : RestartRefusal) → IsLoadRefusal files e → IsPrintable e
printable_refusal files valid (Damaged name at) d =
    subst (λ (n : ChunkName). IsChunkName n) d.named (All-contains (λ (file : FileBytes). IsChunkName file.name) files d.file valid d.listed)
printable_refusal files valid (Clash p seq) c = tt
printable_refusal files valid Memory h = tt
printable_refusal files valid DiskFault h = absurd h
printable_refusal files valid (Partition name) h = absurd h
printable_refusal files valid (TooLarge name) h = absurd h

-- ---- one refusal

not_greater : (o : Ordering) → is_gt o ≡ false → is_gt (ordering_reverse o) ≡ false → o ≡ Equal
not_greater Less h k = cc
not_greater Equal h k = refl
not_greater Greater h k = cc

-- names that come up to each other are one
up_to_both : (a b : ChunkName) → IsChunkName a → IsChunkName b → IsUpTo a b → IsUpTo b a → a ≡ b
up_to_both a b p q h k =
    let turned : is_gt (ordering_reverse (slice_cmp nat_cmp (name_text a) (name_text b))) ≡ false = ap is_gt (sym (nat_list_cmp_total.antisymm (name_text b) (name_text a))) ∙ k in
    name_text_one a b p q (exact_bytes (name_text a) (name_text b) (not_greater (slice_cmp nat_cmp (name_text a) (name_text b)) h turned))

-- there is one first name
one_first : (Holds : ChunkName → Type 0) (a b : ChunkName) → IsChunkName a → IsChunkName b → IsFirstName Holds a → IsFirstName Holds b → a ≡ b
one_first Holds a b p q h k = up_to_both a b p q (h.first b k.holds) (k.first a h.holds)

-- a file is damaged at one place
one_place : (image : Image) (name : ChunkName) (m n : ℕ) → IsDamagedFile image name m → IsDamagedFile image name n → m ≡ n
one_place image name m n a b =
    let same : a.bytes ≡ b.bytes = same_Some a.bytes b.bytes (sym a.there ∙ b.there) in
    one_damage (class_of_kind name.kind) b.bytes m n (subst (λ (bytes : List ℕ). IsDamagedAt (class_of_kind name.kind) bytes m) same a.damaged) b.damaged

-- there is one first clash
one_clash : (image : Image) (p q : PartitionNo) (m n : Seq) → IsFirstClashIn image p.0 m.0 → IsFirstClashIn image q.0 n.0 → Clash p m ≡ Clash q n
one_clash image p q m n a b =
    let one = a.first q.0 n.0 b.clash in
    let two = b.first p.0 m.0 a.clash in
    let part : p.0 ≡ q.0 = omega (arith, one, two) in
    let number : m.0 ≡ n.0 = omega (arith, one, two) in
    let same_part : p ≡ q = ap (λ (i : ℕ). record { 0 = i }) part in
    let same_number : m ≡ n = ap (λ (i : ℕ). record { 0 = i }) number in
    cc

damaged_alike : (image : Image) (a b : ChunkName) (m n : ℕ) → a ≡ b → IsDamagedFile image a m → IsDamagedFile image b n → Damaged a m ≡ Damaged b n
damaged_alike image a b m n same x y =
    let place : m ≡ n = one_place image b m n (subst (λ (name : ChunkName). IsDamagedFile image name m) same x) y in
    cc

-- a restart refuses an image in one way
pub one_refusal : (image : Image) (partitions : ℕ) (a b : RestartRefusal) → IsRefusedFor image partitions a → IsRefusedFor image partitions b
    → SpeaksOfContent a → SpeaksOfContent b → IsPrintable a → IsPrintable b → a ≡ b
one_refusal image partitions (Partition x) (Partition y) h k s t p q = ap Partition (one_first (IsStray image partitions) x y p q h k)
one_refusal image partitions (Partition x) (TooLarge y) h k s t p q = absurd (k.0 x h.holds)
one_refusal image partitions (Partition x) (Damaged y n) h k s t p q = absurd (k.0 x h.holds)
one_refusal image partitions (Partition x) (Clash y n) h k s t p q = absurd (k.0 x h.holds)
one_refusal image partitions (TooLarge x) (Partition y) h k s t p q = absurd (h.0 y k.holds)
one_refusal image partitions (TooLarge x) (TooLarge y) h k s t p q = ap TooLarge (one_first (IsTooLarge image) x y p q h.1 k.1)
one_refusal image partitions (TooLarge x) (Damaged y n) h k s t p q = absurd (k.1 x h.1.holds)
one_refusal image partitions (TooLarge x) (Clash y n) h k s t p q = absurd (k.1 x h.1.holds)
one_refusal image partitions (Damaged x m) (Partition y) h k s t p q = absurd (h.0 y k.holds)
one_refusal image partitions (Damaged x m) (TooLarge y) h k s t p q = absurd (h.1 y k.1.holds)
one_refusal image partitions (Damaged x m) (Damaged y n) h k s t p q =
    damaged_alike image x y m n (one_first (λ (other : ChunkName). (place : ℕ) × IsDamagedFile image other place) x y p q h.3 k.3) h.2 k.2
one_refusal image partitions (Damaged x m) (Clash y n) h k s t p q = absurd (k.2 x m h.2)
one_refusal image partitions (Clash x m) (Partition y) h k s t p q = absurd (h.0 y k.holds)
one_refusal image partitions (Clash x m) (TooLarge y) h k s t p q = absurd (h.1 y k.1.holds)
one_refusal image partitions (Clash x m) (Damaged y n) h k s t p q = absurd (h.2 y n k.2)
one_refusal image partitions (Clash x m) (Clash y n) h k s t p q = one_clash image x y m n h.3 k.3
one_refusal image partitions Memory b h k s t p q = absurd s
one_refusal image partitions DiskFault b h k s t p q = absurd s
one_refusal image partitions a Memory h k s t p q = absurd t
one_refusal image partitions a DiskFault h k s t p q = absurd t

-- ---- an image that restarts is not refused

module _ (image : Image) (partitions : ℕ) (taken : IsRestartable image partitions) where
  not_stray : NoneStray image partitions
  not_stray name stray = some_bytes (image name) refl stray.there where
    some_bytes : (o : Option (List ℕ)) → image name ≡ o → IsSome o → ⊥
    some_bytes None e there = cc
    some_bytes (Some bytes) e there = omega (arith, taken.known name bytes e, stray.partition)

  not_large : NoneTooLarge image
  not_large name large =
      omega (arith, (taken.parts name.partition.0 (taken.known name large.bytes large.there)).small name large.bytes refl large.there, large.large)

  not_damaged : NoneDamaged image
  not_damaged name at d =
      (taken.parts name.partition.0 (taken.known name d.bytes d.there)).torn name d.bytes d.damaged.whole d.damaged.left refl d.there d.damaged.split d.damaged.damaged

  no_clash : (p seq : ℕ) → ClashesAt (Fact image p) seq → ⊥
  no_clash p seq c =
      let known = taken.known c.fact.name c.fact.bytes c.fact.there in
      let below : p < partitions = omega (arith, known, c.fact.partition) in
      c.differ ((taken.parts p below).agree c.one c.other c.fact c.other_fact (c.number ∙ sym c.other_number))

  pub not_refused : (e : RestartRefusal) → IsRefusedFor image partitions e → SpeaksOfContent e → ⊥
  not_refused (Partition name) h s = not_stray name h.holds
  not_refused (TooLarge name) h s = not_large name h.1.holds
  not_refused (Damaged name at) h s = not_damaged name at h.2
  not_refused (Clash p seq) h s = no_clash p.0 seq.0 h.3.clash
  not_refused Memory h s = s
  not_refused DiskFault h s = s
