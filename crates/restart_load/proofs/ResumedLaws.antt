-- What a restart makes of a folder, and what it tells of one that it refuses.
use Rattle.std.proofs.Common.{◌≡◌, ℕ, ◌<◌, ◌≤◌, Bool, true, List, length, map, All, Contains, Option, Some, None, IsSome, slice_get, refl, ap, sym, ◌∙◌, subst, inl, inr, arith}
use Rattle.std.specs.Option.{option_map}
use Rattle.std.proofs.lemmas.Option.{slice_get_within}
use Rattle.std.proofs.lemmas.List.{get_or-map, length-map}
use Rattle.std.proofs.lemmas.List.Elements.{All-contains}
use Rattle.hr_base.specs.declared.limits.Limits.{Limits}
use Rattle.hr_base.specs.declared.name.ChunkName.{ChunkName}
use Rattle.hr_base.specs.declared.name.Kind.{Kind}
use Rattle.hr_base.specs.declared.name.Kind.TheVariants.{V, T, X, W, U, Y}
use Rattle.hr_base.specs.Names.{IsUpTo, class_of_kind}
use Rattle.hr_base.specs.Entries.{Entries}
use Rattle.dir_files.specs.Files.{FileState}
use Rattle.dir_files.specs.Images.{Image, KeepsImages, MayLeave, read_of}
use Rattle.dir_files.specs.Ports.{IsListing, Port}
use Rattle.dir_files.specs.PortStates.{IsAtRest, IsGivenBack}
use Rattle.crash_law.specs.Accounts.{fresh_account}
use Rattle.crash_law.specs.Placed.{Base}
use Rattle.crash_law.specs.Restarts.{Agree, Fact, IsRestartable}
use Rattle.record_replay.specs.Replays.{IsNext}
use Rattle.record_replay.specs.declared.play.Replayed.{Replayed}
use Rattle.partition_writer.specs.Standing.{IsBeginning, Standing, Stands, writer_kind}
use Rattle.restart_load.specs.Contents.{AreFilesOf, FileBytes, IsFoundIn, IsTornFile}
use Rattle.restart_load.specs.Loading.{IsReplayOf}
use Rattle.restart_load.specs.Numbers.{IsNextAmong, IsWriterName, is_writer_kind}
use Rattle.restart_load.specs.Opening.{AreOpened, CanOpenAll, IsOpened}
use Rattle.restart_load.specs.Refusals.{IsFirstName, IsRefusedFor, IsStray, NoneStray}
use Rattle.restart_load.specs.Taking.{IsPortKept}
use Rattle.restart_load.specs.Writers.{AreResumed, IsNextChunk, IsWriterChunk, beginning_of}
use Rattle.restart_load.specs.declared.refusal.RestartRefusal.{RestartRefusal}
use Rattle.restart_load.proofs.LoadLaws.{IsSmallFile, agree_of_parts, loaded_sound, part_sound, replayed_base, replayed_next}

-- ---- names and images

held_some : (o : Option FileState) → IsSome o → (bytes : List ℕ) × (option_map (λ (f : FileState). f.bytes) o ≡ Some bytes)
held_some None is = cc
held_some (Some f) is = (f.bytes, refl)

some_held : (o : Option FileState) → IsSome (option_map (λ (f : FileState). f.bytes) o) → IsSome o
some_held None is = cc
some_held (Some f) is = refl

some_read : (o : Option FileState) → IsSome o → IsSome (option_map (λ (f : FileState). f.bytes) o)
some_read None is = cc
some_read (Some f) is = refl

is_some_from : (image : Image) (name : ChunkName) (bytes : List ℕ) → image name ≡ Some bytes → IsSome (image name)
is_some_from image name bytes is = subst (λ (o : Option (List ℕ)). IsSome o) (sym is) refl

module _ (port : Port) (names : List ChunkName) (listing : IsListing port names) (partitions : ℕ) where
  -- where all names are known, no file is stray
  pub none_stray : All (λ (name : ChunkName). name.partition.0 < partitions) names → NoneStray (read_of port) partitions
  none_stray known name stray =
      let below : name.partition.0 < partitions = All-contains (λ (n : ChunkName). n.partition.0 < partitions) names name known ((listing.listed name).1 (some_held (port.held name) stray.there)) in
      omega (arith, below, stray.partition)

  -- and else the first name that is not known is told
  pub first_stray : (name : ChunkName) → Contains names name → partitions ≤ name.partition.0 → All (λ (other : ChunkName). partitions ≤ other.partition.0 → IsUpTo name other) names
      → IsFirstName (IsStray (read_of port) partitions) name
  first_stray name listed unknown first = record {
    holds = record { there = some_read (port.held name) ((listing.listed name).0 listed); partition = unknown };
    first = λ other stray. All-contains (λ (o : ChunkName). partitions ≤ o.partition.0 → IsUpTo name o) names other first ((listing.listed other).1 (some_held (port.held other) stray.there)) stray.partition;
  }

pub one_image : (a b : Image) → ((name : ChunkName) → a name ≡ b name) → a ≡ b
one_image a b same = λ i name. same name i

-- the image that is read before a call and after it, where the bytes stay
pub refused_same : (a b : Image) (partitions : ℕ) (refusal : RestartRefusal) → ((name : ChunkName) → a name ≡ b name) → IsRefusedFor b partitions refusal → IsRefusedFor a partitions refusal
refused_same a b partitions refusal same is = subst (λ (image : Image). IsRefusedFor image partitions refusal) (sym (one_image a b same)) is

pub restartable_same : (a b : Image) (partitions : ℕ) → ((name : ChunkName) → a name ≡ b name) → IsRestartable b partitions → IsRestartable a partitions
restartable_same a b partitions same is = subst (λ (image : Image). IsRestartable image partitions) (sym (one_image a b same)) is

pub resumed_same : (tells : Bool) (a b : Image) (writers : List Standing) → (tells ≡ true → (name : ChunkName) → a name ≡ b name) → AreResumed tells b writers → AreResumed tells a writers
resumed_same tells a b writers same resumed p s is =
    let one = resumed p s is in
    record {
      number = one.number;
      running = one.running;
      whole = one.whole;
      records = one.records;
      faults = one.faults;
      hands = one.hands;
      files = one.files;
      next = λ y. subst (λ (image : Image). IsNext (Fact image p) s.next) (sym (one_image a b (same y))) (one.next y);
      next_chunk = λ y. subst (λ (image : Image). IsNextChunk image p s.next_chunk) (sym (one_image a b (same y))) (one.next_chunk y);
      account = λ y. subst (λ (image : Image). Stands s (beginning_of image s) (fresh_account s.maps)) (sym (one_image a b (same y))) (one.account y);
    }

-- ---- numbers

writers_kind : (kind : Kind) → kind ≡ writer_kind (class_of_kind kind) → is_writer_kind kind ≡ true
writers_kind V is = refl
writers_kind T is = refl
writers_kind X is = refl
writers_kind W is = cc
writers_kind U is = cc
writers_kind Y is = cc

kind_writers : (kind : Kind) → is_writer_kind kind ≡ true → kind ≡ writer_kind (class_of_kind kind)
kind_writers V is = refl
kind_writers T is = refl
kind_writers X is = refl
kind_writers W is = cc
kind_writers U is = cc
kind_writers Y is = cc

module _ (port : Port) (names : List ChunkName) (listing : IsListing port names) (p next : ℕ) where
  chunk_listed : (name : ChunkName) → IsWriterChunk (read_of port) p name → IsWriterName names p name
  chunk_listed name chunk = record {
    listed = (listing.listed name).1 (some_held (port.held name) (is_some_from (read_of port) name chunk.bytes chunk.there));
    partition = chunk.partition;
    kind = writers_kind name.kind chunk.kind;
  }

  listed_chunk : (name : ChunkName) → IsWriterName names p name → IsWriterChunk (read_of port) p name
  listed_chunk name listed =
      let held = held_some (port.held name) ((listing.listed name).0 listed.listed) in
      record { bytes = held.0; there = held.1; partition = listed.partition; kind = kind_writers name.kind listed.kind }

  pub next_chunk : IsNextAmong names p next → IsNextChunk (read_of port) p next
  next_chunk among = record {
    above = λ name chunk. among.above name (chunk_listed name chunk);
    least = elim among.least [
      | inl one ↦ inl (one.0, listed_chunk one.0 one.1, one.2)
      | inr none ↦ inr ((λ name chunk. none.0 name (chunk_listed name chunk)), none.1)
    ];
    limited = among.limited;
  }

-- ---- writers

pub can_open : (files : List FileBytes) (names : List ChunkName) (parts : List Replayed) (chunks : List ℕ)
    → ((p : ℕ) (part : Replayed) → slice_get parts p ≡ Some part → IsReplayOf (IsFoundIn files p) part) → ((p n : ℕ) → slice_get chunks p ≡ Some n → IsNextAmong names p n) → CanOpenAll parts chunks
can_open files names parts chunks replayed next p part chunk is has =
    let one = replayed p part is in
    let number = next p chunk has in
    record { lengths = one.lengths; numbered = one.next.numbered; limited = one.next.limited; chunk_numbered = number.some; chunk_limited = number.limited }

module _ (tells : Bool) (limits : Limits) (port : Port) (names : List ChunkName) (files : List FileBytes) (parts : List Replayed) (chunks : List ℕ) (writers : List Standing)
    (opened : AreOpened tells limits parts chunks writers) where
  -- over a folder that tells its content each writer goes on from what it told
  module _ (listing : IsListing port names) (are : AreFilesOf (read_of port) files) (small : All IsSmallFile files) (torn : All IsTornFile files)
      (known : All (λ (name : ChunkName). name.partition.0 < limits.partitions) names) (each : length parts ≡ limits.partitions)
      (replayed : (p : ℕ) (part : Replayed) → slice_get parts p ≡ Some part → IsReplayOf (IsFoundIn files p) part)
      (next : (p n : ℕ) → slice_get chunks p ≡ Some n → IsNextAmong names p n) where
    agree : (p : ℕ) → p < limits.partitions → Agree (IsFoundIn files p)
    agree p below = agree_of_parts files parts replayed p (omega (arith, below, each))

    pub image_restarts : IsRestartable (read_of port) limits.partitions
    image_restarts = loaded_sound (read_of port) files are limits.partitions small torn agree (none_stray port names listing limits.partitions known)

    begins : (p : ℕ) (part : Replayed) (chunk : ℕ) (s : Standing) → slice_get parts p ≡ Some part → slice_get chunks p ≡ Some chunk → IsOpened tells limits p part chunk s
        → p < limits.partitions → IsBeginning p (beginning_of (read_of port) s)
    begins p part chunk s is has one below = record {
      base =
          subst (λ (m : Entries). Base p (read_of port) m s.next) (sym one.maps)
          (subst (λ (n : ℕ). Base p (read_of port) part.map.entries n) (sym one.next)
          (replayed_base (read_of port) files are p (part_sound (read_of port) files are limits.partitions small torn agree p below) part (replayed p part is)));
      below = λ name bytes there of kind.
          subst (λ (n : ℕ). name.number.0 < n) (sym one.next_chunk)
          ((next_chunk port names listing p chunk (next p chunk has)).above name (record { bytes = bytes; there = there; partition = of; kind = kind }));
    }

    pub resumed_at : (p : ℕ) (s : Standing) → slice_get writers p ≡ Some s → p < limits.partitions → tells ≡ true → (IsNext (Fact (read_of port) p) s.next) × (IsNextChunk (read_of port) p s.next_chunk) × Stands s (beginning_of (read_of port) s) (fresh_account s.maps)
    resumed_at p s is below told =
        let found = opened p s is in
        let one : IsOpened tells limits p found.0 found.1 s = found.4 in (
          subst (IsNext (Fact (read_of port) p)) (sym one.next) (replayed_next (read_of port) files are p found.0 (replayed p found.0 found.2)),
          subst (IsNextChunk (read_of port) p) (sym one.next_chunk) (next_chunk port names listing p found.1 (next p found.1 found.3)),
          one.account told (beginning_of (read_of port) s) (begins p found.0 found.1 s found.2 found.3 one below) refl refl refl,
        )

  pub all_resumed : length writers ≡ limits.partitions
      → (tells ≡ true → (p : ℕ) (s : Standing) → slice_get writers p ≡ Some s → p < limits.partitions → (IsNext (Fact (read_of port) p) s.next) × (IsNextChunk (read_of port) p s.next_chunk) × Stands s (beginning_of (read_of port) s) (fresh_account s.maps))
      → AreResumed tells (read_of port) writers
  all_resumed count told p s is =
      let found = opened p s is in
      let one : IsOpened tells limits p found.0 found.1 s = found.4 in
      let below : p < limits.partitions = omega (arith, count, slice_get_within writers p s is) in
      record {
        number = one.number;
        running = one.running;
        whole = one.whole;
        records = one.records;
        faults = one.faults;
        hands = one.hands;
        files = one.files;
        next = λ y. (told y p s is below).0;
        next_chunk = λ y. (told y p s is below).1;
        account = λ y. (told y p s is below).2;
      }

-- and from an image that is read as that of the port
pub resumed_from : (tells : Bool) (limits : Limits) (start port : Port) (names : List ChunkName) (files : List FileBytes) (parts : List Replayed) (chunks : List ℕ) (writers : List Standing)
    → AreOpened tells limits parts chunks writers → length writers ≡ limits.partitions → (tells ≡ true → (name : ChunkName) → read_of port name ≡ read_of start name)
    → (tells ≡ true → (p : ℕ) (s : Standing) → slice_get writers p ≡ Some s → p < limits.partitions → (IsNext (Fact (read_of port) p) s.next) × (IsNextChunk (read_of port) p s.next_chunk) × Stands s (beginning_of (read_of port) s) (fresh_account s.maps))
    → AreResumed tells (read_of start) writers
resumed_from tells limits start port names files parts chunks writers opened count same facts =
    all_resumed tells limits start names files parts chunks writers opened count
    (λ told p s is below.
    subst (λ (image : Image). (IsNext (Fact image p) s.next) × (IsNextChunk image p s.next_chunk) × Stands s (beginning_of image s) (fresh_account s.maps))
    (one_image (read_of port) (read_of start) (same told)) (facts told p s is below))

-- ---- what is said of files by their names

pub All-unmap : {X Y : Type 0} (P : Y → Type 0) (f : X → Y) (xs : List X) (ys : List Y) → map f xs ≡ ys → All P ys → All (λ (x : X). P (f x)) xs
All-unmap P f xs ys is all k d below =
    subst P (get_or-map f xs k d (f d) below) (subst (λ (list : List _). All P list) (sym is) all k (f d) (omega (arith, below, length-map xs f)))

-- ---- a port that keeps its files

may_kept : (old new gone gone' : Option FileState) (image : Option (List ℕ)) → new ≡ old → gone ≡ None → gone' ≡ None → MayLeave new gone' image → MayLeave old gone image
may_kept old new gone gone' image same none none' may =
    subst (λ (o : Option FileState). MayLeave o gone image) same (subst (λ (o : Option FileState). MayLeave new o image) (none' ∙ sym none) may)

pub images_kept : (old new : Port) → IsGivenBack old → IsPortKept old new → KeepsImages old new
images_kept old new given kept = record {
  read = λ name. ap (option_map (λ (f : FileState). f.bytes)) (kept.held name);
  images = λ image is name. may_kept (old.held name) (new.held name) (old.gone name) (new.gone name) (image name) (kept.held name) (given.gone name) (kept.given_back.gone name) (is name);
}

pub rest_kept : (old new : Port) → IsPortKept old new → IsAtRest old → IsAtRest new
rest_kept old new kept rest = record {
  given_back = kept.given_back;
  named = λ name file held. rest.named name file (sym (kept.held name) ∙ held);
  front = λ name file held. rest.front name file (sym (kept.held name) ∙ held);
}
