-- What the writers of a session begin with, how they are closed, and what they leave in the folder.
use Rattle.std.specs.Prelude.{◌≡◌, ◌⊎◌, ℕ, ◌+◌, ◌-◌, ◌<◌, ◌≤◌, ◌^◌, min, Bool, true, false, List, [], ◌∷◌, ◌++◌, length, Option, Some, None, slice_get, refl}
use Rattle.std.specs.Option.{option_map}
use Rattle.std.specs.FinMap.{empty}
use Rattle.std.proofs.Common.{sym, ◌∙◌, ap, subst, inl, inr, arith, append_assoc}
use Rattle.std.proofs.lemmas.List.{append-nil, length_push}
use Rattle.std.proofs.lemmas.List.Sums.{sum_by_push}
use Rattle.std.proofs.lemmas.Option.{slice_get_cases, slice_get_past, slice_get_within}
use Rattle.hr_base.specs.Entries.{Entries}
use Rattle.hr_base.specs.declared.name.ChunkName.{ChunkName}
use Rattle.dir_files.specs.Files.{FileState}
use Rattle.dir_files.specs.Images.{Image, KeepsImages, read_of}
use Rattle.dir_files.specs.Ports.{Port, either_file}
use Rattle.dir_files.specs.PortStates.{IsAtRest, IsGivenBack}
use Rattle.crash_law.specs.Accounts.{Account, fresh_account}
use Rattle.crash_law.specs.Crashes.{AllSurvive, PartSurvives}
use Rattle.crash_law.specs.Restarts.{AllRestart, Fact, IsRestartOf, IsRestartable, RestartsAs}
use Rattle.crash_law.proofs.PartLaws.{all_restart, all_survive, part_restarts, part_survives}
use Rattle.crash_law.proofs.WriterLaws.{stand_exact, stand_survives}
use Rattle.record_replay.specs.Replays.{IsNext}
use Rattle.script_text.specs.declared.line.Line.{Line}
use Rattle.value_chunk.specs.Chunks.{Chunk}
use Rattle.partition_writer.proofs.FileLaws.{none_in}
use Rattle.writer_files.specs.Stocks.{files_of}
use Rattle.partition_writer.specs.Standing.{Beginning, Standing, Stands, all_files, start_of, written}
use Rattle.restart_load.specs.Ends.{ended_of_restart}
use Rattle.restart_load.specs.Refusals.{IsPrintable, IsRefusedFor}
use Rattle.restart_load.proofs.ResumedLaws.{one_image}
use Rattle.restart_load.specs.Writers.{AreResumed, EachIs, HasLimits, IsNextChunk}
use Rattle.restart_load.specs.declared.refusal.RestartRefusal.{RestartRefusal}
use Rattle.restart_load.specs.declared.refusal.RestartRefusal.TheVariants as refusal
use Rattle.restart_load.specs.declared.ended.Ended.{Ended}
use Rattle.restart_load.specs.declared.ended.Ended.TheVariants.{Load}
use Rattle.hr_base.specs.declared.limits.Limits.{Limits}
use Rattle.dir_files.proofs.JoinLaws.{either_same, no_some}
use Rattle.store_drill.specs.Accounts.{accounts_at}
use Rattle.store_drill.specs.Numbers.{SessionStart, numbers_at}
use Rattle.store_drill.specs.Playing.{Played}
use Rattle.store_drill.specs.Sessions.{IsRefusal, IsStart, NotBegun, Outside, Ran, Session}
use Rattle.store_drill.specs.Writers.{EachFits, HasMaps, HasNumber, HaveStart, IsApart, IsLimited, LostNothing, OwnsFiles, StandsAt, faults_of, files_at, files_in, numbers_of}
use Rattle.store_drill.proofs.StepLaws.{none_unless, same_numbers}
use Rattle.store_drill.proofs.WriterListLaws.{get_at_end}

-- ---- a writer is closed

-- ---- writers are closed, the last one first

-- these writers are still to be closed, and the folder has the files of the others beside those that it had
pub record Closing (tells : Bool) (all rest : List Standing) (start port : Port) (before now : ℕ) : Type 0 where
  pub closed : List Standing
  pub split : all ≡ rest ++ closed
  pub given_back : tells ≡ true → IsGivenBack port
  pub below : tells ≡ true → (name : ChunkName) → name.partition.0 < length rest → port.held name ≡ start.held name
  pub above : tells ≡ true → (name : ChunkName) → length rest ≤ name.partition.0 → port.held name ≡ either_file (start.held name) (files_at all name)
  pub count : min (before + faults_of all) (2 ^ 64 - 1) ≤ min (now + faults_of rest) (2 ^ 64 - 1)
  pub kept : before ≤ now

-- none is closed yet
pub closing_none : (tells : Bool) (all : List Standing) (port : Port) (count : ℕ) → (tells ≡ true → IsGivenBack port) → Closing tells all all port port count count
closing_none tells all port count given_back = record {
  closed = [];
  split = sym (append-nil all);
  given_back = given_back;
  below = λ y name below. refl;
  above = λ y name above. sym (either_same (port.held name) (files_at all name) (ap (λ (o : Option Standing). files_in o name) (slice_get_past all name.partition.0 above)));
  count = omega arith;
  kept = omega arith;
}

module _ (tells : Bool) (all rest : List Standing) (s : Standing) (start port : Port) (before now : ℕ) (closing : Closing tells all (rest ++ s ∷ []) start port before now)
    (numbers : EachFits HasNumber all (λ p. p)) (own : tells ≡ true → EachIs OwnsFiles all) (apart : tells ≡ true → EachIs (IsApart start.held) all) where
  is_last : slice_get all (length rest) ≡ Some s
  is_last = ap (λ (writers : List Standing). slice_get writers (length rest)) (closing.split ∙ append_assoc rest (s ∷ []) closing.closed) ∙ get_at_end rest s closing.closed

  own_number : tells ≡ true → (name : ChunkName) (file : FileState) → files_of s.stock name ≡ Some file → name.partition.0 ≡ length rest
  own_number y name file is = own y (length rest) s is_last name file is ∙ numbers (length rest) s is_last

  length_more : length (rest ++ s ∷ []) ≡ length rest + 1
  length_more = length_push rest s

  -- what the folder has is not of the next one
  pub closing_apart : tells ≡ true → IsApart port.held s
  closing_apart y name file is = closing.below y name (omega (arith, own_number y name file is, length_more)) ∙ apart y (length rest) s is_last name file is

  held_more : tells ≡ true → (name : ChunkName) → (name.partition.0 ≡ length rest) ⊎ (length rest + 1 ≤ name.partition.0)
      → either_file (port.held name) (files_of s.stock name) ≡ either_file (start.held name) (files_at all name)
  held_more y name (inl here) =
      ap (λ (o : Option FileState). either_file o (files_of s.stock name)) (closing.below y name (omega (arith, here, length_more)))
      ∙ sym (ap (λ (o : Option Standing). either_file (start.held name) (files_in o name)) (ap (slice_get all) here ∙ is_last))
  held_more y name (inr above) =
      either_same (port.held name) (files_of s.stock name)
      (none_unless (files_of s.stock name) (λ file is. let n : ⊥ = omega (arith, own_number y name file is, above) in n))
      ∙ closing.above y name (omega (arith, above, length_more))

  -- one more was closed
  pub closing_more : (port' : Port) (after : ℕ) → (tells ≡ true → IsGivenBack port')
      → (tells ≡ true → (name : ChunkName) → port'.held name ≡ either_file (port.held name) (files_of s.stock name))
      → min (now + s.faults) (2 ^ 64 - 1) ≤ after → now ≤ after → Closing tells all rest start port' before after
  closing_more port' after given_back held count kept = record {
    closed = s ∷ closing.closed;
    split = closing.split ∙ append_assoc rest (s ∷ []) closing.closed;
    given_back = given_back;
    below = λ y name below.
        held y name
        ∙ either_same (port.held name) (files_of s.stock name) (none_unless (files_of s.stock name) (λ file is. let n : ⊥ = omega (arith, own_number y name file is, below) in n))
        ∙ closing.below y name (omega (arith, below, length_more));
    above = λ y name above. held y name ∙ held_more y name (let here : (name.partition.0 ≡ length rest) ⊎ (length rest + 1 ≤ name.partition.0) = grind arith in here);
    count = omega (arith, closing.count, count, sum_by_push (λ (s : Standing). s.faults) rest s);
    kept = omega (arith, closing.kept, kept);
  }

-- ---- what writers begin with

abbrev maps_in : Option Standing → Entries
maps_in None = empty
maps_in (Some s) = s.maps

abbrev next_in : Option Standing → ℕ
next_in None = 1
next_in (Some s) = s.next

abbrev next_chunk_in : Option Standing → ℕ
next_chunk_in None = 1
next_chunk_in (Some s) = s.next_chunk

-- what each partition begins with
abbrev pub started : List Standing → SessionStart
started writers = record {
  maps = λ p. maps_in (slice_get writers p);
  next = λ p. next_in (slice_get writers p);
  next_chunk = λ p. next_chunk_in (slice_get writers p);
}

-- and the same, over these files
abbrev pub begins_of : Image → SessionStart → ℕ → Beginning
begins_of image start p = record { found = image; maps = start.maps p; first = start.next p; first_chunk = start.next_chunk p }

pub have_maps : (writers : List Standing) → EachFits HasMaps writers (started writers).maps
have_maps writers p s is = sym (ap maps_in is)

-- no chunk is in hand yet
pub have_started : (tells : Bool) (image : Image) (limits : Limits) (writers : List Standing) → AreResumed tells image writers → EachIs (HasLimits limits) writers → HaveStart limits writers (started writers)
have_started tells image limits writers begun limited = record {
  limited = limited;
  maps = have_maps writers;
  numbers = λ p s is.
      same_numbers (numbers_of s) (numbers_at (started writers) p) (sym (ap next_in is)) (sym (ap next_chunk_in is))
      (λ class. ap (λ (taking : Option Chunk). option_map (λ (chunk : Chunk). chunk.size) taking) (none_in s.stock (begun p s is).hands class));
}

abbrev begins_in : Image → Option Standing → Beginning
begins_in image o = record { found = image; maps = maps_in o; first = next_in o; first_chunk = next_chunk_in o }

module _ (tells : Bool) (image : Image) (writers : List Standing) (begun : AreResumed tells image writers) (told : tells ≡ true) where
  pub begun_stand : EachFits (StandsAt (begins_of image (started writers))) writers (λ p. fresh_account ((started writers).maps p))
  begun_stand p s is = subst (λ (o : Option Standing). Stands s (begins_in image o) (fresh_account (maps_in o))) (sym is) ((begun p s is).account told)

  pub begun_limited : EachIs IsLimited writers
  begun_limited p s is = record { next = ((begun p s is).next told).limited; next_chunk = ((begun p s is).next_chunk told).limited }

  -- a writer is there for each partition
  writer_at : (p : ℕ) → p < length writers → (s : Standing) × (slice_get writers p ≡ Some s)
  writer_at p below = elim (slice_get_cases writers p).1 [ inl there ↦ (there.0, there.2) | inr past ↦ absurd (omega (arith, past.0, below)) ]

  start_at : (p : ℕ) (s : Standing) → slice_get writers p ≡ Some s → IsRestartOf (Fact image p) s.maps
  start_at p s is =
      subst (λ (q : ℕ). IsRestartOf (Fact image q) s.maps) (begun p s is).number ((begun p s is).account told).beginning.base.restart

  pub begun_start : IsRestartable image (length writers) → IsStart image (length writers) (started writers)
  begun_start restartable = record {
    maps = record {
      restartable = restartable;
      each = λ p below.
          let one = writer_at p below in
          subst (λ (o : Option Standing). IsRestartOf (Fact image p) (maps_in o)) (sym one.1) (start_at p one.0 one.1);
    };
    next = λ p below.
        let one = writer_at p below in
        subst (λ (o : Option Standing). IsNext (Fact image p) (next_in o)) (sym one.1) ((begun p one.0 one.1).next told);
    next_chunk = λ p below.
        let one = writer_at p below in
        subst (λ (o : Option Standing). IsNextChunk image p (next_chunk_in o)) (sym one.1) ((begun p one.0 one.1).next_chunk told);
  }

-- ---- what the writers leave

swap : (a b : Option FileState) → ((file : FileState) → b ≡ Some file → a ≡ None) → either_file a b ≡ either_file b a
swap None None apart = refl
swap None (Some f) apart = refl
swap (Some f) None apart = refl
swap (Some f) (Some h) apart = absurd (no_some (Some f) f (apart h refl) refl)

is_durable : (file : FileState) → file.named ≡ true → file.front ≡ length file.bytes → file ≡ record { bytes = file.bytes; front = length file.bytes; named = true }
is_durable file named front =
    ap (λ (n : ℕ). let one : FileState = record { bytes = file.bytes; front = n; named = file.named } in one) front
    ∙ ap (λ (b : Bool). let one : FileState = record { bytes = file.bytes; front = length file.bytes; named = b } in one) named

-- a file at rest is the one that is found
found_again : (o : Option FileState) → ((file : FileState) → o ≡ Some file → (file.named ≡ true) × (file.front ≡ length file.bytes))
    → o ≡ option_map (λ (bytes : List ℕ). let one : FileState = record { bytes = bytes; front = length bytes; named = true } in one) (option_map (λ (file : FileState). file.bytes) o)
found_again None rest = refl
found_again (Some file) rest = ap (λ (f : FileState). Some f) (is_durable file (rest file refl).0 (rest file refl).1)

read_some : (o : Option FileState) (file : FileState) → o ≡ Some file → option_map (λ (f : FileState). f.bytes) o ≡ Some file.bytes
read_some o file is = ap (option_map (λ (f : FileState). f.bytes)) is

read_from : (file : Option FileState) (bytes : List ℕ) → option_map (λ (f : FileState). f.bytes) file ≡ Some bytes → (f : FileState) × (file ≡ Some f)
read_from None bytes is = absurd (no_some None bytes refl is)
read_from (Some f) bytes is = (f, refl)

within_of : (writers : List Standing) (name : ChunkName) (file : FileState) (o : Option Standing) → slice_get writers name.partition.0 ≡ o → files_in o name ≡ Some file
    → name.partition.0 < length writers
within_of writers name file None is there = absurd (no_some None file refl there)
within_of writers name file (Some s) is there = slice_get_within writers name.partition.0 s is

either_of : (a b : Option FileState) (file : FileState) → either_file a b ≡ Some file → (a ≡ Some file) ⊎ (b ≡ Some file)
either_of None b file is = inr is
either_of (Some f) b file is = inl is

module _ (old : Port) (start : SessionStart) (writers : List Standing) (accounts : ℕ → Account)
    (each : EachFits (StandsAt (begins_of (read_of old) start)) writers accounts) where
  -- the files of each writer are of its partition
  pub all_own : EachIs OwnsFiles writers
  all_own p s is name file there = ((each p s is).own name file there).partition

  -- and none of them was found
  pub all_apart : EachIs (IsApart old.held) writers
  all_apart p s is name file there =
      let stands = each p s is in
      let own = stands.own name file there in
      none_unless (old.held name)
      (λ found at. let n : ⊥ = omega (arith, own.number, stands.beginning.below name found.bytes (read_some (old.held name) found at) own.partition own.kind) in n)

  module _ (partitions : ℕ) (rest : IsAtRest old) (restartable : IsRestartable (read_of old) partitions) (numbers : EachFits HasNumber writers (λ p. p))
      (all : length writers ≡ partitions) (port : Port) (given_back : IsGivenBack port) (held : (name : ChunkName) → port.held name ≡ either_file (old.held name) (files_at writers name)) where
    -- the files of a partition are those of its writer, and those that were found
    own_files : (p : ℕ) (s : Standing) → slice_get writers p ≡ Some s → (name : ChunkName) → name.partition.0 ≡ p → port.held name ≡ all_files (files_of s.stock) (read_of old) name
    own_files p s is name of =
        held name ∙ ap (λ (o : Option Standing). either_file (old.held name) (files_in o name)) (ap (slice_get writers) of ∙ is)
        ∙ swap (old.held name) (files_of s.stock name) (λ file there. all_apart p s is name file there)
        ∙ ap (either_file (files_of s.stock name)) (found_again (old.held name) (λ file there. (rest.named name file there, rest.front name file there)))

    one_at : (p : ℕ) → p < partitions → (s : Standing) × (slice_get writers p ≡ Some s)
    one_at p below = elim (slice_get_cases writers p).1 [ inl there ↦ (there.0, there.2) | inr past ↦ absurd (omega (arith, past.0, below, all)) ]

    survives_at : (p : ℕ) (s : Standing) → slice_get writers p ≡ Some s → PartSurvives p port.held port.gone (accounts p)
    survives_at p s is =
        part_survives p (all_files (files_of s.stock) (read_of old)) (λ name. None) port.held port.gone (accounts p)
        (own_files p s is) (λ name of. given_back.gone name)
        (subst (λ (q : ℕ). PartSurvives q (all_files (files_of s.stock) (read_of old)) (λ name. None) (accounts p)) (numbers p s is)
        (stand_survives (written s (read_of old)) (start_of (begins_of (read_of old) start p)) (accounts p) (each p s is).facts))

    restarts_at : (p : ℕ) (s : Standing) → slice_get writers p ≡ Some s → s.lost ≡ false → RestartsAs (read_of port) p (accounts p).maps
    restarts_at p s is whole =
        part_restarts p (λ name. option_map (λ file. file.bytes) (all_files (files_of s.stock) (read_of old) name)) (read_of port) (accounts p).maps
        (λ name of. ap (option_map (λ (file : FileState). file.bytes)) (own_files p s is name of))
        (subst (λ (q : ℕ). RestartsAs (λ name. option_map (λ file. file.bytes) (all_files (files_of s.stock) (read_of old) name)) q (accounts p).maps) (numbers p s is)
        (stand_exact (written s (read_of old)) (start_of (begins_of (read_of old) start p)) (accounts p) (each p s is).facts whole))

    -- each file is of some partition
    known : (name : ChunkName) (file : FileState) → port.held name ≡ Some file → name.partition.0 < partitions
    known name file is = elim (either_of (old.held name) (files_at writers name) file (sym (held name) ∙ is)) [
      | inl found ↦ restartable.known name file.bytes (read_some (old.held name) file found)
      | inr own ↦ (let n : name.partition.0 < partitions = omega (arith, all, within_of writers name file (slice_get writers name.partition.0) refl own) in n)
    ]

    pub all_left : AllSurvive port.held port.gone partitions accounts
    all_left =
        all_survive port.held port.gone partitions accounts known (λ name file is. absurd (no_some (port.gone name) file (given_back.gone name) is))
        (λ p below. let one = one_at p below in survives_at p one.0 one.1)

    pub all_read : EachIs LostNothing writers → AllRestart (read_of port) partitions (λ p. (accounts p).maps)
    all_read whole =
        all_restart (read_of port) partitions (λ p. (accounts p).maps) (λ name bytes is. let from = read_from (port.held name) bytes is in known name from.0 from.1)
        (λ p below. let one = one_at p below in restarts_at p one.0 one.1 (whole p one.0 one.1))

-- ---- a session

module _ (tells : Bool) (lines : List Line) (old : Port) (begun writers : List Standing) (before now : Option (List ℕ)) (ended : Ended) (all : AreResumed tells (read_of old) begun)
    (played : Played tells lines begun writers before now ended) where
  -- how the writers stand once the lines were played
  pub played_stand : tells ≡ true → EachFits (StandsAt (begins_of (read_of old) (started begun))) writers (accounts_at ended lines played.count (λ p. fresh_account ((started begun).maps p)))
  played_stand y = played.account y (begins_of (read_of old) (started begun)) (λ p. fresh_account ((started begun).maps p)) (begun_stand tells (read_of old) begun all y)

  pub played_numbers : EachFits HasNumber writers (λ p. p)
  played_numbers = played.numbers (λ p s is. (all p s is).number)

-- the writers were closed over the folder that was restarted
pub session_ran : (tells : Bool) (limits : Limits) (lines : List Line) (begun writers : List Standing) (old new : Outside) (ended : Ended) (all : AreResumed tells (read_of old.port) begun)
    → EachIs (HasLimits limits) begun → length begun ≡ limits.partitions
    → (tells ≡ true → IsRestartable (read_of old.port) limits.partitions) → (tells ≡ true → IsAtRest old.port) → Played tells lines begun writers old.taken new.taken ended → length writers ≡ length begun
    → (tells ≡ true → IsGivenBack new.port) → (tells ≡ true → (name : ChunkName) → new.port.held name ≡ either_file (old.port.held name) (files_at writers name))
    → Session tells limits lines old new ended
session_ran tells limits lines begun writers old new ended all limited parts restartable rest played same given_back held =
    let start : SessionStart = started begun in
    let have : HaveStart limits begun start = have_started tells (read_of old.port) limits begun all limited in
    let accounts : ℕ → Account = accounts_at ended lines played.count (λ p. fresh_account (start.maps p)) in
    record {
      start = start;
      started = λ y.
          subst (λ (partitions : ℕ). IsStart (read_of old.port) partitions start) parts
          (begun_start tells (read_of old.port) begun all y (subst (λ (partitions : ℕ). IsRestartable (read_of old.port) partitions) (sym parts) (restartable y)));
      count = played.count;
      within = played.within;
      all = played.all;
      replied = played.replied;
      text = played.text start.maps have.maps;
      spends = played.spends limits start have;
      number = λ y. played.number (begun_limited tells (read_of old.port) begun all y);
      survives = λ y.
          all_left old.port start writers accounts (played_stand tells lines old.port begun writers old.taken new.taken ended all played y) limits.partitions (rest y) (restartable y)
          (played_numbers tells lines old.port begun writers old.taken new.taken ended all played) (same ∙ parts) new.port (given_back y) (held y);
      exact = λ y other.
          all_read old.port start writers accounts (played_stand tells lines old.port begun writers old.taken new.taken ended all played y) limits.partitions (rest y) (restartable y)
          (played_numbers tells lines old.port begun writers old.taken new.taken ended all played) (same ∙ parts) new.port (given_back y) (held y) (played.whole other);
    }

-- ---- a folder that was restarted

-- a session over it began with what the folder restarted to
pub ran_after : (tells : Bool) (limits : Limits) (lines : List Line) (old mid : Port) (faults more : ℕ) (taken : Option (List ℕ)) (new : Outside) (ended : Ended)
    → (tells ≡ true → KeepsImages old mid) → Session tells limits lines (record { port = mid; faults = more; taken = taken }) new ended
    → Ran tells limits lines (record { port = old; faults = faults; taken = taken }) new ended
ran_after tells limits lines old mid faults more taken new ended keeps session = inr (record {
  start = session.start;
  started = λ y. subst (λ (image : Image). IsStart image limits.partitions session.start) (one_image (read_of mid) (read_of old) (keeps y).read) (session.started y);
  count = session.count;
  within = session.within;
  all = session.all;
  replied = session.replied;
  text = session.text;
  spends = session.spends;
  number = session.number;
  survives = session.survives;
  exact = session.exact;
})

-- ---- a folder that was not restarted

refusal_of : (e : RestartRefusal) → IsPrintable e → IsRefusal (ended_of_restart e)
refusal_of refusal.Memory printable = tt
refusal_of refusal.DiskFault printable = tt
refusal_of (refusal.Partition name) printable = (tt, printable)
refusal_of (refusal.TooLarge name) printable = (tt, printable)
refusal_of (refusal.Damaged name at) printable = (tt, printable)
refusal_of (refusal.Clash p seq) printable = (tt, printable)

loaded_as : (e other : RestartRefusal) → ended_of_restart e ≡ Load other → e ≡ other
loaded_as refusal.Memory other is = cc
loaded_as refusal.DiskFault other is = cc
loaded_as (refusal.Partition name) other is = cc
loaded_as (refusal.TooLarge name) other is = cc
loaded_as (refusal.Damaged name at) other is = cc
loaded_as (refusal.Clash p seq) other is = cc

pub not_begun : (tells : Bool) (partitions : ℕ) (old new : Outside) (e : RestartRefusal) (ended : Ended) → ended ≡ ended_of_restart e → new.taken ≡ old.taken → IsPrintable e
    → (tells ≡ true → IsRefusedFor (read_of old.port) partitions e) → (tells ≡ true → KeepsImages old.port new.port) → NotBegun tells partitions old new ended
not_begun tells partitions old new e ended is silent printable refused keeps = record {
  refusal = subst IsRefusal (sym is) (refusal_of e printable);
  silent = silent;
  content = λ y other same. subst (IsRefusedFor (read_of old.port) partitions) (loaded_as e other (sym is ∙ same)) (refused y);
  images = keeps;
}
