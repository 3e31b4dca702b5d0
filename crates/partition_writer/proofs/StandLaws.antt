-- What a writer stands for after each call.
use Rattle.std.proofs.Common.{◌≡◌, ◌≢◌, ◌⊎◌, ℕ, ◌+◌, ◌<◌, ◌≤◌, true, false, List, [], length, take, Option, Some, None, option_to_list, refl, ap, sym, ◌∙◌, subst, inl, inr, arith}
use Rattle.std.specs.List.{AllZip}
use Rattle.std.specs.Option.{option_map}
use Rattle.std.proofs.lemmas.Bool.{false≢true}
use Rattle.hr_base.specs.declared.limits.TheConstants.{MAX_FILE_LEN, MAX_RECORD_LEN}
use Rattle.hr_base.specs.declared.name.Class.{Class}
use Rattle.hr_base.specs.declared.name.ChunkName.{ChunkName}
use Rattle.hr_base.specs.declared.name.Partition.{Partition}
use Rattle.hr_base.specs.Names.{class_of_kind}
use Rattle.hr_base.specs.NameTests.{is_name}
use Rattle.hr_base.proofs.NameTestLaws.{same_name_or_not}
use Rattle.dir_files.specs.Files.{FileState, Files, ChangesAt, SameAt, IsFile, Rises, with_bytes}
use Rattle.dir_files.specs.Images.{durable_files as found_files}
use Rattle.dir_files.specs.Ports.{either_file}
use Rattle.record_format.specs.declared.record.Record.{Record}
use Rattle.record_format.specs.declared.record.Record.TheVariants as record_of
use Rattle.record_format.specs.Spelling.{IsRecord, class_of_record, seq_of, spelling}
use Rattle.record_format.proofs.SplitLaws.{spelling_length}
use Rattle.value_chunk.specs.Chunks.{Chunk}
use Rattle.writer_files.specs.StockCalls.{EachRises}
use Rattle.writer_files.specs.Stocks.{Stock, files_of, taking_in, taking_of, is_chunk_of, AllDurable}
use Rattle.writer_files.specs.StockCalls.{KeepsChunk, KeepsTaking}
use Rattle.crash_law.specs.Accounts.{Account, answered, refused, synced, fresh_account}
use Rattle.crash_law.specs.Commands.{Command, command_of, is_written, maps_after}
use Rattle.crash_law.specs.Crashes.{PartSurvives}
use Rattle.crash_law.specs.Restarts.{RestartsAs}
use Rattle.crash_law.specs.Growth.{file_or_new, MayBeNew, PartRises}
use Rattle.crash_law.specs.Placed.{IsPlaced}
use Rattle.crash_law.specs.Writers.{AppendsRecord, KeepsRecords, NotesRecord, StandsFor, TakesNew}
use Rattle.crash_law.proofs.WriterLaws.{stand_begun, stand_appended, stand_torn, stand_lost, stand_risen, stand_new, stand_synced, stand_unwritten, stand_whole_in, stand_survives, stand_exact}
use Rattle.crash_law.proofs.PartLaws.{part_survives, part_restarts}
use Rattle.partition_writer.specs.Standing.{Beginning, HoldsTail, IsBeginning, IsOwnName, Standing, Stands, all_files, chunk_for, limit_of, next_name, placed_in, start_of, written, writer_kind}
use Rattle.partition_writer.specs.Storing.{AppendsTo, AddsEmpty, IsBelow, IsOpen, NamesOwn, TakesIn}
use Rattle.partition_writer.specs.Answers.{NotesCommand}
use Rattle.partition_writer.specs.Answers as answers
use Rattle.dir_files.proofs.JoinLaws.{no_some}
use Rattle.partition_writer.proofs.FileLaws.{all_alike, all_own, changes_all, chosen_cases, class_of_writer_kind, durable_all, fits_all, none_unless, own_not_found, rises_all, taking_named}
use Rattle.partition_writer.proofs.StoreLaws.{fits_within}

-- ---- the chunk that a record goes to

module _ (s : Standing) (b : Beginning) (a : Account) (class : Class) (len : ℕ) (h : Stands s b a) (own : NamesOwn s.partition s.stock) where
  -- it is of the partition, and of the class
  pub chunk_own : IsOwnName s.partition.0 b.first_chunk (chunk_for s class len)
  chunk_own = elim (chosen_cases s.partition s.stock class len (limit_of s.limits class) (next_name s class) own) [
    | inl takes ↦ subst (λ (name : ChunkName). IsOwnName s.partition.0 b.first_chunk name) (sym takes.name) (h.taking takes.chunk.name (taking_named s.stock class takes.chunk takes.is takes.kind))
    | inr next ↦ subst (λ (name : ChunkName). IsOwnName s.partition.0 b.first_chunk name) (sym next.1) (record {
      partition = refl;
      kind = ap writer_kind (sym (class_of_writer_kind class));
      number = h.from;
    })
  ]

  pub chunk_class : class_of_kind (chunk_for s class len).kind ≡ class
  chunk_class = elim (chosen_cases s.partition s.stock class len (limit_of s.limits class) (next_name s class) own) [
    | inl takes ↦ ap (λ (name : ChunkName). class_of_kind name.kind) takes.name ∙ ap class_of_kind takes.kind ∙ class_of_writer_kind class
    | inr next ↦ ap (λ (name : ChunkName). class_of_kind name.kind) next.1 ∙ class_of_writer_kind class
  ]

-- ---- a record is stored

-- all files but that of one name are as before
abbrev pub KeepsFiles : Files → Files → ChunkName → Type 0
KeepsFiles old new name = (other : ChunkName) → other ≢ name → new other ≡ old other

short_record : (r : Record) → IsRecord r → length (spelling r) ≤ MAX_RECORD_LEN
short_record (record_of.Value seq prefix key value) is =
    omega (arith, spelling_length (record_of.Value seq prefix key value), is.key, is.value)
short_record (record_of.Tomb seq prefix key) is =
    omega (arith, spelling_length (record_of.Tomb seq prefix key), is.key, is.value)
short_record (record_of.Clear prefix seq) is =
    omega (arith, spelling_length (record_of.Clear prefix seq), is.key, is.value)

module _ (s t : Standing) (b : Beginning) (a : Account) (r : Record) (h : Stands s b a) (own : NamesOwn s.partition s.stock)
    (valid : IsRecord r) (number : seq_of r ≡ s.next) (opened : IsOpen s.stock (placed_in s r).chunk) (takes : TakesIn s.stock t.stock (placed_in s r).chunk) where
  abbrev pub name : ChunkName
  name = (placed_in s r).chunk

  name_own : IsOwnName s.partition.0 b.first_chunk name
  name_own = chunk_own s b a (class_of_record r) (length (spelling r)) h own

  not_found : b.found name ≡ None
  not_found = own_not_found s.partition.0 b name h.beginning name_own

  is_placed : IsPlaced s.partition.0 (placed_in s r)
  is_placed = record {
    valid = record { valid = valid; same = sym (chunk_class s b a (class_of_record r) (length (spelling r)) h own) };
    partition = name_own.partition;
  }

  is_open : (taking_of s.stock name ≡ true) ⊎ (all_files (files_of s.stock) b.found name ≡ None)
  is_open = elim opened [ inl taking ↦ inl taking | inr none ↦ inr (all_own (files_of s.stock) b.found name not_found ∙ none) ]

  takes_new : TakesNew (written s b.found) (written t b.found)
  takes_new other taking = elim (takes other taking) [
    | inl before ↦ inl before
    | inr same ↦ elim is_open [
      | inl before ↦ inl (ap (taking_of s.stock) same ∙ before)
      | inr none ↦ inr (ap (λ (n : ChunkName). n.partition.0) same ∙ name_own.partition, ap (all_files (files_of s.stock) b.found) same ∙ none)
    ]
  ]

  notes_record : NotesCommand s t r → NotesRecord (written s b.found) (written t b.found) (placed_in s r)
  notes_record notes = record {
    partition = ap (λ (p : Partition). p.0) notes.partition;
    gone = λ n. refl;
    records = notes.records;
    next = notes.next;
    taking = takes_new;
  }

  appends : (piece : List ℕ) → NotesCommand s t r → AppendsTo (files_of s.stock) (files_of t.stock) name (spelling r) piece
      → AppendsRecord (written s b.found) (written t b.found) (placed_in s r) piece
  appends piece notes adds =
      let is = all_own (files_of s.stock) b.found name not_found in record {
        placed = is_placed;
        numbered = number;
        chunk = is_open;
        within = subst (λ (o : Option FileState). length (file_or_new o).bytes + length (spelling r) ≤ MAX_FILE_LEN) (sym is)
            (fits_within (length (file_or_new (files_of s.stock name)).bytes) (length (spelling r)) (short_record r valid) adds.room);
        files = subst (λ (o : Option FileState). ChangesAt (all_files (files_of s.stock) b.found) (all_files (files_of t.stock) b.found) name (Some (with_bytes (file_or_new o) piece))) (sym is)
            (changes_all (files_of s.stock) (files_of t.stock) b.found name (Some (with_bytes (file_or_new (files_of s.stock name)) piece)) not_found adds.changes);
        noted = notes_record notes;
      }

  -- the facts of the writer after it
  module _ (partition : t.partition ≡ s.partition) (from : s.next_chunk ≤ t.next_chunk) (kept : KeepsFiles (files_of s.stock) (files_of t.stock) name) where
    own_names : (other : ChunkName) (file : FileState) → files_of t.stock other ≡ Some file → IsOwnName t.partition.0 b.first_chunk other
    own_names other file is =
        subst (λ (p : Partition). IsOwnName p.0 b.first_chunk other) (sym partition)
        (elim (same_name_or_not other name) [
          | inl same ↦ subst (λ (n : ChunkName). IsOwnName s.partition.0 b.first_chunk n) (sym same) name_own
          | inr apart ↦ h.own other file (sym (kept other apart) ∙ is)
        ])

    own_taking : (other : ChunkName) → taking_of t.stock other ≡ true → IsOwnName t.partition.0 b.first_chunk other
    own_taking other taking =
        subst (λ (p : Partition). IsOwnName p.0 b.first_chunk other) (sym partition)
        (elim (takes other taking) [
          | inl before ↦ h.taking other before
          | inr same ↦ subst (λ (n : ChunkName). IsOwnName s.partition.0 b.first_chunk n) (sym same) name_own
        ])

    pub stands_with : (after : Account) → StandsFor (written t b.found) (start_of b) after → Stands t b after
    stands_with after facts = record {
      beginning = subst (λ (p : Partition). IsBeginning p.0 b) (sym partition) h.beginning;
      facts = facts;
      from = omega (arith, h.from, from);
      own = own_names;
      taking = own_taking;
    }

  -- the command was answered
  pub stand_ok : NotesCommand s t r → s.next_chunk ≤ t.next_chunk → s.lost ≡ false → t.lost ≡ false → t.maps ≡ maps_after (command_of r) s.maps
      → is_written (command_of r) s.maps ≡ true → AppendsTo (files_of s.stock) (files_of t.stock) name (spelling r) (spelling r)
      → Stands t b (answered a (command_of r))
  stand_ok notes from whole none maps is adds =
      stands_with notes.partition from adds.changes.others (answered a (command_of r))
      (stand_appended (written s b.found) (written t b.found) (start_of b) a (placed_in s r) h.facts whole (appends (spelling r) notes adds) none maps is)

  -- the disk refused its record
  pub stand_fault : NotesCommand s t r → s.next_chunk ≤ t.next_chunk → s.lost ≡ false → t.lost ≡ true → t.maps ≡ s.maps
      → ((n : ℕ) × AppendsTo (files_of s.stock) (files_of t.stock) name (spelling r) (take n (spelling r)))
      ⊎ ((files_of s.stock name ≡ None) × (SameAt (files_of s.stock) (files_of t.stock) ⊎ AddsEmpty (files_of s.stock) (files_of t.stock) name))
      → Stands t b (refused a (command_of r))
  stand_fault notes from whole some maps (inl torn) =
      stands_with notes.partition from torn.1.changes.others (refused a (command_of r))
      (stand_torn (written s b.found) (written t b.found) (start_of b) a (placed_in s r) torn.0 h.facts whole (appends (take torn.0 (spelling r)) notes torn.1) some maps)
  stand_fault notes from whole some maps (inr lost) =
      let kept : KeepsFiles (files_of s.stock) (files_of t.stock) name = elim lost.1 [ inl same ↦ (λ other apart. same other) | inr adds ↦ adds.changes.others ] in
      let may : MayBeNew (files_of t.stock name) = elim lost.1 [ inl same ↦ inl (same name ∙ lost.0) | inr adds ↦ inr adds.changes.at ] in
      stands_with notes.partition from kept (refused a (command_of r))
      (stand_lost (written s b.found) (written t b.found) (start_of b) a (placed_in s r) h.facts whole (record {
        placed = is_placed;
        numbered = number;
        none = all_own (files_of s.stock) b.found name not_found ∙ lost.0;
        may = subst MayBeNew (sym (all_own (files_of t.stock) b.found name not_found)) may;
        others = λ other apart. all_alike (files_of s.stock) (files_of t.stock) b.found other (kept other apart);
        noted = notes_record notes;
      }) some maps)

  keeps_written : answers.KeepsNoted s t → KeepsRecords (written s b.found) (written t b.found)
  keeps_written keeps = record {
    partition = ap (λ (p : Partition). p.0) keeps.partition;
    gone = λ n. refl;
    maps = keeps.maps;
    records = keeps.records;
    next = keeps.next;
    lost = keeps.lost;
    taking = takes_new;
  }

  -- there was no memory for it
  pub stand_memory : answers.KeepsNoted s t → s.next_chunk ≤ t.next_chunk → s.lost ≡ false → IsBelow (files_of s.stock) s.next_chunk
      → SameAt (files_of s.stock) (files_of t.stock) ⊎ AddsEmpty (files_of s.stock) (files_of t.stock) name → Stands t b a
  stand_memory keeps from whole below (inl same) =
      let next : ChunkName = next_name s (class_of_record r) in
      let next_own : IsOwnName s.partition.0 b.first_chunk next = record { partition = refl; kind = ap writer_kind (sym (class_of_writer_kind (class_of_record r))); number = h.from } in
      let next_none : files_of s.stock next ≡ None = none_unless (files_of s.stock next) (λ file is. let less : s.next_chunk < s.next_chunk = below next file is in omega (arith, less)) in
      let none = own_not_found s.partition.0 b next h.beginning next_own in
      stands_with keeps.partition from (λ other apart. same other) a
      (stand_new (written s b.found) (written t b.found) (start_of b) a h.facts (keeps_written keeps) whole next (record {
        of = refl;
        none = all_own (files_of s.stock) b.found next none ∙ next_none;
        may = inl (all_own (files_of t.stock) b.found next none ∙ same next ∙ next_none);
        others = λ other apart. all_alike (files_of s.stock) (files_of t.stock) b.found other (same other);
      }))
  stand_memory keeps from whole below (inr adds) =
      stands_with keeps.partition from adds.changes.others a
      (stand_new (written s b.found) (written t b.found) (start_of b) a h.facts (keeps_written keeps) whole name (record {
        of = name_own.partition;
        none = all_own (files_of s.stock) b.found name not_found ∙ adds.none;
        may = inr (all_own (files_of t.stock) b.found name not_found ∙ adds.changes.at);
        others = λ other apart. all_alike (files_of s.stock) (files_of t.stock) b.found other (adds.changes.others other apart);
      }))

-- ---- the other calls

-- a writer that begins stands for the maps that it goes on from
pub stand_resumed : (s : Standing) (b : Beginning) → IsBeginning s.partition.0 b → ((name : ChunkName) → files_of s.stock name ≡ None) → ((name : ChunkName) → taking_of s.stock name ≡ false)
    → s.maps ≡ b.maps → s.records ≡ [] → s.next ≡ b.first → s.next_chunk ≡ b.first_chunk → s.lost ≡ false → Stands s b (fresh_account b.maps)
stand_resumed s b is none takes maps records next chunk whole = record {
  beginning = is;
  facts = stand_begun (written s b.found) (start_of b) (record {
    base = is.base;
    begun = record { as_found = λ name of. ap (λ (o : Option FileState). either_file o (found_files b.found name)) (none name); none_gone = λ name of. refl };
    maps = maps;
    records = records;
    next = next;
    lost = whole;
    taking = takes;
  });
  from = omega (arith, chunk);
  own = λ name file is. absurd (no_some (files_of s.stock name) file (none name) is);
  taking = λ name taking. absurd (false≢true (sym (takes name) ∙ taking));
}

-- the chunks that take records are as before
same_chunk : (name : ChunkName) (o p : Option Chunk) → AllZip KeepsChunk (option_to_list o) (option_to_list p) → is_chunk_of p name ≡ true → is_chunk_of o name ≡ true
same_chunk name None None zip is = is
same_chunk name None (Some d) zip is = absurd zip
same_chunk name (Some c) None zip is = absurd zip
same_chunk name (Some c) (Some d) zip is = ap (λ (n : ChunkName). is_name n name) (sym zip.0.name) ∙ is

pub same_taking : (old new : Stock) → KeepsTaking old new → (name : ChunkName) → taking_of new name ≡ true → taking_of old name ≡ true
same_taking old new keeps name is =
    same_chunk name (taking_in old (class_of_kind name.kind)) (taking_in new (class_of_kind name.kind)) (keeps (class_of_kind name.kind)) is

-- a file that is there after was there before
was_there : (o p : Option FileState) (file : FileState) → Rises o p → p ≡ Some file → (before : FileState) × (o ≡ Some before)
was_there None p file rises is = absurd (no_some p file rises is)
was_there (Some before) p file rises is = (before, refl)

module _ (s t : Standing) (b : Beginning) (a : Account) (h : Stands s b a) (partition : t.partition ≡ s.partition) (next_chunk : t.next_chunk ≡ s.next_chunk)
    (rises : EachRises (files_of s.stock) (files_of t.stock)) (fits : (name : ChunkName) (file : FileState) → files_of t.stock name ≡ Some file → IsFile file)
    (keeps : KeepsTaking s.stock t.stock) where
  part_rises : PartRises s.partition.0 (all_files (files_of s.stock) b.found) (all_files (files_of t.stock) b.found)
  part_rises = record {
    rises = λ name of. rises_all (files_of s.stock) (files_of t.stock) b.found rises name;
    fits = fits_all (files_of t.stock) b.found fits;
  }

  stands_on : (after : Account) → StandsFor (written t b.found) (start_of b) after → Stands t b after
  stands_on after facts = record {
    beginning = subst (λ (p : Partition). IsBeginning p.0 b) (sym partition) h.beginning;
    facts = facts;
    from = omega (arith, h.from, next_chunk);
    own = λ name file is.
        let before = was_there (files_of s.stock name) (files_of t.stock name) file (rises name) is in
        subst (λ (p : Partition). IsOwnName p.0 b.first_chunk name) (sym partition) (h.own name before.0 before.1);
    taking = λ name is. subst (λ (p : Partition). IsOwnName p.0 b.first_chunk name) (sym partition) (h.taking name (same_taking s.stock t.stock keeps name is));
  }

  -- a sync was refused
  pub stand_unsynced : answers.KeepsNoted s t → Stands t b a
  stand_unsynced same =
      stands_on a (stand_risen (written s b.found) (written t b.found) (start_of b) a h.facts (record {
        partition = ap (λ (p : Partition). p.0) partition;
        gone = λ n. refl;
        maps = same.maps;
        records = same.records;
        next = same.next;
        lost = same.lost;
        taking = λ name is. inl (same_taking s.stock t.stock keeps name is);
      }) part_rises)

  -- a sync was answered
  pub stand_all_synced : s.lost ≡ false → t.lost ≡ false → t.maps ≡ s.maps → t.records ≡ [] → t.next ≡ s.next → AllDurable (files_of t.stock) → Stands t b (synced a)
  stand_all_synced whole none maps records next durable =
      stands_on (synced a) (stand_synced (written s b.found) (written t b.found) (start_of b) a h.facts whole (record {
        partition = ap (λ (p : Partition). p.0) partition;
        gone = λ n. refl;
        rises = part_rises;
        durable = λ name of. durable_all (files_of t.stock) b.found durable name;
        maps = maps;
        records = records;
        next = next;
        lost = none;
        taking = same_taking s.stock t.stock keeps;
      }))

-- a command that changes nothing was answered
pub stand_nothing : (s : Standing) (b : Beginning) (a : Account) (c : Command) → Stands s b a → is_written c s.maps ≡ false → Stands s b (answered a c)
stand_nothing s b a c h unwritten = record {
  beginning = h.beginning;
  facts = stand_unwritten (written s b.found) (start_of b) a c h.facts unwritten;
  from = h.from;
  own = h.own;
  taking = h.taking;
}

-- the record of each command of the tail is whole
pub holds_tail : (s : Standing) (b : Beginning) (a : Account) → Stands s b a → s.lost ≡ false → HoldsTail s b.found
holds_tail s b a h whole x has = stand_whole_in (written s b.found) (start_of b) a x h.facts whole has

-- ---- what a closed writer leaves

pub leaves : (s : Standing) (b : Beginning) (a : Account) (held : Files) → Stands s b a → ((name : ChunkName) → held name ≡ files_of s.stock name)
    → PartSurvives s.partition.0 (all_files held b.found) (λ name. None) a
leaves s b a held h same =
    part_survives s.partition.0 (all_files (files_of s.stock) b.found) (λ name. None) (all_files held b.found) (λ name. None) a
    (λ name of. all_alike (files_of s.stock) held b.found name (same name)) (λ name of. refl)
    (stand_survives (written s b.found) (start_of b) a h.facts)

pub reads : (s : Standing) (b : Beginning) (a : Account) (held : Files) → Stands s b a → ((name : ChunkName) → held name ≡ files_of s.stock name) → s.lost ≡ false
    → RestartsAs (λ name. option_map (λ file. file.bytes) (all_files held b.found name)) s.partition.0 a.maps
reads s b a held h same whole =
    part_restarts s.partition.0 (λ name. option_map (λ file. file.bytes) (all_files (files_of s.stock) b.found name))
    (λ name. option_map (λ file. file.bytes) (all_files held b.found name)) a.maps
    (λ name of. ap (λ (o : Option FileState). option_map (λ file. file.bytes) o) (all_alike (files_of s.stock) held b.found name (same name)))
    (stand_exact (written s b.found) (start_of b) a h.facts whole)
