-- What a sync makes of the chunks, one after another.
use Rattle.std.proofs.Common.{◌≡◌, if◌then◌else◌, ℕ, ◌+◌, ◌<◌, ◌≤◌, Bool, true, false, List, ◌++◌, length, take, drop, set, get_or, refl, ap, sym, ◌∙◌, subst, inl, inr, arith}
use Rattle.std.specs.List.{AllZip}
use Rattle.std.proofs.lemmas.List.{take_more_set, drop-set-lt, drop-drop, get_or-drop, get_or_default, take-append-drop, set-get_or, take_all}
use Rattle.std.proofs.lemmas.List.Elements.{all_zip_more}
use Rattle.dir_files.specs.declared.folder.Folder.{Ghosts}
use Rattle.dir_files.specs.Faults.{CountsFault}
use Rattle.dir_files.specs.Files.{FileState, Names, Rose}
use Rattle.writer_files.specs.HandCalls.{IsMarkedFrom}
use Rattle.std.proofs.lemmas.Bool.{false≢true}
use Rattle.hr_base.specs.declared.name.ChunkName.{ChunkName}
use Rattle.dir_files.specs.PortCalls.{CountsCall, GivesFile, LeavesPort}
use Rattle.dir_files.specs.Ports.{Port, SamePort}
use Rattle.value_chunk.specs.Chunks.{Chunk}
use Rattle.value_chunk.specs.Calls.{IsTold, IsChunkKept, Marks, synced_chunk, marked}
use Rattle.writer_files.proofs.ListLaws.{zip_weaker, zip_append, zip_same}

-- ---- ports, from call to call

same_then : (a b c : Port) → SamePort a b → SamePort b c → SamePort a c
same_then a b c first second = record {
  held = λ n. second.held n ∙ first.held n;
  gone = λ n. second.gone n ∙ first.gone n;
  lent = λ n. second.lent n ∙ first.lent n;
  foreign = λ n. second.foreign n ∙ first.foreign n;
  created = λ n. second.created n ∙ first.created n;
  fixed = λ n. second.fixed n ∙ first.fixed n;
}

-- the disk refused nothing, and then perhaps one call
faults_then : (refused : Bool) (a b c : ℕ) → CountsFault false a b → CountsFault refused b c → CountsFault refused a c
faults_then refused a b c first second = record {
  rose = λ is. subst (λ (x : ℕ). Rose x c) (first.stays refl) (second.rose is);
  stays = λ is. second.stays is ∙ first.stays refl;
  kept = omega (arith, first.kept, second.kept);
}

module _ {F File : Type 0} (folder : Ghosts F File) (refused : Bool) (a b c : F) where
  pub leaves_then : LeavesPort folder false a b → LeavesPort folder refused b c → LeavesPort folder refused a c
  leaves_then first second = record {
    same = λ told. same_then (folder.port a) (folder.port b) (folder.port c) (first.same told) (second.same told);
    counts = faults_then refused (folder.count a) (folder.count b) (folder.count c) first.counts second.counts;
    stays_sound = λ sound. second.stays_sound (first.stays_sound sound).0;
  }

  pub counts_then : CountsCall folder false a b → CountsCall folder refused b c → CountsCall folder refused a c
  counts_then first second = record {
    counts = faults_then refused (folder.count a) (folder.count b) (folder.count c) first.counts second.counts;
    stays_sound = λ sound. second.stays_sound (first.stays_sound sound).0;
  }

-- ---- one chunk after another

told_itself : (tells : Bool) (c : Chunk) → IsTold tells c c
told_itself tells c = record { name = refl; size = refl; unsynced = refl; torn = refl; file = λ told. refl }

pub kept_itself : (tells : Bool) (c : Chunk) → IsChunkKept tells c c
kept_itself tells c = record { name = refl; size = refl; torn = refl; either = inl (told_itself tells c) }

pub kept_synced : (tells : Bool) (c d : Chunk) → IsTold tells (synced_chunk c) d → IsChunkKept tells c d
kept_synced tells c d is = record { name = is.name; size = is.size; torn = is.torn; either = inr is }

pub kept_told : (tells : Bool) (c d : Chunk) → IsTold tells c d → IsChunkKept tells c d
kept_told tells c d is = record { name = is.name; size = is.size; torn = is.torn; either = inl is }

-- the chunk at a place, at any default
pub reads : (now : List Chunk) (i : ℕ) (r : Chunk) → i < length now → get_or now i r ≡ get_or now i (get_or now i r)
reads now i r inside = get_or_default now i r (get_or now i r) inside

module _ (R : Chunk → Chunk → Type 0) (old now : List Chunk) (i : ℕ) (c d : Chunk) (inside : i < length old) (long : length now ≡ length old) (read : c ≡ get_or now i c) (front : AllZip R (take i old) (take i now)) (rest : drop i now ≡ drop i old) where
  -- the chunk is as it was
  pub read_old : c ≡ get_or old i c
  read_old =
      read ∙ sym (get_or-drop i now 0 c ∙ ap (λ (k : ℕ). get_or now k c) (omega arith))
      ∙ ap (λ (cs : List Chunk). get_or cs 0 c) rest
      ∙ get_or-drop i old 0 c ∙ ap (λ (k : ℕ). get_or old k c) (omega arith)

  pub rest_more : drop (i + 1) (set now i d) ≡ drop (i + 1) old
  rest_more =
      drop-set-lt (i + 1) now i d (omega arith)
      ∙ sym (drop-drop 1 i now) ∙ ap (drop 1) rest ∙ drop-drop 1 i old

  pub front_more : R c d → AllZip R (take (i + 1) old) (take (i + 1) (set now i d))
  front_more is =
      subst (λ (cs : List Chunk). AllZip R (take (i + 1) old) cs) (sym (take_more_set now i d (omega arith)))
      (all_zip_more R old (take i now) i c d inside read_old front is)

  -- the folder refused this one, of which Q holds
  pub stopped : (Q : Chunk → Chunk → Type 0) → ((x y : Chunk) → R x y → Q x y) → ((x : Chunk) → Q x x) → Q c d → AllZip Q old (set now i d)
  stopped Q weaker same is =
      let before = zip_weaker R Q weaker (take i old) (take i now) front in
      let upto = all_zip_more Q old (take i now) i c d inside read_old before is in
      let here = subst (λ (cs : List Chunk). AllZip Q (take (i + 1) old) cs) (sym (take_more_set now i d (omega arith))) upto in
      let behind = subst (λ (cs : List Chunk). AllZip Q (drop (i + 1) old) cs) (sym rest_more) (zip_same Q same (drop (i + 1) old)) in
      let whole = zip_append Q (take (i + 1) old) (take (i + 1) (set now i d)) (drop (i + 1) old) (drop (i + 1) (set now i d)) here behind in
      subst (λ (cs : List Chunk). AllZip Q cs (set now i d)) (take-append-drop (i + 1) old)
      (subst (λ (cs : List Chunk). AllZip Q (take (i + 1) old ++ drop (i + 1) old) cs) (take-append-drop (i + 1) (set now i d)) whole)

  pub same_more : d ≡ c → set now i d ≡ now
  same_more same =
      ap (set now i) (same ∙ read) ∙ set-get_or now i c

pub all_zipped : (R : Chunk → Chunk → Type 0) (old now : List Chunk) (i : ℕ) → length old ≤ i → length now ≡ length old → AllZip R (take i old) (take i now) → AllZip R old now
all_zipped R old now i past long zip =
    subst (λ (cs : List Chunk). AllZip R cs now) (take_all i old past)
    (subst (λ (cs : List Chunk). AllZip R (take i old) cs) (take_all i now (omega arith)) zip)

-- ---- names that the port says are durable

fixed_cases : (answer b : Bool) (tells : Bool) (c d : Chunk) → (tells ≡ true → answer ≡ b) → IsTold tells (if answer then marked c else c) d → IsTold tells (if b then marked c else c) d
fixed_cases true true tells c d same is = is
fixed_cases false false tells c d same is = is
fixed_cases true false tells c d same is = record {
  name = is.name;
  size = is.size;
  unsynced = is.unsynced;
  torn = is.torn;
  file = λ told. absurd (false≢true (sym (same told)));
}
fixed_cases false true tells c d same is = record {
  name = is.name;
  size = is.size;
  unsynced = is.unsynced;
  torn = is.torn;
  file = λ told. absurd (false≢true (same told));
}

pub marked_from : (tells : Bool) (fixed : Names) (answer : Bool) (c d : Chunk) → (tells ≡ true → answer ≡ fixed c.name) → Marks tells answer c d → IsMarkedFrom tells fixed c d
marked_from tells fixed answer c d same is = fixed_cases answer (fixed c.name) tells c d same is

-- ---- counts of calls that the disk refuses none of

pub counts_none : {F File : Type 0} (folder : Ghosts F File) (a : F) → (folder.sound a ≡ true → folder.count a ≡ 0) → CountsCall folder false a a
counts_none folder a law = record {
  counts = record { rose = λ is. absurd (false≢true is); stays = λ is. refl; kept = omega arith };
  stays_sound = λ sound. (sound, law sound);
}

pub counts_given : {F File : Type 0} (folder : Ghosts F File) (a b : F) (name : ChunkName) (file : FileState) → GivesFile folder a b name file → CountsCall folder false a b
counts_given folder a b name file gives = record {
  counts = record { rose = λ is. absurd (false≢true is); stays = λ is. gives.counts; kept = omega (arith, gives.counts) };
  stays_sound = gives.stays_sound;
}
