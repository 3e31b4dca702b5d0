-- What each call makes of a stock and of its files.
use Rattle.std.proofs.Common.{◌≡◌, ◌⊎◌, ℕ, Bool, true, false, ◌||◌, ◌&&◌, not, List, [], ◌∷◌, ◌++◌, All, length, take, drop, Option, Some, None, is_some, option_map, IfSome, OnOk, Result, Ok, Err, if◌then◌else◌, refl, ap, sym, ◌∙◌, subst, inl, inr, arith, append_assoc, length-append}
use Rattle.std.specs.List.{AllZip}
use Rattle.std.specs.Option.{option_to_list}
use Rattle.std.proofs.lemmas.Bool.{cases_Bool, false≢true, and_parts}
use Rattle.std.proofs.lemmas.List.{take-append-drop}
use Rattle.std.proofs.lemmas.List.Elements.{All-head, All-tail}
use Rattle.hr_base.specs.declared.limits.TheConstants.{MAX_CHUNK_LIMIT}
use Rattle.hr_base.specs.declared.name.Class.{Class}
use Rattle.hr_base.specs.declared.name.ChunkName.{ChunkName}
use Rattle.hr_base.specs.NameTests.{is_name}
use Rattle.hr_base.proofs.NameTestLaws.{is_name-false, is_name-other, same_name_or_not}
use Rattle.dir_files.specs.declared.folder.FolderRefusal.{FolderRefusal}
use Rattle.dir_files.specs.declared.folder.FolderRefusal.TheVariants.{Memory, Fault}
use Rattle.dir_files.specs.Files.{FileState, Files, Names, ChangesAt, SameAt, IsFile, IsDurable, KeepsMore, Rises, new_file, with_bytes, synced_file, named_file}
use Rattle.dir_files.specs.Ports.{Port, SamePort, Creates, MayCreate, SyncsNames, Gives, IsPort, either_file, can_be_fixed}
use Rattle.dir_files.proofs.JoinLaws.{rises_same, keeps_same}
use Rattle.value_chunk.specs.Chunks.{Chunk, fits}
use Rattle.value_chunk.specs.Calls.{IsTold, IsChunkKept, Appends, BeginsAt, marked}
use Rattle.writer_files.specs.Hands.{Takings, of_class, with_class, taking_list, taking_fits, file_among, AreOnce, AreOut, IsOut}
use Rattle.writer_files.specs.HandCalls.{AppendsIn, EachTaking, GivesEach, GainsFull, JoinsFull, IsSyncedFrom, IsMarkedFrom, SyncsTakings}
use Rattle.writer_files.specs.Stocks.{Stock, in_hand, is_in_hand, files_of, taking_in, AllDurable, IsStock, LendsBut}
use Rattle.writer_files.specs.StockCalls.{Extends, ExtendsFile, EachRises, KeepsChunk, KeepsHands}
use Rattle.writer_files.proofs.HandLaws.{Adds, SameName, RisesTo, adds_files, adds_once, adds_other, adds_same, none_base, once_base, found_alike, once_alike, rises_among, rises_beside, seen_changes, seen_same}
use Rattle.writer_files.proofs.ListLaws.{all_back, all_front, zip_append, zip_weaker, zip_all, zip_same, zip_then}
use Rattle.writer_files.proofs.OutLaws.{found_out, out_adds, out_base, out_created, out_may, out_new, out_one, out_same, out_synced, fixed_synced, outs, outs_given, outs_with, outs_zip, unlent_none}
use Rattle.writer_files.proofs.SyncLaws.{kept_synced}
use Rattle.writer_files.proofs.TakingLaws.{between, each_class, each_zip, list_now}

-- no file has bytes past its front
abbrev pub HasFronts : Files → Type 0
HasFronts files = (name : ChunkName) (file : FileState) → files name ≡ Some file → file.front ≡ length file.bytes

-- a crash keeps the name of each file
abbrev pub HasNames : Files → Type 0
HasNames files = (name : ChunkName) (file : FileState) → files name ≡ Some file → file.named ≡ true

pub same_fronts : (old new : Files) → SameAt old new → HasFronts old → HasFronts new
same_fronts old new same fronts n file is = fronts n file (sym (same n) ∙ is)

pub same_names : (old new : Files) → SameAt old new → HasNames old → HasNames new
same_names old new same names n file is = names n file (sym (same n) ∙ is)

-- ---- a full chunk beside the others

-- the chunks of a class were between others; the one that was there is among the full ones now
record IsMoved (p : Port) (old now : List Chunk) : Type 0 where
  same : SameAt (file_among old) (file_among now)
  once : AreOnce now
  out : AreOut p now

moved_full : (p : Port) (full now pre post : List Chunk) (o : Option Chunk) → GainsFull full now o → AreOnce (full ++ (pre ++ (option_to_list o ++ post))) → AreOut p (full ++ (pre ++ (option_to_list o ++ post))) → IsMoved p (full ++ (pre ++ (option_to_list o ++ post))) (now ++ (pre ++ post))
moved_full p full now pre post None gains once out = record {
  same = λ n. ap (λ (xs : List Chunk). file_among (xs ++ (pre ++ post)) n) gains;
  once = subst (λ (xs : List Chunk). AreOnce (xs ++ (pre ++ post))) (sym gains) once;
  out = subst (λ (xs : List Chunk). AreOut p (xs ++ (pre ++ post))) (sym gains) out;
}
moved_full p full now pre post (Some c) gains once out =
    let base : List Chunk = full ++ (pre ++ post) in
    let first : Adds c base (full ++ (pre ++ (c ∷ post))) = record {
      before = full ++ pre;
      after = post;
      beside = sym (append_assoc full pre post);
      is = sym (append_assoc full pre (c ∷ post));
    } in
    let front = take gains.at full in
    let back = drop gains.at full in
    let second : Adds c base (now ++ (pre ++ post)) = record {
      before = front;
      after = back ++ (pre ++ post);
      beside = ap (λ (xs : List Chunk). xs ++ (pre ++ post)) (sym (take-append-drop gains.at full)) ∙ append_assoc front back (pre ++ post);
      is = ap (λ (xs : List Chunk). xs ++ (pre ++ post)) gains.is ∙ append_assoc front (c ∷ back) (pre ++ post);
    } in record {
      same = adds_same c base (full ++ (pre ++ (c ∷ post))) (now ++ (pre ++ post)) first second once;
      once = adds_once c base (now ++ (pre ++ post)) second (once_base c base (full ++ (pre ++ (c ∷ post))) first once) (none_base c base (full ++ (pre ++ (c ∷ post))) first once);
      out = out_adds p c base (now ++ (pre ++ post)) second (out_base p c base (full ++ (pre ++ (c ∷ post))) first out) (out_one p c base (full ++ (pre ++ (c ∷ post))) first out);
    }

-- ---- the begin of a chunk

lends_true : (found other : Bool) → found ≡ true → (found || other) ≡ true
lends_true true other e = refl
lends_true false other e = absurd (false≢true e)

module _ (old new : Stock) (class : Class) (d : Chunk) (name : ChunkName) (is : IsStock old) (creates : Creates old.port new.port name) (none : files_of old name ≡ None) (unlent : old.port.lent name ≡ false) (named : d.name ≡ name) (file : d.file ≡ new_file) (taking : new.taking ≡ with_class old.taking class (Some d)) (gains : GainsFull old.full new.full (of_class old.taking class)) where
  abbrev pre : List Chunk
  pre = (between old.taking class).before

  abbrev post : List Chunk
  post = (between old.taking class).after

  was : in_hand old ≡ old.full ++ (pre ++ (option_to_list (of_class old.taking class) ++ post))
  was = ap (λ (xs : List Chunk). old.full ++ xs) (list_now old.taking class)

  abbrev mid : List Chunk
  mid = new.full ++ (pre ++ post)

  moved : IsMoved old.port (in_hand old) mid
  moved =
      subst (λ (xs : List Chunk). IsMoved old.port xs mid) (sym was)
      (moved_full old.port old.full new.full pre post (of_class old.taking class) gains (subst AreOnce was is.once) (subst (AreOut old.port) was is.out))

  added : Adds d mid (in_hand new)
  added = record {
    before = new.full ++ pre;
    after = post;
    beside = sym (append_assoc new.full pre post);
    is =
        ap (λ (t : Takings). new.full ++ taking_list t) taking
        ∙ ap (λ (xs : List Chunk). new.full ++ xs) ((between old.taking class).with (Some d))
        ∙ sym (append_assoc new.full pre (d ∷ post));
  }

  absent : file_among mid d.name ≡ None
  absent = ap (file_among mid) named ∙ unlent_none old.port mid moved.out name unlent

  free_held : old.port.held name ≡ None
  free_held =
      ap (λ (o : Option FileState). either_file o (old.port.held name)) (sym (unlent_none old.port (in_hand old) is.out name unlent)) ∙ none

  hands : ChangesAt (file_among (in_hand old)) (file_among (in_hand new)) name (Some new_file)
  hands =
      let changes = adds_files d mid (in_hand new) added absent in record {
        at = ap (file_among (in_hand new)) (sym named) ∙ changes.at ∙ ap (λ (f : FileState). Some f) file;
        others = λ n apart. changes.others n (λ e. apart (e ∙ named)) ∙ moved.same n;
      }

  pub begun_files : ChangesAt (files_of old) (files_of new) name (Some new_file)
  begun_files = seen_changes (file_among (in_hand old)) (file_among (in_hand new)) old.port.held new.port.held name new_file hands creates.held

  pub begun_stock : new.fresh ≡ true → IsStock new
  begun_stock fresh = record {
    once = adds_once d mid (in_hand new) added moved.once absent;
    out =
        out_adds new.port d mid (in_hand new) added (outs old.port new.port (out_created old.port new.port name creates unlent) mid moved.out)
        (out_new old.port new.port name creates free_held d named file);
    foreign = λ n. creates.foreign n ∙ is.foreign n;
    gone = λ n. creates.gone n ∙ is.gone n;
    front = same_fronts old.port.held new.port.held creates.held is.front;
    named = λ stale. absurd (false≢true (sym stale ∙ fresh));
  }

  pub begun_lends : (others : Names) → LendsBut others old → LendsBut others new
  begun_lends others lends n lent = elim (same_name_or_not n name) [
    | inl same ↦ lends_true (is_in_hand new n) (others n) (ap is_some (ap (file_among (in_hand new)) same ∙ hands.at))
    | inr apart ↦
        ap (λ (o : Option FileState). is_some o || others n) (hands.others n apart)
        ∙ lends n (sym (creates.lent.others n apart) ∙ lent)
  ]

-- where it was refused
new_front : (held : Option FileState) (file : FileState) → held ≡ Some new_file → held ≡ Some file → file.front ≡ length file.bytes
new_front held file new is =
    let same : new_file ≡ file = cc in
    subst (λ (f : FileState). f.front ≡ length f.bytes) same refl

may_fronts : (p q : Port) (name : ChunkName) → MayCreate p q name → HasFronts p.held → HasFronts q.held
may_fronts p q name may fronts n file is = elim (same_name_or_not n name) [
  | inl here ↦ elim may.at [
    | inl same ↦ fronts n file (ap p.held here ∙ sym same ∙ ap q.held (sym here) ∙ is)
    | inr created ↦ new_front (q.held n) file (ap q.held here ∙ created) is
  ]
  | inr apart ↦ fronts n file (sym (may.others n apart) ∙ is)
]

module _ (old new : Stock) (name : ChunkName) (is : IsStock old) (may : MayCreate old.port new.port name) (unlent : old.port.lent name ≡ false) (taking : new.taking ≡ old.taking) (full : new.full ≡ old.full) where
  kept_hands : in_hand new ≡ in_hand old
  kept_hands =
      ap (λ (t : Takings). new.full ++ taking_list t) taking ∙ ap (λ (xs : List Chunk). xs ++ taking_list old.taking) full

  pub refused_stock : new.fresh ≡ true → IsStock new
  refused_stock fresh = record {
    once = subst AreOnce (sym kept_hands) is.once;
    out = subst (AreOut new.port) (sym kept_hands) (outs old.port new.port (out_may old.port new.port name may unlent) (in_hand old) is.out);
    foreign = λ n. may.foreign n ∙ is.foreign n;
    gone = λ n. may.gone n ∙ is.gone n;
    front = may_fronts old.port new.port name may is.front;
    named = λ stale. absurd (false≢true (sym stale ∙ fresh));
  }

  same_hands : (n : ChunkName) → file_among (in_hand new) n ≡ file_among (in_hand old) n
  same_hands n = ap (λ (xs : List Chunk). file_among xs n) kept_hands

  pub refused_files : SameAt (files_of old) (files_of new) ⊎ ChangesAt (files_of old) (files_of new) name (Some new_file)
  refused_files = elim may.at [
    | inl same ↦
        inl (seen_same (file_among (in_hand old)) (file_among (in_hand new)) old.port.held new.port.held same_hands
        (λ n. elim (same_name_or_not n name) [
          | inl here ↦ ap new.port.held here ∙ same ∙ ap old.port.held (sym here)
          | inr apart ↦ may.others n apart
        ]))
    | inr created ↦
        inr (record {
          at =
              ap (λ (o : Option FileState). either_file o (new.port.held name)) (same_hands name ∙ unlent_none old.port (in_hand old) is.out name unlent)
              ∙ created;
          others = λ n apart.
              ap (λ (o : Option FileState). either_file o (new.port.held n)) (same_hands n)
              ∙ ap (λ (o : Option FileState). either_file (file_among (in_hand old) n) o) (may.others n apart);
        })
  ]

  pub refused_lends : (others : Names) → LendsBut others old → LendsBut others new
  refused_lends others lends n lent =
      ap (λ (o : Option FileState). is_some o || others n) (same_hands n) ∙ lends n (sym (may.lent n) ∙ lent)

-- how the full ones are counted
pub gains_some : (full kept_full now : List Chunk) (o : Option Chunk) (before filled : Chunk) → kept_full ≡ full → o ≡ Some before → filled ≡ before → JoinsFull kept_full now filled → GainsFull full now o
gains_some full kept_full now o before filled kept is same joins =
    subst (GainsFull full now) (sym is)
    (subst (λ (c : Chunk). JoinsFull full now c) same (subst (λ (xs : List Chunk). JoinsFull xs now filled) kept joins))

pub gains_none : (full now : List Chunk) (o : Option Chunk) → now ≡ full → o ≡ None → GainsFull full now o
gains_none full now o kept is = subst (GainsFull full now) (sym is) kept

pub may_of : {T : Type 0} (r : Result T FolderRefusal) (f : FolderRefusal) (p q : Port) (name : ChunkName) → r ≡ Err f → f ≡ Fault → BeginsAt r p q name → MayCreate p q name
may_of {T} r f p q name is fault begins =
    subst (λ (x : Result T FolderRefusal). BeginsAt x p q name) (is ∙ ap (λ (x : FolderRefusal). Err x) fault) begins

-- ---- an append

appends_name : (tells : Bool) (r : Result ℕ FolderRefusal) (c d : Chunk) (bytes : List ℕ) → Appends tells r c d bytes → d.name ≡ c.name
appends_name tells (Ok offset) c d bytes h = h.1.name
appends_name tells (Err Fault) c d bytes h = h.name
appends_name tells (Err Memory) c d bytes h = h.name

with_bytes_fits : (f g : FileState) (bytes : List ℕ) → g ≡ with_bytes f bytes → IsFile f → IsFile g
with_bytes_fits f g bytes e is_file = subst IsFile (sym e) (omega (arith, length-append f.bytes bytes))

appends_file : (tells : Bool) (r : Result ℕ FolderRefusal) (c d : Chunk) (bytes : List ℕ) → tells ≡ true → Appends tells r c d bytes → IsFile c.file → IsFile d.file
appends_file tells (Ok offset) c d bytes told h is_file = with_bytes_fits c.file d.file bytes (h.1.file told) is_file
appends_file tells (Err Fault) c d bytes told h is_file = with_bytes_fits c.file d.file (take (h.file told).0 bytes) (h.file told).1 is_file
appends_file tells (Err Memory) c d bytes told h is_file = subst IsFile (sym (h.file told)) is_file

appends_named : (tells : Bool) (r : Result ℕ FolderRefusal) (c d : Chunk) (bytes : List ℕ) → tells ≡ true → Appends tells r c d bytes → d.file.named ≡ c.file.named
appends_named tells (Ok offset) c d bytes told h = ap (λ (f : FileState). f.named) (h.1.file told)
appends_named tells (Err Fault) c d bytes told h = ap (λ (f : FileState). f.named) (h.file told).1
appends_named tells (Err Memory) c d bytes told h = ap (λ (f : FileState). f.named) (h.file told)

appends_synced : (tells : Bool) (r : Result ℕ FolderRefusal) (c d : Chunk) (bytes : List ℕ) → tells ≡ true → Appends tells r c d bytes → (c.unsynced ≡ false → c.file.front ≡ length c.file.bytes) → d.unsynced ≡ false → d.file.front ≡ length d.file.bytes
appends_synced tells (Ok offset) c d bytes told h was idle = absurd (false≢true (sym idle ∙ h.1.unsynced))
appends_synced tells (Err Fault) c d bytes told h was idle = absurd (false≢true (sym idle ∙ h.unsynced))
appends_synced tells (Err Memory) c d bytes told h was idle =
    subst (λ (f : FileState). f.front ≡ length f.bytes) (sym (h.file told)) (was (sym h.unsynced ∙ idle))

fits_some : (o : Option Chunk) (c : Chunk) (len limit : ℕ) → o ≡ Some c → taking_fits o len limit ≡ true → fits c.size len limit ≡ true
fits_some o c len limit is room = subst (λ (x : Option Chunk). taking_fits x len limit ≡ true) is room

module _ (tells : Bool) (told : tells ≡ true) (r : Result ℕ FolderRefusal) (old new : Stock) (class : Class) (bytes : List ℕ) (is : IsStock old) (same : SamePort old.port new.port) (appends : AppendsIn tells r old.taking new.taking class bytes) (full : new.full ≡ old.full) (fresh : new.fresh ≡ old.fresh) where
  abbrev c : Chunk
  c = appends.one.chunk

  abbrev d : Chunk
  d = appends.one.after

  abbrev base : List Chunk
  base = old.full ++ ((between old.taking class).before ++ (between old.taking class).after)

  adds_in : (x : Chunk) (xs : List Chunk) → xs ≡ old.full ++ ((between old.taking class).before ++ (x ∷ (between old.taking class).after)) → Adds x base xs
  adds_in x xs e = record {
    before = old.full ++ (between old.taking class).before;
    after = (between old.taking class).after;
    beside = sym (append_assoc old.full (between old.taking class).before (between old.taking class).after);
    is = e ∙ sym (append_assoc old.full (between old.taking class).before (x ∷ (between old.taking class).after));
  }

  before : Adds c base (in_hand old)
  before =
      adds_in c (in_hand old)
      (ap (λ (xs : List Chunk). old.full ++ xs) (list_now old.taking class)
      ∙ ap (λ (o : Option Chunk). old.full ++ ((between old.taking class).before ++ (option_to_list o ++ (between old.taking class).after))) appends.one.was)

  after : Adds d base (in_hand new)
  after =
      adds_in d (in_hand new)
      (ap (λ (xs : List Chunk). xs ++ taking_list new.taking) full
      ∙ ap (λ (t : Takings). old.full ++ taking_list t) appends.is
      ∙ ap (λ (o : Option Chunk). old.full ++ taking_list (with_class old.taking class o)) appends.one.is
      ∙ ap (λ (xs : List Chunk). old.full ++ xs) ((between old.taking class).with (Some d)))

  same_name : d.name ≡ c.name
  same_name = appends_name tells r c d bytes appends.one.appends

  one_out : IsOut old.port c
  one_out = out_one old.port c base (in_hand old) before is.out

  hands_changed : ChangesAt (file_among (in_hand old)) (file_among (in_hand new)) c.name (Some d.file)
  hands_changed = adds_other c d base (in_hand old) (in_hand new) same_name before after is.once

  changed : ChangesAt (files_of old) (files_of new) c.name (Some d.file)
  changed = seen_changes (file_among (in_hand old)) (file_among (in_hand new)) old.port.held new.port.held c.name d.file hands_changed same.held

  found_here : files_of old c.name ≡ Some c.file
  found_here =
      let found = (adds_files c base (in_hand old) before (none_base c base (in_hand old) before is.once)).at in
      ap (λ (o : Option FileState). either_file o (old.port.held c.name)) found

  extends : (piece : List ℕ) → d.file ≡ with_bytes c.file piece → fits c.size (length bytes) MAX_CHUNK_LIMIT ≡ true → Extends (files_of old) (files_of new) c.name bytes piece
  extends piece e room = record {
    file = c.file;
    was = found_here;
    room = subst (λ (size : ℕ). fits size (length bytes) MAX_CHUNK_LIMIT ≡ true) (appends.one.sized told) room;
    changes = subst (λ (f : FileState). ChangesAt (files_of old) (files_of new) c.name (Some f)) e changed;
  }

  kept_same : d.file ≡ c.file → SameAt (files_of old) (files_of new)
  kept_same e n = elim (same_name_or_not n c.name) [
    | inl here ↦ ap (files_of new) here ∙ changed.at ∙ ap (λ (f : FileState). Some f) e ∙ sym (ap (files_of old) here ∙ found_here)
    | inr apart ↦ changed.others n apart
  ]

  extends_by : (q : Result ℕ FolderRefusal) → Appends tells q c d bytes → fits c.size (length bytes) MAX_CHUNK_LIMIT ≡ true → ExtendsFile q (files_of old) (files_of new) c.name bytes
  extends_by (Ok offset) h room = extends bytes (h.1.file told) room
  extends_by (Err Fault) h room = ((h.file told).0, extends (take (h.file told).0 bytes) (h.file told).1 room)
  extends_by (Err Memory) h room = kept_same (h.file told)

  pub appended_files : taking_fits (of_class old.taking class) (length bytes) MAX_CHUNK_LIMIT ≡ true → IfSome (of_class old.taking class) (λ x. ExtendsFile r (files_of old) (files_of new) x.name bytes)
  appended_files room =
      subst (λ (o : Option Chunk). IfSome o (λ x. ExtendsFile r (files_of old) (files_of new) x.name bytes)) (sym appends.one.was)
      (extends_by r appends.one.appends (fits_some (of_class old.taking class) c (length bytes) MAX_CHUNK_LIMIT appends.one.was room))

  changed_names : HasNames (files_of old) → HasNames (files_of new)
  changed_names names n file there = elim (same_name_or_not n c.name) [
    | inl here ↦
        let e : d.file ≡ file = let e : Some d.file ≡ Some file = sym changed.at ∙ ap (files_of new) (sym here) ∙ there in cc in
        ap (λ (f : FileState). f.named) (sym e) ∙ appends_named tells r c d bytes told appends.one.appends ∙ names c.name c.file found_here
    | inr apart ↦ names n file (sym (changed.others n apart) ∙ there)
  ]

  after_out : IsOut new.port d
  after_out =
      let moved = out_same old.port new.port same c one_out in record {
        file = appends_file tells r c d bytes told appends.one.appends one_out.file;
        synced = appends_synced tells r c d bytes told appends.one.appends one_out.synced;
        lent = ap new.port.lent same_name ∙ moved.lent;
        held = ap new.port.held same_name ∙ moved.held;
        fixable = ap (can_be_fixed new.port) same_name ∙ moved.fixable;
      }

  pub appended_stock : IsStock new
  appended_stock =
      let none = none_base c base (in_hand old) before is.once in record {
        once = adds_once d base (in_hand new) after (once_base c base (in_hand old) before is.once) (ap (file_among base) same_name ∙ none);
        out = out_adds new.port d base (in_hand new) after (outs old.port new.port (out_same old.port new.port same) base (out_base old.port c base (in_hand old) before is.out)) after_out;
        foreign = λ n. same.foreign n ∙ is.foreign n;
        gone = λ n. same.gone n ∙ is.gone n;
        front = same_fronts old.port.held new.port.held same.held is.front;
        named = λ stale. changed_names (is.named (sym fresh ∙ stale));
      }

  found_still : (n : ChunkName) → is_in_hand new n ≡ is_in_hand old n
  found_still n = elim (same_name_or_not n c.name) [
    | inl here ↦
        let was = (adds_files c base (in_hand old) before (none_base c base (in_hand old) before is.once)).at in
        ap (λ (m : ChunkName). is_some (file_among (in_hand new) m)) here ∙ ap is_some hands_changed.at ∙ sym (ap (λ (m : ChunkName). is_some (file_among (in_hand old) m)) here ∙ ap is_some was)
    | inr apart ↦ ap is_some (hands_changed.others n apart)
  ]

  pub appended_lends : (others : Names) → LendsBut others old → LendsBut others new
  appended_lends others lends n lent = ap (λ (b : Bool). b || others n) (found_still n) ∙ lends n (sym (same.lent n) ∙ lent)

-- ---- chunks that keep their names

-- the chunks in hand, each as it was or synced
pub hands_zip : (R : Chunk → Chunk → Type 0) (old new : Stock) → AllZip R old.full new.full → EachTaking R old.taking new.taking → AllZip R (in_hand old) (in_hand new)
hands_zip R old new full taking =
    zip_append R old.full new.full (taking_list old.taking) (taking_list new.taking) full (each_zip R old.taking new.taking taking)

keeps_of : (tells : Bool) (c d : Chunk) → IsChunkKept tells c d → KeepsChunk c d
keeps_of tells c d kept = record { name = kept.name; size = kept.size; torn = kept.torn }

each_weaker : (R Q : Chunk → Chunk → Type 0) → ((c d : Chunk) → R c d → Q c d) → (t u : Takings) → EachTaking R t u → EachTaking Q t u
each_weaker R Q weaker t u each = record {
  values = zip_weaker R Q weaker (option_to_list t.values) (option_to_list u.values) each.values;
  tombs = zip_weaker R Q weaker (option_to_list t.tombs) (option_to_list u.tombs) each.tombs;
  clears = zip_weaker R Q weaker (option_to_list t.clears) (option_to_list u.clears) each.clears;
}

pub keeps_hands : (R : Chunk → Chunk → Type 0) → ((c d : Chunk) → R c d → KeepsChunk c d) → (old new : Stock) → AllZip R old.full new.full → EachTaking R old.taking new.taking → KeepsHands old new
keeps_hands R weaker old new full taking = record {
  taking = each_class KeepsChunk old.taking new.taking (each_weaker R KeepsChunk weaker old.taking new.taking taking);
  full = zip_weaker R KeepsChunk weaker old.full new.full full;
}

pub kept_chunks : (tells : Bool) (c d : Chunk) → IsChunkKept tells c d → KeepsChunk c d
kept_chunks tells c d kept = record { name = kept.name; size = kept.size; torn = kept.torn }

keeps_then : (c d e : Chunk) → KeepsChunk c d → KeepsChunk d e → KeepsChunk c e
keeps_then c d e first second = record { name = second.name ∙ first.name; size = second.size ∙ first.size; torn = second.torn ∙ first.torn }

pub hands_then : (a b c : Stock) → KeepsHands a b → KeepsHands b c → KeepsHands a c
hands_then a b c first second = record {
  taking = λ class. zip_then KeepsChunk KeepsChunk KeepsChunk keeps_then (option_to_list (taking_in a class)) (option_to_list (taking_in b class)) (option_to_list (taking_in c class)) (first.taking class) (second.taking class);
  full = zip_then KeepsChunk KeepsChunk KeepsChunk keeps_then a.full b.full c.full first.full second.full;
}

-- at another port
pub hands_same : (a : Stock) (p : Port) → KeepsHands a (record { port = p; taking = a.taking; full = a.full; fresh = a.fresh })
hands_same a p = record {
  taking = λ class. zip_same KeepsChunk (λ c. record { name = refl; size = refl; torn = refl }) (option_to_list (taking_in a class));
  full = zip_same KeepsChunk (λ c. record { name = refl; size = refl; torn = refl }) a.full;
}

rises_to : (f g : FileState) → g ≡ f → KeepsMore f g
rises_to f g same = subst (λ (x : FileState). KeepsMore f x) (sym same) (keeps_same f)

rises_synced : (f : FileState) → IsFile f → KeepsMore f (synced_file f)
rises_synced f is_file = record { bytes = refl; front = is_file; named = λ named. named }

kept_rises : (tells : Bool) → tells ≡ true → (p : Port) (c d : Chunk) → IsChunkKept tells c d → IsOut p c → RisesTo c d
kept_rises tells told p c d is out = record {
  name = is.name;
  file = elim is.either [
    | inl as_was ↦ rises_to c.file d.file (as_was.file told)
    | inr after ↦ subst (λ (x : FileState). KeepsMore c.file x) (sym (after.file told)) (rises_synced c.file out.file)
  ];
}

synced_is_file : (f : FileState) → IsFile (synced_file f)
synced_is_file f = omega arith

kept_out : (tells : Bool) → tells ≡ true → (p q : Port) → SamePort p q → (c d : Chunk) → IsChunkKept tells c d → IsOut p c → IsOut q d
kept_out tells told p q same c d is out =
    let moved = out_same p q same c out in record {
      file = elim is.either [
        | inl as_was ↦ subst IsFile (sym (as_was.file told)) out.file
        | inr after ↦ subst IsFile (sym (after.file told)) (synced_is_file c.file)
      ];
      synced = λ idle. elim is.either [
        | inl as_was ↦ subst (λ (f : FileState). f.front ≡ length f.bytes) (sym (as_was.file told)) (out.synced (sym as_was.unsynced ∙ idle))
        | inr after ↦ subst (λ (f : FileState). f.front ≡ length f.bytes) (sym (after.file told)) refl
      ];
      lent = ap q.lent is.name ∙ moved.lent;
      held = ap q.held is.name ∙ moved.held;
      fixable = ap (can_be_fixed q) is.name ∙ moved.fixable;
    }

rose_names : (old new : Option FileState) (file : FileState) → Rises old new → ((f : FileState) → old ≡ Some f → f.named ≡ true) → new ≡ Some file → file.named ≡ true
rose_names None new file none names is = absurd (let e : None ≡ Some file = sym none ∙ is in cc)
rose_names (Some f) None file rises names is = absurd rises
rose_names (Some f) (Some g) file rises names is =
    let same : g ≡ file = cc in
    ap (λ (x : FileState). x.named) (sym same) ∙ rises.named (names f refl)

rises_names : (old new : Files) → EachRises old new → HasNames old → HasNames new
rises_names old new rises names n file is = rose_names (old n) (new n) file (rises n) (names n) is

module _ (old new : Stock) (zip : AllZip SameName (in_hand old) (in_hand new)) (lent : SameAt old.port.lent new.port.lent) where
  pub zip_lends : (others : Names) → LendsBut others old → LendsBut others new
  zip_lends others lends n out =
      ap (λ (b : Bool). b || others n) (found_alike (in_hand old) (in_hand new) zip n) ∙ lends n (sym (lent n) ∙ out)

module _ (tells : Bool) (told : tells ≡ true) (old new : Stock) (is : IsStock old) (same : SamePort old.port new.port) (zip : AllZip (IsChunkKept tells) (in_hand old) (in_hand new)) where
  kept_names : AllZip SameName (in_hand old) (in_hand new)
  kept_names = zip_weaker (IsChunkKept tells) SameName (λ c d kept. kept.name) (in_hand old) (in_hand new) zip

  pub kept_files : EachRises (files_of old) (files_of new)
  kept_files n =
      rises_beside (file_among (in_hand old) n) (file_among (in_hand new) n) (old.port.held n) (new.port.held n)
      (rises_among (in_hand old) (in_hand new) (outs_with old.port RisesTo (IsChunkKept tells) (kept_rises tells told old.port) (in_hand old) (in_hand new) zip is.out) n)
      (subst (λ (k : Option FileState). Rises (old.port.held n) k) (sym (same.held n)) (rises_same (old.port.held n)))
      (sym (found_alike (in_hand old) (in_hand new) kept_names n))

  pub kept_stock : new.fresh ≡ old.fresh → IsStock new
  kept_stock fresh = record {
    once = once_alike (in_hand old) (in_hand new) kept_names is.once;
    out = outs_zip old.port new.port (IsChunkKept tells) (kept_out tells told old.port new.port same) (in_hand old) (in_hand new) zip is.out;
    foreign = λ n. same.foreign n ∙ is.foreign n;
    gone = λ n. same.gone n ∙ is.gone n;
    front = same_fronts old.port.held new.port.held same.held is.front;
    named = λ stale. rises_names (files_of old) (files_of new) kept_files (is.named (sym fresh ∙ stale));
  }

  pub kept_lends : (others : Names) → LendsBut others old → LendsBut others new
  kept_lends = zip_lends old new kept_names same.lent

-- ---- a sync of bytes

pub each_same : (R : Chunk → Chunk → Type 0) → ((c : Chunk) → R c c) → (t : Takings) → EachTaking R t t
each_same R same t = record {
  values = zip_same R same (option_to_list t.values);
  tombs = zip_same R same (option_to_list t.tombs);
  clears = zip_same R same (option_to_list t.clears);
}

pub takings_kept : (tells : Bool) (r : Result (Unit {0}) FolderRefusal) (t u : Takings) → SyncsTakings tells r t u → EachTaking (IsChunkKept tells) t u
takings_kept tells (Ok done) t u each = each_weaker (IsSyncedFrom tells) (IsChunkKept tells) (kept_synced tells) t u each
takings_kept tells (Err e) t u each = each

pub full_kept : (tells : Bool) (xs ys : List Chunk) → AllZip (IsSyncedFrom tells) xs ys → AllZip (IsChunkKept tells) xs ys
full_kept tells xs ys zip = zip_weaker (IsSyncedFrom tells) (IsChunkKept tells) (kept_synced tells) xs ys zip

abbrev pub IsIdle : Chunk → Type 0
IsIdle c = c.unsynced ≡ false

zip_idle : (tells : Bool) (xs ys : List Chunk) → AllZip (IsSyncedFrom tells) xs ys → All IsIdle ys
zip_idle tells xs ys zip =
    zip_all (IsSyncedFrom tells) (λ c. Unit {0}) IsIdle (λ c d is _. is.unsynced) xs ys zip (λ k d inside. tt)

pub synced_idle : (tells : Bool) (r : Result (Unit {0}) FolderRefusal) (old new : Stock) → AllZip (IsSyncedFrom tells) old.full new.full → SyncsTakings tells r old.taking new.taking → OnOk r (All IsIdle (in_hand new))
synced_idle tells (Ok done) old new full taking = zip_idle tells (in_hand old) (in_hand new) (hands_zip (IsSyncedFrom tells) old new full taking)
synced_idle tells (Err e) old new full taking = tt

pub idle_full : (s : Stock) → All IsIdle (in_hand s) → All IsIdle s.full
idle_full s all = all_front IsIdle s.full (taking_list s.taking) all

pub idle_taking : (s : Stock) → All IsIdle (in_hand s) → All IsIdle (taking_list s.taking)
idle_taking s all = all_back IsIdle s.full (taking_list s.taking) all

abbrev stock_of : Port → Takings → List Chunk → Bool → Stock
stock_of port taking full fresh = record { port = port; taking = taking; full = full; fresh = fresh }

pub same_stock : (s : Stock) (port : Port) (taking : Takings) (full : List Chunk) → port ≡ s.port → taking ≡ s.taking → full ≡ s.full → stock_of port taking full s.fresh ≡ s
same_stock s port taking full e f h =
    ap (λ (x : Port). stock_of x taking full s.fresh) e ∙ ap (λ (x : Takings). stock_of s.port x full s.fresh) f ∙ ap (λ (x : List Chunk). stock_of s.port s.taking x s.fresh) h

-- ---- a sync of names

-- the chunk is the one before it, with a name that is durable, and a crash keeps all of its file
record Settles (c d : Chunk) : Type 0 where
  name : d.name ≡ c.name
  file : d.file ≡ named_file c.file
  front : c.file.front ≡ length c.file.bytes

marked_name : (b tells : Bool) (c d : Chunk) → IsTold tells (if b then marked c else c) d → KeepsChunk c d
marked_name true tells c d is = record { name = is.name; size = is.size; torn = is.torn }
marked_name false tells c d is = record { name = is.name; size = is.size; torn = is.torn }

pub marked_chunks : (tells : Bool) (fixed : Names) (c d : Chunk) → IsMarkedFrom tells fixed c d → KeepsChunk c d
marked_chunks tells fixed c d is = marked_name (fixed c.name) tells c d is

marked_idle : (b tells : Bool) (c d : Chunk) → IsTold tells (if b then marked c else c) d → IsIdle c → IsIdle d
marked_idle true tells c d is idle = is.unsynced ∙ idle
marked_idle false tells c d is idle = is.unsynced ∙ idle

pub idle_marked : (tells : Bool) (fixed : Names) (xs ys : List Chunk) → AllZip (IsMarkedFrom tells fixed) xs ys → All IsIdle xs → All IsIdle ys
idle_marked tells fixed xs ys zip all =
    zip_all (IsMarkedFrom tells fixed) IsIdle IsIdle (λ c d is idle. marked_idle (fixed c.name) tells c d is idle) xs ys zip all

marked_file : (b tells : Bool) (c d : Chunk) → b ≡ true → tells ≡ true → IsTold tells (if b then marked c else c) d → d.file ≡ named_file c.file
marked_file true tells c d fixed told is = is.file told
marked_file false tells c d fixed told is = absurd (false≢true fixed)

settles_file : (f g : FileState) → g ≡ named_file f → f.front ≡ length f.bytes → KeepsMore f g
settles_file f g e front = subst (λ (x : FileState). KeepsMore f x) (sym e) (record { bytes = refl; front = omega arith; named = λ named. refl })

settles_durable : (f g : FileState) → g ≡ named_file f → f.front ≡ length f.bytes → IsDurable g
settles_durable f g e front = subst IsDurable (sym e) (record { front = front; named = refl })

durable_file : (g : FileState) → IsDurable g → IsFile g
durable_file g durable = omega (arith, durable.front)

cond_durable : (b : Bool) (f : FileState) (o : Option FileState) → IsDurable f → IfSome o IsDurable → IfSome (if b then Some f else o) IsDurable
cond_durable true f o first second = first
cond_durable false f o first second = second

zip_with_out : (p : Port) (R Q : Chunk → Chunk → Type 0) (P : Chunk → Type 0) → ((c d : Chunk) → R c d → IsOut p c → P c → Q c d) → (xs ys : List Chunk) → AllZip R xs ys → AreOut p xs → All P xs → AllZip Q xs ys
zip_with_out p R Q P step [] [] zip out all = tt
zip_with_out p R Q P step [] (y ∷ ys) zip out all = absurd zip
zip_with_out p R Q P step (x ∷ xs) [] zip out all = absurd zip
zip_with_out p R Q P step (x ∷ xs) (y ∷ ys) zip out all =
    (step x y zip.0 out.0 (All-head P x xs all), zip_with_out p R Q P step xs ys zip.1 out.1 (All-tail P x xs all))

among_durable : (xs ys : List Chunk) → AllZip Settles xs ys → (n : ChunkName) → IfSome (file_among ys n) IsDurable
among_durable [] [] zip n = tt
among_durable [] (y ∷ ys) zip n = absurd zip
among_durable (x ∷ xs) [] zip n = absurd zip
among_durable (x ∷ xs) (y ∷ ys) zip n =
    cond_durable (is_name y.name n) y.file (file_among ys n) (settles_durable x.file y.file zip.0.file zip.0.front) (among_durable xs ys zip.1 n)

named_rises : (h : Option FileState) → Rises h (option_map named_file h)
named_rises None = refl
named_rises (Some f) = record { bytes = refl; front = omega arith; named = λ named. refl }

named_durable : (h : Option FileState) → ((f : FileState) → h ≡ Some f → f.front ≡ length f.bytes) → IfSome (option_map named_file h) IsDurable
named_durable None fronts = tt
named_durable (Some f) fronts = record { front = fronts f refl; named = refl }

either_durable : (p h : Option FileState) → IfSome p IsDurable → IfSome h IsDurable → IfSome (either_file p h) IsDurable
either_durable None h first second = second
either_durable (Some f) h first second = first

pub durable_at : (o : Option FileState) (file : FileState) → IfSome o IsDurable → o ≡ Some file → IsDurable file
durable_at o file durable is = subst (λ (x : Option FileState). IfSome x IsDurable) is durable

module _ (tells : Bool) (told : tells ≡ true) (old new : Stock) (is : IsStock old) (syncs : SyncsNames old.port new.port) (idle : All IsIdle (in_hand old)) (zip : AllZip (IsMarkedFrom tells new.port.fixed) (in_hand old) (in_hand new)) where
  settled_zip : AllZip Settles (in_hand old) (in_hand new)
  settled_zip =
      zip_with_out old.port (IsMarkedFrom tells new.port.fixed) Settles IsIdle
      (λ c d marked out quiet. record {
        name = (marked_chunks tells new.port.fixed c d marked).name;
        file = marked_file (new.port.fixed c.name) tells c d (fixed_synced old.port new.port syncs c out) told marked;
        front = out.synced quiet;
      })
      (in_hand old) (in_hand new) zip is.out idle

  names_zip : AllZip SameName (in_hand old) (in_hand new)
  names_zip = zip_weaker Settles SameName (λ c d settles. settles.name) (in_hand old) (in_hand new) settled_zip

  pub settled_files : EachRises (files_of old) (files_of new)
  settled_files n =
      rises_beside (file_among (in_hand old) n) (file_among (in_hand new) n) (old.port.held n) (new.port.held n)
      (rises_among (in_hand old) (in_hand new) (zip_weaker Settles RisesTo (λ c d settles. record { name = settles.name; file = settles_file c.file d.file settles.file settles.front }) (in_hand old) (in_hand new) settled_zip) n)
      (subst (λ (h : Option FileState). Rises (old.port.held n) h) (sym (syncs.held n)) (named_rises (old.port.held n)))
      (sym (found_alike (in_hand old) (in_hand new) names_zip n))

  pub settled_durable : AllDurable (files_of new)
  settled_durable n =
      either_durable (file_among (in_hand new) n) (new.port.held n) (among_durable (in_hand old) (in_hand new) settled_zip n)
      (subst (λ (h : Option FileState). IfSome h IsDurable) (sym (syncs.held n)) (named_durable (old.port.held n) (is.front n)))

  pub settled_stock : IsStock new
  settled_stock = record {
    once = once_alike (in_hand old) (in_hand new) names_zip is.once;
    out =
        outs_zip old.port new.port Settles
        (λ c d settles out.
        let durable = settles_durable c.file d.file settles.file settles.front in
        out_synced old.port new.port syncs c d settles.name (durable_file d.file durable) durable.front out)
        (in_hand old) (in_hand new) settled_zip is.out;
    foreign = λ n. syncs.foreign n ∙ is.foreign n;
    gone = λ n. syncs.gone n;
    front = λ n file held.
        (durable_at (new.port.held n) file (subst (λ (h : Option FileState). IfSome h IsDurable) (sym (syncs.held n)) (named_durable (old.port.held n) (is.front n))) held).front;
    named = λ stale n file there. (durable_at (files_of new n) file (settled_durable n) there).named;
  }

  pub settled_lends : (others : Names) → LendsBut others old → LendsBut others new
  settled_lends = zip_lends old new names_zip syncs.lent

-- ---- a whole sync

rises_pair : (x y z : Option FileState) → Rises x y → Rises y z → Rises x z
rises_pair None None z first second = second
rises_pair None (Some g) z first second = absurd cc
rises_pair (Some f) None z first second = absurd first
rises_pair (Some f) (Some g) None first second = absurd second
rises_pair (Some f) (Some g) (Some h) first second = record {
  bytes = second.bytes ∙ first.bytes;
  front = omega (arith, first.front, second.front);
  named = λ named. second.named (first.named named);
}

pub rises_then : (a b c : Files) → EachRises a b → EachRises b c → EachRises a c
rises_then a b c first second n = rises_pair (a n) (b n) (c n) (first n) (second n)

cond_file : (b : Bool) (g : FileState) (o : Option FileState) (f : FileState) → IsFile g → (o ≡ Some f → IsFile f) → (if b then Some g else o) ≡ Some f → IsFile f
cond_file true g o f first second is = let same : g ≡ f = cc in subst IsFile same first
cond_file false g o f first second is = second is

cond_front : (b : Bool) (g : FileState) (o : Option FileState) (f : FileState) → g.front ≡ length g.bytes → (o ≡ Some f → f.front ≡ length f.bytes) → (if b then Some g else o) ≡ Some f → f.front ≡ length f.bytes
cond_front true g o f first second is = let same : g ≡ f = cc in subst (λ (x : FileState). x.front ≡ length x.bytes) same first
cond_front false g o f first second is = second is

files_fit : (p h : Option FileState) → ((f : FileState) → p ≡ Some f → IsFile f) → ((f : FileState) → h ≡ Some f → IsFile f) → (f : FileState) → either_file p h ≡ Some f → IsFile f
files_fit None h first second f is = second f is
files_fit (Some g) h first second f is = first f is

among_file : (p : Port) (cs : List Chunk) → AreOut p cs → (n : ChunkName) (f : FileState) → file_among cs n ≡ Some f → IsFile f
among_file p [] out n f is = absurd cc
among_file p (c ∷ cs) out n f is = cond_file (is_name c.name n) c.file (file_among cs n) f out.0.file (among_file p cs out.1 n f) is

pub stock_files : (s : Stock) → IsStock s → IsPort s.port → (n : ChunkName) (f : FileState) → files_of s n ≡ Some f → IsFile f
stock_files s is port n f there =
    files_fit (file_among (in_hand s) n) (s.port.held n) (among_file s.port (in_hand s) is.out n) (port.held_fits n) f there

-- all is durable where nothing is to be synced
quiet_among : (p : Port) (cs : List Chunk) → AreOut p cs → All IsIdle cs → (n : ChunkName) (f : FileState) → file_among cs n ≡ Some f → f.front ≡ length f.bytes
quiet_among p [] out all n f is = absurd cc
quiet_among p (c ∷ cs) out all n f is =
    cond_front (is_name c.name n) c.file (file_among cs n) f (out.0.synced (All-head IsIdle c cs all)) (quiet_among p cs out.1 (All-tail IsIdle c cs all) n f) is

fronts_fit : (p h : Option FileState) → ((f : FileState) → p ≡ Some f → f.front ≡ length f.bytes) → ((f : FileState) → h ≡ Some f → f.front ≡ length f.bytes) → (f : FileState) → either_file p h ≡ Some f → f.front ≡ length f.bytes
fronts_fit None h first second f is = second f is
fronts_fit (Some g) h first second f is = first f is

durable_if : (o : Option FileState) → ((f : FileState) → o ≡ Some f → IsDurable f) → IfSome o IsDurable
durable_if None durable = tt
durable_if (Some f) durable = durable f refl

pub quiet_durable : (s : Stock) → IsStock s → s.fresh ≡ false → All IsIdle (in_hand s) → AllDurable (files_of s)
quiet_durable s is fresh all n = durable_if (files_of s n) (λ f there. record {
  front = fronts_fit (file_among (in_hand s) n) (s.port.held n) (quiet_among s.port (in_hand s) is.out all n) (is.front n) f there;
  named = is.named fresh n f there;
})

-- ---- a full chunk that goes

last_true : (a b c : Bool) → c ≡ true → (a || (b || c)) ≡ true
last_true true b c e = refl
last_true false true c e = refl
last_true false false c e = e

first_two : (was a b c : Bool) → a ≡ was → (was || b) ≡ true → (a || (b || c)) ≡ true
first_two was true b c same holds = refl
first_two was false true c same holds = refl
first_two true false false c same holds = absurd (false≢true same)
first_two false false false c same holds = absurd (false≢true holds)

but_one : (was a b c : Bool) → a ≡ was → c ≡ false → (was || (b || c)) ≡ true → (a || b) ≡ true
but_one was true b c same none holds = refl
but_one was false true c same none holds = refl
but_one true false false c same none holds = absurd (false≢true same)
but_one false false false c same none holds = sym none ∙ holds

lent_foreign : (foreign lent : Bool) → foreign ≡ false → lent ≡ true → (foreign || not lent) ≡ false
lent_foreign true lent e f = e
lent_foreign false true e f = refl
lent_foreign false false e f = absurd (false≢true f)

given_foreign : (foreign found lent : Bool) → foreign ≡ false → (found ≡ true → lent ≡ true) → (foreign || (found && not lent)) ≡ false
given_foreign true found lent e f = e
given_foreign false false lent e f = refl
given_foreign false true true e f = refl
given_foreign false true false e f = absurd (false≢true (f refl))

none_either : (b : Bool) (o : Option FileState) → o ≡ None → (if b then None else o) ≡ None
none_either true o e = refl
none_either false o e = e

other_true : (a b : Bool) → not a ≡ true → (a || b) ≡ true → b ≡ true
other_true true b none holds = absurd (false≢true none)
other_true false b none holds = holds

first_none : (p h : Option FileState) → either_file p h ≡ None → p ≡ None
first_none None h e = refl
first_none (Some f) h e = absurd cc

module _ (old new : Stock) (c : Chunk) (is : IsStock old) (port : new.port ≡ old.port) (full : old.full ≡ c ∷ new.full) (taking : new.taking ≡ old.taking) (fresh : new.fresh ≡ old.fresh) where
  with_it : Adds c (in_hand new) (in_hand old)
  with_it = record {
    before = [];
    after = in_hand new;
    beside = refl;
    is = ap (λ (t : Takings). old.full ++ taking_list t) (sym taking) ∙ ap (λ (xs : List Chunk). xs ++ taking_list new.taking) full;
  }

  was_out : IsOut old.port c
  was_out = out_one old.port c (in_hand new) (in_hand old) with_it is.out

  gone_name : file_among (in_hand new) c.name ≡ None
  gone_name = none_base c (in_hand new) (in_hand old) with_it is.once

  hands_less : ChangesAt (file_among (in_hand new)) (file_among (in_hand old)) c.name (Some c.file)
  hands_less = adds_files c (in_hand new) (in_hand old) with_it gone_name

  pub out_file : files_of old c.name ≡ Some c.file
  out_file = ap (λ (o : Option FileState). either_file o (old.port.held c.name)) hands_less.at

  pub out_lent : new.port.lent c.name ≡ true
  out_lent = ap (λ (p : Port). p.lent c.name) port ∙ was_out.lent

  pub out_files : ChangesAt (files_of old) (files_of new) c.name None
  out_files = record {
    at = ap (λ (o : Option FileState). either_file o (new.port.held c.name)) gone_name ∙ ap (λ (p : Port). p.held c.name) port ∙ was_out.held;
    others = λ n apart.
        ap (λ (o : Option FileState). either_file o (new.port.held n)) (sym (hands_less.others n apart))
        ∙ ap (λ (p : Port). either_file (file_among (in_hand old) n) (p.held n)) port;
  }

  pub out_stock : IsStock new
  out_stock = record {
    once = once_base c (in_hand new) (in_hand old) with_it is.once;
    out = subst (λ (p : Port). AreOut p (in_hand new)) (sym port) (out_base old.port c (in_hand new) (in_hand old) with_it is.out);
    foreign = λ n. ap (λ (p : Port). p.foreign n) port ∙ is.foreign n;
    gone = λ n. ap (λ (p : Port). p.gone n) port ∙ is.gone n;
    front = λ n file held. is.front n file (sym (ap (λ (p : Port). p.held n) port) ∙ held);
    named = λ stale n file there. elim (same_name_or_not n c.name) [
      | inl here ↦ absurd (let e : None ≡ Some file = sym (ap (files_of new) here ∙ out_files.at) ∙ there in cc)
      | inr apart ↦ is.named (sym fresh ∙ stale) n file (sym (out_files.others n apart) ∙ there)
    ];
  }

  pub out_durable : old.fresh ≡ false → c.unsynced ≡ false → IsDurable c.file
  out_durable stale idle = record { front = was_out.synced idle; named = is.named stale c.name c.file out_file }

  pub out_lends : (others : Names) → LendsBut others old → LendsBut (λ n. others n || is_name c.name n) new
  out_lends others lends n lent =
      let was = lends n (sym (ap (λ (p : Port). p.lent n) port) ∙ lent) in
      elim (cases_Bool (is_name c.name n)) [
        | inl here ↦ last_true (is_in_hand new n) (others n) (is_name c.name n) here
        | inr past ↦
            first_two (is_in_hand old n) (is_in_hand new n) (others n) (is_name c.name n)
            (ap is_some (sym (hands_less.others n (λ e. is_name-false c.name n past (sym e))))) was
      ]

pub idle_first : (s : Stock) (c : Chunk) (rest : List Chunk) → s.full ≡ c ∷ rest → All IsIdle (in_hand s) → c.unsynced ≡ false
idle_first s c rest e all = All-head IsIdle c rest (subst (λ (xs : List Chunk). All IsIdle xs) e (idle_full s all))

-- the first full chunk was taken, where there is one
pub popped_stock : (s : Stock) (full : List Chunk) (o : Option Chunk) → s.full ≡ option_to_list o ++ full → IsStock s → IsStock (stock_of s.port s.taking full s.fresh)
popped_stock s full None e is = subst (λ (xs : List Chunk). IsStock (stock_of s.port s.taking xs s.fresh)) e is
popped_stock s full (Some c) e is = out_stock s (stock_of s.port s.taking full s.fresh) c is refl e refl refl

-- ---- a file that comes back

module _ (old new : Stock) (name : ChunkName) (file : FileState) (is : IsStock old) (gives : Gives old.port new.port name file) (full : new.full ≡ old.full) (taking : new.taking ≡ old.taking) (none : files_of old name ≡ None) where
  back_hands : in_hand new ≡ in_hand old
  back_hands = ap (λ (t : Takings). new.full ++ taking_list t) taking ∙ ap (λ (xs : List Chunk). xs ++ taking_list old.taking) full

  back_among : (n : ChunkName) → file_among (in_hand new) n ≡ file_among (in_hand old) n
  back_among n = ap (λ (xs : List Chunk). file_among xs n) back_hands

  none_back : file_among (in_hand old) name ≡ None
  none_back = first_none (file_among (in_hand old) name) (old.port.held name) none

  pub back_files : ChangesAt (files_of old) (files_of new) name (Some file)
  back_files = record {
    at = ap (λ (o : Option FileState). either_file o (new.port.held name)) (back_among name ∙ none_back) ∙ gives.held.at;
    others = λ n apart.
        ap (λ (o : Option FileState). either_file o (new.port.held n)) (back_among n)
        ∙ ap (λ (o : Option FileState). either_file (file_among (in_hand old) n) o) (gives.held.others n apart);
  }

  pub back_stock : old.port.lent name ≡ true → IsDurable file → new.fresh ≡ old.fresh → IsStock new
  back_stock lent durable fresh = record {
    once = subst AreOnce (sym back_hands) is.once;
    out = subst (AreOut new.port) (sym back_hands) (outs_given old.port new.port name file gives (in_hand old) none_back is.out);
    foreign = λ n. elim (same_name_or_not n name) [
      | inl here ↦ ap new.port.foreign here ∙ gives.foreign.at ∙ lent_foreign (old.port.foreign name) (old.port.lent name) (is.foreign name) lent
      | inr apart ↦ gives.foreign.others n apart ∙ is.foreign n
    ];
    gone = λ n. elim (same_name_or_not n name) [
      | inl here ↦ ap new.port.gone here ∙ gives.gone.at
      | inr apart ↦ gives.gone.others n apart ∙ is.gone n
    ];
    front = λ n f held. elim (same_name_or_not n name) [
      | inl here ↦
          let e : file ≡ f = let e : Some file ≡ Some f = sym gives.held.at ∙ ap new.port.held (sym here) ∙ held in cc in
          subst (λ (x : FileState). x.front ≡ length x.bytes) e durable.front
      | inr apart ↦ is.front n f (sym (gives.held.others n apart) ∙ held)
    ];
    named = λ stale n f there. elim (same_name_or_not n name) [
      | inl here ↦
          let e : file ≡ f = let e : Some file ≡ Some f = sym back_files.at ∙ ap (files_of new) (sym here) ∙ there in cc in
          subst (λ (x : FileState). x.named ≡ true) e durable.named
      | inr apart ↦ is.named (sym fresh ∙ stale) n f (sym (back_files.others n apart) ∙ there)
    ];
  }

  pub back_lends : (others : Names) → LendsBut (λ n. others n || is_name name n) old → LendsBut others new
  back_lends others lends n lent = elim (same_name_or_not n name) [
    | inl here ↦ absurd (false≢true (sym (ap new.port.lent here ∙ gives.lent.at) ∙ lent))
    | inr apart ↦
        but_one (is_in_hand old n) (is_in_hand new n) (others n) (is_name name n) (ap is_some (back_among n)) (is_name-other name n (λ e. apart (sym e)))
        (lends n (sym (gives.lent.others n apart) ∙ lent))
  ]

-- ---- all that comes back at the end

module _ (s : Stock) (q : Port) (is : IsStock s) (gives : GivesEach s.port q (in_hand s)) where
  pub closed_lends : (others : Names) → LendsBut others s → (n : ChunkName) → q.lent n ≡ true → others n ≡ true
  closed_lends others lends n lent =
      let parts = and_parts (s.port.lent n) (not (is_in_hand s n)) (sym (gives.lent n) ∙ lent) in
      other_true (is_in_hand s n) (others n) parts.1 (lends n parts.0)

  pub closed_calm : (n : ChunkName) → (q.foreign n ≡ false) × (q.gone n ≡ None)
  closed_calm n = (
    gives.foreign n ∙ given_foreign (s.port.foreign n) (is_in_hand s n) (s.port.lent n) (is.foreign n) (λ found. (found_out s.port (in_hand s) is.out n found).0),
    gives.gone n ∙ none_either (is_in_hand s n) (s.port.gone n) (is.gone n),
  )
