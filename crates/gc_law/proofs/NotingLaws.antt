-- Each step of a writer keeps its facts.
use Rattle.std.specs.Prelude.{◌≡◌, ◌≢◌, ◌⊎◌, ℕ, ◌<◌, Bool, true, false, cond, List, [], ◌∷◌, ◌++◌, length, take, All, Contains, Option, Some, None, if◌then◌else◌, refl}
use Rattle.std.proofs.Common.{sym, ◌∙◌, ap, subst, inl, inr, arith, append_assoc, true≢false}
use Rattle.std.specs.List.{AllByRecursion}
use Rattle.std.proofs.lemmas.List.{append-nil, nil_from_length}
use Rattle.std.proofs.lemmas.List.Elements.{All-push, All-weaker, All-from_recursion, recursion_from_All, Contains-append_right}
use Rattle.hr_base.specs.declared.name.ChunkName.{ChunkName}
use Rattle.hr_base.specs.Entries.{Entries}
use Rattle.hr_base.specs.NameTests.{is_name}
use Rattle.hr_base.proofs.NameTestLaws.{is_name-true, same_name_or_not}
use Rattle.dir_files.specs.Files.{FileState, Files, Rises}
use Rattle.record_format.specs.declared.record.Record.{Record}
use Rattle.record_format.specs.Spelling.{seq_of, spelling}
use Rattle.crash_law.specs.Accounts.{Account, answered, refused}
use Rattle.crash_law.specs.Commands.{Command, command_of, is_written, maps_after, maps_after_all}
use Rattle.crash_law.specs.Numbered.{Rising, commands_of}
use Rattle.crash_law.specs.Placed.{Placed, records_of, in_chunk, IsPlaced}
use Rattle.crash_law.specs.Growth.{IsOwnBut, HoldsBut, PartRises}
use Rattle.crash_law.specs.Writers.{Written, CreatesFile, NotesRecord, AppendsRecord, LosesRecord, KeepsRecords, IsWholeIn}
use Rattle.crash_law.proofs.CommandLaws.{maps_after-unwritten}
use Rattle.crash_law.proofs.PlacedLaws.{in_chunk-append}
use Rattle.crash_law.proofs.GrowthLaws.{holds_more, holds_torn, holds_lost, holds_new, holds_risen, holds_whole, in_chunk-push_other}
use Rattle.crash_law.proofs.WriterLaws.{Rising-push, records_of-append, commands_of-append, maps_after_all-push, written_tail, unwritten_tail, whole_in}
use Rattle.gc_law.specs.Events.{NotedEvent, notes, seal_of, placed_of, IsTelling}
use Rattle.gc_law.specs.WriterFacts.{IsWritersAt, AreOfPart, Tells}
use Rattle.gc_law.proofs.EventLaws.{none_some}

-- ---- the records of chunks without a Seal

abbrev pub lacks : Option FileState → Bool
lacks None = true
lacks (Some file) = false

abbrev pub open_of : List NotedEvent → List Placed → List Placed
open_of es [] = []
open_of es (x ∷ xs) = cond (lacks (seal_of es x.chunk)) (x ∷ open_of es xs) (open_of es xs)

open_by : (es : List NotedEvent) (name : ChunkName) (x : Placed) (zs xs : List Placed) (b c : Bool) → lacks (seal_of es x.chunk) ≡ b → is_name name x.chunk ≡ c → seal_of es name ≡ None
    → in_chunk name zs ≡ in_chunk name xs → in_chunk name (cond b (x ∷ zs) zs) ≡ cond c (x.content ∷ in_chunk name xs) (in_chunk name xs)
open_by es name x zs xs true c e same free later =
    ap (λ (k : Bool). cond k (x.content ∷ in_chunk name zs) (in_chunk name zs)) same ∙ ap (λ (rs : List Record). cond c (x.content ∷ rs) rs) later
open_by es name x zs xs false true e same free later =
    absurd (true≢false (sym (ap (λ (n : ChunkName). lacks (seal_of es n)) (sym (is_name-true name x.chunk same)) ∙ ap lacks free) ∙ e))
open_by es name x zs xs false false e same free later = later

in_open : (es : List NotedEvent) (name : ChunkName) (xs : List Placed) → seal_of es name ≡ None → in_chunk name (open_of es xs) ≡ in_chunk name xs
in_open es name [] free = refl
in_open es name (x ∷ xs) free = open_by es name x (open_of es xs) xs (lacks (seal_of es x.chunk)) (is_name name x.chunk) refl refl free (in_open es name xs free)

closed_by : (es : List NotedEvent) (name : ChunkName) (x : Placed) (zs : List Placed) (f : FileState) (b c : Bool) → lacks (seal_of es x.chunk) ≡ b → is_name name x.chunk ≡ c → seal_of es name ≡ Some f
    → in_chunk name zs ≡ [] → in_chunk name (cond b (x ∷ zs) zs) ≡ []
closed_by es name x zs f true true e same sealed later =
    absurd (true≢false (sym e ∙ (ap (λ (n : ChunkName). lacks (seal_of es n)) (sym (is_name-true name x.chunk same)) ∙ ap lacks sealed)))
closed_by es name x zs f true false e same sealed later =
    ap (λ (k : Bool). cond k (x.content ∷ in_chunk name zs) (in_chunk name zs)) same ∙ later
closed_by es name x zs f false c e same sealed later = later

in_closed : (es : List NotedEvent) (name : ChunkName) (xs : List Placed) (f : FileState) → seal_of es name ≡ Some f → in_chunk name (open_of es xs) ≡ []
in_closed es name [] f sealed = refl
in_closed es name (x ∷ xs) f sealed =
    closed_by es name x (open_of es xs) f (lacks (seal_of es x.chunk)) (is_name name x.chunk) refl refl sealed (in_closed es name xs f sealed)

open_placed : (p : ℕ) (es : List NotedEvent) (xs ys : List Placed) → AllByRecursion (IsPlaced p) (xs ++ ys) → AllByRecursion (IsPlaced p) (open_of es xs ++ ys)
open_placed p es [] ys h = h
open_placed p es (x ∷ xs) ys h = by_test (lacks (seal_of es x.chunk)) (open_placed p es xs ys h.1) where
  by_test : (b : Bool) → AllByRecursion (IsPlaced p) (open_of es xs ++ ys) → AllByRecursion (IsPlaced p) (cond b (x ∷ open_of es xs) (open_of es xs) ++ ys)
  by_test true later = (h.0, later)
  by_test false later = later

nothing_joined : (xs ys : List Record) → xs ++ ys ≡ [] → ys ≡ []
nothing_joined [] ys e = e
nothing_joined (x ∷ xs) ys e = absurd (omega (arith, ap length e))

-- ---- files that hold them

module _ (w : Written) (es : List NotedEvent) (a : Account) (h : Tells w es a) where
  abbrev pub open_noted : List Placed
  open_noted = open_of es (placed_of (notes es))

  own_at : (name : ChunkName) (s : Option FileState) → seal_of es name ≡ s → IsWritersAt s (w.files name) (in_chunk name (placed_of (notes es))) (in_chunk name w.records) (in_chunk name h.lost)
      → IsOwnBut (w.files name) (in_chunk name open_noted) (in_chunk name (h.kept ++ h.lost)) (in_chunk name h.lost)
  own_at name None e at =
      subst (λ (rs : List Record). IsOwnBut (w.files name) rs (in_chunk name (h.kept ++ h.lost)) (in_chunk name h.lost)) (sym (in_open es name (placed_of (notes es)) e))
      (subst (λ (xs : List Placed). IsOwnBut (w.files name) (in_chunk name (placed_of (notes es))) (in_chunk name xs) (in_chunk name h.lost)) h.records at)
  own_at name (Some f) e at =
      let since : in_chunk name (h.kept ++ h.lost) ≡ [] = ap (in_chunk name) (sym h.records) ∙ at.1 in
      let lost : in_chunk name h.lost ≡ [] = nothing_joined (in_chunk name h.kept) (in_chunk name h.lost) (sym (in_chunk-append name h.kept h.lost) ∙ since) in
      subst (λ (o : Option FileState). IsOwnBut o (in_chunk name open_noted) (in_chunk name (h.kept ++ h.lost)) (in_chunk name h.lost)) (sym at.0)
      (in_closed es name (placed_of (notes es)) f e, since ∙ sym lost)

  pub tells_holds : HoldsBut w.partition (λ name. None) w.files w.gone open_noted h.kept h.lost
  tells_holds = record {
    placed =
        All-from_recursion (IsPlaced w.partition) (open_noted ++ (h.kept ++ h.lost))
        (open_placed w.partition es (placed_of (notes es)) (h.kept ++ h.lost)
        (recursion_from_All (IsPlaced w.partition) (placed_of (notes es) ++ (h.kept ++ h.lost))
        (subst (λ (xs : List Placed). All (IsPlaced w.partition) (placed_of (notes es) ++ xs)) h.records h.placed)));
    at = λ name of. own_at name (seal_of es name) refl (h.at name of);
    none_gone = λ name of. h.none_gone name;
  }

  sealed_by : (name : ChunkName) (s : Option FileState) (f : FileState) → IsWritersAt s (w.files name) (in_chunk name (placed_of (notes es))) (in_chunk name w.records) (in_chunk name h.lost)
      → s ≡ Some f → (w.files name ≡ None) × (in_chunk name w.records ≡ [])
  sealed_by name None f at e = absurd (none_some f e)
  sealed_by name (Some g) f at e = at

  -- the file of a Seal went away, and its chunk takes no record
  pub sealed_none : (name : ChunkName) (f : FileState) → name.partition.0 ≡ w.partition → seal_of es name ≡ Some f → (w.files name ≡ None) × (in_chunk name w.records ≡ [])
  sealed_none name f of e = sealed_by name (seal_of es name) f (h.at name of) e

  nothing_lost : w.lost ≡ false → h.lost ≡ []
  nothing_lost whole = nil_from_length h.lost (h.one_lost ∙ ap (λ (x : Bool). if x then 1 else 0) whole)

  all_kept : w.lost ≡ false → h.kept ≡ w.records
  all_kept whole = sym (h.records ∙ ap (λ (xs : List Placed). h.kept ++ xs) (nothing_lost whole) ∙ append-nil h.kept)

  pub tells_all : w.lost ≡ false → HoldsBut w.partition (λ name. None) w.files w.gone open_noted w.records []
  tells_all whole =
      subst (λ (xs : List Placed). HoldsBut w.partition (λ name. None) w.files w.gone open_noted xs []) (all_kept whole)
      (subst (λ (xs : List Placed). HoldsBut w.partition (λ name. None) w.files w.gone open_noted h.kept xs) (nothing_lost whole) tells_holds)

  pub tells_maps : w.lost ≡ false → a.maps ≡ maps_after_all (commands_of (records_of w.records)) a.durable
  tells_maps whole = h.maps ∙ ap (λ (xs : List Placed). maps_after_all (commands_of (records_of xs)) a.durable) (all_kept whole)

-- the facts of one name, again
pub writers_at : (p : ℕ) (es : List NotedEvent) (files gone : Files) (noted records kept lost : List Placed) → HoldsBut p (λ name. None) files gone (open_of es noted) kept lost → records ≡ kept ++ lost
    → ((name : ChunkName) (f : FileState) → name.partition.0 ≡ p → seal_of es name ≡ Some f → (files name ≡ None) × (in_chunk name records ≡ []))
    → (name : ChunkName) → name.partition.0 ≡ p → IsWritersAt (seal_of es name) (files name) (in_chunk name noted) (in_chunk name records) (in_chunk name lost)
writers_at p es files gone noted records kept lost holds is sealed name of = by_seal (seal_of es name) refl where
  by_seal : (s : Option FileState) → seal_of es name ≡ s → IsWritersAt s (files name) (in_chunk name noted) (in_chunk name records) (in_chunk name lost)
  by_seal (Some f) e = sealed name f of e
  by_seal None e =
      subst (λ (rs : List Record). IsOwnBut (files name) rs (in_chunk name records) (in_chunk name lost)) (in_open es name noted e)
      (subst (λ (xs : List Placed). IsOwnBut (files name) (in_chunk name (open_of es noted)) (in_chunk name xs) (in_chunk name lost)) (sym is) (holds.at name of))

-- ---- one more record

module _ (w t : Written) (es : List NotedEvent) (a : Account) (h : Tells w es a) (whole : w.lost ≡ false) (x : Placed) (free : seal_of es x.chunk ≡ None)
    (placed : IsPlaced w.partition x) (numbered : seq_of x.content ≡ w.next) (more : NotesRecord w t x)
    (others : (other : ChunkName) → other ≢ x.chunk → t.files other ≡ w.files other) where
  since_content : records_of t.records ≡ records_of w.records ++ x.content ∷ []
  since_content = ap records_of more.records ∙ records_of-append w.records (x ∷ [])

  more_tail : a.tail ++ command_of x.content ∷ [] ≡ commands_of (records_of t.records)
  more_tail =
      ap (λ (cs : List Command). cs ++ command_of x.content ∷ []) h.tail
      ∙ sym (commands_of-append w.records (x ∷ []))
      ∙ ap (λ (xs : List Placed). commands_of (records_of xs)) (sym more.records)

  more_maps : maps_after (command_of x.content) a.maps ≡ maps_after_all (commands_of (records_of t.records)) a.durable
  more_maps =
      ap (maps_after (command_of x.content)) (tells_maps w es a h whole)
      ∙ sym (maps_after_all-push (commands_of (records_of w.records)) (command_of x.content) a.durable)
      ∙ ap (λ (cs : List Command). maps_after_all cs a.durable) (sym (commands_of-append w.records (x ∷ [])))
      ∙ ap (λ (xs : List Placed). maps_after_all (commands_of (records_of xs)) a.durable) (sym more.records)

  of_part : AreOfPart t.partition t.files
  of_part name file e = by_name (same_name_or_not name x.chunk) where
    by_name : (name ≡ x.chunk) ⊎ (name ≢ x.chunk) → name.partition.0 ≡ t.partition
    by_name (inl same) = ap (λ (n : ChunkName). n.partition.0) same ∙ placed.partition ∙ sym more.partition
    by_name (inr differ) = h.partition name file (sym (others name differ) ∙ e) ∙ sym more.partition

  still_sealed : (name : ChunkName) (f : FileState) → name.partition.0 ≡ w.partition → seal_of es name ≡ Some f → (t.files name ≡ None) × (in_chunk name t.records ≡ [])
  still_sealed name f of e =
      let differ : name ≢ x.chunk = λ same. none_some f (sym free ∙ (ap (seal_of es) (sym same) ∙ e)) in
      let before = sealed_none w es a h name f of e in
      (others name differ ∙ before.0, ap (in_chunk name) more.records ∙ in_chunk-push_other x.chunk name w.records x.content differ ∙ before.1)

  pub tell_pushed : (m : Entries) (kept lost : List Placed) → t.records ≡ kept ++ lost → length lost ≡ (if t.lost then 1 else 0) → m ≡ t.maps
      → m ≡ maps_after_all (commands_of (records_of kept)) a.durable
      → HoldsBut w.partition (λ name. None) t.files w.gone (open_noted w es a h) kept lost
      → Tells t es (record { maps = m; durable = a.durable; tail = a.tail ++ command_of x.content ∷ [] })
  tell_pushed m kept lost records one_lost own_maps maps holds = record {
    telling = subst (λ (p : ℕ). IsTelling p es) (sym more.partition) h.telling;
    own_maps = own_maps;
    durable = h.durable;
    kept = kept;
    lost = lost;
    records = records;
    one_lost = one_lost;
    maps = maps;
    tail = more_tail;
    low = h.low;
    below = h.below;
    since =
        subst (λ (rs : List Record). Rising h.low rs) (sym since_content)
        (Rising-push h.low w.next (records_of w.records) x.content h.since h.below_next h.from numbered);
    from = omega (arith, h.from, more.next);
    below_next =
        subst (λ (rs : List Record). All (λ r. seq_of r < t.next) rs) (sym since_content)
        (All-push (λ r. seq_of r < t.next) (records_of w.records) x.content
        (All-weaker (λ r. seq_of r < w.next) (λ r. seq_of r < t.next) (λ r less. omega (arith, less, more.next)) (records_of w.records) h.below_next)
        (omega (arith, more.next, numbered)));
    placed =
        subst (λ (p : ℕ). All (IsPlaced p) (placed_of (notes es) ++ t.records)) (sym more.partition)
        (subst (λ (xs : List Placed). All (IsPlaced w.partition) xs) (append_assoc (placed_of (notes es)) w.records (x ∷ []) ∙ ap (λ (xs : List Placed). placed_of (notes es) ++ xs) (sym more.records))
        (All-push (IsPlaced w.partition) (placed_of (notes es) ++ w.records) x h.placed placed));
    dead = h.dead;
    partition = of_part;
    at = λ name of. writers_at w.partition es t.files w.gone (placed_of (notes es)) t.records kept lost holds records still_sealed name (of ∙ more.partition);
    none_gone = λ name. more.gone name ∙ h.none_gone name;
  }

-- its command was answered
pub tell_appended : (w t : Written) (es : List NotedEvent) (a : Account) (x : Placed) → Tells w es a → w.lost ≡ false → seal_of es x.chunk ≡ None → AppendsRecord w t x (spelling x.content) → t.lost ≡ false
    → t.maps ≡ maps_after (command_of x.content) w.maps → is_written (command_of x.content) w.maps ≡ true → Tells t es (answered a (command_of x.content))
tell_appended w t es a x h whole free appends none maps written =
    subst (λ (cs : List Command). Tells t es (record { maps = maps_after (command_of x.content) a.maps; durable = a.durable; tail = cs }))
    (written_tail (is_written (command_of x.content) a.maps) a.tail (command_of x.content) (ap (is_written (command_of x.content)) h.own_maps ∙ written))
    (tell_pushed w t es a h whole x free appends.placed appends.numbered appends.noted appends.files.others
    (maps_after (command_of x.content) a.maps) t.records [] (sym (append-nil t.records)) (sym (ap (λ (y : Bool). if y then 1 else 0) none))
    (ap (maps_after (command_of x.content)) h.own_maps ∙ sym maps)
    (more_maps w t es a h whole x free appends.placed appends.numbered appends.noted appends.files.others)
    (subst (λ (xs : List Placed). HoldsBut w.partition (λ name. None) t.files w.gone (open_noted w es a h) xs []) (sym appends.noted.records)
    (holds_more w.partition (λ name. None) w.files t.files w.gone (open_noted w es a h) w.records x.chunk x.content (tells_all w es a h whole) refl appends.placed appends.within appends.files)))

-- the disk took a front of its record
pub tell_torn : (w t : Written) (es : List NotedEvent) (a : Account) (x : Placed) (n : ℕ) → Tells w es a → w.lost ≡ false → seal_of es x.chunk ≡ None → AppendsRecord w t x (take n (spelling x.content)) → t.lost ≡ true
    → t.maps ≡ w.maps → Tells t es (refused a (command_of x.content))
tell_torn w t es a x n h whole free appends some maps =
    tell_pushed w t es a h whole x free appends.placed appends.numbered appends.noted appends.files.others
    a.maps w.records (x ∷ []) appends.noted.records (sym (ap (λ (y : Bool). if y then 1 else 0) some)) (h.own_maps ∙ sym maps) (tells_maps w es a h whole)
    (holds_torn w.partition (λ name. None) w.files t.files w.gone (open_noted w es a h) w.records x.chunk x.content (tells_all w es a h whole) refl appends.placed appends.within n appends.files)

-- the disk made no file for it
pub tell_lost : (w t : Written) (es : List NotedEvent) (a : Account) (x : Placed) → Tells w es a → w.lost ≡ false → seal_of es x.chunk ≡ None → LosesRecord w t x → t.lost ≡ true
    → t.maps ≡ w.maps → Tells t es (refused a (command_of x.content))
tell_lost w t es a x h whole free loses some maps =
    tell_pushed w t es a h whole x free loses.placed loses.numbered loses.noted loses.others
    a.maps w.records (x ∷ []) loses.noted.records (sym (ap (λ (y : Bool). if y then 1 else 0) some)) (h.own_maps ∙ sym maps) (tells_maps w es a h whole)
    (holds_lost w.partition (λ name. None) w.files t.files w.gone (open_noted w es a h) w.records x.chunk x.content (tells_all w es a h whole) refl loses.placed loses.none loses.may loses.others)

-- a command that changes nothing
pub tell_unwritten : (w : Written) (es : List NotedEvent) (a : Account) (c : Command) → Tells w es a → is_written c w.maps ≡ false → Tells w es (answered a c)
tell_unwritten w es a c h unwritten =
    subst (λ (m : Entries). Tells w es (record { maps = m; durable = a.durable; tail = if is_written c a.maps then a.tail ++ c ∷ [] else a.tail }))
    (h.own_maps ∙ sym (maps_after-unwritten c w.maps unwritten) ∙ ap (maps_after c) (sym h.own_maps))
    (subst (λ (cs : List Command). Tells w es (record { maps = a.maps; durable = a.durable; tail = cs }))
    (unwritten_tail (is_written c a.maps) a.tail c (ap (is_written c) h.own_maps ∙ unwritten)) h)

-- ---- no record

module _ (w t : Written) (es : List NotedEvent) (a : Account) (h : Tells w es a) (keeps : KeepsRecords w t) (of_part : AreOfPart t.partition t.files)
    (absent : (name : ChunkName) (f : FileState) → name.partition.0 ≡ w.partition → seal_of es name ≡ Some f → t.files name ≡ None) where
  pub tell_same : HoldsBut w.partition (λ name. None) t.files w.gone (open_noted w es a h) h.kept h.lost → Tells t es a
  tell_same holds = record {
    telling = subst (λ (p : ℕ). IsTelling p es) (sym keeps.partition) h.telling;
    own_maps = h.own_maps ∙ sym keeps.maps;
    durable = h.durable;
    kept = h.kept;
    lost = h.lost;
    records = keeps.records ∙ h.records;
    one_lost = h.one_lost ∙ ap (λ (y : Bool). if y then 1 else 0) (sym keeps.lost);
    maps = h.maps;
    tail = h.tail ∙ ap (λ (xs : List Placed). commands_of (records_of xs)) (sym keeps.records);
    low = h.low;
    below = h.below;
    since = subst (λ (xs : List Placed). Rising h.low (records_of xs)) (sym keeps.records) h.since;
    from = omega (arith, h.from, keeps.next);
    below_next =
        subst (λ (n : ℕ). All (λ r. seq_of r < n) (records_of t.records)) (sym keeps.next)
        (subst (λ (xs : List Placed). All (λ r. seq_of r < w.next) (records_of xs)) (sym keeps.records) h.below_next);
    placed =
        subst (λ (p : ℕ). All (IsPlaced p) (placed_of (notes es) ++ t.records)) (sym keeps.partition)
        (subst (λ (xs : List Placed). All (IsPlaced w.partition) (placed_of (notes es) ++ xs)) (sym keeps.records) h.placed);
    dead = h.dead;
    partition = of_part;
    at = λ name of.
        writers_at w.partition es t.files w.gone (placed_of (notes es)) t.records h.kept h.lost holds (keeps.records ∙ h.records)
        (λ other f is e. (absent other f is e, ap (in_chunk other) keeps.records ∙ (sealed_none w es a h other f is e).1)) name (of ∙ keeps.partition);
    none_gone = λ name. keeps.gone name ∙ h.none_gone name;
  }

pub still_none : (o n : Option FileState) → Rises o n → o ≡ None → n ≡ None
still_none None n rises e = rises
still_none (Some f) n rises e = absurd (none_some f (sym e))

-- of its files a crash keeps more
pub tell_risen : (w t : Written) (es : List NotedEvent) (a : Account) → Tells w es a → KeepsRecords w t → PartRises w.partition w.files t.files → AreOfPart t.partition t.files → Tells t es a
tell_risen w t es a h keeps rises of_part =
    tell_same w t es a h keeps of_part
    (λ name f of e. still_none (w.files name) (t.files name) (rises.rises name of) (sealed_none w es a h name f of e).0)
    (holds_risen w.partition (λ name. None) w.files t.files w.gone (open_noted w es a h) h.kept h.lost (tells_holds w es a h) rises)

-- a file may have been created
pub tell_created : (w t : Written) (es : List NotedEvent) (a : Account) (name : ChunkName) → Tells w es a → KeepsRecords w t → w.lost ≡ false → seal_of es name ≡ None → CreatesFile w t name → Tells t es a
tell_created w t es a name h keeps whole free creates =
    tell_same w t es a h keeps of_part
    (λ other f of e. creates.others other (λ same. none_some f (sym free ∙ (ap (seal_of es) (sym same) ∙ e))) ∙ (sealed_none w es a h other f of e).0)
    (subst (λ (xs : List Placed). HoldsBut w.partition (λ name. None) t.files w.gone (open_noted w es a h) xs h.lost) (sym (all_kept w es a h whole))
    (subst (λ (xs : List Placed). HoldsBut w.partition (λ name. None) t.files w.gone (open_noted w es a h) w.records xs) (sym (nothing_lost w es a h whole))
    (holds_new w.partition (λ name. None) w.files w.gone (open_noted w es a h) w.records name (tells_all w es a h whole) creates.of refl t.files creates.none creates.may creates.others)))
  where
    of_part : AreOfPart t.partition t.files
    of_part other file e = by_name (same_name_or_not other name) where
      by_name : (other ≡ name) ⊎ (other ≢ name) → other.partition.0 ≡ t.partition
      by_name (inl same) = ap (λ (n : ChunkName). n.partition.0) same ∙ creates.of ∙ sym keeps.partition
      by_name (inr differ) = h.partition other file (sym (creates.others other differ) ∙ e) ∙ sym keeps.partition

-- ---- each record is where it was put

pub tell_whole_in : (w : Written) (es : List NotedEvent) (a : Account) (x : Placed) → Tells w es a → w.lost ≡ false → Contains w.records x → IsWholeIn w.files x
tell_whole_in w es a x h whole has =
    whole_in w.partition (λ name. None) w.files (open_noted w es a h ++ w.records) x
    (holds_whole w.partition (λ name. None) w.files w.gone (open_noted w es a h) w.records (tells_all w es a h whole)) (Contains-append_right (open_noted w es a h) w.records x has)
