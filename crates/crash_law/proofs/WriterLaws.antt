-- How what a writer stands for changes with its calls, and what it leaves.
use Rattle.std.specs.Prelude.{◌≡◌, ◌⊎◌, ℕ, ◌+◌, ◌<◌, ◌≤◌, Bool, true, false, List, [], ◌∷◌, ◌++◌, length, take, All, Contains, Option, Some, None, if◌then◌else◌, refl}
use Rattle.std.proofs.Common.{sym, ◌∙◌, ap, subst, inl, inr, arith, append_assoc}
use Rattle.std.specs.Option.{option_map}
use Rattle.std.proofs.lemmas.List.{map-append, append-nil, nil_from_length}
use Rattle.std.proofs.lemmas.List.Elements.{All-nil, All-push, All-weaker, All-head, All-tail, All-contains, All-from_recursion, recursion_from_All, Contains-append_right}
use Rattle.hr_base.specs.declared.name.ChunkName.{ChunkName}
use Rattle.hr_base.specs.declared.name.Class.{Class}
use Rattle.hr_base.specs.Entries.{Entries}
use Rattle.hr_base.specs.Names.{class_of_kind}
use Rattle.dir_files.specs.Files.{FileState, Files, SameAt}
use Rattle.dir_files.specs.Images.{Image}
use Rattle.record_format.specs.declared.record.Record.{Record}
use Rattle.record_format.specs.Spelling.{seq_of, spelling, spellings}
use Rattle.record_format.specs.Splits.{Splits, IsOfClass}
use Rattle.record_format.proofs.SplitLaws.{whole_spellings_split}
use Rattle.crash_law.specs.Accounts.{Account, fresh_account, answered, refused, synced}
use Rattle.crash_law.specs.Commands.{Command, command_of, is_written, maps_after, maps_after_all}
use Rattle.crash_law.specs.Numbered.{Rising, commands_of}
use Rattle.crash_law.specs.Placed.{Placed, records_of, in_chunk, IsPlaced, Base, IsAsFound, Holds, IsExactly, HasWholeAt, HoldsWhole, InOrder}
use Rattle.crash_law.specs.Crashes.{Recovers, PartSurvives}
use Rattle.crash_law.specs.Restarts.{RestartsAs}
use Rattle.crash_law.specs.Growth.{IsOwnBut, HoldsButAt, HoldsBut, PartRises}
use Rattle.crash_law.specs.Writers.{WriterStart, Written, StandsFor, BeginsFrom, CreatesFile, NotesRecord, AppendsRecord, LosesRecord, KeepsRecords, SyncsRecords, IsWholeIn, IsDurableFile}
use Rattle.crash_law.proofs.CommandLaws.{maps_after-unwritten}
use Rattle.crash_law.proofs.NumberedLaws.{Rising-more}
use Rattle.crash_law.proofs.FileLaws.{files_recover, files_read}
use Rattle.crash_law.proofs.PlacedLaws.{in_chunk_valid, Contains-in_chunk}
use Rattle.crash_law.proofs.GrowthLaws.{holds_more, holds_torn, holds_lost, holds_new, holds_risen, holds_synced, holds_begun, holds_but, holds_whole}

-- ---- lists

pub Rising-push : (low n : ℕ) (rs : List Record) (r : Record) → Rising low rs → All (λ x. seq_of x < n) rs → low ≤ n → seq_of r ≡ n → Rising low (rs ++ r ∷ [])
Rising-push low n [] r h below fits is = (omega (arith, is, fits), tt)
Rising-push low n (x ∷ xs) r h below fits is =
    let first = All-head (λ y. seq_of y < n) x xs below in
    (h.0, Rising-push (seq_of x + 1) n xs r h.1 (All-tail (λ y. seq_of y < n) x xs below) (omega (arith, first)) is)

Rising-join : (first low : ℕ) (xs ys : List Record) → first ≤ low → Rising first xs → All (λ r. seq_of r < low) xs → Rising low ys → Rising first (xs ++ ys)
Rising-join first low [] ys from h below k = Rising-more first low ys from k
Rising-join first low (x ∷ xs) ys from h below k =
    let here = All-head (λ r. seq_of r < low) x xs below in
    (h.0, Rising-join (seq_of x + 1) low xs ys (omega (arith, here)) h.1 (All-tail (λ r. seq_of r < low) x xs below) k)

All-behind : (P : Record → Type 0) (xs ys : List Record) → All P (xs ++ ys) → All P ys
All-behind P [] ys h = h
All-behind P (x ∷ xs) ys h = All-behind P xs ys (All-tail P x (xs ++ ys) h)

pub records_of-append : (xs ys : List Placed) → records_of (xs ++ ys) ≡ records_of xs ++ records_of ys
records_of-append xs ys = map-append (λ (x : Placed). x.content) xs ys

pub commands_of-append : (xs ys : List Placed) → commands_of (records_of (xs ++ ys)) ≡ commands_of (records_of xs) ++ commands_of (records_of ys)
commands_of-append xs ys = ap commands_of (records_of-append xs ys) ∙ map-append command_of (records_of xs) (records_of ys)

pub maps_after_all-push : (cs : List Command) (c : Command) (m : Entries) → maps_after_all (cs ++ c ∷ []) m ≡ maps_after c (maps_after_all cs m)
maps_after_all-push [] c m = refl
maps_after_all-push (x ∷ xs) c m = maps_after_all-push xs c (maps_after x m)

holds_gone : (p : ℕ) (found : Image) (files gone other : Files) (durable kept lost : List Placed) → HoldsBut p found files gone durable kept lost → SameAt gone other → HoldsBut p found files other durable kept lost
holds_gone p found files gone other durable kept lost h same = record { placed = h.placed; at = h.at; none_gone = λ name of. same name ∙ h.none_gone name of }

-- ---- what was not found

none_some : (a : FileState) → None ≡ Some a → ⊥
none_some a e = cc

not_found_by : (f : Option (List ℕ)) (file : Option FileState) (durable since lost : List Record) → HoldsButAt f file durable since lost → file ≡ None → f ≡ None
not_found_by None file durable since lost h none = refl
not_found_by (Some bytes) file durable since lost h none = absurd (none_some _ (sym none ∙ h.is))

-- ---- a writer that begins

pub stand_begun : (w : Written) (b : WriterStart) → BeginsFrom w b → StandsFor w b (fresh_account b.maps)
stand_begun w b begins = record {
  base = begins.base;
  durable = [];
  kept = [];
  lost = [];
  records = begins.records;
  one_lost = sym (ap (λ (x : Bool). if x then 1 else 0) begins.lost);
  maps = sym begins.maps;
  tail = sym (ap (λ (xs : List Placed). commands_of (records_of xs)) begins.records);
  durable_maps = refl;
  kept_maps = refl;
  order = order;
  below = subst (λ (xs : List Placed). All (λ r. seq_of r < w.next) (records_of xs)) (sym begins.records) (All-nil (λ r. seq_of r < w.next));
  from = omega (arith, begins.next);
  holds = holds_begun w.partition b.found w.files w.gone begins.begun.as_found begins.begun.none_gone;
  own = λ name takes. absurd (taken_not name takes);
} where
  order : InOrder b.first [] w.records
  order = record {
    low = b.first;
    from = omega arith;
    rising = tt;
    below = All-nil (λ r. seq_of r < b.first);
    since = subst (λ (xs : List Placed). Rising b.first (records_of xs)) (sym begins.records) tt;
  }

  taken_not : (name : ChunkName) → w.taking name ≡ true → ⊥
  taken_not name takes = true_false (sym takes ∙ begins.taking name) where
    true_false : true ≡ false → ⊥
    true_false e = cc

-- ---- a writer with no record that may lack bytes

module _ (w : Written) (b : WriterStart) (a : Account) (h : StandsFor w b a) (whole : w.lost ≡ false) where
  nothing_lost : h.lost ≡ []
  nothing_lost = nil_from_length h.lost (h.one_lost ∙ ap (λ (x : Bool). if x then 1 else 0) whole)

  all_kept : h.kept ≡ w.records
  all_kept = sym (h.records ∙ ap (λ (xs : List Placed). h.kept ++ xs) nothing_lost ∙ append-nil h.kept)

  -- its files have all records whole
  pub holds_all : HoldsBut w.partition b.found w.files w.gone h.durable w.records []
  holds_all =
      subst (λ (xs : List Placed). HoldsBut w.partition b.found w.files w.gone h.durable xs []) all_kept
      (subst (λ (xs : List Placed). HoldsBut w.partition b.found w.files w.gone h.durable h.kept xs) nothing_lost h.holds)

  -- and its maps are those after all of them
  pub all_maps : a.maps ≡ maps_after_all (commands_of (records_of (h.durable ++ w.records))) b.maps
  all_maps = h.kept_maps ∙ ap (λ (xs : List Placed). maps_after_all (commands_of (records_of (h.durable ++ xs))) b.maps) all_kept

-- ---- one more record

module _ (w t : Written) (b : WriterStart) (a : Account) (h : StandsFor w b a) (whole : w.lost ≡ false) (x : Placed) (numbered : seq_of x.content ≡ w.next) (notes : NotesRecord w t x) where
  more : h.durable ++ t.records ≡ (h.durable ++ w.records) ++ x ∷ []
  more = ap (λ (xs : List Placed). h.durable ++ xs) notes.records ∙ sym (append_assoc h.durable w.records (x ∷ []))

  more_content : records_of (h.durable ++ t.records) ≡ records_of (h.durable ++ w.records) ++ x.content ∷ []
  more_content = ap records_of more ∙ records_of-append (h.durable ++ w.records) (x ∷ [])

  since_content : records_of t.records ≡ records_of w.records ++ x.content ∷ []
  since_content = ap records_of notes.records ∙ records_of-append w.records (x ∷ [])

  below_since : All (λ r. seq_of r < w.next) (records_of w.records)
  below_since =
      All-behind (λ r. seq_of r < w.next) (records_of h.durable) (records_of w.records)
      (subst (λ (rs : List Record). All (λ r. seq_of r < w.next) rs) (records_of-append h.durable w.records) h.below)

  more_order : InOrder b.first h.durable t.records
  more_order = record {
    low = h.order.low;
    from = h.order.from;
    rising = h.order.rising;
    below = h.order.below;
    since =
        subst (λ (rs : List Record). Rising h.order.low rs) (sym since_content)
        (Rising-push h.order.low w.next (records_of w.records) x.content h.order.since below_since h.from numbered);
  }

  more_below : All (λ r. seq_of r < t.next) (records_of (h.durable ++ t.records))
  more_below =
      subst (λ (rs : List Record). All (λ r. seq_of r < t.next) rs) (sym more_content)
      (All-push (λ r. seq_of r < t.next) (records_of (h.durable ++ w.records)) x.content
      (All-weaker (λ r. seq_of r < w.next) (λ r. seq_of r < t.next) (λ r less. omega (arith, less, notes.next)) (records_of (h.durable ++ w.records)) h.below)
      (omega (arith, notes.next, numbered)))

  more_tail : a.tail ++ command_of x.content ∷ [] ≡ commands_of (records_of t.records)
  more_tail =
      ap (λ (cs : List Command). cs ++ command_of x.content ∷ []) h.tail
      ∙ sym (commands_of-append w.records (x ∷ []))
      ∙ ap (λ (xs : List Placed). commands_of (records_of xs)) (sym notes.records)

  more_maps : maps_after (command_of x.content) a.maps ≡ maps_after_all (commands_of (records_of (h.durable ++ t.records))) b.maps
  more_maps =
      ap (maps_after (command_of x.content)) (all_maps w b a h whole)
      ∙ sym (maps_after_all-push (commands_of (records_of (h.durable ++ w.records))) (command_of x.content) b.maps)
      ∙ ap (λ (cs : List Command). maps_after_all cs b.maps) (sym (commands_of-append (h.durable ++ w.records) (x ∷ [])))
      ∙ ap (λ (xs : List Placed). maps_after_all (commands_of (records_of xs)) b.maps) (sym more)

  more_base : Base t.partition b.found b.maps b.first
  more_base = subst (λ (p : ℕ). Base p b.found b.maps b.first) (sym notes.partition) h.base

  more_own : (name : ChunkName) → t.taking name ≡ true → b.found name ≡ None
  more_own name takes = elim (notes.taking name takes) [
    | inl before ↦ h.own name before
    | inr fresh ↦ not_found_by (b.found name) (w.files name) _ _ _ (h.holds.at name fresh.0) fresh.1
  ]

  more_from : more_order.low ≤ t.next
  unfolding more_order
  more_from = omega (arith, h.from, notes.next)

  -- its command was answered, and changed the maps
  stand_more : t.lost ≡ false → maps_after (command_of x.content) a.maps ≡ t.maps
      → HoldsBut w.partition b.found t.files w.gone h.durable (w.records ++ x ∷ []) []
      → StandsFor t b (record { maps = maps_after (command_of x.content) a.maps; durable = a.durable; tail = a.tail ++ command_of x.content ∷ [] })
  stand_more none maps holds = record {
    base = more_base;
    durable = h.durable;
    kept = t.records;
    lost = [];
    records = sym (append-nil t.records);
    one_lost = sym (ap (λ (y : Bool). if y then 1 else 0) none);
    maps = maps;
    tail = more_tail;
    durable_maps = h.durable_maps;
    kept_maps = more_maps;
    order = more_order;
    below = more_below;
    from = more_from;
    holds =
        subst (λ (p : ℕ). HoldsBut p b.found t.files t.gone h.durable t.records []) (sym notes.partition)
        (subst (λ (xs : List Placed). HoldsBut w.partition b.found t.files t.gone h.durable xs []) (sym notes.records)
        (holds_gone w.partition b.found t.files w.gone t.gone h.durable (w.records ++ x ∷ []) [] holds notes.gone));
    own = more_own;
  }

  -- the disk refused it: it may lack bytes, and its command changed no maps
  stand_less : t.lost ≡ true → t.maps ≡ w.maps → HoldsBut w.partition b.found t.files w.gone h.durable w.records (x ∷ []) → StandsFor t b (refused a (command_of x.content))
  stand_less some maps holds = record {
    base = more_base;
    durable = h.durable;
    kept = w.records;
    lost = x ∷ [];
    records = notes.records;
    one_lost = sym (ap (λ (y : Bool). if y then 1 else 0) some);
    maps = h.maps ∙ sym maps;
    tail = more_tail;
    durable_maps = h.durable_maps;
    kept_maps = all_maps w b a h whole;
    order = more_order;
    below = more_below;
    from = more_from;
    holds =
        subst (λ (p : ℕ). HoldsBut p b.found t.files t.gone h.durable w.records (x ∷ [])) (sym notes.partition)
        (holds_gone w.partition b.found t.files w.gone t.gone h.durable w.records (x ∷ []) holds notes.gone);
    own = more_own;
  }

-- ---- a command with its record

own_by : (w : Written) (b : WriterStart) (a : Account) → StandsFor w b a → (name : ChunkName) → name.partition.0 ≡ w.partition → (w.taking name ≡ true) ⊎ (w.files name ≡ None) → b.found name ≡ None
own_by w b a h name of (inl takes) = h.own name takes
own_by w b a h name of (inr none) = not_found_by (b.found name) (w.files name) _ _ _ (h.holds.at name of) none

pub written_tail : (b : Bool) (cs : List Command) (c : Command) → b ≡ true → cs ++ c ∷ [] ≡ (if b then cs ++ c ∷ [] else cs)
written_tail true cs c e = refl
written_tail false cs c e = cc

-- the disk took it whole
pub stand_appended : (w t : Written) (b : WriterStart) (a : Account) (x : Placed) → StandsFor w b a → w.lost ≡ false → AppendsRecord w t x (spelling x.content) → t.lost ≡ false
    → t.maps ≡ maps_after (command_of x.content) w.maps → is_written (command_of x.content) w.maps ≡ true → StandsFor t b (answered a (command_of x.content))
stand_appended w t b a x h whole appends none maps written =
    let own = own_by w b a h x.chunk appends.placed.partition appends.chunk in
    let stands = stand_more w t b a h whole x appends.numbered appends.noted none (ap (maps_after (command_of x.content)) h.maps ∙ sym maps)
    (holds_more w.partition b.found w.files t.files w.gone h.durable w.records x.chunk x.content (holds_all w b a h whole) own appends.placed appends.within appends.files) in
    subst (λ (cs : List Command). StandsFor t b (record { maps = maps_after (command_of x.content) a.maps; durable = a.durable; tail = cs }))
    (written_tail (is_written (command_of x.content) a.maps) a.tail (command_of x.content) (ap (is_written (command_of x.content)) h.maps ∙ written))
    stands

-- the disk took a front of it
pub stand_torn : (w t : Written) (b : WriterStart) (a : Account) (x : Placed) (n : ℕ) → StandsFor w b a → w.lost ≡ false → AppendsRecord w t x (take n (spelling x.content)) → t.lost ≡ true
    → t.maps ≡ w.maps → StandsFor t b (refused a (command_of x.content))
stand_torn w t b a x n h whole appends some maps =
    stand_less w t b a h whole x appends.numbered appends.noted some maps
    (holds_torn w.partition b.found w.files t.files w.gone h.durable w.records x.chunk x.content (holds_all w b a h whole)
    (own_by w b a h x.chunk appends.placed.partition appends.chunk) appends.placed appends.within n appends.files)

-- the disk made no file for it
pub stand_lost : (w t : Written) (b : WriterStart) (a : Account) (x : Placed) → StandsFor w b a → w.lost ≡ false → LosesRecord w t x → t.lost ≡ true
    → t.maps ≡ w.maps → StandsFor t b (refused a (command_of x.content))
stand_lost w t b a x h whole loses some maps =
    stand_less w t b a h whole x loses.numbered loses.noted some maps
    (holds_lost w.partition b.found w.files t.files w.gone h.durable w.records x.chunk x.content (holds_all w b a h whole)
    (own_by w b a h x.chunk loses.placed.partition (inr loses.none)) loses.placed loses.none loses.may loses.others)

-- ---- no record

module _ (w t : Written) (b : WriterStart) (a : Account) (h : StandsFor w b a) (keeps : KeepsRecords w t) where
  kept_order : InOrder b.first h.durable t.records
  kept_order = subst (λ (xs : List Placed). InOrder b.first h.durable xs) (sym keeps.records) h.order

  kept_own : (name : ChunkName) → t.taking name ≡ true → b.found name ≡ None
  kept_own name takes = elim (keeps.taking name takes) [
    | inl before ↦ h.own name before
    | inr fresh ↦ not_found_by (b.found name) (w.files name) _ _ _ (h.holds.at name fresh.0) fresh.1
  ]

  stand_same : HoldsBut w.partition b.found t.files w.gone h.durable h.kept h.lost → StandsFor t b a
  stand_same holds = record {
    base = subst (λ (p : ℕ). Base p b.found b.maps b.first) (sym keeps.partition) h.base;
    durable = h.durable;
    kept = h.kept;
    lost = h.lost;
    records = keeps.records ∙ h.records;
    one_lost = h.one_lost ∙ ap (λ (y : Bool). if y then 1 else 0) (sym keeps.lost);
    maps = h.maps ∙ sym keeps.maps;
    tail = h.tail ∙ ap (λ (xs : List Placed). commands_of (records_of xs)) (sym keeps.records);
    durable_maps = h.durable_maps;
    kept_maps = h.kept_maps;
    order = record {
      low = h.order.low;
      from = h.order.from;
      rising = h.order.rising;
      below = h.order.below;
      since = subst (λ (xs : List Placed). Rising h.order.low (records_of xs)) (sym keeps.records) h.order.since;
    };
    below =
        subst (λ (n : ℕ). All (λ r. seq_of r < n) (records_of (h.durable ++ t.records))) (sym keeps.next)
        (subst (λ (xs : List Placed). All (λ r. seq_of r < w.next) (records_of (h.durable ++ xs))) (sym keeps.records) h.below);
    from = omega (arith, h.from, keeps.next);
    holds =
        subst (λ (p : ℕ). HoldsBut p b.found t.files t.gone h.durable h.kept h.lost) (sym keeps.partition)
        (holds_gone w.partition b.found t.files w.gone t.gone h.durable h.kept h.lost holds keeps.gone);
    own = kept_own;
  }

  -- of its files a crash keeps more
  pub stand_risen : PartRises w.partition w.files t.files → StandsFor t b a
  stand_risen rises = stand_same (holds_risen w.partition b.found w.files t.files w.gone h.durable h.kept h.lost h.holds rises)

  -- a file may have been created
  pub stand_new : w.lost ≡ false → (name : ChunkName) → CreatesFile w t name → StandsFor t b a
  stand_new whole name creates =
      stand_same
      (subst (λ (xs : List Placed). HoldsBut w.partition b.found t.files w.gone h.durable xs h.lost) (sym (all_kept w b a h whole))
      (subst (λ (xs : List Placed). HoldsBut w.partition b.found t.files w.gone h.durable w.records xs) (sym (nothing_lost w b a h whole))
      (holds_new w.partition b.found w.files w.gone h.durable w.records name (holds_all w b a h whole) creates.of
      (not_found_by (b.found name) (w.files name) _ _ _ (h.holds.at name creates.of) creates.none) t.files creates.none creates.may creates.others)))

pub unwritten_tail : (b : Bool) (cs : List Command) (c : Command) → b ≡ false → cs ≡ (if b then cs ++ c ∷ [] else cs)
unwritten_tail true cs c e = cc
unwritten_tail false cs c e = refl

-- a command that changes nothing
pub stand_unwritten : (w : Written) (b : WriterStart) (a : Account) (c : Command) → StandsFor w b a → is_written c w.maps ≡ false → StandsFor w b (answered a c)
stand_unwritten w b a c h unwritten =
    subst (λ (m : Entries). StandsFor w b (record { maps = m; durable = a.durable; tail = if is_written c a.maps then a.tail ++ c ∷ [] else a.tail }))
    (h.maps ∙ sym (maps_after-unwritten c w.maps unwritten) ∙ ap (maps_after c) (sym h.maps))
    (subst (λ (cs : List Command). StandsFor w b (record { maps = a.maps; durable = a.durable; tail = cs }))
    (unwritten_tail (is_written c a.maps) a.tail c (ap (is_written c) h.maps ∙ unwritten)) h)

-- ---- an answered sync

module _ (w : Written) (b : WriterStart) (a : Account) (h : StandsFor w b a) where
  -- all records in their order, as durable ones
  all_order : InOrder b.first (h.durable ++ w.records) []
  all_order = record {
    low = w.next;
    from = omega (arith, h.order.from, h.from);
    rising =
        subst (λ (rs : List Record). Rising b.first rs) (sym (records_of-append h.durable w.records))
        (Rising-join b.first h.order.low (records_of h.durable) (records_of w.records) h.order.from h.order.rising h.order.below h.order.since);
    below = h.below;
    since = tt;
  }

-- all its records are durable
pub stand_synced : (w t : Written) (b : WriterStart) (a : Account) → StandsFor w b a → w.lost ≡ false → SyncsRecords w t → StandsFor t b (synced a)
stand_synced w t b a h whole syncs = record {
  base = subst (λ (p : ℕ). Base p b.found b.maps b.first) (sym syncs.partition) h.base;
  durable = h.durable ++ w.records;
  kept = [];
  lost = [];
  records = syncs.records;
  one_lost = sym (ap (λ (y : Bool). if y then 1 else 0) syncs.lost);
  maps = h.maps ∙ sym syncs.maps;
  tail = sym (ap (λ (xs : List Placed). commands_of (records_of xs)) syncs.records);
  durable_maps = all_maps w b a h whole;
  kept_maps = all_maps w b a h whole ∙ ap (λ (xs : List Placed). maps_after_all (commands_of (records_of xs)) b.maps) (sym (append-nil (h.durable ++ w.records)));
  order = order;
  below =
      subst (λ (xs : List Placed). All (λ r. seq_of r < t.next) (records_of ((h.durable ++ w.records) ++ xs))) (sym syncs.records)
      (subst (λ (xs : List Placed). All (λ r. seq_of r < t.next) (records_of xs)) (sym (append-nil (h.durable ++ w.records)))
      (subst (λ (n : ℕ). All (λ r. seq_of r < n) (records_of (h.durable ++ w.records))) (sym syncs.next) h.below));
  from = omega (arith, syncs.next);
  holds =
      subst (λ (p : ℕ). HoldsBut p b.found t.files t.gone (h.durable ++ w.records) [] []) (sym syncs.partition)
      (holds_gone w.partition b.found t.files w.gone t.gone (h.durable ++ w.records) [] []
      (holds_synced w.partition b.found t.files w.gone h.durable w.records
      (holds_risen w.partition b.found w.files t.files w.gone h.durable w.records [] (holds_all w b a h whole) syncs.rises)
      (λ name of _. syncs.durable name of)) syncs.gone);
  own = λ name takes. h.own name (syncs.taking name takes);
} where
  order : InOrder b.first (h.durable ++ w.records) t.records
  order = record {
    low = w.next;
    from = omega (arith, h.order.from, h.from);
    rising =
        subst (λ (rs : List Record). Rising b.first rs) (sym (records_of-append h.durable w.records))
        (Rising-join b.first h.order.low (records_of h.durable) (records_of w.records) h.order.from h.order.rising h.order.below h.order.since);
    below = h.below;
    since = subst (λ (xs : List Placed). Rising w.next (records_of xs)) (sym syncs.records) tt;
  }

-- ---- what it leaves

-- every crash of its files recovers
pub stand_survives : (w : Written) (b : WriterStart) (a : Account) → StandsFor w b a → PartSurvives w.partition w.files w.gone a
stand_survives w b a h image is =
    subst (λ (m : Entries). Recovers image w.partition m a.tail) (sym h.durable_maps)
    (subst (λ (cs : List Command). Recovers image w.partition (maps_after_all (commands_of (records_of h.durable)) b.maps) cs) (sym h.tail)
    (files_recover w.partition b.found b.maps b.first w.files w.gone h.durable w.records h.base
    (subst (λ (xs : List Placed). Holds w.partition b.found w.files w.gone h.durable xs) (sym h.records) (holds_but w.partition b.found w.files w.gone h.durable h.kept h.lost h.holds))
    h.order image is))

-- and without a record that may lack bytes, what is read of them restarts to its maps
pub stand_exact : (w : Written) (b : WriterStart) (a : Account) → StandsFor w b a → w.lost ≡ false → RestartsAs (λ name. option_map (λ file. file.bytes) (w.files name)) w.partition a.maps
stand_exact w b a h whole =
    subst (λ (m : Entries). RestartsAs (λ name. option_map (λ file. file.bytes) (w.files name)) w.partition m) (sym (all_maps w b a h whole))
    (files_read w.partition b.found b.maps b.first w.files (h.durable ++ w.records) h.base
    (holds_whole w.partition b.found w.files w.gone h.durable w.records (holds_all w b a h whole)) (all_order w b a h))

-- ---- where its records are whole

none_in : (r : Record) → Contains [] r → ⊥
none_in r h = absurd (omega (arith, h.1))

spelled_whole : (class : Class) (bytes : List ℕ) (rs : List Record) → All (IsOfClass class) rs → bytes ≡ spellings rs → Splits class bytes rs []
spelled_whole class bytes rs valid is = subst (λ (b : List ℕ). Splits class b rs []) (sym is) (whole_spellings_split class rs valid)

whole_by : (files : Files) (x : Placed) (was : Option (List ℕ)) (file : Option FileState) (rs : List Record) → files x.chunk ≡ file → All (IsOfClass (class_of_kind x.chunk.kind)) rs → Contains rs x.content
    → HasWholeAt was file rs → IsWholeIn files x
whole_by files x (Some bytes) file rs there valid has whole = absurd (none_in x.content (subst (λ (xs : List Record). Contains xs x.content) whole.none_durable has))
whole_by files x None None rs there valid has whole = absurd (none_in x.content (subst (λ (xs : List Record). Contains xs x.content) whole has))
whole_by files x None (Some file) rs there valid has whole = record {
  file = file;
  records = rs;
  rest = [];
  there = there;
  split = spelled_whole (class_of_kind x.chunk.kind) file.bytes rs valid whole.1;
  has = has;
}

-- of files that have all records whole
pub whole_in : (p : ℕ) (found : Image) (files : Files) (records : List Placed) (x : Placed) → HoldsWhole p found files records → Contains records x → IsWholeIn files x
whole_in p found files records x whole has =
    whole_by files x (found x.chunk) (files x.chunk) (in_chunk x.chunk records) refl
    (All-from_recursion (IsOfClass (class_of_kind x.chunk.kind)) (in_chunk x.chunk records) (in_chunk_valid p x.chunk records (recursion_from_All (IsPlaced p) records whole.placed)))
    (Contains-in_chunk records x has) (whole.at x.chunk (All-contains (IsPlaced p) records x whole.placed has).partition)

-- each record of a writer with none that may lack bytes
pub stand_whole_in : (w : Written) (b : WriterStart) (a : Account) (x : Placed) → StandsFor w b a → w.lost ≡ false → Contains w.records x → IsWholeIn w.files x
stand_whole_in w b a x h whole has =
    whole_in w.partition b.found w.files (h.durable ++ w.records) x
    (holds_whole w.partition b.found w.files w.gone h.durable w.records (holds_all w b a h whole)) (Contains-append_right h.durable w.records x has)

-- ---- where none of its records waits for a sync

own_is_kept : (file : FileState) (rs : List Record) → IsOwnBut (Some file) rs [] [] → IsDurableFile file
own_is_kept file rs own = record { front = omega (arith, own.1.1.front, ap length bytes); named = named_by own.1.1.named } where
  nothing : own.1.0 ≡ []
  nothing = nil_from_length own.1.0 (omega (arith, own.1.2))

  bytes : spellings rs ≡ file.bytes
  bytes = ap spellings (sym (append-nil rs)) ∙ own.1.1.bytes ∙ ap (λ (m : List ℕ). file.bytes ++ m) nothing ∙ append-nil file.bytes

  named_by : (rs ≡ []) ⊎ (file.named ≡ true) → (file.bytes ≡ []) ⊎ (file.named ≡ true)
  named_by (inl none) = inl (sym bytes ∙ ap spellings none)
  named_by (inr named) = inr named

one_file : (a b : FileState) → Some a ≡ Some b → a ≡ b
one_file a b e = cc

found_is_kept : (file : FileState) (bytes : List ℕ) (rs : List Record) → IsAsFound (Some file) bytes rs [] → IsDurableFile file
found_is_kept file bytes rs was = subst IsDurableFile (sym (one_file file _ was.is)) (record { front = omega arith; named = inr refl })

file_is_kept : (was : Option (List ℕ)) (file : FileState) (rs : List Record) → HoldsButAt was (Some file) rs [] [] → IsDurableFile file
file_is_kept None file rs own = own_is_kept file rs own
file_is_kept (Some bytes) file rs found = found_is_kept file bytes rs found

nothing_joined : (xs ys : List Placed) → xs ++ ys ≡ [] → (xs ≡ []) × (ys ≡ [])
nothing_joined [] ys e = (refl, e)
nothing_joined (x ∷ xs) ys e = absurd (omega (arith, ap length e))

module _ (w : Written) (b : WriterStart) (a : Account) (h : StandsFor w b a) (none : w.records ≡ []) where
  neither : (h.kept ≡ []) × (h.lost ≡ [])
  neither = nothing_joined h.kept h.lost (sym h.records ∙ none)

  holds_durable : HoldsBut w.partition b.found w.files w.gone h.durable [] []
  holds_durable =
      subst (λ (xs : List Placed). HoldsBut w.partition b.found w.files w.gone h.durable xs []) neither.0
      (subst (λ (xs : List Placed). HoldsBut w.partition b.found w.files w.gone h.durable h.kept xs) neither.1 h.holds)

  pub stand_durable_maps : a.durable ≡ a.maps
  stand_durable_maps =
      h.durable_maps
      ∙ ap (λ (xs : List Placed). maps_after_all (commands_of (records_of xs)) b.maps) (sym (ap (λ (xs : List Placed). h.durable ++ xs) neither.0 ∙ append-nil h.durable))
      ∙ sym h.kept_maps

  pub stand_kept : (name : ChunkName) (file : FileState) → name.partition.0 ≡ w.partition → w.files name ≡ Some file → IsDurableFile file
  stand_kept name file of there =
      file_is_kept (b.found name) file (in_chunk name h.durable)
      (subst (λ (o : Option FileState). HoldsButAt (b.found name) o (in_chunk name h.durable) [] []) there (holds_durable.at name of))

  exactly_by : (was : Option (List ℕ)) (file : Option FileState) (rs : List Record) → was ≡ None → HasWholeAt was file rs → IsExactly file rs
  exactly_by None file rs e whole = whole
  exactly_by (Some bytes) file rs e whole = cc

  pub stand_durable : (name : ChunkName) → name.partition.0 ≡ w.partition → b.found name ≡ None → IsExactly (w.files name) (in_chunk name h.durable)
  stand_durable name of own =
      exactly_by (b.found name) (w.files name) (in_chunk name h.durable) own
      (subst (λ (xs : List Placed). HasWholeAt (b.found name) (w.files name) (in_chunk name xs)) (append-nil h.durable)
      ((holds_whole w.partition b.found w.files w.gone h.durable [] holds_durable).at name of))
