-- The maps of a folder as text: one piece after another.
use Rattle.std.specs.Prelude.{◌≡◌, ◌≢◌, ◌⊎◌, ℕ, ◌+◌, ◌<◌, ◌≤◌, Bool, true, List, [], ◌∷◌, ◌++◌, length, map, drop, take, slice_index_or, Option, Some, None, refl, zero, suc}
use Rattle.std.specs.FinMap.{entries as entries_of}
use Rattle.std.proofs.Common.{sym, ◌∙◌, ap, subst, inl, inr, arith, append_assoc}
use Rattle.std.proofs.lemmas.Grind.{flat_map-append}
use Rattle.std.proofs.lemmas.List.{append-nil, length-append, map-append, take-append-drop, take-append-le, take_all, take_more}
use Rattle.std.proofs.lemmas.Simd.{map-map}
use Rattle.std.proofs.Math.Seq.{take-append-add, take-append_seam}
use Rattle.hr_base.specs.Entries.{Entries}
use Rattle.hr_edges.specs.Edges.{TakesAll, TakesAtLeast, TakesFront}
use Rattle.hr_edges.proofs.Writings.{Takes-append, Takes-nothing, TakesAtLeast-append}
use Rattle.dir_files.specs.Images.{Image, KeepsImages, read_of}
use Rattle.dir_files.specs.Ports.{Port, either_file}
use Rattle.dir_files.specs.PortStates.{IsAtRest, IsGivenBack}
use Rattle.hr_base.specs.declared.name.ChunkName.{ChunkName}
use Rattle.dir_files.proofs.JoinLaws.{either_same}
use Rattle.crash_law.specs.Restarts.{AllRestart}
use Rattle.ram_map.specs.Nested.{triple_of}
use Rattle.script_text.specs.Dumps.{dump_lines, entry_text, lines_of_maps}
use Rattle.partition_writer.specs.Standing.{Standing}
use Rattle.restart_load.specs.declared.ended.Ended.{Ended}
use Rattle.restart_load.specs.declared.ended.Ended.TheVariants.{Whole, Sink, Disk, Memory, Load, Spent}
use Rattle.restart_load.proofs.FolderLaws.{keeps_after}
use Rattle.restart_load.proofs.ResumedLaws.{images_kept, one_image}
use Rattle.store_drill.specs.Dumping.{DumpAt, Dumped, Wrote, flat, lines_of_entries}
use Rattle.store_drill.specs.Sessions.{Outside}
use Rattle.restart_load.specs.Writers.{AreResumed}
use Rattle.store_drill.specs.Writers.{files_at, files_in}

-- ---- pieces

flat_append : (xs ys : List (List ℕ)) → flat (xs ++ ys) ≡ flat xs ++ flat ys
flat_append xs ys = flat_map-append (λ (line : List ℕ). line) xs ys

takes_some : (old new : Option (List ℕ)) (xs ys : List ℕ) → xs ≡ ys → TakesAll old new xs → TakesAll old new ys
takes_some old new xs ys same takes = subst (λ (bytes : List ℕ). TakesAll old new bytes) same takes

front_of : (least : ℕ) (old new : Option (List ℕ)) (bytes : List ℕ) → TakesAtLeast least old new bytes → TakesFront old new bytes
front_of least None new bytes takes = tt
front_of least (Some x) new bytes takes = (takes.0, takes.2)

one_of : (a b : ℕ) → (a ≤ b) ⊎ (b ≤ a)
one_of a b = grind arith

-- a front of some bytes is one of more
front_more : (old new : Option (List ℕ)) (xs ys : List ℕ) → TakesFront old new xs → TakesFront old new (xs ++ ys)
front_more None new xs ys front = tt
front_more (Some x) new xs ys front = elim (one_of front.0 (length xs)) [
  | inl less ↦ (front.0, front.1 ∙ ap (λ (bytes : List ℕ). Some (x ++ bytes)) (sym (take-append-le front.0 xs ys less)))
  | inr more ↦ (length xs, front.1 ∙ ap (λ (bytes : List ℕ). Some (x ++ bytes)) (take_all front.0 xs more ∙ sym (take-append_seam xs ys)))
]

-- what came of lines behind others that were written whole
pub dump_then : (ended : Ended) (xs ys : List (List ℕ)) (a b c : Option (List ℕ)) → DumpAt Whole xs a b → DumpAt ended ys b c → DumpAt ended (xs ++ ys) a c
dump_then Whole xs ys a b c first second = takes_some a c (flat xs ++ flat ys) (flat (xs ++ ys)) (sym (flat_append xs ys)) (Takes-append a b c (flat xs) (flat ys) first second)
dump_then Sink xs ys a b c first second =
    subst (λ (bytes : List ℕ). TakesFront a c bytes) (sym (flat_append xs ys))
    (front_of (length (flat xs)) a c (flat xs ++ flat ys) (TakesAtLeast-append a b c (flat xs) (flat ys) first second))
dump_then Memory xs ys a b c first second = (
  length xs + second.0,
  (let n : length xs + second.0 ≤ length (xs ++ ys) = omega (arith, second.1, length-append xs ys) in n),
  takes_some a c (flat xs ++ flat (take second.0 ys)) (flat (take (length xs + second.0) (xs ++ ys)))
      (sym (flat_append xs (take second.0 ys)) ∙ ap flat (sym (take-append-add xs ys second.0))) (Takes-append a b c (flat xs) (flat (take second.0 ys)) first second.2),
)
dump_then Disk xs ys a b c first second = absurd second
dump_then (Load refusal) xs ys a b c first second = absurd second
dump_then (Spent next) xs ys a b c first second = absurd second

-- and where no more was written
pub dump_stop : (ended : Ended) (xs ys : List (List ℕ)) (a b : Option (List ℕ)) → (ended ≢ Whole) → DumpAt ended xs a b → DumpAt ended (xs ++ ys) a b
dump_stop Whole xs ys a b other dumped = absurd (other refl)
dump_stop Sink xs ys a b other dumped = subst (λ (bytes : List ℕ). TakesFront a b bytes) (sym (flat_append xs ys)) (front_more a b (flat xs) (flat ys) dumped)
dump_stop Memory xs ys a b other dumped = (
  dumped.0,
  (let n : dumped.0 ≤ length (xs ++ ys) = omega (arith, dumped.1, length-append xs ys) in n),
  takes_some a b (flat (take dumped.0 xs)) (flat (take dumped.0 (xs ++ ys))) (ap flat (sym (take-append-le dumped.0 xs ys dumped.1))) dumped.2,
)
dump_stop Disk xs ys a b other dumped = absurd dumped
dump_stop (Load refusal) xs ys a b other dumped = absurd dumped
dump_stop (Spent next) xs ys a b other dumped = absurd dumped

-- nothing was written of no lines
pub dump_none : (a : Option (List ℕ)) → DumpAt Whole [] a a
dump_none a = Takes-nothing a

-- ---- one line

-- it was written, or a front of it
pub dump_line : (line : List ℕ) (a b : Option (List ℕ)) → TakesAll a b line → DumpAt Whole (line ∷ []) a b
dump_line line a b takes = takes_some a b line (line ++ []) (sym (append-nil line)) takes

pub dump_front : (line : List ℕ) (a b : Option (List ℕ)) → TakesFront a b line → DumpAt Sink (line ∷ []) a b
dump_front line a b front = subst (λ (bytes : List ℕ). TakesFront a b bytes) (sym (append-nil line)) front

pub dump_no_memory : (lines : List (List ℕ)) (a : Option (List ℕ)) → DumpAt Memory lines a a
dump_no_memory lines a = (0, omega arith, Takes-nothing a)

-- ---- entries and maps

pub entry_lines : (p : ℕ) (maps : Entries) → lines_of_entries p (map triple_of (entries_of maps)) ≡ lines_of_maps p maps
entry_lines p maps = map-map (λ (e : ℕ × List ℕ × List ℕ). entry_text p e.0 e.1 e.2) triple_of (entries_of maps)

-- one more entry
module _ (p : ℕ) (list : List (ℕ × List ℕ × List ℕ)) (i : ℕ) (e : ℕ × List ℕ × List ℕ) (within : i < length list) (is : e ≡ slice_index_or list i e) where
  lines_more : lines_of_entries p (take i list) ++ lines_of_entries p (e ∷ []) ≡ lines_of_entries p (take (i + 1) list)
  lines_more =
      sym (map-append (λ (x : ℕ × List ℕ × List ℕ). entry_text p x.0 x.1 x.2) (take i list) (e ∷ []))
      ∙ ap (lines_of_entries p) (ap (λ (x : ℕ × List ℕ × List ℕ). take i list ++ x ∷ []) is ∙ sym (take_more list i e within))

  lines_rest : lines_of_entries p (take (i + 1) list) ++ lines_of_entries p (drop (i + 1) list) ≡ lines_of_entries p list
  lines_rest =
      sym (map-append (λ (x : ℕ × List ℕ × List ℕ). entry_text p x.0 x.1 x.2) (take (i + 1) list) (drop (i + 1) list)) ∙ ap (lines_of_entries p) (take-append-drop (i + 1) list)

  pub entry_then : (ended : Ended) (a b c : Option (List ℕ)) → DumpAt Whole (lines_of_entries p (take i list)) a b → DumpAt ended (lines_of_entries p (e ∷ [])) b c
      → DumpAt ended (lines_of_entries p (take (i + 1) list)) a c
  entry_then ended a b c first second =
      subst (λ (lines : List (List ℕ)). DumpAt ended lines a c) lines_more (dump_then ended (lines_of_entries p (take i list)) (lines_of_entries p (e ∷ [])) a b c first second)

  pub entry_stops : (ended : Ended) (a b c : Option (List ℕ)) → (ended ≢ Whole) → DumpAt Whole (lines_of_entries p (take i list)) a b → DumpAt ended (lines_of_entries p (e ∷ [])) b c
      → DumpAt ended (lines_of_entries p list) a c
  entry_stops ended a b c other first second =
      subst (λ (lines : List (List ℕ)). DumpAt ended lines a c) lines_rest
      (dump_stop ended (lines_of_entries p (take (i + 1) list)) (lines_of_entries p (drop (i + 1) list)) a c other (entry_then ended a b c first second))

-- the lines of more partitions begin with those of the first ones
pub first_lines : (k n : ℕ) (maps : ℕ → Entries) → k ≤ n → (more : List (List ℕ)) × (dump_lines n maps ≡ dump_lines k maps ++ more)
first_lines k zero maps less = none_yet (let n : k ≡ 0 = omega (arith, less) in n) where
  none_yet : k ≡ 0 → (more : List (List ℕ)) × (dump_lines 0 maps ≡ dump_lines k maps ++ more)
  none_yet is = ([], subst (λ (j : ℕ). [] ≡ dump_lines j maps ++ []) (sym is) refl)
first_lines k (suc n) maps less = elim (last_or_not k n less) [
  | inl last ↦ ([], subst (λ (j : ℕ). dump_lines (suc n) maps ≡ dump_lines j maps ++ []) (sym last) (sym (append-nil (dump_lines (suc n) maps))))
  | inr before ↦
      let rest = first_lines k n maps before in
      (rest.0 ++ lines_of_maps n (maps n), ap (λ (lines : List (List ℕ)). lines ++ lines_of_maps n (maps n)) rest.1 ∙ append_assoc (dump_lines k maps) rest.0 (lines_of_maps n (maps n)))
] where
  last_or_not : (k n : ℕ) → k ≤ suc n → (k ≡ suc n) ⊎ (k ≤ n)
  last_or_not k n less = grind arith

-- one more partition
pub partition_then : (k : ℕ) (maps : ℕ → Entries) (ended : Ended) (a b c : Option (List ℕ)) → DumpAt Whole (dump_lines k maps) a b → DumpAt ended (lines_of_maps k (maps k)) b c
    → DumpAt ended (dump_lines (k + 1) maps) a c
partition_then k maps ended a b c first second =
    subst (λ (n : ℕ). DumpAt ended (dump_lines n maps) a c) (next k) (dump_then ended (dump_lines k maps) (lines_of_maps k (maps k)) a b c first second) where
      next : (k : ℕ) → suc k ≡ k + 1
      next k = omega arith

pub partition_stops : (k n : ℕ) (maps : ℕ → Entries) (ended : Ended) (a b c : Option (List ℕ)) → k < n → (ended ≢ Whole) → DumpAt Whole (dump_lines k maps) a b
    → DumpAt ended (lines_of_maps k (maps k)) b c → DumpAt ended (dump_lines n maps) a c
partition_stops k n maps ended a b c less other first second =
    let rest = first_lines (suc k) n maps (omega (arith, less)) in
    subst (λ (lines : List (List ℕ)). DumpAt ended lines a c) (sym rest.1)
    (dump_stop ended (dump_lines (suc k) maps) rest.0 a c other (dump_then ended (dump_lines k maps) (lines_of_maps k (maps k)) a b c first second))

-- what was written of a writer is that of its partition and its maps
pub written_of : (ended : Ended) (p q : ℕ) (m n : Entries) (a b : Option (List ℕ)) → p ≡ q → m ≡ n → DumpAt ended (lines_of_maps p m) a b → DumpAt ended (lines_of_maps q n) a b
written_of ended p q m n a b here same wrote =
    subst (λ (x : ℕ). DumpAt ended (lines_of_maps x n) a b) here (subst (λ (maps : Entries). DumpAt ended (lines_of_maps p maps) a b) same wrote)

-- ---- the folder keeps its files

none_at : (writers : List Standing) (o : Option Standing) (name : ChunkName) → ((s : Standing) → o ≡ Some s → files_in (Some s) name ≡ None) → files_in o name ≡ None
none_at writers None name none = refl
none_at writers (Some s) name none = none s refl

-- where no writer has a file
pub closed_keeps : (tells : Bool) (image : Image) (writers : List Standing) (old new : Port) → AreResumed tells image writers → tells ≡ true → IsAtRest old → IsGivenBack new
    → ((name : ChunkName) → new.held name ≡ either_file (old.held name) (files_at writers name)) → KeepsImages old new
closed_keeps tells image writers old new begun told rest given_back held =
    images_kept old new rest.given_back (record {
      given_back = given_back;
      held = λ name. held name ∙ either_same (old.held name) (files_at writers name) (none_at writers _ name (λ s is. (begun name.partition.0 s is).files told name));
    })

-- ---- a dump

-- over a folder that was restarted before
pub wrote_after : (tells : Bool) (partitions : ℕ) (old mid : Port) (faults more : ℕ) (taken : Option (List ℕ)) (new : Outside) (ended : Ended)
    → (tells ≡ true → KeepsImages old mid) → Dumped tells partitions (record { port = mid; faults = more; taken = taken }) new ended
    → Wrote tells partitions (record { port = old; faults = faults; taken = taken }) new ended
wrote_after tells partitions old mid faults more taken new ended keeps dumped = inr (record {
  maps = dumped.maps;
  restarted = λ y. subst (λ (image : Image). AllRestart image partitions dumped.maps) (one_image (read_of mid) (read_of old) (keeps y).read) (dumped.restarted y);
  text = dumped.text;
  images = λ y. keeps_after old mid new.port (keeps y) (dumped.images y);
})
