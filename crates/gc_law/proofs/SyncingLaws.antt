-- An answered sync notes what was written since the one before, and a durable file may go away in a Seal.
use Rattle.std.specs.Prelude.{◌≡◌, ◌≢◌, ◌⊎◌, ℕ, ◌+◌, ◌<◌, ◌≤◌, Bool, true, false, cond, nat_lt, List, [], ◌∷◌, ◌++◌, length, take, All, Option, Some, None, IsSome, if◌then◌else◌, refl}
use Rattle.std.proofs.Common.{sym, ◌∙◌, ap, subst, inl, inr, arith, append_assoc, length-append, true≢false}
use Rattle.std.specs.List.{AllByRecursion}
use Rattle.std.specs.FinMap as map
use Rattle.std.proofs.lemmas.Bool.{ltb-true, lt-ltb}
use Rattle.std.proofs.lemmas.List.{append-nil, nil_from_length}
use Rattle.std.proofs.lemmas.List.Elements.{All-nil, All-from_recursion, recursion_from_All}
use Rattle.hr_base.specs.declared.name.ChunkName.{ChunkName}
use Rattle.hr_base.specs.Entries.{Entries, Key, State}
use Rattle.hr_base.specs.NameTests.{is_name}
use Rattle.hr_base.specs.Names.{class_of_kind}
use Rattle.hr_base.proofs.NameTestLaws.{is_name-same, is_name-other, same_name_or_not}
use Rattle.dir_files.specs.Files.{FileState, IsDurable}
use Rattle.dir_files.specs.Ports.{either_file}
use Rattle.record_format.specs.declared.record.Record.{Record}
use Rattle.record_format.specs.Spelling.{seq_of, spellings}
use Rattle.record_format.specs.Splits.{Splits, IsOfClass}
use Rattle.record_format.proofs.SplitLaws.{whole_spellings_split, nothing_is_torn}
use Rattle.crash_law.specs.Accounts.{Account, synced}
use Rattle.crash_law.specs.Chunks.{HoldsRecords, LeavesFront}
use Rattle.crash_law.specs.Commands.{command_of, touches, state_of, state_after, state_after_all}
use Rattle.crash_law.specs.Numbered.{Rising, IsIn, commands_of}
use Rattle.crash_law.specs.Placed.{Placed, records_of, in_chunk, IsPlaced}
use Rattle.crash_law.specs.Growth.{IsOwnBut, HoldsBut}
use Rattle.crash_law.specs.Writers.{Written, SyncsRecords}
use Rattle.crash_law.proofs.CommandLaws.{get-maps_after_all}
use Rattle.crash_law.proofs.ChunkLaws.{leaves_front}
use Rattle.crash_law.proofs.PlacedLaws.{in_chunk-append, in_chunk_valid}
use Rattle.crash_law.proofs.GrowthLaws.{holds_risen, holds_synced}
use Rattle.gc_event.specs.Notes.{IsOneOf, Identity, identity_of, concerns, Note, Own, Dead, id_of, chunk_of, number_of, top, top_by}
use Rattle.gc_law.specs.CollectorFacts.{IsSafeAt}
use Rattle.gc_law.specs.Events.{NotedEvent, SealEvent, notes, seal_of, placed_of, IsSealedFile, IsTelling}
use Rattle.gc_law.specs.WriterFacts.{IsStateBy, IsWritersAt, AreOfPart, SealsFile, Tells, events_of}
use Rattle.gc_law.proofs.EventLaws.{none_some, touches_is, one_of_append, notes-append, seal_of-append, placed_in_chunk, in_chunk_placed}
use Rattle.gc_law.proofs.UnionLaws.{spellings-append}
use Rattle.gc_law.proofs.NotingLaws.{lacks, open_of, open_noted, sealed_none, tells_all, tells_maps, writers_at, still_none}
use Rattle.gc_law.proofs.TellingLaws.{or_none, telling_noted, telling_sealed}

-- ---- the top of a key, with one note more

not_less : (a b : ℕ) → a < b → nat_lt b a ≡ false
not_less a b less = by_test (nat_lt b a) refl where
  by_test : (x : Bool) → nat_lt b a ≡ x → x ≡ false
  by_test false e = refl
  by_test true e = absurd (omega (arith, less, ltb-true b a e))

stays_by : (x y z : Bool) (o n : Option Note) → x ≡ false → y ≡ true → (if (if x then true else if y then false else z) then o else n) ≡ n
stays_by false true z o n e f = refl
stays_by true y z o n e f = absurd (true≢false e)
stays_by false false z o n e f = absurd (true≢false (sym f))

top_push : (ns : List Note) (n : Note) (k : Key) → ((m : Note) → IsOneOf m ns → number_of m < number_of n) → top (ns ++ n ∷ []) k ≡ cond (concerns (id_of n) k) (Some n) (top ns k)
top_push [] n k above = by_first (concerns (id_of n) k) where
  by_first : (b : Bool) → top_by b n None ≡ cond b (Some n) None
  by_first true = refl
  by_first false = refl
top_push (m ∷ ns) n k above =
    ap (top_by (concerns (id_of m) k) m) (top_push ns n k (λ x i. above x (inr i))) ∙ by_cases (concerns (id_of m) k) (concerns (id_of n) k)
  where
    by_cases : (b c : Bool) → top_by b m (cond c (Some n) (top ns k)) ≡ cond c (Some n) (top_by b m (top ns k))
    by_cases false c = refl
    by_cases true false = refl
    by_cases true true =
        stays_by (nat_lt (number_of n) (number_of m)) (nat_lt (number_of m) (number_of n)) _ (Some m) (Some n)
        (not_less (number_of m) (number_of n) (above m (inl refl))) (lt-ltb (number_of m) (number_of n) (above m (inl refl)))

state_push : (ns : List Note) (r : Record) (chunk : ChunkName) (k : Key) (s : State) → ((m : Note) → IsOneOf m ns → number_of m < seq_of r) → IsStateBy (top ns k) s
    → IsStateBy (top (ns ++ Own r chunk ∷ []) k) (state_after (command_of r) k s)
state_push ns r chunk k s above h =
    subst (λ (o : Option Note). IsStateBy o (state_after (command_of r) k s)) (sym (top_push ns (Own r chunk) k above))
    (by_cases (concerns (identity_of r) k) (touches (command_of r) k) (touches_is r k))
  where
    by_cases : (b c : Bool) → c ≡ b → IsStateBy (cond b (Some (Own r chunk)) (top ns k)) (cond c (state_of (command_of r)) s)
    by_cases true true e = refl
    by_cases false false e = h
    by_cases true false e = absurd (true≢false (sym e))
    by_cases false true e = absurd (true≢false e)

-- ---- records that are noted one by one

events_unsealed : (xs : List Placed) (name : ChunkName) → seal_of (events_of xs) name ≡ None
events_unsealed [] name = refl
events_unsealed (x ∷ xs) name = events_unsealed xs name

seals_stay : (es : List NotedEvent) (xs : List Placed) (name : ChunkName) → seal_of (es ++ events_of xs) name ≡ seal_of es name
seals_stay es xs name = seal_of-append es (events_of xs) name ∙ or_none (seal_of es name) (seal_of (events_of xs) name) (events_unsealed xs name)

noted_record : (xs : List Placed) (m : Note) → IsOneOf m (notes (events_of xs)) → (x : Placed) × IsOneOf x xs × (m ≡ Own x.content x.chunk)
noted_record [] m i = absurd i
noted_record (x ∷ xs) m i = elim i [
  | inl e ↦ (x, inl refl, e)
  | inr more ↦
      let w = noted_record xs m more in
      (w.0, inr w.1, w.2)
]

noted_by : (es : List NotedEvent) (xs : List Placed) (m : Note) → IsOneOf m (notes (es ++ events_of xs)) → IsOneOf m (notes es) ⊎ IsOneOf m (notes (events_of xs))
noted_by es xs m i = one_of_append (notes es) (notes (events_of xs)) m (subst (λ (ns : List Note). IsOneOf m ns) (notes-append es (events_of xs)) i)

module _ (es : List NotedEvent) (x : Placed) (low : ℕ) (below : (m : Note) → IsOneOf m (notes es) → number_of m < low) (from : low ≤ seq_of x.content) where
  above : (m : Note) → IsOneOf m (notes es) → number_of m < seq_of x.content
  above m i = omega (arith, below m i, from)

  below_more : (m : Note) → IsOneOf m (notes (es ++ events_of (x ∷ []))) → number_of m < seq_of x.content + 1
  below_more m i = elim (noted_by es (x ∷ []) m i) [
    | inl before ↦ omega (arith, above m before)
    | inr now ↦ elim now [ inl e ↦ omega (arith, ap number_of e) | inr more ↦ absurd more ]
  ]

telling_all : (p : ℕ) (es : List NotedEvent) (xs : List Placed) (low : ℕ) → IsTelling p es → ((m : Note) → IsOneOf m (notes es) → number_of m < low) → Rising low (records_of xs)
    → ((x : Placed) → IsOneOf x xs → seal_of es x.chunk ≡ None) → IsTelling p (es ++ events_of xs)
telling_all p es [] low h below rising free = subst (IsTelling p) (sym (append-nil es)) h
telling_all p es (x ∷ xs) low h below rising free =
    subst (IsTelling p) (append_assoc es (events_of (x ∷ [])) (events_of xs))
    (telling_all p (es ++ events_of (x ∷ [])) xs (seq_of x.content + 1)
    (telling_noted p es h x.content x.chunk (above es x low below rising.0) (free x (inl refl)))
    (below_more es x low below rising.0) rising.1
    (λ y i. seals_stay es (x ∷ []) y.chunk ∙ free y (inr i)))

state_all : (es : List NotedEvent) (xs : List Placed) (low : ℕ) (k : Key) (s : State) → ((m : Note) → IsOneOf m (notes es) → number_of m < low) → Rising low (records_of xs)
    → IsStateBy (top (notes es) k) s → IsStateBy (top (notes (es ++ events_of xs)) k) (state_after_all (commands_of (records_of xs)) k s)
state_all es [] low k s below rising h = subst (λ (fs : List NotedEvent). IsStateBy (top (notes fs) k) s) (sym (append-nil es)) h
state_all es (x ∷ xs) low k s below rising h =
    subst (λ (fs : List NotedEvent). IsStateBy (top (notes fs) k) (state_after_all (commands_of (records_of (x ∷ xs))) k s)) (append_assoc es (events_of (x ∷ [])) (events_of xs))
    (state_all (es ++ events_of (x ∷ [])) xs (seq_of x.content + 1) k (state_after (command_of x.content) k s) (below_more es x low below rising.0) rising.1
    (subst (λ (ns : List Note). IsStateBy (top ns k) (state_after (command_of x.content) k s)) (sym (notes-append es (events_of (x ∷ []))))
    (state_push (notes es) x.content x.chunk k s (above es x low below rising.0) h)))

placed_of-append : (ms ns : List Note) → placed_of (ms ++ ns) ≡ placed_of ms ++ placed_of ns
placed_of-append [] ns = refl
placed_of-append (Own content chunk ∷ ms) ns = ap (λ (xs : List Placed). record { content = content; chunk = chunk } ∷ xs) (placed_of-append ms ns)
placed_of-append (Dead id chunk ∷ ms) ns = placed_of-append ms ns

placed_of-events : (xs : List Placed) → placed_of (notes (events_of xs)) ≡ xs
placed_of-events [] = refl
placed_of-events (x ∷ xs) = ap (λ (ys : List Placed). x ∷ ys) (placed_of-events xs)

placed_all : (es : List NotedEvent) (xs : List Placed) → placed_of (notes (es ++ events_of xs)) ≡ placed_of (notes es) ++ xs
placed_all es xs =
    ap placed_of (notes-append es (events_of xs)) ∙ placed_of-append (notes es) (notes (events_of xs))
    ∙ ap (λ (ys : List Placed). placed_of (notes es) ++ ys) (placed_of-events xs)

-- ---- chunks without a Seal, still

open_same : (es fs : List NotedEvent) (xs : List Placed) → ((name : ChunkName) → seal_of fs name ≡ seal_of es name) → open_of fs xs ≡ open_of es xs
open_same es fs [] same = refl
open_same es fs (x ∷ xs) same =
    ap (λ (s : Option FileState). cond (lacks s) (x ∷ open_of fs xs) (open_of fs xs)) (same x.chunk)
    ∙ ap (λ (zs : List Placed). cond (lacks (seal_of es x.chunk)) (x ∷ zs) zs) (open_same es fs xs same)

open_append : (es : List NotedEvent) (xs ys : List Placed) → ((y : Placed) → IsOneOf y ys → seal_of es y.chunk ≡ None) → open_of es (xs ++ ys) ≡ open_of es xs ++ ys
open_append es [] [] free = refl
open_append es [] (y ∷ ys) free =
    ap (λ (s : Option FileState). cond (lacks s) (y ∷ open_of es ys) (open_of es ys)) (free y (inl refl))
    ∙ ap (λ (zs : List Placed). y ∷ zs) (open_append es [] ys (λ z i. free z (inr i)))
open_append es (x ∷ xs) ys free =
    ap (λ (zs : List Placed). cond (lacks (seal_of es x.chunk)) (x ∷ zs) zs) (open_append es xs ys free) ∙ by_test (lacks (seal_of es x.chunk))
  where
    by_test : (b : Bool) → cond b (x ∷ (open_of es xs ++ ys)) (open_of es xs ++ ys) ≡ cond b (x ∷ open_of es xs) (open_of es xs) ++ ys
    by_test true = refl
    by_test false = refl

in_own_chunk : (xs : List Placed) (x : Placed) → IsOneOf x xs → IsIn x.content (in_chunk x.chunk xs)
in_own_chunk [] x i = absurd i
in_own_chunk (y ∷ ys) x i = elim i [
  | inl e ↦ first (is_name x.chunk y.chunk) refl e
  | inr more ↦ later (is_name x.chunk y.chunk) (in_own_chunk ys x more)
] where
  first : (b : Bool) → is_name x.chunk y.chunk ≡ b → x ≡ y → IsIn x.content (cond b (y.content ∷ in_chunk x.chunk ys) (in_chunk x.chunk ys))
  first true e same = inl (ap (λ (z : Placed). z.content) same)
  first false e same = absurd (true≢false (sym (is_name-same y.chunk) ∙ (ap (λ (z : Placed). is_name z.chunk y.chunk) (sym same) ∙ e)))

  later : (b : Bool) → IsIn x.content (in_chunk x.chunk ys) → IsIn x.content (cond b (y.content ∷ in_chunk x.chunk ys) (in_chunk x.chunk ys))
  later true j = inr j
  later false j = j

placed_one : (p : ℕ) (xs : List Placed) (x : Placed) → AllByRecursion (IsPlaced p) xs → IsOneOf x xs → IsPlaced p x
placed_one p [] x h i = absurd i
placed_one p (y ∷ ys) x h i = elim i [ inl e ↦ subst (IsPlaced p) (sym e) h.0 | inr more ↦ placed_one p ys x h.1 more ]

placed_behind : (p : ℕ) (xs ys : List Placed) → AllByRecursion (IsPlaced p) (xs ++ ys) → AllByRecursion (IsPlaced p) ys
placed_behind p [] ys h = h
placed_behind p (x ∷ xs) ys h = placed_behind p xs ys h.1

placed_before : (p : ℕ) (xs ys : List Placed) → AllByRecursion (IsPlaced p) (xs ++ ys) → AllByRecursion (IsPlaced p) xs
placed_before p [] ys h = tt
placed_before p (x ∷ xs) ys h = (h.0, placed_before p xs ys h.1)

-- ---- an answered sync

module _ (w : Written) (es : List NotedEvent) (a : Account) (h : Tells w es a) where
  since_free : (x : Placed) → IsOneOf x w.records → seal_of es x.chunk ≡ None
  since_free x i = by_seal (seal_of es x.chunk) refl where
    of : x.chunk.partition.0 ≡ w.partition
    of = (placed_one w.partition w.records x (placed_behind w.partition (placed_of (notes es)) w.records (recursion_from_All (IsPlaced w.partition) (placed_of (notes es) ++ w.records) h.placed)) i).partition

    by_seal : (s : Option FileState) → seal_of es x.chunk ≡ s → s ≡ None
    by_seal None e = refl
    by_seal (Some f) e = absurd (subst (λ (rs : List Record). IsIn x.content rs) (sealed_none w es a h x.chunk f of e).1 (in_own_chunk w.records x i))

  below_since : (xs : List Placed) (n : ℕ) (x : Placed) → AllByRecursion (λ (r : Record). seq_of r < n) (records_of xs) → IsOneOf x xs → seq_of x.content < n
  below_since [] n x k i = absurd i
  below_since (y ∷ ys) n x k i = elim i [ inl e ↦ omega (arith, k.0, ap (λ (z : Placed). seq_of z.content) e) | inr more ↦ below_since ys n x k.1 more ]

-- all its records are noted, and durable
pub tell_synced : (w t : Written) (es : List NotedEvent) (a : Account) → Tells w es a → w.lost ≡ false → SyncsRecords w t → AreOfPart t.partition t.files → Tells t (es ++ events_of w.records) (synced a)
tell_synced w t es a h whole syncs of_part = record {
  telling = subst (λ (p : ℕ). IsTelling p (es ++ events_of w.records)) (sym syncs.partition) (telling_all w.partition es w.records h.low h.telling h.below h.since (since_free w es a h));
  own_maps = h.own_maps ∙ sym syncs.maps;
  durable = λ k.
      subst (IsStateBy (top (notes (es ++ events_of w.records)) k))
      (sym (get-maps_after_all (commands_of (records_of w.records)) a.durable k) ∙ ap (λ (m : Entries). map.get m k) (sym (tells_maps w es a h whole)))
      (state_all es w.records h.low k (map.get a.durable k) h.below h.since (h.durable k));
  kept = [];
  lost = [];
  records = syncs.records;
  one_lost = sym (ap (λ (y : Bool). if y then 1 else 0) syncs.lost);
  maps = refl;
  tail = sym (ap (λ (xs : List Placed). commands_of (records_of xs)) syncs.records);
  low = w.next;
  below = λ n i. elim (noted_by es w.records n i) [
    | inl before ↦ omega (arith, h.below n before, h.from)
    | inr now ↦
        let x = noted_record w.records n now in
        omega (
          arith,
          ap number_of x.2,
          below_since w es a h w.records w.next x.0 (recursion_from_All (λ (r : Record). seq_of r < w.next) (records_of w.records) h.below_next) x.1,
        )
  ];
  since = subst (λ (xs : List Placed). Rising w.next (records_of xs)) (sym syncs.records) tt;
  from = omega (arith, syncs.next);
  below_next = subst (λ (xs : List Placed). All (λ r. seq_of r < t.next) (records_of xs)) (sym syncs.records) (All-nil (λ r. seq_of r < t.next));
  placed =
      subst (λ (p : ℕ). All (IsPlaced p) (placed_of (notes (es ++ events_of w.records)) ++ t.records)) (sym syncs.partition)
      (subst (λ (xs : List Placed). All (IsPlaced w.partition) (placed_of (notes (es ++ events_of w.records)) ++ xs)) (sym syncs.records)
      (subst (λ (xs : List Placed). All (IsPlaced w.partition) xs) (sym (placed_all es w.records) ∙ sym (append-nil (placed_of (notes (es ++ events_of w.records))))) h.placed));
  dead = λ id chunk i. subst IsSome (sym (seals_stay es w.records chunk)) (elim (noted_by es w.records (Dead id chunk) i) [
    | inl before ↦ h.dead id chunk before
    | inr now ↦
        let x = noted_record w.records (Dead id chunk) now in
        absurd (not_own id chunk x.0.content x.0.chunk x.2)
  ]);
  partition = of_part;
  at = λ name of.
      writers_at w.partition (es ++ events_of w.records) t.files w.gone (placed_of (notes (es ++ events_of w.records))) t.records [] [] holds syncs.records sealed name (of ∙ syncs.partition);
  none_gone = λ name. syncs.gone name ∙ h.none_gone name;
} where
  not_own : (id : Identity) (chunk : ChunkName) (r : Record) (c : ChunkName) → Dead id chunk ≡ Own r c → ⊥
  not_own id chunk r c e = cc

  open_all : open_of (es ++ events_of w.records) (placed_of (notes (es ++ events_of w.records))) ≡ open_noted w es a h ++ w.records
  open_all =
      open_same es (es ++ events_of w.records) (placed_of (notes (es ++ events_of w.records))) (seals_stay es w.records)
      ∙ ap (open_of es) (placed_all es w.records)
      ∙ open_append es (placed_of (notes es)) w.records (since_free w es a h)

  holds : HoldsBut w.partition (λ name. None) t.files w.gone (open_of (es ++ events_of w.records) (placed_of (notes (es ++ events_of w.records)))) [] []
  holds =
      subst (λ (xs : List Placed). HoldsBut w.partition (λ name. None) t.files w.gone xs [] []) (sym open_all)
      (holds_synced w.partition (λ name. None) t.files w.gone (open_noted w es a h) w.records
      (holds_risen w.partition (λ name. None) w.files t.files w.gone (open_noted w es a h) w.records [] (tells_all w es a h whole) syncs.rises)
      (λ name of _. syncs.durable name of))

  sealed : (name : ChunkName) (f : FileState) → name.partition.0 ≡ w.partition → seal_of (es ++ events_of w.records) name ≡ Some f → (t.files name ≡ None) × (in_chunk name t.records ≡ [])
  sealed name f of e =
      (still_none (w.files name) (t.files name) (syncs.rises.rises name of) (sealed_none w es a h name f of (sym (seals_stay es w.records name) ∙ e)).0, ap (in_chunk name) syncs.records)

-- ---- a file that goes away in its Seal

module _ (w : Written) (es : List NotedEvent) (a : Account) (h : Tells w es a) (none : w.records ≡ []) (name : ChunkName) (file : FileState) (there : w.files name ≡ Some file) where
  abbrev recs : List Record
  recs = in_chunk name (placed_of (notes es))

  own_by : (s : Option FileState) → IsWritersAt s (w.files name) recs (in_chunk name w.records) (in_chunk name h.lost) → (s ≡ None) × IsOwnBut (Some file) recs (in_chunk name w.records) (in_chunk name h.lost)
  own_by None at = (refl, subst (λ (o : Option FileState). IsOwnBut o recs (in_chunk name w.records) (in_chunk name h.lost)) there at)
  own_by (Some g) at = absurd (none_some file (sym at.0 ∙ there))

  own : (seal_of es name ≡ None) × IsOwnBut (Some file) recs (in_chunk name w.records) (in_chunk name h.lost)
  own = own_by (seal_of es name) (h.at name (h.partition name file there))

  nothing_lost : h.lost ≡ []
  nothing_lost = joined h.kept h.lost (sym h.records ∙ none) where
    joined : (xs ys : List Placed) → xs ++ ys ≡ [] → ys ≡ []
    joined [] ys e = e
    joined (x ∷ xs) ys e = absurd (omega (arith, ap length e))

  nothing : own.1.1.0 ≡ []
  nothing = nil_from_length own.1.1.0 (omega (arith, own.1.1.2, ap (λ (xs : List Placed). length (spellings (in_chunk name xs))) nothing_lost))

  bytes : file.bytes ≡ spellings recs
  bytes =
      sym (append-nil file.bytes) ∙ ap (λ (m : List ℕ). file.bytes ++ m) (sym nothing) ∙ sym own.1.1.1.bytes
      ∙ ap (λ (xs : List Placed). spellings (recs ++ in_chunk name xs)) none ∙ ap spellings (append-nil recs)

  one_dead : (id : Identity) → IsOneOf (Dead id name) (notes es) → ⊥
  one_dead id i = by_seal (seal_of es name) own.0 (h.dead id name i) where
    by_seal : (s : Option FileState) → s ≡ None → IsSome s → ⊥
    by_seal None e k = absurd (true≢false (sym k))
    by_seal (Some f) e k = none_some f (sym e)

  each_noted : (n : Note) → IsOneOf n (notes es) → chunk_of n ≡ name → (r : Record) × IsIn r recs × (identity_of r ≡ id_of n)
  each_noted (Own r chunk) i e = (r, placed_in_chunk (notes es) name r (subst (λ (c : ChunkName). IsOneOf (Own r c) (notes es)) e i), refl)
  each_noted (Dead id chunk) i e = absurd (one_dead id (subst (λ (c : ChunkName). IsOneOf (Dead id c) (notes es)) e i))

  pub is_sealed : IsDurable file → IsSealedFile w.partition es name file
  is_sealed durable = record {
    partition = h.partition name file there;
    durable = durable;
    small = own.1.0;
    records = recs;
    rest = [];
    split =
        subst (λ (b : List ℕ). Splits (class_of_kind name.kind) b recs []) (sym bytes)
        (whole_spellings_split (class_of_kind name.kind) recs
        (All-from_recursion (IsOfClass (class_of_kind name.kind)) recs
        (in_chunk_valid w.partition name (placed_of (notes es)) (placed_before w.partition (placed_of (notes es)) w.records (recursion_from_All (IsPlaced w.partition) (placed_of (notes es) ++ w.records) h.placed)))));
    torn = nothing_is_torn (class_of_kind name.kind);
    noted = λ r i. record { note = Own r name; member = in_chunk_placed (notes es) name r i; chunk = refl; is = refl };
    all = each_noted;
    content = λ r s chunk i j e. h.telling.content r s name chunk (in_chunk_placed (notes es) name r i) j (sym e);
  }

  pub tell_all_sealed : IsDurable file → IsTelling w.partition (es ++ SealEvent name file (length file.bytes) ∷ [])
  unfolding is_sealed
  tell_all_sealed durable = telling_sealed w.partition es h.telling name file own.0 (is_sealed durable) (λ r i. in_chunk_placed (notes es) name r i)

abbrev with_seal : List NotedEvent → ChunkName → FileState → List NotedEvent
with_seal es name file = es ++ SealEvent name file (length file.bytes) ∷ []

pub tell_sealed : (w t : Written) (es : List NotedEvent) (a : Account) (name : ChunkName) (file : FileState) → Tells w es a → w.records ≡ [] → w.files name ≡ Some file → IsDurable file → SealsFile w t name
    → Tells t (es ++ SealEvent name file (length file.bytes) ∷ []) a
tell_sealed w t es a name file h none there durable seals = record {
  telling = subst (λ (p : ℕ). IsTelling p (with_seal es name file)) (sym seals.partition) (tell_all_sealed w es a h none name file there durable);
  own_maps = h.own_maps ∙ sym seals.maps;
  durable = λ k. subst (λ (ns : List Note). IsStateBy (top ns k) (map.get a.durable k)) (sym same_notes) (h.durable k);
  kept = h.kept;
  lost = h.lost;
  records = seals.records ∙ h.records;
  one_lost = h.one_lost ∙ ap (λ (y : Bool). if y then 1 else 0) (sym seals.lost);
  maps = h.maps;
  tail = h.tail ∙ ap (λ (xs : List Placed). commands_of (records_of xs)) (sym seals.records);
  low = h.low;
  below = λ n i. h.below n (subst (λ (ns : List Note). IsOneOf n ns) same_notes i);
  since = subst (λ (xs : List Placed). Rising h.low (records_of xs)) (sym seals.records) h.since;
  from = omega (arith, h.from, seals.next);
  below_next =
      subst (λ (n : ℕ). All (λ r. seq_of r < n) (records_of t.records)) (sym seals.next)
      (subst (λ (xs : List Placed). All (λ r. seq_of r < w.next) (records_of xs)) (sym seals.records) h.below_next);
  placed =
      subst (λ (p : ℕ). All (IsPlaced p) (placed_of (notes (with_seal es name file)) ++ t.records)) (sym seals.partition)
      (subst (λ (ns : List Note). All (IsPlaced w.partition) (placed_of ns ++ t.records)) (sym same_notes)
      (subst (λ (xs : List Placed). All (IsPlaced w.partition) (placed_of (notes es) ++ xs)) (sym seals.records) h.placed));
  dead = λ id chunk i. still_some chunk (seal_of es chunk) refl (h.dead id chunk (subst (λ (ns : List Note). IsOneOf (Dead id chunk) ns) same_notes i));
  partition = λ other f e. by_part other f e (same_name_or_not other name);
  at = λ other of.
      subst (λ (ns : List Note). IsWritersAt (seal_of (with_seal es name file) other) (t.files other) (in_chunk other (placed_of ns)) (in_chunk other t.records) (in_chunk other h.lost)) (sym same_notes)
      (at_by other (of ∙ seals.partition) (same_name_or_not other name));
  none_gone = λ other. seals.gone other ∙ h.none_gone other;
} where
  same_notes : notes (with_seal es name file) ≡ notes es
  same_notes = notes-append es (SealEvent name file (length file.bytes) ∷ []) ∙ append-nil (notes es)

  seal_at : (other : ChunkName) → other ≢ name → seal_of (with_seal es name file) other ≡ seal_of es other
  seal_at other differ =
      seal_of-append es (SealEvent name file (length file.bytes) ∷ []) other
      ∙ or_none (seal_of es other) _ (ap (λ (b : Bool). cond b (Some file) None) (is_name-other other name differ))

  some_is : (s x : Option FileState) → IsSome s → IsSome (either_file s x)
  some_is (Some f) x k = k
  some_is None x k = absurd (true≢false (sym k))

  still_some : (chunk : ChunkName) (s : Option FileState) → seal_of es chunk ≡ s → IsSome s → IsSome (seal_of (with_seal es name file) chunk)
  still_some chunk s e k =
      subst IsSome (sym (seal_of-append es (SealEvent name file (length file.bytes) ∷ []) chunk))
      (some_is (seal_of es chunk) _ (subst IsSome (sym e) k))

  by_part : (other : ChunkName) (f : FileState) → t.files other ≡ Some f → (other ≡ name) ⊎ (other ≢ name) → other.partition.0 ≡ t.partition
  by_part other f e (inl same) = absurd (none_some f (sym seals.none ∙ (ap t.files (sym same) ∙ e)))
  by_part other f e (inr differ) = h.partition other f (sym (seals.others other differ) ∙ e) ∙ sym seals.partition

  here : seal_of (with_seal es name file) name ≡ Some file
  here =
      seal_of-append es (SealEvent name file (length file.bytes) ∷ []) name
      ∙ ap (λ (s : Option FileState). either_file s (seal_of (SealEvent name file (length file.bytes) ∷ []) name)) (own w es a h none name file there).0
      ∙ ap (λ (b : Bool). cond b (Some file) None) (is_name-same name)

  empty : (other : ChunkName) → in_chunk other t.records ≡ []
  empty other = ap (in_chunk other) (seals.records ∙ none)

  at_by : (other : ChunkName) → other.partition.0 ≡ w.partition → (other ≡ name) ⊎ (other ≢ name)
      → IsWritersAt (seal_of (with_seal es name file) other) (t.files other) (in_chunk other (placed_of (notes es))) (in_chunk other t.records) (in_chunk other h.lost)
  at_by other of (inl same) =
      subst (λ (s : Option FileState). IsWritersAt s (t.files other) (in_chunk other (placed_of (notes es))) (in_chunk other t.records) (in_chunk other h.lost)) (sym (ap (seal_of (with_seal es name file)) same ∙ here))
      (ap t.files same ∙ seals.none, empty other)
  at_by other of (inr differ) =
      subst (λ (s : Option FileState). IsWritersAt s (t.files other) (in_chunk other (placed_of (notes es))) (in_chunk other t.records) (in_chunk other h.lost)) (sym (seal_at other differ))
      (subst (λ (o : Option FileState). IsWritersAt (seal_of es other) o (in_chunk other (placed_of (notes es))) (in_chunk other t.records) (in_chunk other h.lost)) (sym (seals.others other differ))
      (subst (λ (xs : List Placed). IsWritersAt (seal_of es other) (w.files other) (in_chunk other (placed_of (notes es))) (in_chunk other xs) (in_chunk other h.lost)) (sym seals.records) (h.at other of)))

-- ---- each noted record is kept by a crash

spelled_more : (xs ys : List Record) → length (spellings (xs ++ ys)) ≡ length (spellings xs) + length (spellings ys)
spelled_more xs ys = ap length (spellings-append xs ys) ∙ length-append (spellings xs) (spellings ys)

module _ (w : Written) (es : List NotedEvent) (a : Account) (h : Tells w es a) (x : Placed) (has : IsOneOf x (placed_of (notes es))) (free : seal_of es x.chunk ≡ None) where
  abbrev noted : List Record
  noted = in_chunk x.chunk (placed_of (notes es))

  abbrev since : List Record
  since = in_chunk x.chunk w.records

  is_in : IsIn x.content noted
  is_in = in_own_chunk (placed_of (notes es)) x has

  each : All (IsOfClass (class_of_kind x.chunk.kind)) (noted ++ since)
  each =
      subst (λ (rs : List Record). All (IsOfClass (class_of_kind x.chunk.kind)) rs) (in_chunk-append x.chunk (placed_of (notes es)) w.records)
      (All-from_recursion (IsOfClass (class_of_kind x.chunk.kind)) (in_chunk x.chunk (placed_of (notes es) ++ w.records))
      (in_chunk_valid w.partition x.chunk (placed_of (notes es) ++ w.records) (recursion_from_All (IsPlaced w.partition) (placed_of (notes es) ++ w.records) h.placed)))

  since_is : since ≡ in_chunk x.chunk h.kept ++ in_chunk x.chunk h.lost
  since_is = ap (in_chunk x.chunk) h.records ∙ in_chunk-append x.chunk h.kept h.lost

  safe_by : (o : Option FileState) → w.files x.chunk ≡ o → IsOwnBut o noted since (in_chunk x.chunk h.lost) → IsSafeAt w.files x.chunk x.content
  safe_by None e own = absurd (subst (λ (rs : List Record). IsIn x.content rs) own.0 is_in)
  safe_by (Some file) e own = record {
    file = file;
    safe = noted;
    more = take left.count since;
    rest = left.rest;
    there = e;
    named = elim holds.named [ inl none ↦ absurd (subst (λ (rs : List Record). IsIn x.content rs) none is_in) | inr named ↦ named ];
    holds = record { split = left.split; torn = left.torn; front = holds.front };
    has = is_in;
  } where
    missing : List ℕ
    missing = own.1.0

    holds : HoldsRecords file noted since own.1.0
    holds = own.1.1

    -- the file has them all
    fits : length (spellings noted) ≤ length file.bytes
    fits =
        omega (
          arith,
          own.1.2,
          ap length holds.bytes,
          length-append file.bytes own.1.0,
          spelled_more noted since,
          ap (λ (rs : List Record). length (spellings rs)) since_is,
          spelled_more (in_chunk x.chunk h.kept) (in_chunk x.chunk h.lost),
        )

    left : LeavesFront (class_of_kind x.chunk.kind) noted since file.bytes
    left =
        leaves_front (class_of_kind x.chunk.kind) (record { bytes = file.bytes; front = length (spellings noted); named = file.named }) noted since own.1.0 file.bytes each
        (record { bytes = holds.bytes; front = omega arith; named = holds.named })
        (record { rest = []; prefix = sym (append-nil file.bytes); front = fits })

  own_open : (s : Option FileState) → s ≡ None → IsWritersAt s (w.files x.chunk) noted since (in_chunk x.chunk h.lost) → IsOwnBut (w.files x.chunk) noted since (in_chunk x.chunk h.lost)
  own_open None e at = at
  own_open (Some f) e at = absurd (none_some f (sym e))

  pub tell_safe : IsSafeAt w.files x.chunk x.content
  tell_safe =
      safe_by (w.files x.chunk) refl
      (own_open (seal_of es x.chunk) free (h.at x.chunk
      (placed_one w.partition (placed_of (notes es)) x (placed_before w.partition (placed_of (notes es)) w.records (recursion_from_All (IsPlaced w.partition) (placed_of (notes es) ++ w.records) h.placed)) has).partition))
