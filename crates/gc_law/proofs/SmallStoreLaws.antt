-- A small store has the facts of both sides.
use Rattle.std.specs.Prelude.{◌≡◌, ◌⊎◌, ◌<◌, ◌≤◌, Bool, true, false, cond, [], ◌∷◌, length, Some, None, refl}
use Rattle.std.proofs.Common.{sym, ◌∙◌, ap, subst, inl, inr, arith}
use Rattle.std.specs.FinMap as map
use Rattle.std.proofs.lemmas.List.Elements.{All-from_recursion}
use Rattle.hr_base.specs.declared.limits.TheConstants.{MAX_FILE_LEN}
use Rattle.hr_base.specs.declared.name.ChunkName.{ChunkName}
use Rattle.hr_base.specs.declared.name.Class.TheVariants.{Value}
use Rattle.hr_base.specs.declared.name.Kind.TheVariants.{V, W}
use Rattle.hr_base.specs.Entries.{Key, State, content_of, is_key, key_at}
use Rattle.hr_base.proofs.EntryLaws.{get-empty-entries}
use Rattle.hr_base.specs.NameTests.{is_name}
use Rattle.hr_base.proofs.NameTestLaws.{is_name-true}
use Rattle.dir_files.specs.Files.{FileState}
use Rattle.record_format.specs.declared.record.Record.{Record}
use Rattle.record_format.specs.Spelling.{seq_of}
use Rattle.record_format.specs.Splits.{Splits, IsOfClass}
use Rattle.record_format.proofs.SplitLaws.{whole_spellings_split, nothing_is_torn}
use Rattle.crash_law.specs.Commands.{command_of}
use Rattle.crash_law.specs.Numbered.{IsIn}
use Rattle.crash_law.specs.Placed.{IsPlaced}
use Rattle.crash_law.proofs.CommandLaws.{get-maps_after}
use Rattle.gc_event.specs.Notes.{IsOneOf, Identity, identity_of, concerns, Note, Own, Dead, id_of, chunk_of, number_of, top, top_by, Occurrence, occurrence}
use Rattle.gc_event.specs.Worked.{chunk, put_a, put_b}
use Rattle.gc_law.specs.Both.{AreApart, IsCopyKind, KeepNames}
use Rattle.gc_law.specs.CollectorFacts.{IsSafeAt, KeepsTop, IsGatheredFile, KeptBy}
use Rattle.gc_law.specs.Events.{RecordEvent, notes, seal_of, IsSealedFile, IsTelling}
use Rattle.gc_law.specs.SmallStore.{durable_file, open_file, events, record_since, durable_maps, account, writer, collector}
use Rattle.gc_law.specs.WriterFacts.{IsStateBy, IsWritersAt, Tells}
use Rattle.gc_law.proofs.TellingLaws.{telling_noted, telling_sealed}
use Rattle.gc_law.proofs.EventLaws.{none_some}

-- ---- the records, and the file that has the first

valid_a : IsOfClass Value (put_a 1)
valid_a = record { valid = record { seq = record { numbered = omega arith; number = omega arith }; prefix = omega arith; key = omega arith; value = omega arith }; same = refl }

valid_b : IsOfClass Value (put_b 2)
valid_b = record { valid = record { seq = record { numbered = omega arith; number = omega arith }; prefix = omega arith; key = omega arith; value = omega arith }; same = refl }

split_a : Splits Value durable_file.bytes (put_a 1 ∷ []) []
split_a = whole_spellings_split Value (put_a 1 ∷ []) (All-from_recursion (IsOfClass Value) (put_a 1 ∷ []) (valid_a, tt))

short : length durable_file.bytes ≤ MAX_FILE_LEN
short = omega arith

-- ---- what was noted

no_events : IsTelling 0 []
no_events = record {
  rising = tt;
  one = λ m n i j e. absurd i;
  content = λ r s c d i j e. absurd i;
  last = tt;
  sizes = λ name file size i. absurd i;
  seals = λ name file e. absurd (none_some file e);
  agree = λ r s f g e. absurd (none_some f.bytes f.there);
}

one_noted : IsTelling 0 (RecordEvent (Own (put_a 1) (chunk V 1)) ∷ [])
one_noted = telling_noted 0 [] no_events (put_a 1) (chunk V 1) (λ m i. absurd i) refl

own_a : (s : Record) (d : ChunkName) → IsOneOf (Own s d) (Own (put_a 1) (chunk V 1) ∷ []) → put_a 1 ≡ s
own_a s d i = elim i [ inl e ↦ same e | inr more ↦ absurd more ] where
  same : Own s d ≡ Own (put_a 1) (chunk V 1) → put_a 1 ≡ s
  same e = cc

in_a : (r : Record) → IsIn r (put_a 1 ∷ []) → r ≡ put_a 1
in_a r i = elim i [ inl e ↦ e | inr more ↦ absurd more ]

sealed_a : IsSealedFile 0 (RecordEvent (Own (put_a 1) (chunk V 1)) ∷ []) (chunk V 1) durable_file
sealed_a = record {
  partition = refl;
  durable = record { front = refl; named = refl };
  small = short;
  records = put_a 1 ∷ [];
  rest = [];
  split = split_a;
  torn = nothing_is_torn Value;
  noted = λ r i. record { note = Own (put_a 1) (chunk V 1); member = inl refl; chunk = refl; is = ap identity_of (sym (in_a r i)) };
  all = λ n i c. (put_a 1, inl refl, elim i [ inl e ↦ ap id_of (sym e) | inr more ↦ absurd more ]);
  content = λ r s d i j e. in_a r i ∙ own_a s d j;
}

pub small_telling : IsTelling 0 events
unfolding sealed_a
small_telling =
    telling_sealed 0 (RecordEvent (Own (put_a 1) (chunk V 1)) ∷ []) one_noted (chunk V 1) durable_file refl sealed_a
    (λ r i. subst (λ (x : Record). IsOneOf (Own x (chunk V 1)) (Own (put_a 1) (chunk V 1) ∷ [])) (sym (in_a r i)) (inl refl))

-- ---- the writer

top_state : (k : Key) (b : Bool) → IsStateBy (top_by b (Own (put_a 1) (chunk V 1)) None) (cond b (Some (content_of (120 ∷ []))) None)
top_state k true = refl
top_state k false = refl

durable_by : (k : Key) → IsStateBy (top (notes events) k) (map.get durable_maps k)
durable_by k =
    subst (IsStateBy (top (notes events) k))
    (ap (λ (s : State). cond (is_key k (key_at 1 (97 ∷ []))) (Some (content_of (120 ∷ []))) s) (sym (get-empty-entries k)) ∙ sym (get-maps_after (command_of (put_a 1)) map.empty k))
    (top_state k (is_key k (key_at 1 (97 ∷ []))))

apart_names : (name : ChunkName) → name ≡ chunk V 1 → name ≡ chunk V 2 → ⊥
apart_names name e f = absurd (omega (arith, ap (λ (n : ChunkName). n.number.0) (sym e ∙ f)))

at_by : (name : ChunkName) (a b : Bool) → is_name name (chunk V 1) ≡ a → is_name name (chunk V 2) ≡ b
    → IsWritersAt (cond a (Some durable_file) None) (cond b (Some open_file) None) (cond a (put_a 1 ∷ []) []) (cond b (put_b 2 ∷ []) []) []
at_by name true true e f = absurd (apart_names name (is_name-true name (chunk V 1) e) (is_name-true name (chunk V 2) f))
at_by name true false e f = (refl, refl)
at_by name false true e f = (omega arith, ([], record { bytes = refl; front = omega arith; named = inl refl }, omega arith))
at_by name false false e f = (refl, refl)

one_file : (test : Bool) (file other : FileState) → cond test (Some file) None ≡ Some other → test ≡ true
one_file true file other e = refl
one_file false file other e = absurd (none_some other e)

same_file : (test : Bool) (file other : FileState) → cond test (Some file) None ≡ Some other → other ≡ file
same_file true file other e = same e where
  same : Some file ≡ Some other → other ≡ file
  same u = cc
same_file false file other e = absurd (none_some other e)

not_dead : (id : Identity) (c : ChunkName) → IsOneOf (Dead id c) (notes events) → ⊥
not_dead id c i = elim i [ inl e ↦ never e | inr more ↦ absurd more ] where
  never : Dead id c ≡ Own (put_a 1) (chunk V 1) → ⊥
  never e = cc

pub small_tells : Tells writer events account
small_tells = record {
  telling = small_telling;
  own_maps = refl;
  durable = durable_by;
  kept = record_since ∷ [];
  lost = [];
  records = refl;
  one_lost = refl;
  maps = refl;
  tail = refl;
  low = 2;
  below = λ n i. elim i [ inl e ↦ omega (arith, ap number_of e) | inr more ↦ absurd more ];
  since = (omega arith, tt);
  from = omega arith;
  below_next = All-from_recursion (λ (r : Record). seq_of r < writer.next) (put_b 2 ∷ []) (omega arith, tt);
  placed = All-from_recursion (IsPlaced 0) (record { content = put_a 1; chunk = chunk V 1 } ∷ record_since ∷ [])
      (record { valid = valid_a; partition = refl }, (record { valid = valid_b; partition = refl }, tt));
  dead = λ id c i. absurd (not_dead id c i);
  partition = λ name file e. ap (λ (n : ChunkName). n.partition.0) (is_name-true name (chunk V 2) (one_file (is_name name (chunk V 2)) open_file file e));
  at = λ name of. at_by name (is_name name (chunk V 1)) (is_name name (chunk V 2)) refl refl;
  none_gone = λ name. refl;
}

-- ---- the collector

gathered_a : (name : ChunkName) → (name ≡ chunk V 1) ⊎ (name ≡ chunk W 1) → IsGatheredFile 0 events collector.present name durable_file
gathered_a name at = elim at [
  | inl e ↦ subst (λ (n : ChunkName). IsGatheredFile 0 events collector.present n durable_file) (sym e) there
  | inr e ↦ subst (λ (n : ChunkName). IsGatheredFile 0 events collector.present n durable_file) (sym e) copied
] where
  told : (r : Record) → IsIn r (put_a 1 ∷ []) → (c : ChunkName) × IsOneOf (Own r c) (notes events)
  told r i = (chunk V 1, subst (λ (x : Record). IsOneOf (Own x (chunk V 1)) (notes events)) (sym (in_a r i)) (inl refl))

  there : IsGatheredFile 0 events collector.present (chunk V 1) durable_file
  there = record {
    small = short;
    records = put_a 1 ∷ [];
    rest = [];
    split = split_a;
    torn = nothing_is_torn Value;
    marked = λ r i. inl (ap (λ (x : Record). occurrence (identity_of x) (chunk V 1)) (in_a r i));
    told = λ r i. inl (told r i);
  }

  copied : IsGatheredFile 0 events collector.present (chunk W 1) durable_file
  copied = record {
    small = short;
    records = put_a 1 ∷ [];
    rest = [];
    split = split_a;
    torn = nothing_is_torn Value;
    marked = λ r i. inr (inl (ap (λ (x : Record). occurrence (identity_of x) (chunk W 1)) (in_a r i)));
    told = λ r i. inl (told r i);
  }

safe_copy : IsSafeAt collector.files (chunk W 1) (put_a 1)
safe_copy = record {
  file = durable_file;
  safe = put_a 1 ∷ [];
  more = [];
  rest = [];
  there = refl;
  named = refl;
  holds = record { split = split_a; torn = nothing_is_torn Value; front = omega arith };
  has = inl refl;
}

top_kept : (k : Key) (b : Bool) → KeepsTop 0 events collector k (top_by b (Own (put_a 1) (chunk V 1)) None)
top_kept k true = inr (chunk W 1, refl, safe_copy)
top_kept k false = tt

noted_a : (o : Occurrence) → IsOneOf o collector.present → o.id ≡ identity_of (put_a 1)
noted_a o i = elim i [ inl e ↦ ap (λ (x : Occurrence). x.id) e | inr more ↦ elim more [ inl f ↦ ap (λ (x : Occurrence). x.id) f | inr none ↦ absurd none ] ]

pub small_kept : KeptBy 0 events collector
small_kept = record {
  tops = λ k. top_kept k (concerns (identity_of (put_a 1)) k);
  files = λ name file of e.
      subst (IsGatheredFile 0 events collector.present name) (sym (same_file (is_name name (chunk W 1)) durable_file file e))
      (gathered_a name (inr (is_name-true name (chunk W 1) (one_file (is_name name (chunk W 1)) durable_file file e))));
  gone = λ name file of e.
      subst (IsGatheredFile 0 events collector.present name) (sym (same_file (is_name name (chunk V 1)) durable_file file e))
      (gathered_a name (inl (is_name-true name (chunk V 1) (one_file (is_name name (chunk V 1)) durable_file file e))));
  noted = λ o i. (Own (put_a 1) (chunk V 1), inl refl, sym (noted_a o i));
  unsealed = λ n i e. elim i [
    | inl same ↦ absurd (none_some durable_file (sym e ∙ ap (λ (x : Note). seal_of events (chunk_of x)) same))
    | inr more ↦ absurd more
  ];
}

-- ---- the names

pub small_apart : AreApart writer [] collector
small_apart name file of e = (ap writer.files (is_name-true name (chunk W 1) (one_file (is_name name (chunk W 1)) durable_file file e)), refl)

pub small_named : KeepNames writer collector events [] 1
small_named = record {
  created = λ name file of e none.
      let same = is_name-true name (chunk W 1) (one_file (is_name name (chunk W 1)) durable_file file e) in
      (subst (λ (n : ChunkName). copy_kind n) (sym same) tt, omega (arith, ap (λ (n : ChunkName). n.number.0) same));
  found = λ name file of e copy. absurd (none_some file e);
  writers = λ name file of e copy. subst copy_kind (is_name-true name (chunk V 2) (one_file (is_name name (chunk V 2)) open_file file e)) copy;
} where
  copy_kind : ChunkName → Type 0
  copy_kind n = IsCopyKind n.kind
