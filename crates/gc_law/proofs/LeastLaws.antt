-- Each step of a writer leaves fronts at the end of what was noted, at most.
use Rattle.std.specs.Prelude.{◌≡◌, ◌≢◌, ◌⊎◌, ℕ, ◌≤◌, false, List, [], ◌∷◌, ◌++◌, length, Option, Some, None, IfSome, refl}
use Rattle.std.proofs.Common.{sym, ◌∙◌, ap, subst, inl, inr, arith, length-append}
use Rattle.std.proofs.lemmas.List.{append-nil}
use Rattle.hr_base.specs.declared.name.ChunkName.{ChunkName}
use Rattle.hr_base.proofs.NameTestLaws.{same_name_or_not}
use Rattle.dir_files.specs.Files.{FileState, IsDurable, with_bytes}
use Rattle.record_format.specs.declared.record.Record.{Record}
use Rattle.record_format.specs.Spelling.{spellings}
use Rattle.crash_law.specs.Accounts.{Account, synced}
use Rattle.crash_law.specs.Placed.{Placed, in_chunk}
use Rattle.crash_law.specs.Growth.{MayBeNew, file_or_new}
use Rattle.crash_law.specs.Writers.{Written, AppendsRecord, LosesRecord, CreatesFile, SyncsRecords}
use Rattle.gc_event.specs.Notes.{Note}
use Rattle.gc_law.specs.Events.{NotedEvent, SealEvent, notes, seal_of, placed_of}
use Rattle.gc_law.specs.WriterFacts.{AreOfPart, IsLeast, SealsFile, Tells, events_of}
use Rattle.gc_law.proofs.EventLaws.{notes-append}
use Rattle.gc_law.proofs.NameLaws.{writers_some}
use Rattle.gc_law.proofs.SyncingLaws.{tell_synced}

abbrev LeastAt : Option FileState → List NotedEvent → ChunkName → Type 0
LeastAt o es name = IfSome o (λ file. file.front ≤ length (spellings (in_chunk name (placed_of (notes es)))))

grown : (o : Option FileState) (es : List NotedEvent) (name : ChunkName) (piece : List ℕ) → LeastAt o es name → LeastAt (Some (with_bytes (file_or_new o) piece)) es name
grown None es name piece h = omega arith
grown (Some f) es name piece h = h

maybe_new : (o : Option FileState) (es : List NotedEvent) (name : ChunkName) → MayBeNew o → LeastAt o es name
maybe_new o es name (inl e) = subst (λ (x : Option FileState). LeastAt x es name) (sym e) tt
maybe_new o es name (inr e) = subst (λ (x : Option FileState). LeastAt x es name) (sym e) (omega arith)

-- all but one file stay
least_but : (w t : Written) (es : List NotedEvent) (name : ChunkName) → IsLeast w es → LeastAt (t.files name) es name → ((other : ChunkName) → other ≢ name → t.files other ≡ w.files other) → IsLeast t es
least_but w t es name h here others other = by_name (same_name_or_not other name) where
  by_name : (other ≡ name) ⊎ (other ≢ name) → LeastAt (t.files other) es other
  by_name (inl same) = subst (λ (n : ChunkName). LeastAt (t.files n) es n) (sym same) here
  by_name (inr differ) = subst (λ (o : Option FileState). LeastAt o es other) (sym (others other differ)) (h other)

pub least_appended : (w t : Written) (es : List NotedEvent) (x : Placed) (piece : List ℕ) → IsLeast w es → AppendsRecord w t x piece → IsLeast t es
least_appended w t es x piece h appends =
    least_but w t es x.chunk h
    (subst (λ (o : Option FileState). LeastAt o es x.chunk) (sym appends.files.at) (grown (w.files x.chunk) es x.chunk piece (h x.chunk)))
    appends.files.others

pub least_lost : (w t : Written) (es : List NotedEvent) (x : Placed) → IsLeast w es → LosesRecord w t x → IsLeast t es
least_lost w t es x h loses = least_but w t es x.chunk h (maybe_new (t.files x.chunk) es x.chunk loses.may) loses.others

pub least_created : (w t : Written) (es : List NotedEvent) (name : ChunkName) → IsLeast w es → CreatesFile w t name → IsLeast t es
least_created w t es name h creates = least_but w t es name h (maybe_new (t.files name) es name creates.may) creates.others

pub least_synced : (w t : Written) (es : List NotedEvent) (a : Account) → Tells w es a → w.lost ≡ false → SyncsRecords w t → AreOfPart t.partition t.files → IsLeast t (es ++ events_of w.records)
least_synced w t es a h whole syncs of_part name = by_file (t.files name) refl where
  told : Tells t (es ++ events_of w.records) (synced a)
  told = tell_synced w t es a h whole syncs of_part

  by_file : (o : Option FileState) → t.files name ≡ o → LeastAt o (es ++ events_of w.records) name
  by_file None e = tt
  by_file (Some file) e =
      let of = of_part name file e in
      let durable : IsDurable file = subst (λ (o : Option FileState). IfSome o IsDurable) e (syncs.durable name (of ∙ syncs.partition)) in
      let own = writers_some (seal_of (es ++ events_of w.records) name) (t.files name) file _ _ _ (told.at name of) e in
      omega (
        arith,
        durable.front,
        ap length own.1.1.1.bytes,
        length-append file.bytes own.1.1.0,
        ap (λ (xs : List Placed). length (spellings (in_chunk name (placed_of (notes (es ++ events_of w.records))) ++ in_chunk name xs))) syncs.records,
        ap (λ (rs : List Record). length (spellings rs)) (append-nil (in_chunk name (placed_of (notes (es ++ events_of w.records))))),
      )

pub least_sealed : (w t : Written) (es : List NotedEvent) (name : ChunkName) (file : FileState) (size : ℕ) → IsLeast w es → SealsFile w t name → IsLeast t (es ++ SealEvent name file size ∷ [])
least_sealed w t es name file size h seals other =
    subst (λ (ns : List Note). IfSome (t.files other) (λ f. f.front ≤ length (spellings (in_chunk other (placed_of ns)))))
    (sym (notes-append es (SealEvent name file size ∷ []) ∙ append-nil (notes es)))
    (least_but w t es name h (subst (λ (o : Option FileState). LeastAt o es name) (sym seals.none) tt) seals.others other)
