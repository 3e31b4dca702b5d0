-- Why no file of the collector's has a name of the writer's or of a Seal that was not heard.
use Rattle.std.specs.Prelude.{◌≡◌, ℕ, ◌≤◌, List, ◌++◌, Option, Some, None, refl}
use Rattle.std.proofs.Common.{sym, ◌∙◌, ap, subst, arith}
use Rattle.hr_base.specs.declared.name.ChunkName.{ChunkName}
use Rattle.dir_files.specs.Files.{FileState}
use Rattle.record_format.specs.declared.record.Record.{Record}
use Rattle.crash_law.specs.Accounts.{Account}
use Rattle.crash_law.specs.Writers.{Written}
use Rattle.gc_law.specs.Events.{NotedEvent, seal_of, IsClosed}
use Rattle.dir_files.specs.Ports.{either_file}
use Rattle.gc_law.specs.Both.{AreApart, CopiesBelow, IsCopyKind, KeepNames}
use Rattle.gc_law.specs.WriterFacts.{Tells, IsWritersAt}
use Rattle.gc_law.specs.CollectorFacts.{Gathered}
use Rattle.gc_law.proofs.EventLaws.{none_some, seal_of-append, closed_behind}

none_by : (x : Option FileState) → ((f : FileState) → x ≡ Some f → ⊥) → x ≡ None
none_by None h = refl
none_by (Some f) h = absurd (h f refl)

module _ (w : Written) (heard unheard : List NotedEvent) (a : Account) (c : Gathered) (first : ℕ) (told : Tells w (heard ++ unheard) a) (h : KeepNames w c heard unheard first) where
  -- a sealed chunk has no file of the writer's
  given_by : (name : ChunkName) (f : FileState) (s : Option FileState) (own : Option FileState) (noted since lost : List Record) → s ≡ Some f → IsWritersAt s own noted since lost → own ≡ None
  given_by name f None own noted since lost e x = absurd (none_some f e)
  given_by name f (Some g) own noted since lost e x = x.0

  sealed_heard : (name : ChunkName) (f : FileState) → name.partition.0 ≡ w.partition → seal_of heard name ≡ Some f → (w.files name ≡ None) × (seal_of unheard name ≡ None)
  sealed_heard name f of e = (
    given_by name f (seal_of (heard ++ unheard) name) (w.files name) _ _ _ (seal_of-append heard unheard name ∙ ap (λ (x : Option FileState). either_file x (seal_of unheard name)) e) (told.at name of),
    (closed_behind heard unheard name f told.telling.last e).none_sealed,
  )

  by_seal : (name : ChunkName) (file : FileState) → name.partition.0 ≡ w.partition → c.files name ≡ Some file → (s : Option FileState) → seal_of heard name ≡ s → (w.files name ≡ None) × (seal_of unheard name ≡ None)
  by_seal name file of there (Some f) e = sealed_heard name f of e
  by_seal name file of there None e =
      let copy = h.created name file of there e in
      (none_by (w.files name) (λ f x. h.writers name f of x copy.0), none_by (seal_of unheard name) (λ f x. absurd (omega (arith, copy.1, h.found name f of x copy.0))))

  pub are_apart : AreApart w unheard c
  are_apart name file of there = by_seal name file of there (seal_of heard name) refl

-- no event is of a copy chunk that is new
pub new_closed : (first : ℕ) (es : List NotedEvent) (name : ChunkName) → CopiesBelow first es → IsCopyKind name.kind → first ≤ name.number.0 → IsClosed name es
new_closed first es name below copy from = record {
  none_noted = λ n i same. absurd (omega (arith, below.noted n i (subst (λ (x : ChunkName). IsCopyKind x.kind) (sym same) copy), ap (λ (x : ChunkName). x.number.0) same, from));
  none_sealed = none_by (seal_of es name) (λ f e. absurd (omega (arith, below.sealed name f e copy, from)));
}
