-- The files of a writer, of Seals that were not heard, and of a collector; and why they have no name in common.
use Rattle.std.specs.Prelude.{◌≡◌, ℕ, ◌<◌, ◌≤◌, List, Some, None, ⊤}
use Rattle.hr_base.specs.declared.name.ChunkName.{ChunkName}
use Rattle.hr_base.specs.declared.name.Kind.{Kind}
use Rattle.hr_base.specs.declared.name.Kind.TheVariants.{V, T, X, W, U, Y}
use Rattle.dir_files.specs.Files.{FileState, Files}
use Rattle.dir_files.specs.Ports.{either_file}
use Rattle.crash_law.specs.Writers.{Written}
use Rattle.gc_event.specs.Notes.{IsOneOf, Note, chunk_of}
use Rattle.gc_law.specs.Events.{NotedEvent, notes, seal_of}
use Rattle.gc_law.specs.CollectorFacts.{Gathered}

-- all of these files, as one look-up
abbrev pub files_of_both : Written → List NotedEvent → Gathered → Files
files_of_both w unheard c name = either_file (w.files name) (either_file (seal_of unheard name) (c.files name))

-- no file of the collector's has a name of the others
abbrev pub AreApart : Written → List NotedEvent → Gathered → Type 0
AreApart w unheard c =
    (name : ChunkName) (file : FileState) → name.partition.0 ≡ w.partition → c.files name ≡ Some file
    → (w.files name ≡ None) × (seal_of unheard name ≡ None)

-- a collector begins chunks of this kind, and a writer those of the others
abbrev pub IsCopyKind : Kind → Type 0
IsCopyKind V = ⊥
IsCopyKind T = ⊥
IsCopyKind X = ⊥
IsCopyKind W = ⊤
IsCopyKind U = ⊤
IsCopyKind Y = ⊤

-- all copy chunks of these events have numbers below the collector's first one
pub record CopiesBelow (first : ℕ) (es : List NotedEvent) : Type 0 where
  pub noted : (n : Note) → IsOneOf n (notes es) → IsCopyKind (chunk_of n).kind → (chunk_of n).number.0 < first
  pub sealed : (name : ChunkName) (file : FileState) → seal_of es name ≡ Some file → IsCopyKind name.kind
      → name.number.0 < first

-- Each file of the collector's came in a Seal that was heard, or is a copy chunk, with a number from the
-- collector's first one on. Each copy chunk in a Seal that was not heard was found at the restart, and has a
-- smaller number. The writer has no copy chunk.
pub record KeepNames (w : Written) (c : Gathered) (heard unheard : List NotedEvent) (first : ℕ) : Type 0 where
  pub created : (name : ChunkName) (file : FileState) → name.partition.0 ≡ w.partition → c.files name ≡ Some file
      → seal_of heard name ≡ None → IsCopyKind name.kind × (first ≤ name.number.0)
  pub found : (name : ChunkName) (file : FileState) → name.partition.0 ≡ w.partition
      → seal_of unheard name ≡ Some file → IsCopyKind name.kind → name.number.0 < first
  pub writers : (name : ChunkName) (file : FileState) → name.partition.0 ≡ w.partition
      → w.files name ≡ Some file → IsCopyKind name.kind → ⊥
