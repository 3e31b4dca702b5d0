-- The number of a partition's next chunk, by the names of its files.
use Rattle.std.specs.Prelude.{◌≡◌, ◌⊎◌, ℕ, ◌+◌, ◌<◌, ◌≤◌, Bool, true, false, List, Contains, max, if◌then◌else◌}
use Rattle.hr_base.specs.declared.limits.TheConstants.{CHUNK_NO_END}
use Rattle.hr_base.specs.declared.name.ChunkName.{ChunkName}
use Rattle.hr_base.specs.declared.name.Kind.{Kind}
use Rattle.hr_base.specs.declared.name.Kind.TheVariants.{V, T, X, W, U, Y}

-- a writer begins chunks of the kind
abbrev pub is_writer_kind : Kind → Bool
is_writer_kind V = true
is_writer_kind T = true
is_writer_kind X = true
is_writer_kind W = false
is_writer_kind U = false
is_writer_kind Y = false

-- above that of the chunk, where a writer began it
abbrev pub next_after : ℕ → ChunkName → ℕ
next_after next name = if is_writer_kind name.kind then max next (name.number.0 + 1) else next

-- a chunk of the partition that a writer began is among these
pub record IsWriterName (names : List ChunkName) (p : ℕ) (name : ChunkName) : Type 0 where
  pub listed : Contains names name
  pub partition : name.partition.0 ≡ p
  pub kind : is_writer_kind name.kind ≡ true

-- the least number above those of all chunks of the partition that a writer began, and 1 where there is none
pub record IsNextAmong (names : List ChunkName) (p next : ℕ) : Type 0 where
  pub above : (name : ChunkName) → IsWriterName names p name → name.number.0 < next
  pub least : ((name : ChunkName) × IsWriterName names p name × (name.number.0 + 1 ≡ next)) ⊎ (((name : ChunkName) → ¬ IsWriterName names p name) × (next ≡ 1))
  pub some : 1 ≤ next
  pub limited : next ≤ CHUNK_NO_END
