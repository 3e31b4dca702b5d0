-- What the bytes of a chunk file hold: whole records, each where it begins, and a rest that is torn or damaged.
use Rattle.std.specs.Prelude.{◌≡◌, ℕ, ◌+◌, List, [], ◌∷◌, length}
use Rattle.hr_base.specs.declared.name.Class.{Class}
use Rattle.record_format.specs.declared.record.Record.{Record}
use Rattle.record_format.specs.Spelling.{spelling, spellings}
use Rattle.record_format.specs.Splits.{IsDamaged, IsTorn, Splits}
use Rattle.chunk_read.specs.declared.chunk.Chunk.{Chunk}

-- the records, each beside the offset of its first byte, where the first one begins at this number
abbrev pub with_offsets : ℕ → List Record → List (ℕ × Record)
with_offsets at [] = []
with_offsets at (r ∷ rs) = (at, r) ∷ with_offsets (at + length (spelling r)) rs

-- the chunk has the records that the bytes split into, each with its offset, and the length of the rest, which is torn
pub record IsChunkOf (class : Class) (bytes : List ℕ) (chunk : Chunk) : Type 0 where
  pub whole : List Record
  pub left : List ℕ
  pub split : Splits class bytes whole left
  pub torn : IsTorn class left
  pub records : chunk.records ≡ with_offsets 0 whole
  pub rest : chunk.rest ≡ length left

-- the rest that the bytes split into is damaged, and begins at this offset
pub record IsDamagedAt (class : Class) (bytes : List ℕ) (at : ℕ) : Type 0 where
  pub whole : List Record
  pub left : List ℕ
  pub split : Splits class bytes whole left
  pub damaged : IsDamaged class left
  pub place : at ≡ length (spellings whole)
