-- Records that were added, as those of the chunk that they were read from.
use Rattle.std.specs.Prelude.{◌≡◌, ℕ, ◌+◌, List, [], ◌∷◌, ◌++◌, length, map, All, refl}
use Rattle.std.proofs.Common.{sym, ◌∙◌, ap, subst}
use Rattle.std.proofs.lemmas.List.{map-append}
use Rattle.std.proofs.lemmas.List.Elements.{All-append, All-weaker}
use Rattle.hr_base.specs.declared.name.ChunkName.{ChunkName}
use Rattle.hr_base.specs.declared.name.Class.{Class}
use Rattle.record_format.specs.declared.record.Record.{Record}
use Rattle.record_format.specs.Spelling.{IsRecord, spelling}
use Rattle.record_format.specs.Splits.{IsOfClass}
use Rattle.chunk_read.specs.declared.chunk.Chunk.{Chunk}
use Rattle.chunk_read.specs.Chunks.{IsChunkOf, with_offsets}
use Rattle.crash_law.specs.Placed.{Placed, records_of}
use Rattle.record_replay.specs.Replays.{found_in}

without_offsets : (name : ChunkName) (at : ℕ) (rs : List Record) → records_of (map (λ x. found_in name x.1) (with_offsets at rs)) ≡ rs
without_offsets name at [] = refl
without_offsets name at (r ∷ rs) = ap (λ (xs : List Record). r ∷ xs) (without_offsets name (at + length (spelling r)) rs)

module _ (class : Class) (bytes : List ℕ) (chunk : Chunk) (is : IsChunkOf class bytes chunk) (name : ChunkName) (found after : List Placed)
    (added : after ≡ found ++ map (λ x. found_in name x.1) chunk.records) where
  -- the records of a chunk stand behind the others
  pub records_of-added : records_of after ≡ records_of found ++ is.whole
  records_of-added =
      ap (λ (xs : List Placed). records_of xs) added ∙ map-append (λ (x : Placed). x.content) found (map (λ x. found_in name x.1) chunk.records)
      ∙ ap (λ (xs : List (ℕ × Record)). records_of found ++ records_of (map (λ x. found_in name x.1) xs)) is.records
      ∙ ap (λ (rs : List Record). records_of found ++ rs) (without_offsets name 0 is.whole)

  -- and each is one that has a spelling
  pub records_added : All IsRecord (records_of found) → All IsRecord (records_of after)
  records_added each =
      subst (λ (rs : List Record). All IsRecord rs) (sym records_of-added)
      (All-append IsRecord (records_of found) is.whole each (All-weaker (IsOfClass class) IsRecord (λ r h. h.valid) is.whole is.split.each))
