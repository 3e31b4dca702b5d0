-- How a record comes into its chunk's file.
use Rattle.std.proofs.Common.{◌≡◌, ◌≢◌, ℕ, ◌+◌, ◌≤◌, true, List, length, Option, Some, None, ap, sym, ◌∙◌, subst, inl, inr, arith, ◌⊎◌}
use Rattle.hr_base.specs.declared.limits.TheConstants.{MAX_CHUNK_LIMIT, MAX_FILE_LEN, MAX_RECORD_LEN}
use Rattle.hr_base.specs.declared.name.ChunkName.{ChunkName}
use Rattle.dir_files.specs.Files.{FileState, Files, SameAt, new_file, with_bytes}
use Rattle.value_chunk.specs.Chunks.{fits}
use Rattle.writer_files.specs.StockCalls.{Extends}
use Rattle.crash_law.specs.Growth.{file_or_new}
use Rattle.partition_writer.specs.Storing.{AppendsTo, AddsEmpty}

-- the file that was extended, where it was there before, or was created
extended : (o : Option FileState) (file : FileState) → o ≡ Some file → file ≡ file_or_new o
extended None file is = cc
extended (Some other) file is = cc

file_before : (old mid : Files) (name : ChunkName) (file : FileState) → SameAt old mid ⊎ AddsEmpty old mid name → mid name ≡ Some file → file ≡ file_or_new (old name)
file_before old mid name file (inl same) is = extended (old name) file (sym (same name) ∙ is)
file_before old mid name file (inr adds) is =
    let new : file ≡ new_file = let e : Some new_file ≡ Some file = sym adds.changes.at ∙ is in cc in
    new ∙ sym (ap file_or_new adds.none)

others_before : (old mid : Files) (name : ChunkName) → SameAt old mid ⊎ AddsEmpty old mid name → (other : ChunkName) → other ≢ name → mid other ≡ old other
others_before old mid name (inl same) other apart = same other
others_before old mid name (inr adds) other apart = adds.changes.others other apart

-- a chunk was begun where there is no room, and the record appended to it
pub adds_after : (old mid new : Files) (name : ChunkName) (bytes piece : List ℕ) → SameAt old mid ⊎ AddsEmpty old mid name → Extends mid new name bytes piece
    → AppendsTo old new name bytes piece
adds_after old mid new name bytes piece room extends =
    let is = file_before old mid name extends.file room extends.was in record {
      room = subst (λ (file : FileState). fits (length file.bytes) (length bytes) MAX_CHUNK_LIMIT ≡ true) is extends.room;
      changes = record {
        at = extends.changes.at ∙ ap (λ (file : FileState). Some (with_bytes file piece)) is;
        others = λ other apart. extends.changes.others other apart ∙ others_before old mid name room other apart;
      };
    }

-- nothing was appended
pub kept_after : (old mid new : Files) (name : ChunkName) → SameAt old mid ⊎ AddsEmpty old mid name → SameAt mid new → SameAt old new ⊎ AddsEmpty old new name
kept_after old mid new name (inl same) after = inl (λ n. after n ∙ same n)
kept_after old mid new name (inr adds) after =
    inr (record {
      none = adds.none;
      changes = record { at = after name ∙ adds.changes.at; others = λ other apart. after other ∙ adds.changes.others other apart };
    })

-- with the record, a chunk file keeps the limit of a restart
pub fits_within : (size len : ℕ) → len ≤ MAX_RECORD_LEN → fits size len MAX_CHUNK_LIMIT ≡ true → size + len ≤ MAX_FILE_LEN
fits_within size len short holds = grind arith
