-- Laws of a partition's files: the writer's own, and those that were found.
use Rattle.std.proofs.Common.{◌≡◌, ℕ, ◌<◌, ◌≤◌, true, false, List, length, Option, Some, None, refl, ap, ◌∙◌, subst, inl, inr, arith, ◌⊎◌, IfSome}
use Rattle.std.specs.Option.{option_map}
use Rattle.std.proofs.lemmas.Bool.{cases_Bool, false≢true}
use Rattle.hr_base.specs.declared.name.Class.{Class}
use Rattle.hr_base.specs.declared.name.Class.TheVariants.{Value, Tomb, Clear}
use Rattle.hr_base.specs.declared.name.ChunkName.{ChunkName}
use Rattle.hr_base.specs.declared.name.Partition.{Partition}
use Rattle.hr_base.specs.Names.{class_of_kind}
use Rattle.hr_base.proofs.NameTestLaws.{is_name-same}
use Rattle.dir_files.specs.Files.{FileState, Files, ChangesAt, IsFile, IsDurable, Rises}
use Rattle.dir_files.specs.Images.{Image, durable_files as found_files}
use Rattle.dir_files.specs.Ports.{either_file}
use Rattle.dir_files.proofs.JoinLaws.{either_alone, rises_same}
use Rattle.value_chunk.specs.Chunks.{Chunk}
use Rattle.writer_files.specs.Hands.{Takings, no_takings, of_class, taking_fits}
use Rattle.writer_files.specs.Stocks.{HasNone, Stock, is_chunk_of, taking_in, taking_of, takes}
use Rattle.partition_writer.specs.Standing.{Beginning, IsBeginning, IsOwnName, all_files, chosen, name_or, writer_kind}
use Rattle.partition_writer.specs.Storing.{NamesOwn}

pub class_of_writer_kind : (c : Class) → class_of_kind (writer_kind c) ≡ c
class_of_writer_kind Value = refl
class_of_writer_kind Tomb = refl
class_of_writer_kind Clear = refl

pub none_unless : {A : Type 0} (o : Option A) → ((x : A) → o ≡ Some x → ⊥) → o ≡ None
none_unless None never = refl
none_unless (Some x) never = absurd (never x refl)

pub some_same : {A : Type 0} (o : Option A) (x y : A) → o ≡ Some x → o ≡ Some y → x ≡ y
some_same o x y first second = cc

-- ---- the union

-- a chunk that a writer began was not found
pub own_not_found : (p : ℕ) (b : Beginning) (name : ChunkName) → IsBeginning p b → IsOwnName p b.first_chunk name → b.found name ≡ None
own_not_found p b name is own =
    none_unless (b.found name) (λ bytes found. let below : name.number.0 < b.first_chunk = is.below name bytes found own.partition own.kind in absurd (let n : ⊥ = omega (arith, own.number) in n))

-- the file of such a chunk is the writer's own
pub all_own : (files : Files) (found : Image) (name : ChunkName) → found name ≡ None → all_files files found name ≡ files name
all_own files found name none =
    ap (λ (o : Option (List ℕ)). either_file (files name) (option_map (λ bytes. record { bytes = bytes; front = length bytes; named = true }) o)) none ∙ either_alone (files name)

pub all_alike : (old new : Files) (found : Image) (name : ChunkName) → new name ≡ old name → all_files new found name ≡ all_files old found name
all_alike old new found name same = ap (λ (o : Option FileState). either_file o (found_files found name)) same

pub changes_all : (old new : Files) (found : Image) (name : ChunkName) (file : Option FileState) → found name ≡ None
    → ChangesAt old new name file → ChangesAt (all_files old found) (all_files new found) name file
changes_all old new found name file none changes = record {
  at = all_own new found name none ∙ changes.at;
  others = λ other apart. all_alike old new found other (changes.others other apart);
}

-- ---- crashes keep more of each

rises_either : (old new other : Option FileState) → Rises old new → Rises (either_file old other) (either_file new other)
rises_either None None other h = rises_same other
rises_either None (Some file) other h = cc
rises_either (Some file) None other h = absurd h
rises_either (Some file) (Some after) other h = h

pub rises_all : (old new : Files) (found : Image) → ((name : ChunkName) → Rises (old name) (new name))
    → (name : ChunkName) → Rises (all_files old found name) (all_files new found name)
rises_all old new found rises name = rises_either (old name) (new name) (found_files found name) (rises name)

-- what was found is durable
found_durable : (o : Option (List ℕ)) → IfSome (option_map (λ bytes. record { bytes = bytes; front = length bytes; named = true }) o) IsDurable
found_durable None = tt
found_durable (Some bytes) = record { front = refl; named = refl }

either_durable : (own other : Option FileState) → IfSome own IsDurable → IfSome other IsDurable → IfSome (either_file own other) IsDurable
either_durable None other own_durable durable = durable
either_durable (Some file) other own_durable durable = own_durable

pub durable_all : (files : Files) (found : Image) → ((name : ChunkName) → IfSome (files name) IsDurable) → (name : ChunkName) → IfSome (all_files files found name) IsDurable
durable_all files found durable name = either_durable (files name) (found_files found name) (durable name) (found_durable (found name))

file_if : (own : Option FileState) (found : Option (List ℕ)) → ((file : FileState) → own ≡ Some file → IsFile file)
    → (file : FileState) → either_file own (option_map (λ bytes. record { bytes = bytes; front = length bytes; named = true }) found) ≡ Some file → IsFile file
file_if (Some own) found fits file is = fits file is
file_if None None fits file is = cc
file_if None (Some bytes) fits file is =
    let same : record { bytes = bytes; front = length bytes; named = true } ≡ file = cc in
    subst IsFile same (let fits : length bytes ≤ length bytes = omega arith in fits)

pub fits_all : (files : Files) (found : Image) → ((name : ChunkName) (file : FileState) → files name ≡ Some file → IsFile file)
    → (name : ChunkName) (file : FileState) → all_files files found name ≡ Some file → IsFile file
fits_all files found fits name file is = file_if (files name) (found name) (fits name) file is

-- ---- the chunk that a record goes to

-- a chunk that takes records is one of those that do
pub taking_named : (stock : Stock) (class : Class) (chunk : Chunk) → (taking_in stock class) ≡ Some chunk → chunk.name.kind ≡ writer_kind class
    → taking_of stock chunk.name ≡ true
taking_named stock class chunk is kind =
    ap (λ (c : Class). is_chunk_of (taking_in stock c) chunk.name) (ap class_of_kind kind ∙ class_of_writer_kind class)
    ∙ ap (λ (o : Option Chunk). is_chunk_of o chunk.name) is ∙ is_name-same chunk.name

pub record Takes (p : Partition) (stock : Stock) (class : Class) (n : ChunkName) : Type 0 where
  pub chunk : Chunk
  pub is : (taking_in stock class) ≡ Some chunk
  pub name : n ≡ chunk.name
  pub of : chunk.name.partition ≡ p
  pub kind : chunk.name.kind ≡ writer_kind class

some_takes : (o : Option Chunk) (len limit : ℕ) (next : ChunkName) → taking_fits o len limit ≡ true → (chunk : Chunk) × (o ≡ Some chunk) × (name_or o next ≡ chunk.name)
some_takes None len limit next fits = absurd (false≢true fits)
some_takes (Some chunk) len limit next fits = (chunk, refl, refl)

-- it is the one that takes records and has room, or the next one
pub chosen_cases : (partition : Partition) (stock : Stock) (class : Class) (len limit : ℕ) (next : ChunkName) → NamesOwn partition stock
    → Takes partition stock class (chosen stock class len limit next) ⊎ ((takes stock class len limit ≡ false) × (chosen stock class len limit next ≡ next))
chosen_cases partition stock class len limit next own = elim (cases_Bool (takes stock class len limit)) [
  | inl room ↦
      let some = some_takes (taking_in stock class) len limit next room in
      let is = own class some.0 some.1 in
      inl (record {
        chunk = some.0;
        is = some.1;
        name = rw room some.2;
        of = is.partition;
        kind = is.kind;
      })
  | inr none ↦ inr (none, rw none refl)
]

-- where no chunk is in hand, none takes records
none_of : (class : Class) → of_class no_takings class ≡ None
none_of Value = refl
none_of Tomb = refl
none_of Clear = refl

pub none_in : (stock : Stock) → HasNone stock → (class : Class) → taking_in stock class ≡ None
none_in stock none class = ap (λ (t : Takings). of_class t class) none.taking ∙ none_of class

pub none_taken : (stock : Stock) → HasNone stock → (name : ChunkName) → taking_of stock name ≡ false
none_taken stock none name = ap (λ (o : Option Chunk). is_chunk_of o name) (none_in stock none (class_of_kind name.kind))
