-- What the chunks that take records are after a chunk was begun, and after a record was appended.
use Rattle.std.proofs.Common.{◌≡◌, ◌≢◌, ◌⊎◌, ℕ, ◌+◌, ◌<◌, Bool, true, false, All, is_some, ◌||◌, List, [], ◌∷◌, ◌++◌, length, take, Option, Some, None, IfSome, IsSomeAnd, OnOk, Result, Ok, Err, option_map, refl, ap, sym, ◌∙◌, subst, inl, inr, arith, option_to_list, if◌then◌else◌}
use Rattle.std.specs.List.{AllZip}
use Rattle.std.proofs.lemmas.Bool.{false≢true}
use Rattle.hr_base.specs.declared.name.Class.{Class}
use Rattle.hr_base.specs.declared.name.ChunkName.{ChunkName}
use Rattle.hr_base.specs.declared.name.Partition.{Partition}
use Rattle.hr_base.specs.Names.{class_of_kind}
use Rattle.hr_base.specs.NameTests.{is_name}
use Rattle.hr_base.proofs.NameTestLaws.{same_name_or_not}
use Rattle.dir_files.specs.declared.folder.FolderRefusal.{FolderRefusal}
use Rattle.dir_files.specs.declared.folder.FolderRefusal.TheVariants.{Memory, Fault}
use Rattle.dir_files.specs.Files.{FileState, Files, ChangesAt, SameAt, IsDurable, IsFile, Rises}
use Rattle.value_chunk.specs.Chunks.{Chunk}
use Rattle.value_chunk.specs.Calls.{Appends, IsTold, begun}
use Rattle.writer_files.specs.Hands.{Takings, of_class, taking_fits, taking_list, file_among}
use Rattle.writer_files.specs.HandCalls.{GainsFull}
use Rattle.std.proofs.lemmas.List.Elements.{All-tail}
use Rattle.dir_files.specs.Ports.{either_file}
use Rattle.writer_files.specs.Stocks.{AllDurable, HasNone, IsSettled, IsSynced, LendsBut, no_names, Stock, files_of, in_hand, is_chunk_of, taking_in, taking_of, takes}
use Rattle.writer_files.specs.StockCalls.{AppendsAny, BeginsAny, EachRises, Extends, ExtendsFile, HandsOut, KeepsChunk, KeepsOthers, KeepsTaking}
use Rattle.writer_files.proofs.TakingLaws.{same_class_or_not}
use Rattle.partition_writer.specs.Standing.{chosen, writer_kind}
use Rattle.partition_writer.specs.Storing.{AddsEmpty, Fills, FillsUp, IsBelow, IsNamedFor, IsUntorn, NamesOwn, StoresIn, size_of, without_offset}
use Rattle.dir_files.proofs.JoinLaws.{no_some}
use Rattle.partition_writer.proofs.FileLaws.{class_of_writer_kind, some_same}
use Rattle.partition_writer.proofs.StoreLaws.{adds_after, kept_after}

-- ---- the chunk of one class changes

pub others_own : (p : Partition) (old new : Stock) (class : Class) → NamesOwn p old → KeepsOthers class old new
    → ((chunk : Chunk) → (taking_in new class) ≡ Some chunk → IsNamedFor p class chunk) → NamesOwn p new
others_own p old new class own others here other chunk is = elim (same_class_or_not other class) [
  | inl same ↦ subst (λ (c : Class). IsNamedFor p c chunk) (sym same) (here chunk (ap (λ (c : Class). (taking_in new c)) (sym same) ∙ is))
  | inr apart ↦ own other chunk (sym (others other apart) ∙ is)
]

pub others_ready : (old new : Stock) (class : Class) → IsUntorn old → KeepsOthers class old new
    → ((chunk : Chunk) → (taking_in new class) ≡ Some chunk → chunk.torn ≡ false) → IsUntorn new
others_ready old new class ready others here other chunk is = elim (same_class_or_not other class) [
  | inl same ↦ here chunk (ap (λ (c : Class). (taking_in new c)) (sym same) ∙ is)
  | inr apart ↦ ready other chunk (sym (others other apart) ∙ is)
]

-- none changes
pub same_own : (p : Partition) (old new : Stock) → NamesOwn p old → ((class : Class) → taking_in new class ≡ taking_in old class) → NamesOwn p new
same_own p old new own same class chunk is = own class chunk (sym (same class) ∙ is)

pub same_ready : (old new : Stock) → IsUntorn old → ((class : Class) → taking_in new class ≡ taking_in old class) → IsUntorn new
same_ready old new ready same class chunk is = ready class chunk (sym (same class) ∙ is)

pub refused_taking : (tells : Bool) (refusal : FolderRefusal) (old new : Stock) (name : ChunkName) → BeginsAny tells (Err refusal) old new name
    → (class : Class) → taking_in new class ≡ taking_in old class
refused_taking tells refusal old new name begins class = ap (λ (t : Takings). of_class t class) begins.begins.taking

told_as : (tells : Bool) (name : ChunkName) (o : Option Chunk) (chunk : Chunk) → IsSomeAnd o (IsTold tells (begun name)) → o ≡ Some chunk → IsTold tells (begun name) chunk
told_as tells name o chunk told is = subst (λ (q : Option Chunk). IsSomeAnd q (IsTold tells (begun name))) is told

pub begun_own : (tells : Bool) (old new : Stock) (class : Class) (name : ChunkName) → name.kind ≡ writer_kind class → NamesOwn name.partition old
    → BeginsAny tells (Ok tt) old new name → NamesOwn name.partition new
begun_own tells old new class name kind own begins =
    let of : class_of_kind name.kind ≡ class = ap class_of_kind kind ∙ class_of_writer_kind class in
    others_own name.partition old new class own (subst (λ (c : Class). KeepsOthers c old new) of begins.others) (λ chunk is.
    let told = told_as tells name (taking_in new class) chunk (subst (λ (c : Class). IsSomeAnd (taking_in new c) (IsTold tells (begun name))) of begins.begins.taking) is in record {
      partition = ap (λ (n : ChunkName). n.partition) told.name;
      kind = ap (λ (n : ChunkName). n.kind) told.name ∙ kind;
    })

pub begun_ready : (tells : Bool) (old new : Stock) (name : ChunkName) → IsUntorn old → BeginsAny tells (Ok tt) old new name → IsUntorn new
begun_ready tells old new name ready begins =
    others_ready old new (class_of_kind name.kind) ready begins.others (λ chunk is. (told_as tells name (taking_in new (class_of_kind name.kind)) chunk begins.begins.taking is).torn)

-- ---- a record is appended

pub record IsAppended (tells : Bool) (answer : Result ℕ FolderRefusal) (old new : Option Chunk) (bytes : List ℕ) : Type 0 where
  pub before : Chunk
  pub after : Chunk
  pub was : old ≡ Some before
  pub is : new ≡ Some after
  pub appends : Appends tells answer before after bytes

after_some : (tells : Bool) (answer : Result ℕ FolderRefusal) (before : Chunk) (new : Option Chunk) (bytes : List ℕ) → IsSomeAnd new (λ after. Appends tells answer before after bytes) → IsAppended tells answer (Some before) new bytes
after_some tells answer before None bytes h = absurd h
after_some tells answer before (Some after) bytes h = record { before = before; after = after; was = refl; is = refl; appends = h }

some_before : (o : Option Chunk) (len limit : ℕ) → taking_fits o len limit ≡ true → (chunk : Chunk) × (o ≡ Some chunk)
some_before None len limit fits = cc
some_before (Some chunk) len limit fits = (chunk, refl)

pub is_appended : (tells : Bool) (answer : Result ℕ FolderRefusal) (old new : Option Chunk) (bytes : List ℕ) (len limit : ℕ) → taking_fits old len limit ≡ true
    → IfSome old (λ chunk. IsSomeAnd new (λ after. Appends tells answer chunk after bytes)) → IsAppended tells answer old new bytes
is_appended tells answer old new bytes len limit fits appends =
    let some = some_before old len limit fits in
    subst (λ (o : Option Chunk). IsAppended tells answer o new bytes) (sym some.1)
    (after_some tells answer some.0 new bytes (subst (λ (o : Option Chunk). IfSome o (λ chunk. IsSomeAnd new (λ after. Appends tells answer chunk after bytes))) some.1 appends))

appended_name : (tells : Bool) (answer : Result ℕ FolderRefusal) (before after : Chunk) (bytes : List ℕ) → Appends tells answer before after bytes → after.name ≡ before.name
appended_name tells (Ok offset) before after bytes h = h.1.name
appended_name tells (Err Memory) before after bytes h = h.name
appended_name tells (Err Fault) before after bytes h = h.name

appended_torn : (tells : Bool) (answer : Result ℕ FolderRefusal) (before after : Chunk) (bytes : List ℕ) → answer ≢ Err Fault → Appends tells answer before after bytes → after.torn ≡ before.torn
appended_torn tells (Ok offset) before after bytes whole h = h.1.torn
appended_torn tells (Err Memory) before after bytes whole h = h.torn
appended_torn tells (Err Fault) before after bytes whole h = absurd (whole refl)

module _ (tells : Bool) (answer : Result ℕ FolderRefusal) (old new : Stock) (class : Class) (bytes : List ℕ) (len limit : ℕ)
    (fits : takes old class len limit ≡ true) (appends : AppendsAny tells answer old new class bytes) where
  appended : IsAppended tells answer (taking_in old class) (taking_in new class) bytes
  appended = is_appended tells answer (taking_in old class) (taking_in new class) bytes len limit fits appends.taking

  after_name : (chunk : Chunk) → (taking_in new class) ≡ Some chunk → chunk.name ≡ appended.before.name
  after_name chunk is =
      ap (λ (c : Chunk). c.name) (some_same (taking_in new class) chunk appended.after is appended.is)
      ∙ appended_name tells answer appended.before appended.after bytes appended.appends

  pub appended_own : (p : Partition) → NamesOwn p old → NamesOwn p new
  appended_own p own =
      let before = own class appended.before appended.was in
      others_own p old new class own appends.others (λ chunk is. record {
        partition = ap (λ (n : ChunkName). n.partition) (after_name chunk is) ∙ before.partition;
        kind = ap (λ (n : ChunkName). n.kind) (after_name chunk is) ∙ before.kind;
      })

  pub appended_ready : answer ≢ Err Fault → IsUntorn old → IsUntorn new
  appended_ready whole ready =
      others_ready old new class ready appends.others (λ chunk is.
      ap (λ (c : Chunk). c.torn) (some_same (taking_in new class) chunk appended.after is appended.is)
      ∙ appended_torn tells answer appended.before appended.after bytes whole appended.appends ∙ ready class appended.before appended.was)

  pub appended_taking : (other : ChunkName) → taking_of new other ≡ true → taking_of old other ≡ true
  appended_taking other taking =
      let name : appended.after.name ≡ appended.before.name = appended_name tells answer appended.before appended.after bytes appended.appends in
      let here : is_chunk_of (taking_in old class) other ≡ is_chunk_of (taking_in new class) other =
      ap (λ (o : Option Chunk). is_chunk_of o other) appended.was ∙ ap (λ (n : ChunkName). is_name n other) (sym name) ∙ ap (λ (o : Option Chunk). is_chunk_of o other) (sym appended.is) in
      elim (same_class_or_not (class_of_kind other.kind) class) [
        | inl same ↦ subst (λ (c : Class). is_chunk_of (taking_in old c) other ≡ is_chunk_of (taking_in new c) other) (sym same) here ∙ taking
        | inr apart ↦ ap (λ (o : Option Chunk). is_chunk_of o other) (sym (appends.others (class_of_kind other.kind) apart)) ∙ taking
      ]

  pub appended_files : (P : ChunkName → Type 0) → IfSome (taking_in old class) (λ chunk. P chunk.name) → (name : ChunkName)
      → option_map (λ chunk. chunk.name) (taking_in old class) ≡ Some name → P name
  appended_files P h name is =
      let here : P appended.before.name = subst (λ (o : Option Chunk). IfSome o (λ chunk. P chunk.name)) appended.was h in
      let same : Some appended.before.name ≡ Some name = ap (option_map (λ chunk. chunk.name)) (sym appended.was) ∙ is in
      let one : appended.before.name ≡ name = cc in
      subst P one here

size_after : (room : Bool) (was len : ℕ) → (if room then was else 0) + len ≡ (if room then was + len else len)
size_after true was len = refl
size_after false was len = omega arith

-- the full chunks stay then
fills_up : (room : Bool) (old mid new : Stock) (class : Class) → new.full ≡ mid.full → FillsUp room old mid class → FillsUp room old new class
fills_up true old mid new class same full = same ∙ full
fills_up false old mid new class same full = subst (λ (xs : List Chunk). GainsFull old.full xs (taking_in old class)) (sym same) full

-- a record was stored in the chunk that was chosen
pub fills_after : (tells : Bool) (offset : ℕ) (old mid new : Stock) (class : Class) (bytes : List ℕ) (limit most : ℕ) (next : ChunkName)
    → takes mid class (length bytes) most ≡ true
    → option_map (λ chunk. chunk.name) (taking_in mid class) ≡ Some (chosen old class (length bytes) limit next)
    → KeepsOthers class old mid
    → FillsUp (takes old class (length bytes) limit) old mid class
    → size_of (taking_in mid class) ≡ (if takes old class (length bytes) limit then size_of (taking_in old class) else 0)
    → AppendsAny tells (Ok offset) mid new class bytes → Fills old new class (length bytes) limit next
fills_after tells offset old mid new class bytes limit most next room name others full size appends =
    let appended = is_appended tells (Ok offset) (taking_in mid class) (taking_in new class) bytes (length bytes) most room appends.taking in
    let same : Some appended.before.name ≡ Some (chosen old class (length bytes) limit next) = ap (option_map (λ chunk. chunk.name)) (sym appended.was) ∙ name in
    let one : appended.before.name ≡ chosen old class (length bytes) limit next = cc in record {
      others = λ other apart. appends.others other apart ∙ others other apart;
      full = fills_up (takes old class (length bytes) limit) old mid new class appends.full full;
      name = subst (λ (o : Option Chunk). IfSome o (λ chunk. chunk.name ≡ chosen old class (length bytes) limit next)) (sym appended.is) (appended.appends.1.name ∙ one);
      size = ap size_of appended.is ∙ appended.appends.1.size ∙ ap (λ (o : Option Chunk). size_of o + length bytes) (sym appended.was)
          ∙ ap (λ (n : ℕ). n + length bytes) size ∙ size_after (takes old class (length bytes) limit) (size_of (taking_in old class)) (length bytes);
    }

-- ---- files

pub stores_after : (old mid new : Files) (name : ChunkName) (bytes : List ℕ) (answer : Result ℕ FolderRefusal) → SameAt old mid ⊎ AddsEmpty old mid name
    → ExtendsFile answer mid new name bytes → StoresIn (without_offset answer) old new name bytes
stores_after old mid new name bytes (Ok offset) room extends = adds_after old mid new name bytes bytes room extends
stores_after old mid new name bytes (Err Fault) room extends = inl (extends.0, adds_after old mid new name bytes (take extends.0 bytes) room extends.1)
stores_after old mid new name bytes (Err Memory) room same = kept_after old mid new name room same

below_piece : (old new : Files) (name : ChunkName) (bytes piece : List ℕ) (number : ℕ) → IsBelow old number → Extends old new name bytes piece → IsBelow new number
below_piece old new name bytes piece number below extends other file is = elim (same_name_or_not other name) [
  | inl same ↦ below other extends.file (ap old same ∙ extends.was)
  | inr apart ↦ below other file (sym (extends.changes.others other apart) ∙ is)
]

pub below_after : (old new : Files) (name : ChunkName) (bytes : List ℕ) (answer : Result ℕ FolderRefusal) (number : ℕ) → IsBelow old number → ExtendsFile answer old new name bytes → IsBelow new number
below_after old new name bytes (Ok offset) number below extends = below_piece old new name bytes bytes number below extends
below_after old new name bytes (Err Fault) number below extends = below_piece old new name bytes (take extends.0 bytes) number below extends.1
below_after old new name bytes (Err Memory) number below same = λ other file is. below other file (sym (same other) ∙ is)

pub below_begun : (old new : Files) (name : ChunkName) (number : ℕ) (file : FileState) → name.number.0 ≡ number → IsBelow old number → ChangesAt old new name (Some file) → IsBelow new (number + 1)
below_begun old new name number file is below changes other some there = elim (same_name_or_not other name) [
  | inl same ↦ (let e : other.number.0 ≡ number = ap (λ (n : ChunkName). n.number.0) same ∙ is in omega (arith, e))
  | inr apart ↦ (let less : other.number.0 < number = below other some (sym (changes.others other apart) ∙ there) in omega (arith, less))
]

-- ---- a sync keeps the chunks that take records

kept_chunk : (o p : Option Chunk) (chunk : Chunk) → AllZip KeepsChunk (option_to_list o) (option_to_list p) → p ≡ Some chunk → (before : Chunk) × (o ≡ Some before) × KeepsChunk before chunk
kept_chunk None None chunk zip is = cc
kept_chunk None (Some d) chunk zip is = absurd zip
kept_chunk (Some c) None chunk zip is = absurd zip
kept_chunk (Some c) (Some d) chunk zip is =
    let same : d ≡ chunk = cc in
    (c, refl, subst (λ (x : Chunk). KeepsChunk c x) same zip.0)

pub kept_own : (p : Partition) (old new : Stock) → NamesOwn p old → KeepsTaking old new → NamesOwn p new
kept_own p old new own keeps class chunk is =
    let before = kept_chunk (taking_in old class) (taking_in new class) chunk (keeps class) is in
    let named = own class before.0 before.1 in record {
      partition = ap (λ (n : ChunkName). n.partition) before.2.name ∙ named.partition;
      kind = ap (λ (n : ChunkName). n.kind) before.2.name ∙ named.kind;
    }

pub kept_ready : (old new : Stock) → IsUntorn old → KeepsTaking old new → IsUntorn new
kept_ready old new ready keeps class chunk is =
    let before = kept_chunk (taking_in old class) (taking_in new class) chunk (keeps class) is in
    before.2.torn ∙ ready class before.0 before.1

was_before : (o p : Option FileState) (file : FileState) → Rises o p → p ≡ Some file → (before : FileState) × (o ≡ Some before)
was_before None p file rises is = absurd (no_some p file rises is)
was_before (Some before) p file rises is = (before, refl)

pub kept_below : (old new : Files) (number : ℕ) → IsBelow old number → EachRises old new → IsBelow new number
kept_below old new number below rises name file is =
    let before = was_before (old name) (new name) file (rises name) is in
    below name before.0 before.1

-- ---- a writer that begins has none

pub none_own : (p : Partition) (stock : Stock) → ((class : Class) (chunk : Chunk) → (taking_in stock class) ≡ Some chunk → ⊥) → NamesOwn p stock
none_own p stock none class chunk is = absurd (none class chunk is)

pub none_ready : (stock : Stock) → ((class : Class) (chunk : Chunk) → (taking_in stock class) ≡ Some chunk → ⊥) → IsUntorn stock
none_ready stock none class chunk is = absurd (none class chunk is)

-- and nothing is to be synced
none_held : (stock : Stock) → HasNone stock → in_hand stock ≡ []
none_held stock none = ap (λ (cs : List Chunk). cs ++ taking_list stock.taking) none.full ∙ ap taking_list none.taking

pub none_settled : (stock : Stock) → stock.fresh ≡ false → HasNone stock → IsSettled stock
none_settled stock fresh none = record {
  synced = record {
    fresh = fresh;
    synced = subst (λ (cs : List Chunk). All (λ chunk. chunk.unsynced ≡ false) cs) (sym (none_held stock none)) (λ k chunk below. let never : ⊥ = omega (arith, below) in absurd never);
  };
  full = none.full;
}

-- ---- full chunks that are given back

pub not_lent : (b : Bool) → (b ≡ true → ⊥) → b ≡ false
not_lent true never = absurd (never refl)
not_lent false never = refl

found_none : (p h : Option FileState) → (is_some p || false) ≡ true → either_file p h ≡ None → ⊥
found_none None h found none = false≢true found
found_none (Some f) h found none = cc

pub keeps_taking : (old was new : Stock) → KeepsTaking old was → new.taking ≡ was.taking → KeepsTaking old new
keeps_taking old was new keeps same class =
    subst (λ (t : Takings). AllZip KeepsChunk (option_to_list (taking_in old class)) (option_to_list (of_class t class))) (sym same) (keeps class)

pub same_rises : (a b c : Files) → EachRises a b → SameAt b c → EachRises a c
same_rises a b c rises same name = subst (λ (o : Option FileState). Rises (a name) o) (sym (same name)) (rises name)

pub same_fits : (b c : Files) → ((name : ChunkName) (file : FileState) → b name ≡ Some file → IsFile file) → SameAt b c → (name : ChunkName) (file : FileState) → c name ≡ Some file → IsFile file
same_fits b c fits same name file is = fits name file (sym (same name) ∙ is)

pub same_durable : (b c : Files) → AllDurable b → SameAt b c → AllDurable c
same_durable b c durable same name = subst (λ (o : Option FileState). IfSome o IsDurable) (sym (same name)) (durable name)

module _ (old was new : Stock) (chunk : Chunk) (out : HandsOut old was chunk) (taking : new.taking ≡ was.taking) (full : new.full ≡ was.full) (fresh : new.fresh ≡ was.fresh) where
  pub rest_synced : IsSynced old → IsSynced new
  rest_synced synced = record {
    fresh = fresh ∙ out.fresh ∙ synced.fresh;
    synced =
        subst (λ (cs : List Chunk). All (λ c. c.unsynced ≡ false) cs)
        (ap (λ (cs : List Chunk). cs ++ taking_list was.taking) (sym full) ∙ ap (λ (t : Takings). new.full ++ taking_list t) (sym taking))
        (All-tail (λ (c : Chunk). c.unsynced ≡ false) chunk (was.full ++ taking_list was.taking)
        (subst (λ (cs : List Chunk). All (λ c. c.unsynced ≡ false) cs)
        (ap (λ (cs : List Chunk). cs ++ taking_list old.taking) out.full ∙ ap (λ (t : Takings). (chunk ∷ was.full) ++ taking_list t) (sym out.taking)) synced.synced));
  }

  pub rest_files : files_of old chunk.name ≡ Some chunk.file → ChangesAt (files_of old) (files_of was) chunk.name None → ChangesAt (files_of was) (files_of new) chunk.name (Some chunk.file) → SameAt (files_of old) (files_of new)
  rest_files there gone back name = elim (same_name_or_not name chunk.name) [
    | inl here ↦ ap (files_of new) here ∙ back.at ∙ sym (ap (files_of old) here ∙ there)
    | inr apart ↦ back.others name apart ∙ gone.others name apart
  ]

pub none_full : (old was : Stock) (chunk : Chunk) → HandsOut old was chunk → old.full ≡ [] → ⊥
none_full old was chunk out none = let e : [] ≡ chunk ∷ was.full = sym none ∙ out.full in cc

-- no name is lent then that has no file
pub unlent_if : (s : Stock) (name : ChunkName) → LendsBut no_names s → files_of s name ≡ None → s.port.lent name ≡ false
unlent_if s name lends none = not_lent (s.port.lent name) (λ lent. found_none (file_among (in_hand s) name) (s.port.held name) (lends name lent) none)

-- the disk refused neither
pub no_fault_before : (answer : Result ℕ FolderRefusal) → without_offset answer ≢ Err Fault → answer ≢ Err Fault
no_fault_before answer whole is = whole (ap without_offset is)

pub ok_no_fault : (answer : Result (Unit {0}) FolderRefusal) → answer ≡ Ok tt → answer ≢ Err Fault
ok_no_fault answer is fault = cc

pub fills_done : (tells : Bool) (answer : Result ℕ FolderRefusal) (old mid new : Stock) (class : Class) (bytes : List ℕ) (limit most : ℕ) (next : ChunkName)
    → takes mid class (length bytes) most ≡ true
    → option_map (λ chunk. chunk.name) (taking_in mid class) ≡ Some (chosen old class (length bytes) limit next)
    → KeepsOthers class old mid
    → FillsUp (takes old class (length bytes) limit) old mid class
    → size_of (taking_in mid class) ≡ (if takes old class (length bytes) limit then size_of (taking_in old class) else 0)
    → AppendsAny tells answer mid new class bytes → OnOk (without_offset answer) (Fills old new class (length bytes) limit next)
fills_done tells (Ok offset) old mid new class bytes limit most next room name others full size appends =
    fills_after tells offset old mid new class bytes limit most next room name others full size appends
fills_done tells (Err refusal) old mid new class bytes limit most next room name others full size appends = tt
