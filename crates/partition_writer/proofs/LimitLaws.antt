-- The lengths of keys and values in the maps, and the numbers that are left.
use Rattle.std.specs.Prelude.{◌≡◌, ◌≢◌, ◌⊎◌, ◌↔◌, ℕ, nat_lt, Option, Result, Ok, Err, IsErrOf, is_none, is_some, ◌<◌, ◌≤◌, ◌==◌, cond, not, Bool, true, false, List, length, Some, None}
use Rattle.std.proofs.Common.{sym, ◌∙◌, ap, subst, inl, inr, arith}
use Rattle.std.proofs.lemmas.Bool.{cases_Bool}
use Rattle.std.specs.FinMap as map
use Rattle.std.specs.Option.{option_map}
use Rattle.partition_writer.specs.declared.refusal.WriteRefusal.{WriteRefusal}
use Rattle.hr_base.specs.declared.limits.TheConstants.{MAX_KEY_LEN, MAX_VALUE_LEN}
use Rattle.hr_base.specs.Entries.{Key, Content, Entries, State, KeepsLimits, key_at, content_of, without_prefix}
use Rattle.hr_base.specs.declared.limits.TheConstants.{CHUNK_NO_END, MAX_PARTITIONS, SEQ_END}
use Rattle.hr_base.specs.declared.name.Class.{Class}
use Rattle.hr_base.specs.declared.name.ChunkName.{ChunkName}
use Rattle.hr_base.specs.Names.{IsChunkName}
use Rattle.dir_files.specs.declared.folder.FolderRefusal.{FolderRefusal}
use Rattle.dir_files.specs.declared.folder.FolderRefusal.TheVariants.{Memory, Fault}
use Rattle.writer_files.specs.Stocks.{takes}
use Rattle.record_format.specs.declared.record.Record.{Record}
use Rattle.record_format.specs.Spelling.{class_of_record, spelling}
use Rattle.partition_writer.specs.Standing.{Standing, chosen, chunk_for, has_room, limit_of, next_name, placed_in, spent_by}
use Rattle.partition_writer.specs.Storing.{number_after}
use Rattle.ram_map.proofs.EntryCounts.{get-without_prefix}
use Rattle.hr_base.proofs.EntryLaws.{get-empty-entries, get-remove-same, get-remove-other, get-insert-same, get-insert-other, same_key_or_not}

some_none : (c : Content) → None ≡ Some c → ⊥
some_none c e = cc

some_one : (b c : Content) → Some b ≡ Some c → c ≡ b
some_one b c e = cc

module _ (m n : Entries) (prefix : ℕ) (key value : List ℕ) (h : KeepsLimits m) (is : n ≡ map.insert m (key_at prefix key) (content_of value)) (short : length key ≤ MAX_KEY_LEN) (small : length value ≤ MAX_VALUE_LEN) where
  there : (k : Key) (c : Content) → k ≡ key_at prefix key → map.get n k ≡ Some c → c ≡ content_of value
  there k c same found = some_one (content_of value) c (sym (ap (λ (x : Entries). map.get x (key_at prefix key)) is ∙ get-insert-same m (key_at prefix key) (content_of value)) ∙ ap (map.get n) (sym same) ∙ found)

  elsewhere : (k : Key) (c : Content) → k ≢ key_at prefix key → map.get n k ≡ Some c → map.get m k ≡ Some c
  elsewhere k c apart found = sym (ap (λ (x : Entries). map.get x k) is ∙ get-insert-other m (key_at prefix key) k (content_of value) apart) ∙ found

  pub put_limits : KeepsLimits n
  put_limits = record {
    keys = λ k c found. elim (same_key_or_not k (key_at prefix key)) [
      | inl same ↦ subst (λ (x : Key). length x.bytes ≤ MAX_KEY_LEN) (sym same) short
      | inr apart ↦ h.keys k c (elsewhere k c apart found)
    ];
    values = λ k c found. elim (same_key_or_not k (key_at prefix key)) [
      | inl same ↦ subst (λ (x : Content). length x.value ≤ MAX_VALUE_LEN) (sym (there k c same found)) small
      | inr apart ↦ h.values k c (elsewhere k c apart found)
    ];
  }

-- maps without a key
pub empty_limits : KeepsLimits map.empty
empty_limits = record {
  keys = λ k c h. absurd (some_none c (sym (get-empty-entries k) ∙ h));
  values = λ k c h. absurd (some_none c (sym (get-empty-entries k) ∙ h));
}

-- keys that go leave lengths as they are
fewer_limits : (m n : Entries) → KeepsLimits m → ((k : Key) (c : Content) → map.get n k ≡ Some c → map.get m k ≡ Some c) → KeepsLimits n
fewer_limits m n h fewer = record {
  keys = λ k c found. h.keys k c (fewer k c found);
  values = λ k c found. h.values k c (fewer k c found);
}

-- what a key has after another one went
kept_removed : (m : Entries) (gone k : Key) (c : Content) → map.get (map.remove m gone) k ≡ Some c → map.get m k ≡ Some c
kept_removed m gone k c found = elim (same_key_or_not k gone) [
  | inl same ↦ absurd (some_none c (sym (get-remove-same m gone) ∙ ap (map.get (map.remove m gone)) (sym same) ∙ found))
  | inr apart ↦ sym (get-remove-other m gone k apart) ∙ found
]

pub take_limits : (m n : Entries) (gone : Key) → KeepsLimits m → n ≡ map.remove m gone → KeepsLimits n
take_limits m n gone h is = subst KeepsLimits (sym is) (fewer_limits m (map.remove m gone) h (kept_removed m gone))

-- what a key has after a map went
kept_cleared : (m : Entries) (prefix : ℕ) (k : Key) (c : Content) → map.get (without_prefix prefix m) k ≡ Some c → map.get m k ≡ Some c
kept_cleared m prefix k c found = elim (cases_Bool (prefix == k.prefix)) [
  | inl same ↦ absurd (some_none c (sym (get-without_prefix prefix m k ∙ ap (λ (t : Bool). cond (not t) (map.get m k) None) same) ∙ found))
  | inr apart ↦ sym (get-without_prefix prefix m k ∙ ap (λ (t : Bool). cond (not t) (map.get m k) None) apart) ∙ found
]

pub clear_limits : (m n : Entries) (prefix : ℕ) → KeepsLimits m → n ≡ without_prefix prefix m → KeepsLimits n
clear_limits m n prefix h is = subst KeepsLimits (sym is) (fewer_limits m (without_prefix prefix m) h (kept_cleared m prefix))

-- ---- numbers

module _ (s : Standing) (class : Class) (len : ℕ) (none : spent_by s class len ≡ None) where
  pub unspent_next : s.next < SEQ_END
  unspent_next = grind arith

  pub unspent_chunk : (s.next_chunk < CHUNK_NO_END) ⊎ (has_room s class len ≡ true)
  unspent_chunk = elim (cases_Bool (has_room s class len)) [ inl room ↦ inr room | inr full ↦ inl (grind arith) ]

pub number_after-most : (room : Bool) (number most : ℕ) → (number < most) ⊎ (room ≡ true) → number ≤ most → number_after room number ≤ most
number_after-most true number most less within = within
number_after-most false number most (inl less) within = omega (arith, less)
number_after-most false number most (inr room) within = cc

pub number_after-least : (room : Bool) (number : ℕ) → number ≤ number_after room number
number_after-least true number = omega arith
number_after-least false number = omega arith

pub number_either : (room : Bool) (old new : ℕ) → (new ≡ old) ⊎ (new ≡ number_after room old) → old ≤ new
number_either room old new (inl same) = omega (arith, same)
number_either room old new (inr after) = subst (λ (n : ℕ). old ≤ n) (sym after) (number_after-least room old)

pub number_least : (room : Bool) (old new : ℕ) → 1 ≤ old → (new ≡ old) ⊎ (new ≡ number_after room old) → 1 ≤ new
number_least room old new some either = omega (arith, number_either room old new either)

pub number_most : (room : Bool) (old new most : ℕ) → (old < most) ⊎ (room ≡ true) → old ≤ most → (new ≡ old) ⊎ (new ≡ number_after room old) → new ≤ most
number_most room old new most less within (inl same) = omega (arith, same)
number_most room old new most less within (inr after) = subst (λ (n : ℕ). n ≤ most) (sym after) (number_after-most room old most less within)

-- a record that has no room may begin a chunk
pub room_before : (s : Standing) (class : Class) (len limit : ℕ) (r : Record) → len ≡ length (spelling r) → limit ≡ limit_of s.limits class
    → spent_by s class (length (spelling r)) ≡ None → (s.next_chunk < CHUNK_NO_END) ⊎ (takes s.stock class len limit ≡ true)
room_before s class len limit r bytes most none =
    subst (λ (m : ℕ). (s.next_chunk < CHUNK_NO_END) ⊎ (takes s.stock class len m ≡ true)) (sym most)
    (subst (λ (l : ℕ). (s.next_chunk < CHUNK_NO_END) ⊎ (takes s.stock class l (limit_of s.limits class) ≡ true)) (sym bytes)
    (unspent_chunk s class (length (spelling r)) none))

-- the name of a chunk that may have to be begun
pub valid_next : (s : Standing) (class : Class) (room : Bool) → s.partition.0 < MAX_PARTITIONS → 1 ≤ s.next_chunk → (s.next_chunk < CHUNK_NO_END) ⊎ (room ≡ true)
    → room ≡ false → IsChunkName (next_name s class)
valid_next s class room partition numbered (inl less) full = record { partition = partition; numbered = numbered; number = less }
valid_next s class room partition numbered (inr some) full = cc

pub ok_no_fault : (answer : Result (Unit {0}) FolderRefusal) → answer ≡ Ok tt → answer ≢ Err Fault
ok_no_fault answer is fault = cc

pub memory_no_fault : (answer : Result (Unit {0}) FolderRefusal) → answer ≡ Err Memory → answer ≢ Err Fault
memory_no_fault answer is fault = cc

pub some_halted : (at : ℕ) → Some at ≡ None → ⊥
some_halted at is = cc

-- the chunk that was chosen is that of the record
pub same_chosen : (s : Standing) (class : Class) (len limit : ℕ) (next : ChunkName) (r : Record) → class_of_record r ≡ class → len ≡ length (spelling r)
    → limit ≡ limit_of s.limits class → next ≡ next_name s class → chosen s.stock class len limit next ≡ (placed_in s r).chunk
same_chosen s class len limit next r is bytes most name =
    ap (λ (l : ℕ). chosen s.stock class l limit next) bytes
    ∙ ap (λ (m : ℕ). chosen s.stock class (length (spelling r)) m next) most
    ∙ ap (λ (n : ChunkName). chosen s.stock class (length (spelling r)) (limit_of s.limits class) n) name
    ∙ ap (λ (c : Class). chunk_for s c (length (spelling r))) (sym is)

-- ---- refusals

some_refused : {T : Type 0} (r e : WriteRefusal) → Some r ≡ Some e → IsErrOf {T = T} (Err r) e
some_refused r e is = cc

refused_some : {T : Type 0} (r e : WriteRefusal) → IsErrOf {T = T} (Err r) e → Some r ≡ Some e
refused_some r e is = cc

-- a refusal that is handed on comes where it was found
pub as_refused : {T P : Type 0} (r e : WriteRefusal) → (Some r ≡ Some e) ↔ P → IsErrOf {T = T} (Err r) e ↔ P
as_refused r e h = (λ is. h.0 (refused_some r e is), λ p. some_refused r e (h.1 p))

-- and where there is something to write
pub as_refused_and : {T P Q R : Type 0} (r e : WriteRefusal) → Q → (Some r ≡ Some e) ↔ (P × R) → IsErrOf {T = T} (Err r) e ↔ (P × Q × R)
as_refused_and r e q h = (λ is. let p = h.0 (refused_some r e is) in (p.0, q, p.1), λ p. some_refused r e (h.1 (p.0, p.2)))

-- ---- keys

-- what is not found is absent
pub absent_by : {A : Type 0} (f : A → Content) (o : Option A) (state : State) → option_map f o ≡ state → is_none o ≡ true → is_some state ≡ false
absent_by f None state is none = ap (λ (s : State). is_some s) (sym is)
absent_by f (Some x) state is none = cc

pub present_by : {A : Type 0} (f : A → Content) (o : Option A) (state : State) → option_map f o ≡ state → is_none o ≡ false → is_some state ≡ true
present_by f None state is some = cc
present_by f (Some x) state is some = ap (λ (s : State). is_some s) (sym is)

pub none_counted : (n : ℕ) → n ≡ 0 → nat_lt 0 n ≡ false
none_counted n is = ap (λ (k : ℕ). nat_lt 0 k) is

pub some_counted : (n : ℕ) → (n ≡ 0 → ⊥) → nat_lt 0 n ≡ true
some_counted n some = grind arith
