-- What the answer of a writer makes of a line.
use Rattle.std.specs.Prelude.{◌≡◌, ◌⊎◌, ℕ, ◌+◌, ◌<◌, Bool, true, false, nat_le, List, length, option_to_list, Option, Some, None, IsSome, unwrap_or, zero, suc, Err, IsErrOf, refl, if◌then◌else◌}
use Rattle.std.specs.List.{AllZip}
use Rattle.std.specs.Option.{option_map}
use Rattle.std.proofs.Common.{sym, ◌∙◌, ap, subst, inl, inr, arith}
use Rattle.std.proofs.lemmas.Option.{none-some}
use Rattle.hr_base.specs.Counts.{Rose}
use Rattle.hr_base.specs.declared.limits.TheConstants.{CHUNK_NO_END, SEQ_END}
use Rattle.hr_base.specs.declared.name.Class.{Class}
use Rattle.hr_base.specs.declared.name.Class.TheVariants.{Value, Tomb}
use Rattle.hr_base.specs.declared.name.Class.TheVariants as class
use Rattle.hr_base.specs.Entries.{Entries}
use Rattle.hr_base.specs.declared.name.Partition.{Partition}
use Rattle.record_format.specs.declared.record.Record.{Record}
use Rattle.record_format.specs.declared.record.Record.TheVariants as record_of
use Rattle.record_format.specs.Spelling.{class_of_record, spelling}
use Rattle.record_format.proofs.HeaderLaws.{spelling_length}
use Rattle.value_chunk.specs.Chunks.{Chunk}
use Rattle.crash_law.specs.Accounts.{Account, refused}
use Rattle.crash_law.specs.Commands.{command_of, is_written, maps_after}
use Rattle.crash_law.proofs.CommandLaws.{maps_after-unwritten}
use Rattle.script_text.specs.declared.line.Line.{Line}
use Rattle.script_text.specs.declared.line.Line.TheVariants.{Put, Remove, Clear, Get, Sync}
use Rattle.script_text.specs.declared.line.Mode.{Mode}
use Rattle.script_text.specs.Lines.{IsLine, partition_of}
use Rattle.script_text.specs.Replies.{maps_after_line, text_after}
use Rattle.writer_files.specs.Hands.{taking_fits}
use Rattle.writer_files.specs.Stocks.{Stock, taking_in}
use Rattle.writer_files.specs.StockCalls.{KeepsChunk, KeepsOthers}
use Rattle.partition_writer.specs.declared.refusal.WriteRefusal.{WriteRefusal}
use Rattle.partition_writer.specs.declared.refusal.WriteRefusal.TheVariants.{Memory, DiskFault, Halted}
use Rattle.partition_writer.specs.declared.refusal.WriteRefusal.TheVariants as refusal
use Rattle.partition_writer.specs.Standing.{Standing, Beginning, Stands, has_room, limit_of, spent_by}
use Rattle.partition_writer.specs.Storing.{number_after, size_of}
use Rattle.partition_writer.specs.Answers.{WritesRecord, Writes, StandsAfter, Syncs, SyncsAll}
use Rattle.store_drill.specs.declared.step.Step.{Step}
use Rattle.store_drill.specs.declared.step.Step.TheVariants.{Answered, NoReply, NoMemory, DiskFailed, Spent}
use Rattle.store_drill.specs.Accounts.{account_after_line, account_after_refused}
use Rattle.store_drill.specs.Numbers.{Numbers, Piece, fits_in, has_place, numbers_after, numbers_with, piece_of, spent_for, with_size, writes_line, written_for}
use Rattle.store_drill.specs.Playing.{CountsNumbers, FitsRecord, GoesOn, Plays, needed, step_of}
use Rattle.store_drill.specs.Writers.{numbers_of}

-- ---- options and counts

pub none_unless : {A : Type 0} (o : Option A) → ((x : A) → o ≡ Some x → ⊥) → o ≡ None
none_unless None never = refl
none_unless (Some x) never = absurd (never x refl)

pub some_unless : {A : Type 0} (o : Option A) → (o ≡ None → ⊥) → IsSome o
some_unless None never = absurd (never refl)
some_unless (Some x) never = refl

pub more_unless : (n : ℕ) → (n ≡ 0 → ⊥) → 0 < n
more_unless zero never = absurd (never refl)
more_unless (suc n) never = omega arith

-- ---- answered

goes_itself : (s : Standing) → GoesOn s s
goes_itself s = record { running = refl; whole = refl }

-- its record was written, or there was nothing to write
abbrev pub Done : Standing → Standing → Record → Type 0
Done s t r =
    ((is_written (command_of r) s.maps ≡ true) × (spent_by s (class_of_record r) (length (spelling r)) ≡ None) × Writes s t r)
    ⊎ ((is_written (command_of r) s.maps ≡ false) × (t ≡ s))

-- ---- what is written, as a line counts it

-- what is written for a line is its record
written_as : (line : Line) (m : Entries) (piece : Piece) → writes_line line m ≡ true → piece_of line ≡ Some piece → written_for line m ≡ Some piece
written_as line m piece is gives = rw is gives

nothing_for : (line : Line) (m : Entries) → writes_line line m ≡ false → written_for line m ≡ None
nothing_for line m is = rw is refl

-- the chunk in hand has room as its size says
room_by_size : (taking : Option Chunk) (len limit : ℕ) → fits_in (option_map (λ (chunk : Chunk). chunk.size) taking) len limit ≡ taking_fits taking len limit
room_by_size None len limit = refl
room_by_size (Some chunk) len limit = refl

abbrev pub piece_for : Class → ℕ → Piece
piece_for class len = record { class = class; len = len }

place_by_room : (s : Standing) (class : Class) (len : ℕ) → has_place s.limits (numbers_of s) (piece_for class len) ≡ has_room s class len
place_by_room s class len = room_by_size (taking_in s.stock class) len (limit_of s.limits class)

-- a writer refuses for want of a number as a line counts it
pub spent_for_writer : (s : Standing) (class : Class) (len : ℕ) → spent_for s.limits (numbers_of s) (Some (piece_for class len)) ≡ spent_by s class len
spent_for_writer s class len =
    ap (λ (room : Bool). if nat_le SEQ_END s.next then Some s.next else if room then None else if nat_le CHUNK_NO_END s.next_chunk then Some s.next_chunk else None)
    (place_by_room s class len)

-- ---- sizes

size_or : (taking : Option Chunk) → unwrap_or (option_map (λ (chunk : Chunk). chunk.size) taking) 0 ≡ size_of taking
size_or None = refl
size_or (Some chunk) = refl

sized : (taking : Option Chunk) (size : ℕ) → size_of taking ≡ size → 0 < size → option_map (λ (chunk : Chunk). chunk.size) taking ≡ Some size
sized None size is some = absurd (omega (arith, is, some))
sized (Some chunk) size is some = ap Some is

-- the chunk of one class changes
sizes_with : (old new : Stock) (class : Class) (size : ℕ) → KeepsOthers class old new → option_map (λ (chunk : Chunk). chunk.size) (taking_in new class) ≡ Some size
    → (c : Class) → option_map (λ (chunk : Chunk). chunk.size) (taking_in new c) ≡ with_size (λ (d : Class). option_map (λ (chunk : Chunk). chunk.size) (taking_in old d)) class size c
sizes_with old new Value size others is Value = is
sizes_with old new Value size others is Tomb = ap (λ (taking : Option Chunk). option_map (λ (chunk : Chunk). chunk.size) taking) (others Tomb (λ e. cc))
sizes_with old new Value size others is class.Clear = ap (λ (taking : Option Chunk). option_map (λ (chunk : Chunk). chunk.size) taking) (others class.Clear (λ e. cc))
sizes_with old new Tomb size others is Value = ap (λ (taking : Option Chunk). option_map (λ (chunk : Chunk). chunk.size) taking) (others Value (λ e. cc))
sizes_with old new Tomb size others is Tomb = is
sizes_with old new Tomb size others is class.Clear = ap (λ (taking : Option Chunk). option_map (λ (chunk : Chunk). chunk.size) taking) (others class.Clear (λ e. cc))
sizes_with old new class.Clear size others is Value = ap (λ (taking : Option Chunk). option_map (λ (chunk : Chunk). chunk.size) taking) (others Value (λ e. cc))
sizes_with old new class.Clear size others is Tomb = ap (λ (taking : Option Chunk). option_map (λ (chunk : Chunk). chunk.size) taking) (others Tomb (λ e. cc))
sizes_with old new class.Clear size others is class.Clear = is

pub same_numbers : (a b : Numbers) → a.next ≡ b.next → a.next_chunk ≡ b.next_chunk → ((c : Class) → a.sizes c ≡ b.sizes c) → a ≡ b
same_numbers a b next chunk sizes = λ i. record { next = next i; next_chunk = chunk i; sizes = λ c. sizes c i }

-- a record has bytes
spelling_some : (r : Record) → 0 < length (spelling r)
spelling_some (record_of.Value seq prefix key value) = omega (arith, spelling_length (record_of.Value seq prefix key value))
spelling_some (record_of.Tomb seq prefix key) = omega (arith, spelling_length (record_of.Tomb seq prefix key))
spelling_some (record_of.Clear prefix seq) = omega (arith, spelling_length (record_of.Clear prefix seq))

more_than : (room : Bool) (old len : ℕ) → 0 < len → 0 < (if room then old + len else len)
more_than true old len some = omega (arith, some)
more_than false old len some = some

-- numbers after a record was written
numbers_written : (s t : Standing) (r : Record) → Writes s t r → numbers_of t ≡ numbers_with s.limits (numbers_of s) (piece_for (class_of_record r) (length (spelling r)))
numbers_written s t r writes =
    let class : Class = class_of_record r in
    let len : ℕ = length (spelling r) in
    let place : has_place s.limits (numbers_of s) (piece_for class len) ≡ has_room s class len = place_by_room s class len in
    let size : ℕ = if has_room s class len then size_of (taking_in s.stock class) + len else len in
    let sized' : option_map (λ (chunk : Chunk). chunk.size) (taking_in t.stock class) ≡ Some size =
    sized (taking_in t.stock class) size writes.fills.stock.size (more_than (has_room s class len) (size_of (taking_in s.stock class)) len (spelling_some r)) in
    let size_is : (if has_place s.limits (numbers_of s) (piece_for class len) then unwrap_or ((numbers_of s).sizes class) 0 + len else len) ≡ size =
    ap (λ (room : Bool). if room then unwrap_or ((numbers_of s).sizes class) 0 + len else len) place
    ∙ ap (λ (n : ℕ). if has_room s class len then n + len else len) (size_or (taking_in s.stock class)) in
    same_numbers (numbers_of t) (numbers_with s.limits (numbers_of s) (piece_for class len)) writes.notes.next
    (writes.fills.next_chunk ∙ ap (λ (room : Bool). number_after room s.next_chunk) (sym place))
    (λ c. sizes_with s.stock t.stock class size writes.fills.stock.others sized' c ∙ ap (λ (n : ℕ). with_size (numbers_of s).sizes class n c) (sym size_is))

-- nothing was written
pub counts_same : (line : Line) (s t : Standing) → writes_line line s.maps ≡ false → t.limits ≡ s.limits → numbers_of t ≡ numbers_of s → CountsNumbers line s t
counts_same line s t unwritten limits same = record {
  limits = limits;
  numbers = same ∙ ap (numbers_after s.limits (numbers_of s)) (sym (nothing_for line s.maps unwritten));
}

-- and its writer lacks no number
pub unneeded : (line : Line) (s : Standing) → writes_line line s.maps ≡ false → needed line s ≡ None
unneeded line s unwritten = ap (spent_for s.limits (numbers_of s)) (nothing_for line s.maps unwritten)

pub needed_spent : (line : Line) (s : Standing) (class : Class) (len : ℕ) → writes_line line s.maps ≡ true → piece_of line ≡ Some (piece_for class len) → needed line s ≡ spent_by s class len
needed_spent line s class len written gives =
    ap (spent_for s.limits (numbers_of s)) (written_as line s.maps (piece_for class len) written gives) ∙ spent_for_writer s class len

taking_synced : (old new : Option Chunk) → AllZip KeepsChunk (option_to_list old) (option_to_list new) → option_map (λ (chunk : Chunk). chunk.size) new ≡ option_map (λ (chunk : Chunk). chunk.size) old
taking_synced None None keeps = refl
taking_synced None (Some chunk) keeps = absurd keeps
taking_synced (Some chunk) None keeps = absurd keeps
taking_synced (Some chunk) (Some after) keeps = ap Some keeps.0.size

pub numbers_synced : (s t : Standing) → Syncs s t → numbers_of t ≡ numbers_of s
numbers_synced s t syncs =
    same_numbers (numbers_of t) (numbers_of s) syncs.next syncs.next_chunk (λ c. taking_synced (taking_in s.stock c) (taking_in t.stock c) (syncs.taking c))

-- it was answered, and its reply printed where there was memory for it
pub plays_answered : (tells : Bool) (line : Line) (s t : Standing) (text : List ℕ) (step : Step)
    → (step ≡ Answered) ⊎ (step ≡ NoReply) → (step ≡ Answered → text ≡ text_after line s.maps)
    → t.maps ≡ maps_after_line line s.maps → GoesOn s t → CountsNumbers line s t → needed line s ≡ None → t.partition ≡ s.partition
    → (tells ≡ true → (b : Beginning) (a : Account) → Stands s b a → Stands t b (account_after_line line a)) → Plays tells step line s t text
plays_answered tells line s t text Answered only told maps goes counts none partition account =
    record { replies = (told refl, maps, goes, counts); spent = λ next is. absurd (none-some next (sym none ∙ is)); partition = partition; account = account }
plays_answered tells line s t text NoReply only told maps goes counts none partition account =
    record { replies = (maps, goes, counts); spent = λ next is. absurd (none-some next (sym none ∙ is)); partition = partition; account = account }
plays_answered tells line s t text NoMemory only told maps goes counts none partition account = absurd (elim only [ inl e ↦ cc | inr e ↦ cc ])
plays_answered tells line s t text DiskFailed only told maps goes counts none partition account = absurd (elim only [ inl e ↦ cc | inr e ↦ cc ])
plays_answered tells line s t text (Spent next) only told maps goes counts none partition account = absurd (elim only [ inl e ↦ cc | inr e ↦ cc ])

module _ (s t : Standing) (r : Record) where
  pub done_maps : Done s t r → t.maps ≡ maps_after (command_of r) s.maps
  done_maps (inl done) = done.2.maps
  done_maps (inr nothing) = ap (λ (x : Standing). x.maps) nothing.1 ∙ sym (maps_after-unwritten (command_of r) s.maps nothing.0)

  pub done_goes : t.halted ≡ s.halted → Done s t r → GoesOn s t
  done_goes running (inl done) = record { running = running; whole = done.2.lost }
  done_goes running (inr nothing) = subst (λ (x : Standing). GoesOn s x) (sym nothing.1) (goes_itself s)

  pub done_partition : Done s t r → t.partition ≡ s.partition
  done_partition (inl done) = done.2.notes.partition
  done_partition (inr nothing) = ap (λ (x : Standing). x.partition) nothing.1

  -- the line's record is this one
  module _ (line : Line) (same : writes_line line s.maps ≡ is_written (command_of r) s.maps) (gives : piece_of line ≡ Some (piece_for (class_of_record r) (length (spelling r)))) where
    pub done_counts : Done s t r → CountsNumbers line s t
    done_counts (inl done) = record {
      limits = done.2.notes.limits;
      numbers =
          numbers_written s t r done.2
          ∙ ap (numbers_after s.limits (numbers_of s)) (sym (written_as line s.maps (piece_for (class_of_record r) (length (spelling r))) (same ∙ done.0) gives));
    }
    done_counts (inr nothing) =
        counts_same line s t (same ∙ nothing.0) (ap (λ (x : Standing). x.limits) nothing.1) (ap (λ (x : Standing). numbers_of x) nothing.1)

    pub done_needed : Done s t r → needed line s ≡ None
    done_needed (inl done) = needed_spent line s (class_of_record r) (length (spelling r)) (same ∙ done.0) gives ∙ done.1
    done_needed (inr nothing) = unneeded line s (same ∙ nothing.0)

pub goes_synced : (s t : Standing) → t.halted ≡ s.halted → Syncs s t → GoesOn s t
goes_synced s t running syncs = record { running = running; whole = syncs.lost }

pub counts_synced : (p : Partition) (s t : Standing) → Syncs s t → CountsNumbers (Sync p) s t
counts_synced p s t syncs = counts_same (Sync p) s t refl syncs.limits (numbers_synced s t syncs)

-- ---- refused

told_spent : (T : Type 0) (why : WriteRefusal) (next : ℕ) → IsErrOf {T = T} (Err why) (refusal.Spent next) → step_of why ≡ Spent next
told_spent T Memory next is = absurd cc
told_spent T DiskFault next is = absurd cc
told_spent T (Halted at) next is = absurd cc
told_spent T (refusal.Spent other) next is = cc

-- a command was refused
module _ (T : Type 0) (tells : Bool) (line : Line) (s t : Standing) (text : List ℕ) (r : Record) where
  pub plays_refused : (why : WriteRefusal) → WritesRecord {T = T} (Err why) s t r
      → (IsErrOf {T = T} (Err why) Memory → t.halted ≡ s.halted) → (IsErrOf {T = T} (Err why) DiskFault → Rose s.faults t.faults) → ((at : ℕ) → IsErrOf {T = T} (Err why) (Halted at) → s.halted ≡ Some at) → s.halted ≡ None
      → ((next : ℕ) → IsErrOf {T = T} (Err why) (refusal.Spent next) → needed line s ≡ Some next)
      → ((next : ℕ) → needed line s ≡ Some next → IsErrOf {T = T} (Err why) (refusal.Spent next))
      → ((a : Account) → account_after_refused line a ≡ refused a (command_of r))
      → (tells ≡ true → (b : Beginning) (a : Account) → Stands s b a → StandsAfter {T = T} (Err why) t b a (command_of r))
      → Plays tells (step_of why) line s t text
  plays_refused Memory writes kept cause halted running needs spent loss account = record {
    replies = (writes.0.maps, record { running = kept refl; whole = writes.0.lost });
    spent = λ next is. told_spent T Memory next (spent next is);
    partition = writes.0.partition;
    account = account;
  }
  plays_refused DiskFault writes kept cause halted running needs spent loss account = record {
    replies = (writes.maps, cause refl);
    spent = λ next is. told_spent T DiskFault next (spent next is);
    partition = writes.notes.partition;
    account = λ y b a h. subst (λ (x : Account). Stands t b x) (sym (loss a)) (account y b a h);
  }
  plays_refused (Halted at) writes kept cause halted running needs spent loss account = absurd (none-some at (sym running ∙ halted at refl))
  plays_refused (refusal.Spent next) writes kept cause halted running needs spent loss account = record {
    replies = (needs next refl, writes);
    spent = λ other is. told_spent T (refusal.Spent next) other (spent other is);
    partition = ap (λ (x : Standing). x.partition) writes;
    account = account;
  }

-- a sync was refused
pub plays_unsynced : (T : Type 0) (tells : Bool) (p : Partition) (s t : Standing) (text : List ℕ) (why : WriteRefusal) → SyncsAll {T = T} (Err why) s t
    → (IsErrOf {T = T} (Err why) Memory → t.halted ≡ s.halted) → (IsErrOf {T = T} (Err why) DiskFault → Rose s.faults t.faults) → ((at : ℕ) → IsErrOf {T = T} (Err why) (Halted at) → s.halted ≡ Some at) → s.halted ≡ None
    → (tells ≡ true → (b : Beginning) (a : Account) → Stands s b a → Stands t b a)
    → Plays tells (step_of why) (Sync p) s t text
plays_unsynced T tells p s t text Memory syncs kept cause halted running account = record {
  replies = (syncs.0.maps, record { running = kept refl; whole = syncs.0.lost });
  spent = λ next is. absurd (none-some next is);
  partition = syncs.0.partition;
  account = account;
}
plays_unsynced T tells p s t text DiskFault syncs kept cause halted running account = record {
  replies = (syncs.maps, cause refl);
  spent = λ next is. absurd (none-some next is);
  partition = syncs.partition;
  account = account;
}
plays_unsynced T tells p s t text (Halted at) syncs kept cause halted running account = absurd (none-some at (sym running ∙ halted at refl))
plays_unsynced T tells p s t text (refusal.Spent next) syncs kept cause halted running account = absurd syncs

-- ---- the writer of the line's partition

-- a line's key and value fit a record
pub fits_record : (mode : Mode) (partitions : ℕ) (line : Line) → IsLine mode partitions line → FitsRecord line
fits_record mode partitions (Put p prefix key value) is = (is.2.short, is.3.short)
fits_record mode partitions (Remove p prefix key) is = is.2.short
fits_record mode partitions (Clear p prefix) is = tt
fits_record mode partitions (Get p prefix key) is = tt
fits_record mode partitions (Sync p) is = tt

pub of_partition : (mode : Mode) (partitions : ℕ) (line : Line) → IsLine mode partitions line → partition_of line < partitions
of_partition mode partitions (Put p prefix key value) is = is.0
of_partition mode partitions (Remove p prefix key) is = is.0
of_partition mode partitions (Clear p prefix) is = is.0
of_partition mode partitions (Get p prefix key) is = is.0
of_partition mode partitions (Sync p) is = is
