-- The numbers that the lines of a session use up, and the first line that needs one which none can have.
use Rattle.std.specs.Prelude.{◌≡◌, ◌⊎◌, ℕ, ◌+◌, ◌<◌, Bool, false, nat_le, List, [], ◌∷◌, length, take, Option, Some, None, slice_get, unwrap_or, if◌then◌else◌}
use Rattle.hr_base.specs.declared.limits.Limits.{Limits}
use Rattle.hr_base.specs.declared.limits.TheConstants.{CHUNK_NO_END, SEQ_END}
use Rattle.hr_base.specs.declared.name.Class.{Class}
use Rattle.hr_base.specs.declared.name.Class.TheVariants.{Value, Tomb}
use Rattle.hr_base.specs.declared.name.Class.TheVariants as class
use Rattle.hr_base.specs.Entries.{Entries}
use Rattle.hr_base.specs.Records.{record_length}
use Rattle.value_chunk.specs.Chunks.{fits}
use Rattle.crash_law.specs.Commands.{Command, is_written}
use Rattle.script_text.specs.declared.line.Line.{Line}
use Rattle.script_text.specs.declared.line.Line.TheVariants.{Put, Remove, Clear, Get, Sync}
use Rattle.script_text.specs.Lines.{partition_of}
use Rattle.script_text.specs.Replies.{changed_at, command_of_line, maps_after_lines, maps_after_one}
use Rattle.partition_writer.specs.Standing.{limit_of}
use Rattle.partition_writer.specs.Storing.{number_after}
use Rattle.restart_load.specs.declared.ended.Ended.{Ended}
use Rattle.restart_load.specs.declared.ended.Ended.TheVariants.{Memory, Sink, Spent}

-- ---- what a line is written as

-- the command, where there is one, is written over these maps
abbrev pub writes : Option Command → Entries → Bool
writes None m = false
writes (Some command) m = is_written command m

abbrev pub writes_line : Line → Entries → Bool
writes_line line m = writes (command_of_line line) m

-- a record's class, and its bytes
pub record Piece : Type 0 where
  pub class : Class
  pub len : ℕ

-- the record that a line gives, where it gives one
abbrev pub piece_of : Line → Option Piece
piece_of (Put p prefix key value) = Some (record { class = Value; len = record_length Value (length key) (length value) })
piece_of (Remove p prefix key) = Some (record { class = Tomb; len = record_length Tomb (length key) 0 })
piece_of (Clear p prefix) = Some (record { class = class.Clear; len = record_length class.Clear 0 0 })
piece_of (Get p prefix key) = None
piece_of (Sync p) = None

-- the one that is written for it over these maps
abbrev pub written_for : Line → Entries → Option Piece
written_for line m = if writes_line line m then piece_of line else None

-- ---- the numbers of a partition

-- The numbers of a partition's next record and of its next chunk, and how many bytes are in the chunk that takes records
-- of each class, where there is one.
pub record Numbers : Type 0 where
  pub next : ℕ
  pub next_chunk : ℕ
  pub sizes : Class → Option ℕ

-- a chunk with so many bytes takes so many more under this limit
abbrev pub fits_in : Option ℕ → ℕ → ℕ → Bool
fits_in None len limit = false
fits_in (Some size) len limit = fits size len limit

-- the record goes to the chunk that takes records of its class
abbrev pub has_place : Limits → Numbers → Piece → Bool
has_place limits n piece = fits_in (n.sizes piece.class) piece.len (limit_of limits piece.class)

-- the sizes, with another one for this class
abbrev pub with_size : (Class → Option ℕ) → Class → ℕ → Class → Option ℕ
with_size sizes Value size Value = Some size
with_size sizes Tomb size Tomb = Some size
with_size sizes class.Clear size class.Clear = Some size
with_size sizes class size other = sizes other

-- A record that is written uses up one number. Where it has no place, its chunk is full, and it is the first one in a new
-- chunk, which uses up a number too.
abbrev pub numbers_with : Limits → Numbers → Piece → Numbers
numbers_with limits n piece = record {
  next = n.next + 1;
  next_chunk = number_after (has_place limits n piece) n.next_chunk;
  sizes = with_size n.sizes piece.class (if has_place limits n piece then unwrap_or (n.sizes piece.class) 0 + piece.len else piece.len);
}

-- those after the record, where there is one
abbrev pub numbers_after : Limits → Numbers → Option Piece → Numbers
numbers_after limits n None = n
numbers_after limits n (Some piece) = numbers_with limits n piece

-- the number that the record needs and that none can have: its own, or that of a new chunk
abbrev pub spent_for : Limits → Numbers → Option Piece → Option ℕ
spent_for limits n None = None
spent_for limits n (Some piece) =
    if nat_le SEQ_END n.next then Some n.next else if has_place limits n piece then None else if nat_le CHUNK_NO_END n.next_chunk then Some n.next_chunk else None

-- ---- lines

abbrev pub numbers_after_one : Limits → Line → (ℕ → Entries) → (ℕ → Numbers) → ℕ → Numbers
numbers_after_one limits line maps numbers =
    changed_at numbers (partition_of line) (numbers_after limits (numbers (partition_of line)) (written_for line (maps (partition_of line))))

-- those of each partition after lines, the first of them first
abbrev pub numbers_after_lines : Limits → List Line → (ℕ → Entries) → (ℕ → Numbers) → ℕ → Numbers
numbers_after_lines limits [] maps numbers = numbers
numbers_after_lines limits (line ∷ lines) maps numbers = numbers_after_lines limits lines (maps_after_one line maps) (numbers_after_one limits line maps numbers)

-- what each partition begins with: its maps, and the numbers of its next record and of its next chunk
pub record SessionStart : Type 0 where
  pub maps : ℕ → Entries
  pub next : ℕ → ℕ
  pub next_chunk : ℕ → ℕ

-- the same numbers; no chunk that was found takes records
abbrev pub numbers_at : SessionStart → ℕ → Numbers
numbers_at start p = record { next = start.next p; next_chunk = start.next_chunk p; sizes = λ class. None }

-- ---- numbers that none can have

-- After so many lines the next one is to be written, and needs this number, which none can have.
pub record IsSpentAt (limits : Limits) (lines : List Line) (count : ℕ) (start : SessionStart) (next : ℕ) : Type 0 where
  pub line : Line
  pub there : slice_get lines count ≡ Some line
  pub needs : spent_for limits (numbers_after_lines limits (take count lines) start.maps (numbers_at start) (partition_of line))
      (written_for line (maps_after_lines (take count lines) start.maps (partition_of line))) ≡ Some next

-- A session answered so many lines, and wrote so many replies. None of the lines needed such a number; it ended for want of
-- one exactly where the next line needs it, unless memory or the sink failed at the reply before.
pub record SpendsAt (limits : Limits) (lines : List Line) (count replied : ℕ) (start : SessionStart) (ended : Ended) : Type 0 where
  pub unspent : (i next : ℕ) → i < count → ¬ IsSpentAt limits lines i start next
  pub spent : (next : ℕ) → ended ≡ Spent next → IsSpentAt limits lines count start next
  pub told : (next : ℕ) → IsSpentAt limits lines count start next → (ended ≡ Spent next) ⊎ (((ended ≡ Sink) ⊎ (ended ≡ Memory)) × (count ≡ replied + 1))

-- the two numbers that none can have: of a record, and of a chunk
abbrev pub IsEnd : ℕ → Type 0
IsEnd next = (next ≡ SEQ_END) ⊎ (next ≡ CHUNK_NO_END)
