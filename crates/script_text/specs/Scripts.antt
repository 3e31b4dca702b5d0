-- What the bytes of a script are read as, line by line. `IsScript` says when they are one; the laws of `Scanned` say that
-- this is its only reading then.
use Rattle.std.specs.Prelude.{ℕ, ◌==◌, List, [], ◌∷◌, map, slice_index, if◌then◌else◌}
use Rattle.std.specs.Str.Parse.{digits_value}
use Rattle.hr_base.specs.declared.name.Partition.{Partition}
use Rattle.script_text.specs.declared.line.Line.{Line}
use Rattle.script_text.specs.declared.line.Line.TheVariants.{Put, Remove, Clear, Get, Sync}
use Rattle.script_text.specs.declared.view.LineView.{LineView}
use Rattle.script_text.specs.declared.view.LineView.TheVariants as view
use Rattle.script_text.specs.declared.view.LineHead.{LineHead}
use Rattle.script_text.specs.declared.view.LineHead.TheVariants as head
use Rattle.script_text.specs.Fields.{bytes_of}
use Rattle.script_text.specs.Lines.{line_texts}

-- the bytes before the first place of a byte, and those behind it
abbrev pub before_byte : ℕ → List ℕ → List ℕ
before_byte byte [] = []
before_byte byte (b ∷ bytes) = if b == byte then [] else b ∷ before_byte byte bytes

abbrev pub behind_byte : ℕ → List ℕ → List ℕ
behind_byte byte [] = []
behind_byte byte (b ∷ bytes) = if b == byte then bytes else behind_byte byte bytes

-- a line by the first letter of its command
abbrev pub line_with_letter : (p letter prefix : ℕ) (words : List ℕ) → Line
line_with_letter p letter prefix words =
    let partition : Partition = record { 0 = p } in
    if letter == 112 then Put partition prefix (bytes_of (before_byte 32 words)) (bytes_of (behind_byte 32 words)) else if letter == 114 then Remove partition prefix (bytes_of words) else if letter == 99 then Clear partition prefix else if letter == 103 then Get partition prefix (bytes_of words) else Sync partition

abbrev pub line_with_arguments : (p letter : ℕ) (arguments : List ℕ) → Line
line_with_arguments p letter arguments = line_with_letter p letter (digits_value 10 (before_byte 32 arguments)) (behind_byte 32 arguments)

abbrev pub line_with_command : (p : ℕ) (command : List ℕ) → Line
line_with_command p command = line_with_arguments p (slice_index command 0) (behind_byte 32 command)

-- the line of a text, by its fields
unfoldable pub line_from : List ℕ → Line
line_from text = line_with_command (digits_value 10 (before_byte 32 text)) (behind_byte 32 text)

-- the lines of the texts
unfoldable pub script_lines : List ℕ → List Line
script_lines bytes = map line_from (line_texts bytes)

-- ---- a line that is shown

-- the line with this key and value, where it has them
abbrev pub line_with : LineHead → (key value : List ℕ) → Line
line_with (head.Put p prefix) key value = Put p prefix key value
line_with (head.Remove p prefix) key value = Remove p prefix key
line_with (head.Clear p prefix) key value = Clear p prefix
line_with (head.Get p prefix) key value = Get p prefix key
line_with (head.Sync p) key value = Sync p

-- the line that a view shows
abbrev pub line_of_view : LineView → Line
line_of_view (view.Put p prefix key value) = Put p prefix key.now value.now
line_of_view (view.Remove p prefix key) = Remove p prefix key.now
line_of_view (view.Clear p prefix) = Clear p prefix
line_of_view (view.Get p prefix key) = Get p prefix key.now
line_of_view (view.Sync p) = Sync p

-- the line that a cursor shows, and the lines behind it
abbrev pub shown : Line × List Line → Line
shown cursor = cursor.0

abbrev pub left : Line × List Line → List Line
left cursor = cursor.1
