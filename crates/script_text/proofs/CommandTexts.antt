-- A line's text is its partition, a space, and the text of its command.
use Rattle.std.proofs.Common.{◌≡◌, ◌<◌, ℕ, List, ◌∷◌, ◌++◌, codes, decimal, refl, append_assoc}
use Rattle.script_text.specs.declared.line.Line.{Line}
use Rattle.script_text.specs.declared.line.Line.TheVariants.{Put, Remove, Clear, Get, Sync}
use Rattle.script_text.specs.declared.line.Mode.{Mode}
use Rattle.script_text.specs.Fields.{IsCommandText}
use Rattle.script_text.specs.Lines.{IsLine, line_text, partition_of}
use Rattle.script_text.specs.Texts.{text_of}

-- the text of a line behind its partition and a space
abbrev pub command_text : Line → List ℕ
command_text (Put p prefix key value) = codes "put " ++ (decimal prefix ++ 32 ∷ (text_of key ++ 32 ∷ text_of value))
command_text (Remove p prefix key) = codes "remove " ++ (decimal prefix ++ 32 ∷ text_of key)
command_text (Clear p prefix) = codes "clear " ++ decimal prefix
command_text (Get p prefix key) = codes "get " ++ (decimal prefix ++ 32 ∷ text_of key)
command_text (Sync p) = codes "sync"

pub line_text-split : (line : Line) → line_text line ≡ decimal (partition_of line) ++ 32 ∷ command_text line
line_text-split (Put p prefix key value) = simp append_assoc
line_text-split (Remove p prefix key) = simp append_assoc
line_text-split (Clear p prefix) = simp append_assoc
line_text-split (Get p prefix key) = simp append_assoc
line_text-split (Sync p) = refl

pub IsLine-partition : (mode : Mode) (partitions : ℕ) (line : Line) → IsLine mode partitions line → partition_of line < partitions
IsLine-partition mode partitions (Put p prefix key value) valid = valid.0
IsLine-partition mode partitions (Remove p prefix key) valid = valid.0
IsLine-partition mode partitions (Clear p prefix) valid = valid.0
IsLine-partition mode partitions (Get p prefix key) valid = valid.0
IsLine-partition mode partitions (Sync p) valid = valid

pub IsCommandText-line : (mode : Mode) (partitions : ℕ) (line : Line) → IsLine mode partitions line → IsCommandText (command_text line) line
IsCommandText-line mode partitions (Put p prefix key value) valid =
    (decimal prefix ++ 32 ∷ (text_of key ++ 32 ∷ text_of value), refl, record { fits = valid.1; key_kept = valid.2; value_kept = valid.3; text = refl })
IsCommandText-line mode partitions (Remove p prefix key) valid =
    (decimal prefix ++ 32 ∷ text_of key, refl, record { fits = valid.1; key_kept = valid.2; text = refl })
IsCommandText-line mode partitions (Clear p prefix) valid = (decimal prefix, refl, valid.1, refl)
IsCommandText-line mode partitions (Get p prefix key) valid =
    (decimal prefix ++ 32 ∷ text_of key, refl, record { fits = valid.1; key_kept = valid.2; text = refl })
IsCommandText-line mode partitions (Sync p) valid = refl
