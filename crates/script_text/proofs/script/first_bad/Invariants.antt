use Rattle.std.proofs.Common.{◌≡◌, ◌+◌, ◌≤◌, ◌++◌, All, List, map, length}
use Rattle.script_text.specs.declared.line.Line.{Line}
use Rattle.script_text.specs.Lines.{IsLine, line_text, line_texts}
use Rattle.script_text.proofs.script.first_bad.Given as goal

-- each text so far is that of a line, and no line is shorter than its end
abbrev pub invariant-loop-rest : goal.invariant-loop-rest
invariant-loop-rest l =
    (lines : List Line) × All (IsLine l.mode l.partitions) lines × (line_texts l.bytes ≡ map line_text lines ++ line_texts l.rest) × (length lines ≡ l.number) × (l.number + length l.rest ≤ length l.bytes)

abbrev pub decreases-loop-rest : goal.decreases-loop-rest
decreases-loop-rest l = length l.rest
