-- The script of a session, and why one is refused.
use Rattle.std.specs.Prelude.{◌⊎◌, ℕ, ◌<◌, ◌≤◌, List, length, All, Option, Some, None}
use Rattle.hr_base.specs.declared.limits.TheConstants.{MAX_SCRIPT_LEN}
use Rattle.hr_edges.specs.Edges.{IsRead, ReadsAtMost, ReadsTooMuch}
use Rattle.script_text.specs.declared.line.Line.{Line}
use Rattle.script_text.specs.declared.line.Mode.TheVariants.{Play}
use Rattle.script_text.specs.Lines.{IsLine, IsScript, IsFirstBad}
use Rattle.restart_load.specs.declared.ended.Ended.TheVariants.{Memory}
use Rattle.store_serve.specs.declared.outcome.Outcome.{Outcome}
use Rattle.store_serve.specs.declared.outcome.Outcome.TheVariants.{TooLong, BadLine, Input, Ended}

-- The lines can be played; where the source tells its bytes, they are not too many, and the script of these
-- lines.
abbrev pub IsScriptOf : ℕ → Option (List ℕ) → List Line → Type 0
IsScriptOf partitions None lines = All (IsLine Play partitions) lines
IsScriptOf partitions (Some bytes) lines =
    (length bytes ≤ MAX_SCRIPT_LEN) × IsScript Play partitions bytes lines

-- where the source tells its bytes, more than a script may have were read, and the others are left
abbrev pub IsTooLong : Option (List ℕ) → Option (List ℕ) → Type 0
IsTooLong None left = Unit {0}
IsTooLong (Some bytes) left = ReadsTooMuch MAX_SCRIPT_LEN bytes left

-- where the source tells its bytes, no more than a script may have were read, and the others are left
abbrev pub ReadsFew : Option (List ℕ) → Option (List ℕ) → Type 0
ReadsFew None left = Unit {0}
ReadsFew (Some bytes) left = ReadsAtMost MAX_SCRIPT_LEN bytes left

-- where it tells them, they are not too many, and line `number` is the first that is none of the grammar
abbrev pub IsBadAt : ℕ → Option (List ℕ) → ℕ → Type 0
IsBadAt partitions None number = Unit {0}
IsBadAt partitions (Some bytes) number =
    (length bytes ≤ MAX_SCRIPT_LEN) × IsFirstBad Play partitions bytes number

-- why a script is refused before its session
abbrev pub IsRefusedScript : ℕ → Option (List ℕ) → Option (List ℕ) → Outcome → Type 0
IsRefusedScript partitions left rest TooLong = IsTooLong left rest
IsRefusedScript partitions left rest (BadLine number) = IsBadAt partitions left number × IsRead left rest
IsRefusedScript partitions left rest Input = ReadsFew left rest
IsRefusedScript partitions left rest (Ended Memory) = ReadsFew left rest
IsRefusedScript partitions left rest outcome = ⊥

-- ---- what a script calls for

-- the source tells its bytes, and they are too many, or a line of them is none of the grammar
abbrev pub IsUnfit : ℕ → Option (List ℕ) → Type 0
IsUnfit partitions None = ⊥
IsUnfit partitions (Some bytes) =
    (MAX_SCRIPT_LEN < length bytes) ⊎ ((number : ℕ) × IsBadAt partitions (Some bytes) number)

-- the source tells its bytes, and they are the script of some lines
abbrev pub IsFit : ℕ → Option (List ℕ) → Type 0
IsFit partitions None = ⊥
IsFit partitions (Some bytes) = (lines : List Line) × IsScriptOf partitions (Some bytes) lines
