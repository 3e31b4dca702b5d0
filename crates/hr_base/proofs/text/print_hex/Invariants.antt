use Rattle.std.proofs.Common.{◌≡◌, ◌++◌, length, drop}
use Rattle.hr_base.specs.Names.{hex_digits}
use Rattle.hr_base.proofs.text.print_hex.Given as goal

-- the digits still to come, and behind them those that are written
abbrev pub invariant-loop-place : goal.invariant-loop-place
invariant-loop-place l =
    hex_digits l.place l.rest ++ drop l.place l.digits ≡ hex_digits (length l.fn.digits) l.number
