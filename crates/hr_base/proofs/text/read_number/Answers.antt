use Rattle.std.proofs.Common.{◌≡◌, ◌^◌, ◌<◌, length, sym, ◌∙◌, arith}
use Rattle.hr_base.proofs.HexDigits.{hex_digits_one}
use Rattle.hr_base.proofs.text.read_number.Goals as goal
use Rattle.hr_base.proofs.text.read_number.Goals.{else-number-ge-FIRST-via-then-number-ge-FIRST+else-number-lt-END, else-number-ge-FIRST-via-else-number-ge-FIRST}

pub returns-else-number-ge-FIRST-clause-none : goal.returns-else-number-ge-FIRST-clause-none
returns-else-number-ge-FIRST-clause-none c = λ n some below e.
    let digits = c.args.digits.now in
    let found = c.in_ok-number.ensures.found in
    let fits : n < 16 ^ length digits = rw c.requires (omega arith) in
    let same : n ≡ c.in_ok-number.number = hex_digits_one (length digits) n c.in_ok-number.number fits found.0 (sym e ∙ found.1) in
    elim c.else-number-ge-FIRST.branch [
      | else-number-ge-FIRST-via-then-number-ge-FIRST+else-number-lt-END w ↦ omega (arith, same)
      | else-number-ge-FIRST-via-else-number-ge-FIRST w ↦ omega (arith, same)
    ]
