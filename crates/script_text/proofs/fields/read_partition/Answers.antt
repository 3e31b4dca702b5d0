use Rattle.std.proofs.Common.{◌<◌, ◌^◌, arith, sym, ◌∙◌}
use Rattle.std.proofs.lemmas.Fmt.{decimal_injective}
use Rattle.script_text.proofs.fields.read_partition.Goals as goal

pub returns-else-number-from-clause-none : goal.returns-else-number-from-clause-none
returns-else-number-from-clause-none c = λ n below e.
    let fits : n < 2 ^ 64 = omega (arith, c.ranges.partitions) in
    let same = decimal_injective n c.in_ok-number.number fits (omega arith) (sym e ∙ c.in_ok-number.ensures.found) in
    omega (arith, same, c.from.ensures, c.if-number-from.false)
