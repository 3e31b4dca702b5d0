use Rattle.std.proofs.Common.{◌≡◌, ◌<◌, ◌^◌, arith, sym, ◌∙◌}
use Rattle.std.proofs.lemmas.Fmt.{decimal_injective}
use Rattle.command_words.proofs.Words.{number_fits}
use Rattle.command_words.proofs.table.Setting.read.Goals as goal
use Rattle.command_words.proofs.table.Setting.read.Goals.{else-row-number-via-then-row-number+else-number-row, else-row-number-via-else-row-number}

pub returns-else-row-number-clause-none : goal.returns-else-row-number-clause-none
returns-else-row-number-clause-none c = λ n range e.
    let fits : n < 2 ^ 64 = number_fits c.args.self n range in
    let same : n ≡ c.in_ok-number.number = decimal_injective n c.in_ok-number.number fits (omega arith) (sym e ∙ c.in_ok-number.ensures.found) in
    elim c.else-row-number.branch [
      | else-row-number-via-then-row-number+else-number-row w ↦ omega (arith, range.least, range.most, same, c.row-row.ensures.least, c.row-row.ensures.most)
      | else-row-number-via-else-row-number w ↦ omega (arith, range.least, range.most, same, c.row-row.ensures.least, c.row-row.ensures.most)
    ]
