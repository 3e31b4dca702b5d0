use Rattle.std.proofs.Common.{refl}
use Rattle.std.proofs.lemmas.Bool.{false≢true}
use Rattle.hr_base.proofs.Decimals.{IsSpelling-decimal, number_found, number_none}
use Rattle.hr_base.proofs.decimal.read_decimal.Goals as goal

pub returns-else-begins_as_number-clause-none : goal.returns-else-begins_as_number-clause-none
returns-else-begins_as_number-clause-none c = λ n fits e.
    absurd (false≢true (c.if-begins_as_number.ensures.1 (IsSpelling-decimal n c.args.text.now fits e).begins))

pub returns-then-begins_as_number-clause-found : goal.returns-then-begins_as_number-clause-found
returns-then-begins_as_number-clause-found c =
    number_found c.read_digits.result c.args.text.now (c.if-begins_as_number.ensures.0 refl) c.read_digits.ensures.found

pub returns-then-begins_as_number-clause-none : goal.returns-then-begins_as_number-clause-none
returns-then-begins_as_number-clause-none c =
    number_none c.read_digits.result c.args.text.now c.read_digits.ensures.none
