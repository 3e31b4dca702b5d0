use Rattle.std.proofs.Common.{◌≡◌, ℕ, ◌<◌, ◌++◌, ◌∷◌, [], length, get_or, sym, ap, ◌∙◌, arith, lit<}
use Rattle.std.proofs.lemmas.List.{take_more}
use Rattle.hr_base.specs.Names.{hex_digit, hex_digits}
use Rattle.hr_base.proofs.HexDigits.{hex_digits_more, hex_more_fits, hex_digits_at, hex_more_word}
use Rattle.hr_base.proofs.NameTexts.{IfNone-from}
use Rattle.hr_base.proofs.text.read_hex.Goals as goal

pub overflow_mul-number : goal.overflow_mul-number
overflow_mul-number c =
    omega (arith, hex_more_word c.loop-digit.digit-index c.loop-digit.number 0 (omega arith) c.loop-digit.invariant.fits (lit< tt))

pub returns-in_err-value_of_digit-clause-none : goal.returns-in_err-value_of_digit-clause-none
returns-in_err-value_of_digit-clause-none c =
    let digits = c.args.digits.now in
    let none : (n : ℕ) → digits ≡ hex_digits (length digits) n → ⊥ =
    λ n e. let at = hex_digits_at (length digits) n c.loop-digit.digit-index c.loop-digit-test.true in
    c.in_err-value_of_digit.ensures.none at.0 at.1 (ap (λ x. get_or x c.loop-digit.digit-index 0) e ∙ at.2) in
    IfNone-from c.from_residual.result none

pub overflow_add-number : goal.overflow_add-number
overflow_add-number c =
    let small : c.from.result < 16 = rw c.from.ensures c.in_ok-value_of_digit.ensures.found.0 in
    omega (arith, hex_more_word c.loop-digit.digit-index c.loop-digit.number c.from.result (omega arith) c.loop-digit.invariant.fits small)

pub loop-digit-preserved : goal.loop-digit-preserved
loop-digit-preserved c =
    let small : c.from.result < 16 = rw c.from.ensures c.in_ok-value_of_digit.ensures.found.0 in
    let digit : get_or c.args.digits.now c.loop-digit.digit-index 0 ≡ hex_digit c.from.result = c.in_ok-value_of_digit.ensures.found.1 ∙ ap hex_digit (sym c.from.ensures) in
    record {
      fits = hex_more_fits c.loop-digit.digit-index c.loop-digit.number c.from.result c.loop-digit.invariant.fits small;
      spelled =
          take_more c.args.digits.now c.loop-digit.digit-index 0 c.loop-digit-test.true
          ∙ ap (λ x. x ++ get_or c.args.digits.now c.loop-digit.digit-index 0 ∷ []) c.loop-digit.invariant.spelled
          ∙ ap (λ x. hex_digits c.loop-digit.digit-index c.loop-digit.number ++ x ∷ []) digit
          ∙ sym (hex_digits_more c.loop-digit.digit-index c.loop-digit.number c.from.result small);
    }
