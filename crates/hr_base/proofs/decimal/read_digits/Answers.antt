use Rattle.std.proofs.Common.{◌<◌, arith, length, get_or, inl, inr}
use Rattle.std.specs.Int.{IsInRange, IsOutOfRange}
use Rattle.std.proofs.lemmas.Str.Parse.{digit_at, digit_from_value}
use Rattle.std.proofs.lemmas.Int.Digits.{digits_more, digits_value_more}
use Rattle.hr_base.proofs.Decimals.{digit_value-digit, value_step}
use Rattle.hr_base.proofs.decimal.read_digits.Goals as goal

pub returns-then-not-is_ascii_digit-clause-none : goal.returns-then-not-is_ascii_digit-clause-none
returns-then-not-is_ascii_digit-clause-none c = λ digits fits.
    let digit : IsInRange 48 57 (get_or c.args.digits.now c.loop-digit.digit-index 0) = digit_at c.args.digits.now c.loop-digit.digit-index digits (omega arith) in
    let outside : IsOutOfRange 48 57 (get_or c.args.digits.now c.loop-digit.digit-index 0) = c.if-not-is_ascii_digit.ensures.cases in
    elim outside [ inl below ↦ omega arith | inr above ↦ omega arith ]

pub returns-in_err-checked_mul-clause-none : goal.returns-in_err-checked_mul-clause-none
returns-in_err-checked_mul-clause-none c = rw c.from_residual.ensures (λ digits fits.
    let step = value_step c.args.digits.now c.loop-digit.digit-index digits (omega arith) in
    c.in_err-checked_mul.ensures (omega (arith, step, c.loop-digit.invariant.1)))

pub returns-in_err-value-clause-none : goal.returns-in_err-value-clause-none
returns-in_err-value-clause-none c = rw c.from_residual-in_err-value.ensures (λ digits fits.
    let step = value_step c.args.digits.now c.loop-digit.digit-index digits (omega arith) in
    c.in_err-value.ensures (omega (arith, step, c.loop-digit.invariant.1, c.in_ok-checked_mul.ensures, c.from.ensures)))

pub loop-digit-preserved : goal.loop-digit-preserved
loop-digit-preserved c =
    let ds = c.args.digits.now in
    let i = c.loop-digit.digit-index in
    let small = c.if-not-is_ascii_digit.ensures.bound in
    let digit = digit_from_value (get_or ds i 0) small in
    let value = digit_value-digit (get_or ds i 0) digit.0 digit.1 in
    let here : i < length ds = omega arith in (
      digits_more 10 ds i here c.loop-digit.invariant.0 small,
      omega (arith, digits_value_more 10 ds i here, value, c.loop-digit.invariant.1, c.in_ok-checked_mul.ensures, c.in_ok-value.ensures, c.from.ensures),
      omega (arith, c.in_ok-value.ensures),
    )
