use Rattle.std.proofs.Common.{◌≡◌, ◌<◌, ◌^◌, take}
use Rattle.std.specs.Str.Parse.{AllDigits, digits_value}
use Rattle.hr_base.proofs.decimal.read_digits.Given as goal

abbrev pub invariant-loop-digit : goal.invariant-loop-digit
invariant-loop-digit l =
    AllDigits 10 (take l.digit-index l.digits) × (digits_value 10 (take l.digit-index l.digits) ≡ l.value) × (l.value < 2 ^ 64)
