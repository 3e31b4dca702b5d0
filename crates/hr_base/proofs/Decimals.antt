-- Numbers as decimal text.
use Rattle.std.proofs.Common.{◌≡◌, ◌<◌, ◌≤◌, ◌+◌, ◌-◌, ◌*◌, ◌^◌, ℕ, List, length, get_or, take, sym, ap, ◌∙◌, subst, inl, inr, arith, decimal, Option, Some, None, IfSome, IfNone}
use Rattle.std.specs.Char.{digit_value}
use Rattle.std.specs.Int.{IsInRange}
use Rattle.std.specs.Str.Parse.{AllDigits, digits_value}
use Rattle.std.proofs.lemmas.Bool.{cases_lt}
use Rattle.std.proofs.lemmas.Bool.Decides.{nat_tests}
use Rattle.std.proofs.lemmas.Fmt.{decimal_is_IsNumeral, decimal-digits_value, decimal_digit, first_decimal}
use Rattle.std.proofs.lemmas.Int.Digits.{digits_value_more}
use Rattle.std.proofs.lemmas.Str.Parse.{numerals_by_value, tells_digits, digit_at, digits_value-take-le}
use Rattle.hr_base.specs.Decimals.{BeginsAsNumber}

decimal_no_leading_zero : (n : ℕ) → n < 2 ^ 64 → get_or (decimal n) 0 0 ≡ 48 → length (decimal n) ≡ 1
decimal_no_leading_zero n fits first =
    elim (cases_lt 0 n) [ inl above ↦ absurd (omega (arith, first_decimal n above fits, first)) | inr none ↦ ap length (decimal_digit n (omega arith)) ]

-- the bytes are digits without leading zeros, of this value
pub record IsSpelling (n : ℕ) (ds : List ℕ) : Type 0 where
  pub begins : BeginsAsNumber ds
  pub digits : AllDigits 10 ds
  pub value : digits_value 10 ds ≡ n

pub IsSpelling-decimal : (n : ℕ) (ds : List ℕ) → n < 2 ^ 64 → ds ≡ decimal n → IsSpelling n ds
IsSpelling-decimal n ds fits e =
    subst (IsSpelling n) (sym e) (record { begins = record { some = (decimal_is_IsNumeral n fits).0.0; alone = decimal_no_leading_zero n fits }; digits = (decimal_is_IsNumeral n fits).0.1; value = (decimal_is_IsNumeral n fits).1 })

-- the value that was read is the number that the digits spell
pub number_found : (r : Option ℕ) (ds : List ℕ) → BeginsAsNumber ds → IfSome r (λ n. AllDigits 10 ds × (digits_value 10 ds ≡ n) × (n < 2 ^ 64)) → IfSome r (λ n. ds ≡ decimal n)
number_found None ds begins h = tt
number_found (Some n) ds begins h =
    let fits : digits_value 10 ds < 2 ^ 64 = omega (arith, h) in
    sym (decimal-digits_value (numerals_by_value (AllDigits 10) tells_digits) ds h.0 begins.some begins.alone fits) ∙ ap decimal h.1

-- where no value was read, the digits spell no number that fits
pub number_none : (r : Option ℕ) (ds : List ℕ) → IfNone r (AllDigits 10 ds → digits_value 10 ds < 2 ^ 64 → ⊥) → IfNone r ((n : ℕ) → n < 2 ^ 64 → ds ≡ decimal n → ⊥)
number_none (Some n) ds h = tt
number_none None ds h = λ n fits e. let spelling = IsSpelling-decimal n ds fits e in h spelling.digits (omega (arith, spelling.value))

pub digit_value-digit : (c : ℕ) → 48 ≤ c → c ≤ 57 → digit_value c ≡ c - 48
digit_value-digit c low high = grind (arith, nat_tests)

-- the digits up to one are worth no more than all
pub value_step : (ds : List ℕ) (i : ℕ) → AllDigits 10 ds → i < length ds → digits_value 10 (take i ds) * 10 + (get_or ds i 0 - 48) ≤ digits_value 10 ds
value_step ds i digits h =
    let digit : IsInRange 48 57 (get_or ds i 0) = digit_at ds i digits h in
    omega (arith, digits_value_more 10 ds i h, digit_value-digit (get_or ds i 0) digit.0 digit.1, digits_value-take-le 10 ds (i + 1) (omega arith))
