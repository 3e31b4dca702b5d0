-- What hexadecimal digits say of their number.
use Rattle.std.proofs.Common.{◌≡◌, ℕ, zero, suc, ◌+◌, ◌*◌, ◌/◌, ◌%◌, ◌^◌, ◌<◌, ◌≤◌, List, [], ◌∷◌, ◌++◌, length, get_or, drop, set, lit<, lit≤, refl, sym, ap, ◌∙◌, inl, inr, arith, add-one}
use Rattle.std.specs.Ordering.{nat_cmp, ordering_then}
use Rattle.std.specs.Cmp.Lexicographic.{slice_cmp}
use Rattle.std.specs.declared.cmp.Ordering.TheVariants.{Equal}
use Rattle.std.proofs.Math.Nat.{pow-suc, pow-le-pow_right}
use Rattle.std.proofs.lemmas.List.{length_push, same_from_push, get_or_append_left, get_or_push, drop-set, append_assoc}
use Rattle.std.proofs.lemmas.Nat.{div-mul-add, mod-mul-add, div_below, mod_below}
use Rattle.std.proofs.lemmas.Bool.{cases_lt}
use Rattle.std.proofs.lemmas.Bool.Decides.{nat_tests}
use Rattle.hr_base.specs.Names.{hex_digit, hex_digits}
use Rattle.hr_base.proofs.Orders.{ordering_then-equal, slice_cmp-append, nat_cmp-equal, div_mod_cmp}

-- two values below 16 with one digit are the same
pub hex_digit_one : (a b : ℕ) → a < 16 → b < 16 → hex_digit a ≡ hex_digit b → a ≡ b
hex_digit_one a b p q e = grind (arith, nat_tests)

-- there are as many digits as were asked for
pub length-hex_digits : (count n : ℕ) → length (hex_digits count n) ≡ count
length-hex_digits zero n = refl
length-hex_digits (suc count) n =
    omega (arith, length_push (hex_digits count (n / 16)) (hex_digit (n % 16)), length-hex_digits count (n / 16))

-- one more digit at the end of a number
pub hex_digits_more : (count n d : ℕ) → d < 16 → hex_digits (count + 1) (n * 16 + d) ≡ hex_digits count n ++ hex_digit d ∷ []
hex_digits_more count n d h = rw (add-one, div-mul-add n 16 d h, mod-mul-add n 16 d h)

-- the last digit of a number, behind those of the rest
pub hex_digits_last : (count n : ℕ) → hex_digits (count + 1) n ≡ hex_digits count (n / 16) ++ hex_digit (n % 16) ∷ []
hex_digits_last count n = rw add-one

-- one more digit still fits
pub hex_more_fits : (count n d : ℕ) → n < 16 ^ count → d < 16 → n * 16 + d < 16 ^ (count + 1)
hex_more_fits count n d p q = rw (add-one, pow-suc) (omega arith)

-- one more of at most sixteen digits fits a word
pub hex_more_word : (count n d : ℕ) → count < 16 → n < 16 ^ count → d < 16 → n * 16 + d < 2 ^ 64
hex_more_word count n d h p q =
    let fits : n * 16 + d < 16 ^ (count + 1) = hex_more_fits count n d p q in
    let most : 16 ^ (count + 1) ≤ 16 ^ 16 = let bound : count + 1 ≤ 16 = omega arith in pow-le-pow_right (lit≤ tt) bound in
    omega (arith, fits, most)

-- two numbers that fit and have one text are the same
pub hex_digits_one : (count a b : ℕ) → a < 16 ^ count → b < 16 ^ count → hex_digits count a ≡ hex_digits count b → a ≡ b
hex_digits_one zero a b p q e = omega arith
hex_digits_one (suc count) a b p q e =
    let p' : a < 16 ^ count * 16 = rw pow-suc at p in
    let q' : b < 16 ^ count * 16 = rw pow-suc at q in
    let parts = same_from_push (hex_digits count (a / 16)) (hex_digits count (b / 16)) (hex_digit (a % 16)) (hex_digit (b % 16)) e in
    let high : a / 16 ≡ b / 16 = hex_digits_one count (a / 16) (b / 16) (div_below a 16 (16 ^ count) (lit< tt) p') (div_below b 16 (16 ^ count) (lit< tt) q') parts.0 in
    let low : a % 16 ≡ b % 16 = hex_digit_one (a % 16) (b % 16) (mod_below a 16 (lit< tt)) (mod_below b 16 (lit< tt)) parts.1 in
    omega (arith, high, low)

-- each of the digits is the digit of some value below 16
pub hex_digits_at : (count n i : ℕ) → i < count → (d : ℕ) × (d < 16) × (get_or (hex_digits count n) i 0 ≡ hex_digit d)
hex_digits_at zero n i h = absurd (omega arith)
hex_digits_at (suc count) n i h =
    elim (cases_lt i count) [
      | inl below ↦
          let found = hex_digits_at count (n / 16) i below in
          let within : i < length (hex_digits count (n / 16)) = omega (arith, length-hex_digits count (n / 16)) in
          (found.0, found.1, get_or_append_left (hex_digits count (n / 16)) (hex_digit (n % 16) ∷ []) 0 i within ∙ found.2)
      | inr above ↦
          let last : length (hex_digits count (n / 16)) ≡ i = omega (arith, length-hex_digits count (n / 16)) in
          (n % 16, mod_below n 16 (lit< tt), get_or_push (hex_digits count (n / 16)) (hex_digit (n % 16)) 0 i last)
    ]

-- one place written from the end: what is left to write, and what stands behind it
pub hex_digits_write : (text : List ℕ) (place n : ℕ) (whole : List ℕ) → place < length text → hex_digits (place + 1) n ++ drop (place + 1) text ≡ whole → hex_digits place (n / 16) ++ drop place (set text place (hex_digit (n % 16))) ≡ whole
hex_digits_write text place n whole h e =
    ap (λ x. hex_digits place (n / 16) ++ x) (drop-set text place (hex_digit (n % 16)) h)
    ∙ sym (append_assoc (hex_digits place (n / 16)) (hex_digit (n % 16) ∷ []) (drop (place + 1) text))
    ∙ ap (λ x. x ++ drop (place + 1) text) (sym (hex_digits_last place n))
    ∙ e

-- two digits from 0 to 15 compare as their values
pub hex_digit_cmp : (a b : ℕ) → a < 16 → b < 16 → nat_cmp (hex_digit a) (hex_digit b) ≡ nat_cmp a b
hex_digit_cmp a b p q = grind (arith, nat_tests)

-- digits compare as the number
pub hex_digits_cmp : (count a b : ℕ) → a < 16 ^ count → b < 16 ^ count → slice_cmp nat_cmp (hex_digits count a) (hex_digits count b) ≡ nat_cmp a b
hex_digits_cmp zero a b p q = sym (nat_cmp-equal a b (omega arith))
hex_digits_cmp (suc count) a b p q =
    let p' : a < 16 ^ count * 16 = rw pow-suc at p in
    let q' : b < 16 ^ count * 16 = rw pow-suc at q in
    let long : length (hex_digits count (a / 16)) ≡ length (hex_digits count (b / 16)) = length-hex_digits count (a / 16) ∙ sym (length-hex_digits count (b / 16)) in
    let high = hex_digits_cmp count (a / 16) (b / 16) (div_below a 16 (16 ^ count) (lit< tt) p') (div_below b 16 (16 ^ count) (lit< tt) q') in
    let low = ordering_then-equal (nat_cmp (hex_digit (a % 16)) (hex_digit (b % 16))) ∙ hex_digit_cmp (a % 16) (b % 16) (mod_below a 16 (lit< tt)) (mod_below b 16 (lit< tt)) in
    slice_cmp-append nat_cmp (hex_digits count (a / 16)) (hex_digit (a % 16) ∷ []) (hex_digits count (b / 16)) (hex_digit (b % 16) ∷ []) long
    ∙ ap (λ o. ordering_then o (ordering_then (nat_cmp (hex_digit (a % 16)) (hex_digit (b % 16))) Equal)) high
    ∙ ap (ordering_then (nat_cmp (a / 16) (b / 16))) low
    ∙ div_mod_cmp a b 16 (lit< tt)
