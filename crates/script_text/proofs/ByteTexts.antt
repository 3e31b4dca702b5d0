-- The text form of bytes: it has visible bytes only, and is read in one way.
use Rattle.std.proofs.Common.{◌≡◌, ◌≢◌, ◌<◌, ◌≤◌, ◌+◌, ◌*◌, ◌/◌, ◌%◌, ℕ, true, false, cond, List, [], ◌∷◌, ◌++◌, All, length, refl, sym, ap, ◌∙◌, arith, inl, inr}
use Rattle.std.specs.List.{flat_map}
use Rattle.std.proofs.lemmas.Bool.{cases_Bool}
use Rattle.std.proofs.lemmas.Bool.Decides.{nat_tests}
use Rattle.std.proofs.lemmas.List.Elements.{All-head, All-tail, All-cons, All-append}
use Rattle.script_text.specs.Fields.{bytes_of, upper_digit_value}
use Rattle.script_text.specs.Texts.{byte_text, is_plain, text_of, upper_digit}

-- a byte's text where it stands for itself, and where not
pub byte_text-plain : (b : ℕ) → is_plain b ≡ true → byte_text b ≡ b ∷ []
byte_text-plain b plain = ap (λ t. cond t (b ∷ []) (37 ∷ upper_digit (b / 16) ∷ upper_digit (b % 16) ∷ [])) plain

pub byte_text-escaped : (b : ℕ) → is_plain b ≡ false → byte_text b ≡ 37 ∷ upper_digit (b / 16) ∷ upper_digit (b % 16) ∷ []
byte_text-escaped b escaped = ap (λ t. cond t (b ∷ []) (37 ∷ upper_digit (b / 16) ∷ upper_digit (b % 16) ∷ [])) escaped

pub plain_visible : (b : ℕ) → is_plain b ≡ true → 33 ≤ b
plain_visible b plain = grind (arith, nat_tests)

pub plain_other : (b : ℕ) → is_plain b ≡ true → b ≢ 37
plain_other b plain e = grind (arith, nat_tests)

upper_digit_visible : (d : ℕ) → 33 ≤ upper_digit d
upper_digit_visible d = grind (arith, nat_tests)

pub upper_digit_value-upper_digit : (d : ℕ) → d < 16 → upper_digit_value (upper_digit d) ≡ d
upper_digit_value-upper_digit d h = grind (arith, nat_tests)

none_below : (n : ℕ) → All (λ b. n ≤ b) []
none_below n k d h = absurd (omega arith)

byte_text_visible : (b : ℕ) → All (λ c. 33 ≤ c) (byte_text b)
byte_text_visible b = elim (cases_Bool (is_plain b)) [
  | inl plain ↦ rw (byte_text-plain b plain) (All-cons (λ c. 33 ≤ c) b [] (plain_visible b plain) (none_below 33))
  | inr escaped ↦ rw (byte_text-escaped b escaped) (All-cons (λ c. 33 ≤ c) 37 (upper_digit (b / 16) ∷ upper_digit (b % 16) ∷ []) (omega arith) (All-cons (λ c. 33 ≤ c) (upper_digit (b / 16)) (upper_digit (b % 16) ∷ []) (upper_digit_visible (b / 16)) (All-cons (λ c. 33 ≤ c) (upper_digit (b % 16)) [] (upper_digit_visible (b % 16)) (none_below 33))))
]

spelled_visible : (bytes : List ℕ) → All (λ c. 33 ≤ c) (flat_map byte_text bytes)
spelled_visible [] = none_below 33
spelled_visible (b ∷ bytes) =
    All-append (λ c. 33 ≤ c) (byte_text b) (flat_map byte_text bytes) (byte_text_visible b) (spelled_visible bytes)

pub text_of_visible : (bytes : List ℕ) → All (λ c. 33 ≤ c) (text_of bytes)
text_of_visible [] = All-cons (λ c. 33 ≤ c) 37 [] (omega arith) (none_below 33)
text_of_visible (b ∷ bytes) = spelled_visible (b ∷ bytes)

pub text_of-some : (bytes : List ℕ) → 0 < length bytes → text_of bytes ≡ flat_map byte_text bytes
text_of-some [] some = absurd (omega arith)
text_of-some (b ∷ bytes) some = refl

-- reading a text again: a byte that stands for itself, and one that does not
bytes_of-plain : (a : ℕ) (rest : List ℕ) → a ≢ 37 → bytes_of (a ∷ rest) ≡ a ∷ bytes_of rest
bytes_of-plain a [] other = grind (arith, nat_tests)
bytes_of-plain a (b ∷ []) other = refl
bytes_of-plain a (b ∷ c ∷ rest) other = grind (arith, nat_tests)

bytes_of-escaped : (b : ℕ) (rest : List ℕ) → b < 256 → bytes_of (37 ∷ upper_digit (b / 16) ∷ upper_digit (b % 16) ∷ rest) ≡ b ∷ bytes_of rest
bytes_of-escaped b rest small =
    let high = upper_digit_value-upper_digit (b / 16) (omega arith) in
    let low = upper_digit_value-upper_digit (b % 16) (omega arith) in
    let whole : upper_digit_value (upper_digit (b / 16)) * 16 + upper_digit_value (upper_digit (b % 16)) ≡ b = omega (arith, high, low) in
    ap (λ n. n ∷ bytes_of rest) whole

pub bytes_of-byte_text : (b : ℕ) (rest : List ℕ) → b < 256 → bytes_of (byte_text b ++ rest) ≡ b ∷ bytes_of rest
bytes_of-byte_text b rest small = elim (cases_Bool (is_plain b)) [
  | inl plain ↦ ap (λ t. bytes_of (t ++ rest)) (byte_text-plain b plain) ∙ bytes_of-plain b rest (plain_other b plain)
  | inr escaped ↦ ap (λ t. bytes_of (t ++ rest)) (byte_text-escaped b escaped) ∙ bytes_of-escaped b rest small
]

pub bytes_of-spelled : (bytes : List ℕ) → All (λ b. b < 256) bytes → bytes_of (flat_map byte_text bytes) ≡ bytes
bytes_of-spelled [] small = refl
bytes_of-spelled (b ∷ bytes) small =
    bytes_of-byte_text b (flat_map byte_text bytes) (All-head (λ b. b < 256) b bytes small)
    ∙ ap (λ rest. b ∷ rest) (bytes_of-spelled bytes (All-tail (λ b. b < 256) b bytes small))

pub bytes_of-text_of : (bytes : List ℕ) → All (λ b. b < 256) bytes → bytes_of (text_of bytes) ≡ bytes
bytes_of-text_of [] small = refl
bytes_of-text_of (b ∷ bytes) small = bytes_of-spelled (b ∷ bytes) small

-- no two byte lists have one text
pub text_of-one : (a b : List ℕ) → All (λ b. b < 256) a → All (λ b. b < 256) b → text_of a ≡ text_of b → a ≡ b
text_of-one a b small_a small_b e = sym (bytes_of-text_of a small_a) ∙ ap bytes_of e ∙ bytes_of-text_of b small_b
