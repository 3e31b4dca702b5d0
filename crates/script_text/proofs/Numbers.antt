-- Numbers as decimal text, and the text of bytes: neither has a space.
use Rattle.std.proofs.Common.{◌≢◌, ◌<◌, ◌≤◌, ◌^◌, ℕ, List, All, arith, decimal}
use Rattle.std.proofs.lemmas.Fmt.{decimal_is_IsNumeral}
use Rattle.std.proofs.lemmas.Str.Parse.{digit_at}
use Rattle.std.proofs.lemmas.List.Elements.{All-from_get_or, All-weaker}
use Rattle.script_text.specs.Texts.{text_of}
use Rattle.script_text.proofs.ByteTexts.{text_of_visible}

pub decimal_visible : (n : ℕ) → n < 2 ^ 64 → All (λ b. 33 ≤ b) (decimal n)
decimal_visible n fits =
    All-from_get_or (λ b. 33 ≤ b) (decimal n) 0 (λ i h. let digit = digit_at (decimal n) i (decimal_is_IsNumeral n fits).0.1 h in omega (arith, digit))

-- visible bytes are neither a space nor the end of a line
pub visible_lacks_space : (bytes : List ℕ) → All (λ b. 33 ≤ b) bytes → All (λ b. b ≢ 32) bytes
visible_lacks_space bytes visible = All-weaker (λ b. 33 ≤ b) (λ b. b ≢ 32) (λ b low e. omega (arith, low, e)) bytes visible

pub decimal_lacks_space : (n : ℕ) → n < 2 ^ 64 → All (λ b. b ≢ 32) (decimal n)
decimal_lacks_space n fits = visible_lacks_space (decimal n) (decimal_visible n fits)

pub text_lacks_space : (bytes : List ℕ) → All (λ b. b ≢ 32) (text_of bytes)
text_lacks_space bytes = visible_lacks_space (text_of bytes) (text_of_visible bytes)
