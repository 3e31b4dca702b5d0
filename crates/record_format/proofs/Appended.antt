-- Pieces that were appended one after another.
use Rattle.std.proofs.Common.{◌≡◌, ℕ, List, ◌++◌, ap, ◌∙◌, append_assoc}

pub appended : (o a b x y : List ℕ) → x ≡ o ++ a → y ≡ x ++ b → y ≡ o ++ (a ++ b)
appended o a b x y e f = f ∙ ap (λ (s : List ℕ). s ++ b) e ∙ append_assoc o a b

-- the same of the bytes `c`, which are `b`
pub appended_bytes : (o a b c x y : List ℕ) → x ≡ o ++ a → c ≡ b → y ≡ x ++ c → y ≡ o ++ (a ++ b)
appended_bytes o a b c x y e g f = appended o a b x y e (f ∙ ap (λ (s : List ℕ). x ++ s) g)

pub begun_bytes : (o b c y : List ℕ) → c ≡ b → y ≡ o ++ c → y ≡ o ++ b
begun_bytes o b c y g f = f ∙ ap (λ (s : List ℕ). o ++ s) g
