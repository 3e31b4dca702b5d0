-- The texts of bytes, one line after another.
use Rattle.std.proofs.Common.{◌≡◌, ◌≢◌, ◌<◌, ◌==◌, ℕ, List, [], ◌∷◌, ◌++◌, All, length, cond, refl, ap, ◌∙◌, arith}
use Rattle.std.proofs.lemmas.Bool.{eqb-true, false_from_ne_true}
use Rattle.std.proofs.lemmas.List.Elements.{All-head, All-tail}
use Rattle.script_text.specs.Lines.{line_texts, before_first}

pub texts_of-other : (b : ℕ) (bytes : List ℕ) → b ≢ 10 → line_texts (b ∷ bytes) ≡ before_first b (line_texts bytes)
texts_of-other b bytes other =
    ap (λ t. cond t ([] ∷ line_texts bytes) (before_first b (line_texts bytes))) (false_from_ne_true (b == 10) (λ e. other (eqb-true b 10 e)))

-- a text with its end
pub texts_of-cut : (text rest : List ℕ) → All (λ b. b ≢ 10) text → line_texts (text ++ 10 ∷ rest) ≡ text ∷ line_texts rest
texts_of-cut [] rest lacking = refl
texts_of-cut (b ∷ text) rest lacking =
    texts_of-other b (text ++ 10 ∷ rest) (All-head (λ b. b ≢ 10) b text lacking) ∙ ap (before_first b) (texts_of-cut text rest (All-tail (λ b. b ≢ 10) b text lacking))

-- a last text without its end
pub texts_of-last : (text : List ℕ) → 0 < length text → All (λ b. b ≢ 10) text → line_texts text ≡ text ∷ line_texts []
texts_of-last [] some lacking = absurd (omega arith)
texts_of-last (b ∷ []) some lacking = texts_of-other b [] (All-head (λ b. b ≢ 10) b [] lacking)
texts_of-last (b ∷ c ∷ text) some lacking =
    texts_of-other b (c ∷ text) (All-head (λ b. b ≢ 10) b (c ∷ text) lacking) ∙ ap (before_first b) (texts_of-last (c ∷ text) (omega arith) (All-tail (λ b. b ≢ 10) b (c ∷ text) lacking))
