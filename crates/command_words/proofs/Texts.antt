-- The bytes of words.
use Rattle.std.proofs.Common.{◌≡◌, ◌≢◌, ◌<◌, ◌≤◌, ℕ, zero, suc, List, [], ◌∷◌, get_or, length, take, drop, ◌-◌, refl, sym, ap, arith, String}
use Rattle.std.specs.String.{string_bytes}
use Rattle.std.proofs.lemmas.Grind.{common_steps}
use Rattle.command_words.specs.Words.{word_texts}

module _ {A : Type 0} where
  pub text_at : (words : List (String A)) (k : ℕ) (x : String A) (d : List ℕ) → k < length words → x ≡ get_or words k x → get_or (word_texts words) k d ≡ string_bytes x
  text_at [] k x d below e = absurd (omega arith)
  text_at (w ∷ ws) zero x d below e = ap string_bytes (sym e)
  text_at (w ∷ ws) (suc k) x d below e = text_at ws k x d (omega arith) e

  pub length-texts_of : (words : List (String A)) → length (word_texts words) ≡ length words
  length-texts_of [] = refl
  length-texts_of (w ∷ ws) = ap suc (length-texts_of ws)

  pub two_first : (words : List (String A)) (a b : String A) → 2 ≤ length words → a ≡ get_or words 0 a → b ≡ get_or words 1 b
      → word_texts words ≡ string_bytes a ∷ string_bytes b ∷ word_texts (take (length words - 2) (drop 2 words))
  two_first [] a b h x y = absurd (omega arith)
  two_first (v ∷ []) a b h x y = absurd (omega arith)
  two_first (v ∷ w ∷ ws) a b h x y =
      let first : string_bytes a ≡ string_bytes v = ap string_bytes x in
      let second : string_bytes b ≡ string_bytes w = ap string_bytes y in
      let whole : take (length (v ∷ w ∷ ws) - 2) ws ≡ ws = grind (arith, common_steps) in
      cc

  pub one_first : (words : List (String A)) → length words ≢ 0 → length words < 2 → (t : List ℕ) × (word_texts words ≡ t ∷ [])
  one_first [] some few = absurd (some refl)
  one_first (v ∷ []) some few = (string_bytes v, refl)
  one_first (v ∷ w ∷ ws) some few = absurd (omega arith)
