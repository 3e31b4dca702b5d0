-- What stays in front of what is appended, and what is appended piece by piece.
use Rattle.std.proofs.Common.{◌≡◌, ℕ, List, [], ◌∷◌, ◌++◌, length, take, codes, refl, sym, ap, ◌∙◌, append_assoc}
use Rattle.std.proofs.Math.Seq.{take-append_seam}

-- a front that stayed in a front that stayed
pub kept_both : (old mid new : List ℕ) → take (length old) mid ≡ old → take (length mid) new ≡ mid → take (length old) new ≡ old
kept_both [] mid new e h = refl
kept_both (x ∷ old) [] new e h = absurd (cc)
kept_both (x ∷ old) (y ∷ mid) [] e h = absurd (cc)
kept_both (x ∷ old) (y ∷ mid) (z ∷ new) e h =
    let first : take (length old) mid ≡ old = cc in
    let second : take (length mid) new ≡ mid = cc in
    let rest = kept_both old mid new first second in
    let heads : z ≡ x = cc in
    cc

-- a front to which something was appended
pub kept_appended : (old mid new more : List ℕ) → mid ≡ old ++ more → take (length mid) new ≡ mid → take (length old) new ≡ old
kept_appended old mid new more e h =
    kept_both old mid new (ap (take (length old)) e ∙ take-append_seam old more) h

-- what was appended, and then a piece more
pub more_appended : (old mid new line piece : List ℕ) → mid ≡ old ++ line → new ≡ mid ++ piece → new ≡ old ++ (line ++ piece)
more_appended old mid new line piece e h = h ∙ ap (λ (t : List ℕ). t ++ piece) e ∙ append_assoc old line piece

-- the same of a space and a word
pub word_appended : (old mid new line word : List ℕ) → mid ≡ old ++ line → new ≡ mid ++ 32 ∷ word → new ≡ old ++ (line ++ codes " " ++ word)
word_appended old mid new line word e h =
    more_appended old mid new line (32 ∷ word) e h ∙ ap (λ (t : List ℕ). old ++ t) (sym (append_assoc line (codes " ") word))
