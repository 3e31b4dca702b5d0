-- A script is read in one way, or has one first bad line.
use Rattle.std.proofs.Common.{◌≡◌, ◌^◌, ◌≤◌, ℕ, List, [], ◌∷◌, ◌++◌, All, map, length, refl, sym, ◌∙◌, arith}
use Rattle.std.proofs.lemmas.List.Elements.{All-head, All-tail}
use Rattle.script_text.specs.declared.line.Line.{Line}
use Rattle.script_text.specs.declared.line.Mode.{Mode}
use Rattle.script_text.specs.Lines.{IsLine, IsScript, IsFirstBad, line_text}
use Rattle.script_text.proofs.LineTexts.{line_text-one}

lines_one : (mode : Mode) (partitions : ℕ) (a b : List Line) → partitions ≤ 2 ^ 64 → All (IsLine mode partitions) a → All (IsLine mode partitions) b → map line_text a ≡ map line_text b → a ≡ b
lines_one mode partitions [] [] few va vb e = refl
lines_one mode partitions [] (y ∷ b) few va vb e = absurd (cc)
lines_one mode partitions (x ∷ a) [] few va vb e = absurd (cc)
lines_one mode partitions (x ∷ a) (y ∷ b) few va vb e =
    let texts : line_text x ≡ line_text y = cc in
    let rest : map line_text a ≡ map line_text b = cc in
    let first = line_text-one mode partitions x y few (All-head (IsLine mode partitions) x a va) (All-head (IsLine mode partitions) y b vb) texts in
    let others = lines_one mode partitions a b few (All-tail (IsLine mode partitions) x a va) (All-tail (IsLine mode partitions) y b vb) rest in
    cc

-- two readings of the same bytes are equal
pub one_reading : (mode : Mode) (partitions : ℕ) (bytes : List ℕ) (a b : List Line) → partitions ≤ 2 ^ 64 → IsScript mode partitions bytes a → IsScript mode partitions bytes b → a ≡ b
one_reading mode partitions bytes a b few reads_a reads_b =
    lines_one mode partitions a b few reads_a.valid reads_b.valid (sym reads_a.text ∙ reads_b.text)

bad_among : (mode : Mode) (partitions : ℕ) (lines front : List Line) (bad : List ℕ) (after : List (List ℕ)) → All (IsLine mode partitions) lines → map line_text lines ≡ map line_text front ++ bad ∷ after → (line : Line) × IsLine mode partitions line × (bad ≡ line_text line)
bad_among mode partitions [] [] bad after valid e = absurd (cc)
bad_among mode partitions [] (y ∷ front) bad after valid e = absurd (cc)
bad_among mode partitions (x ∷ lines) [] bad after valid e =
    (x, All-head (IsLine mode partitions) x lines valid, cc)
bad_among mode partitions (x ∷ lines) (y ∷ front) bad after valid e =
    bad_among mode partitions lines front bad after (All-tail (IsLine mode partitions) x lines valid) (cc)

-- what is a script has no first bad line
pub bad_or_script : (mode : Mode) (partitions : ℕ) (bytes : List ℕ) (lines : List Line) (number : ℕ) → IsScript mode partitions bytes lines → IsFirstBad mode partitions bytes number → ⊥
bad_or_script mode partitions bytes lines number reads first =
    let among = bad_among mode partitions lines first.front first.bad first.after reads.valid (sym reads.text ∙ first.split) in
    first.none among.0 among.1 among.2

fronts_one : (mode : Mode) (partitions : ℕ) (f g : List Line) (x y : List ℕ) (xs ys : List (List ℕ)) → All (IsLine mode partitions) f → All (IsLine mode partitions) g → ((line : Line) → IsLine mode partitions line → x ≡ line_text line → ⊥) → ((line : Line) → IsLine mode partitions line → y ≡ line_text line → ⊥) → map line_text f ++ x ∷ xs ≡ map line_text g ++ y ∷ ys → length f ≡ length g
fronts_one mode partitions [] [] x y xs ys vf vg nx ny e = refl
fronts_one mode partitions [] (m ∷ g) x y xs ys vf vg nx ny e =
    absurd (nx m (All-head (IsLine mode partitions) m g vg) (cc))
fronts_one mode partitions (l ∷ f) [] x y xs ys vf vg nx ny e =
    absurd (ny l (All-head (IsLine mode partitions) l f vf) (cc))
fronts_one mode partitions (l ∷ f) (m ∷ g) x y xs ys vf vg nx ny e =
    let rest = fronts_one mode partitions f g x y xs ys (All-tail (IsLine mode partitions) l f vf) (All-tail (IsLine mode partitions) m g vg) nx ny (cc) in
    cc

-- two first bad lines are one
pub one_first_bad : (mode : Mode) (partitions : ℕ) (bytes : List ℕ) (m n : ℕ) → IsFirstBad mode partitions bytes m → IsFirstBad mode partitions bytes n → m ≡ n
one_first_bad mode partitions bytes m n a b =
    let fronts = fronts_one mode partitions a.front b.front a.bad b.bad a.after b.after a.valid b.valid a.none b.none (sym a.split ∙ b.split) in
    omega (arith, a.counted, b.counted, fronts)
