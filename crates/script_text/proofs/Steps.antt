-- The steps of reading a script, one text after another.
use Rattle.std.proofs.Common.{◌≡◌, ◌+◌, ℕ, List, [], ◌∷◌, ◌++◌, All, map, length, sym, ap, ◌∙◌, append_assoc}
use Rattle.std.proofs.lemmas.List.{append-nil, nil_from_length, map_push}
use Rattle.script_text.specs.declared.line.Line.{Line}
use Rattle.script_text.specs.declared.line.Mode.{Mode}
use Rattle.script_text.specs.Lines.{IsLine, IsScript, IsFirstBad, line_text, line_texts}

-- one text more was read
pub one_more : (bytes rest text after : List ℕ) (lines : List Line) (line : Line) → line_texts bytes ≡ map line_text lines ++ line_texts rest → line_texts rest ≡ text ∷ line_texts after → text ≡ line_text line → line_texts bytes ≡ map line_text (lines ++ line ∷ []) ++ line_texts after
one_more bytes rest text after lines line split first spelled =
    split ∙ ap (λ texts. map line_text lines ++ texts) (first ∙ ap (λ t. t ∷ line_texts after) spelled)
    ∙ sym (append_assoc (map line_text lines) (line_text line ∷ []) (line_texts after))
    ∙ ap (λ texts. texts ++ line_texts after) (sym (map_push line_text lines line))

-- all was read
pub whole_script : (mode : Mode) (partitions : ℕ) (bytes rest : List ℕ) (lines : List Line) → All (IsLine mode partitions) lines → line_texts bytes ≡ map line_text lines ++ line_texts rest → length rest ≡ 0 → IsScript mode partitions bytes lines
whole_script mode partitions bytes rest lines valid split none = record {
  valid = valid;
  text = split ∙ ap (λ bs. map line_text lines ++ line_texts bs) (nil_from_length rest none) ∙ append-nil (map line_text lines);
}

-- the text after those that were read is none of the grammar
pub first_bad : (mode : Mode) (partitions : ℕ) (bytes rest text after : List ℕ) (lines : List Line) (number : ℕ) → All (IsLine mode partitions) lines → line_texts bytes ≡ map line_text lines ++ line_texts rest → line_texts rest ≡ text ∷ line_texts after → ((line : Line) → IsLine mode partitions line → text ≡ line_text line → ⊥) → number ≡ length lines + 1 → IsFirstBad mode partitions bytes number
first_bad mode partitions bytes rest text after lines number valid split first none counted = record {
  front = lines;
  bad = text;
  after = line_texts after;
  counted = counted;
  valid = valid;
  split = split ∙ ap (λ texts. map line_text lines ++ texts) first;
  none = none;
}
