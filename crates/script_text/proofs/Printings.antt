-- Lines printed and read again.
use Rattle.std.proofs.Common.{◌≡◌, ◌≢◌, ◌<◌, ◌≤◌, ◌^◌, ◌==◌, ℕ, List, [], ◌∷◌, ◌++◌, All, map, cond, codes, decimal, refl, sym, ap, ◌∙◌, subst, arith, inl, inr}
use Rattle.std.specs.List.{flat_map}
use Rattle.std.proofs.lemmas.Bool.{cases_eq, eqb-true, false_from_ne_true}
use Rattle.std.proofs.lemmas.List.Elements.{All-cons, All-append, All-weaker}
use Rattle.script_text.specs.declared.line.Line.{Line}
use Rattle.script_text.specs.declared.line.Line.TheVariants.{Put, Remove, Clear, Get, Sync}
use Rattle.script_text.specs.declared.line.Mode.{Mode}
use Rattle.script_text.specs.Lines.{IsLine, IsScript, before_first, line_text, lines_text, partition_of, line_texts, with_last_end}
use Rattle.script_text.specs.Texts.{text_of}
use Rattle.script_text.proofs.ByteTexts.{text_of_visible}
use Rattle.script_text.proofs.CommandTexts.{command_text, line_text-split, IsLine-partition}
use Rattle.script_text.proofs.Numbers.{decimal_visible}
use Rattle.script_text.proofs.Texts.{texts_of-cut, texts_of-other}

-- no byte of a line is as low as its end
abbrev AreHigh : List ℕ → Type 0
AreHigh bytes = All (λ b. 32 ≤ b) bytes

high_none : AreHigh []
high_none k d h = absurd (omega arith)

high_visible : (bytes : List ℕ) → All (λ b. 33 ≤ b) bytes → AreHigh bytes
high_visible bytes visible = All-weaker (λ b. 33 ≤ b) (λ b. 32 ≤ b) (λ b low. omega (arith, low)) bytes visible

high_decimal : (n : ℕ) → n < 2 ^ 64 → AreHigh (decimal n)
high_decimal n fits = high_visible (decimal n) (decimal_visible n fits)

high_text : (bytes : List ℕ) → AreHigh (text_of bytes)
high_text bytes = high_visible (text_of bytes) (text_of_visible bytes)

high_cons : (b : ℕ) (bytes : List ℕ) → 32 ≤ b → AreHigh bytes → AreHigh (b ∷ bytes)
high_cons b bytes low high = All-cons (λ b. 32 ≤ b) b bytes low high

high_both : (a b : List ℕ) → AreHigh a → AreHigh b → AreHigh (a ++ b)
high_both a b high_a high_b = All-append (λ b. 32 ≤ b) a b high_a high_b

high_put : AreHigh (codes "put ")
high_put = high_cons 112 (117 ∷ 116 ∷ 32 ∷ []) (omega arith) (high_cons 117 (116 ∷ 32 ∷ []) (omega arith) (high_cons 116 (32 ∷ []) (omega arith) (high_cons 32 [] (omega arith) high_none)))

high_remove : AreHigh (codes "remove ")
high_remove = high_cons 114 (codes "emove ") (omega arith) (high_cons 101 (codes "move ") (omega arith) (high_cons 109 (codes "ove ") (omega arith) (high_cons 111 (codes "ve ") (omega arith) (high_cons 118 (codes "e ") (omega arith) (high_cons 101 (codes " ") (omega arith) (high_cons 32 [] (omega arith) high_none))))))

high_clear : AreHigh (codes "clear ")
high_clear = high_cons 99 (codes "lear ") (omega arith) (high_cons 108 (codes "ear ") (omega arith) (high_cons 101 (codes "ar ") (omega arith) (high_cons 97 (codes "r ") (omega arith) (high_cons 114 (codes " ") (omega arith) (high_cons 32 [] (omega arith) high_none)))))

high_get : AreHigh (codes "get ")
high_get = high_cons 103 (codes "et ") (omega arith) (high_cons 101 (codes "t ") (omega arith) (high_cons 116 (codes " ") (omega arith) (high_cons 32 [] (omega arith) high_none)))

high_sync : AreHigh (codes "sync")
high_sync = high_cons 115 (codes "ync") (omega arith) (high_cons 121 (codes "nc") (omega arith) (high_cons 110 (codes "c") (omega arith) (high_cons 99 [] (omega arith) high_none)))

high_command : (mode : Mode) (partitions : ℕ) (line : Line) → IsLine mode partitions line → AreHigh (command_text line)
high_command mode partitions (Put p prefix key value) valid =
    high_both (codes "put ") (decimal prefix ++ 32 ∷ (text_of key ++ 32 ∷ text_of value)) high_put (high_both (decimal prefix) (32 ∷ (text_of key ++ 32 ∷ text_of value)) (high_decimal prefix valid.1) (high_cons 32 (text_of key ++ 32 ∷ text_of value) (omega arith) (high_both (text_of key) (32 ∷ text_of value) (high_text key) (high_cons 32 (text_of value) (omega arith) (high_text value)))))
high_command mode partitions (Remove p prefix key) valid =
    high_both (codes "remove ") (decimal prefix ++ 32 ∷ text_of key) high_remove (high_both (decimal prefix) (32 ∷ text_of key) (high_decimal prefix valid.1) (high_cons 32 (text_of key) (omega arith) (high_text key)))
high_command mode partitions (Clear p prefix) valid =
    high_both (codes "clear ") (decimal prefix) high_clear (high_decimal prefix valid.1)
high_command mode partitions (Get p prefix key) valid =
    high_both (codes "get ") (decimal prefix ++ 32 ∷ text_of key) high_get (high_both (decimal prefix) (32 ∷ text_of key) (high_decimal prefix valid.1) (high_cons 32 (text_of key) (omega arith) (high_text key)))
high_command mode partitions (Sync p) valid = high_sync

line_lacks_end : (mode : Mode) (partitions : ℕ) (line : Line) → partitions ≤ 2 ^ 64 → IsLine mode partitions line → All (λ b. b ≢ 10) (line_text line)
line_lacks_end mode partitions line few valid =
    let fits : partition_of line < 2 ^ 64 = omega (arith, few, IsLine-partition mode partitions line valid) in
    let high = high_both (decimal (partition_of line)) (32 ∷ command_text line) (high_decimal (partition_of line) fits) (high_cons 32 (command_text line) (omega arith) (high_command mode partitions line valid)) in
    subst (All (λ b. b ≢ 10)) (sym (line_text-split line)) (All-weaker (λ b. 32 ≤ b) (λ b. b ≢ 10) (λ b low e. omega (arith, low, e)) (decimal (partition_of line) ++ 32 ∷ command_text line) high)

-- a line that is printed is read again
pub printed_line : (mode : Mode) (partitions : ℕ) (line : Line) → partitions ≤ 2 ^ 64 → IsLine mode partitions line → IsScript mode partitions (line_text line ++ codes "\n") (line ∷ [])
printed_line mode partitions line few valid = record {
  valid = All-cons (IsLine mode partitions) line [] valid (λ k d h. absurd (omega arith));
  text = texts_of-cut (line_text line) [] (line_lacks_end mode partitions line few valid);
}

-- texts with their ends, one after another
abbrev ended : List (List ℕ) → List ℕ
ended texts = flat_map (λ (text : List ℕ). text ++ 10 ∷ []) texts

before_some : (b : ℕ) (all : List (List ℕ)) → (text : List ℕ) × (texts : List (List ℕ)) × (before_first b all ≡ text ∷ texts)
before_some b [] = (b ∷ [], [], refl)
before_some b (text ∷ texts) = (b ∷ text, texts, refl)

texts_of-some : (b : ℕ) (bytes : List ℕ) → (text : List ℕ) × (texts : List (List ℕ)) × (line_texts (b ∷ bytes) ≡ text ∷ texts)
texts_of-some b bytes = elim (cases_eq b 10) [
  | inl e ↦ ([], line_texts bytes, ap (λ n. line_texts (n ∷ bytes)) e)
  | inr other ↦ let found = before_some b (line_texts bytes) in (found.0, found.1, texts_of-other b bytes other ∙ found.2)
]

ended-before : (b : ℕ) (text : List ℕ) (texts all : List (List ℕ)) → all ≡ text ∷ texts → ended (before_first b all) ≡ b ∷ ended all
ended-before b text texts all e = ap (λ ts. ended (before_first b ts)) e ∙ ap (λ ts. b ∷ ended ts) (sym e)

ended-texts_of : (bytes : List ℕ) → ended (line_texts bytes) ≡ with_last_end bytes
ended-texts_of [] = refl
ended-texts_of (b ∷ []) = elim (cases_eq b 10) [
  | inl e ↦ ap (λ n. ended (line_texts (n ∷ []))) e ∙ ap (λ n. with_last_end (n ∷ [])) (sym e)
  | inr other ↦
      let test = false_from_ne_true (b == 10) (λ e. other (eqb-true b 10 e)) in
      ap ended (texts_of-other b [] other) ∙ sym (ap (λ t. cond t (b ∷ []) (b ∷ 10 ∷ [])) test)
]
ended-texts_of (b ∷ c ∷ bytes) =
    let rest = ended-texts_of (c ∷ bytes) in
    elim (cases_eq b 10) [
      | inl e ↦
          ap (λ n. ended (line_texts (n ∷ c ∷ bytes))) e ∙ ap (λ t. 10 ∷ t) rest ∙ ap (λ n. n ∷ with_last_end (c ∷ bytes)) (sym e)
      | inr other ↦
          let found = texts_of-some c bytes in
          ap ended (texts_of-other b (c ∷ bytes) other) ∙ ended-before b found.0 found.1 (line_texts (c ∷ bytes)) found.2 ∙ ap (λ t. b ∷ t) rest
    ]

lines_text-ended : (lines : List Line) → lines_text lines ≡ ended (map line_text lines)
lines_text-ended [] = refl
lines_text-ended (line ∷ lines) = ap (λ t. (line_text line ++ 10 ∷ []) ++ t) (lines_text-ended lines)

-- a script that was read is printed as it stood
pub read_script_printed : (mode : Mode) (partitions : ℕ) (bytes : List ℕ) (lines : List Line) → IsScript mode partitions bytes lines → lines_text lines ≡ with_last_end bytes
read_script_printed mode partitions bytes lines reads =
    lines_text-ended lines ∙ ap ended (sym reads.text) ∙ ended-texts_of bytes
