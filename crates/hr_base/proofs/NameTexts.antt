-- A chunk name and its text, part by part.
use Rattle.std.proofs.Common.{◌≡◌, ℕ, ◌+◌, ◌/◌, ◌%◌, ◌≤◌, List, [], ◌∷◌, ◌++◌, length, get_or, take, drop, codes, Option, Some, None, IfNone, refl, sym, ap, subst, ◌∙◌, arith}
use Rattle.std.proofs.lemmas.List.{take_at, drop_at, take-append-drop, drop-drop, length-append, length-take, length-drop}
use Rattle.hr_base.specs.declared.name.ChunkName.{ChunkName}
use Rattle.hr_base.specs.Names.{IsChunkName, name_text, letter_of_kind, hex_digits}
use Rattle.hr_base.proofs.NameTestLaws.{letter_of_kind-one, same_parts}
use Rattle.hr_base.proofs.HexDigits.{length-hex_digits, hex_digits_one}

-- what the text of a name has at each place
pub record IsSpelled (text : List ℕ) (name : ChunkName) : Type 0 where
  pub len : length text ≡ 28
  pub start : get_or text 0 0 ≡ 112
  pub high : get_or text 1 0 ≡ 48 + name.partition.0 / 10
  pub low : get_or text 2 0 ≡ 48 + name.partition.0 % 10
  pub first_dash : get_or text 3 0 ≡ 45
  pub letter : get_or text 4 0 ≡ letter_of_kind name.kind
  pub second_dash : get_or text 5 0 ≡ 45
  pub digits : take 16 (drop 6 text) ≡ hex_digits 16 name.number.0
  pub ending : drop 22 text ≡ codes ".chunk"

-- a text with sixteen digits at their place
abbrev pub framed : ℕ → ℕ → ℕ → List ℕ → List ℕ
framed high low letter digits = 112 ∷ high ∷ low ∷ 45 ∷ letter ∷ 45 ∷ (digits ++ codes ".chunk")

pub length-framed : (high low letter : ℕ) (digits : List ℕ) → length digits ≡ 16 → length (framed high low letter digits) ≡ 28
length-framed high low letter digits h = omega (arith, length-append digits (codes ".chunk"))

pub digits-framed : (high low letter : ℕ) (digits : List ℕ) → length digits ≡ 16 → take 16 (drop 6 (framed high low letter digits)) ≡ digits
digits-framed high low letter digits h = take_at digits (codes ".chunk") 16 h

pub ending-framed : (high low letter : ℕ) (digits : List ℕ) → length digits ≡ 16 → drop 22 (framed high low letter digits) ≡ codes ".chunk"
ending-framed high low letter digits h = drop_at digits (codes ".chunk") 16 h

-- the first six elements, written out
pub six_first : (text : List ℕ) → 6 ≤ length text → text ≡ get_or text 0 0 ∷ get_or text 1 0 ∷ get_or text 2 0 ∷ get_or text 3 0 ∷ get_or text 4 0 ∷ get_or text 5 0 ∷ drop 6 text
six_first [] h = absurd (omega arith)
six_first (a ∷ []) h = absurd (omega arith)
six_first (a ∷ b ∷ []) h = absurd (omega arith)
six_first (a ∷ b ∷ c ∷ []) h = absurd (omega arith)
six_first (a ∷ b ∷ c ∷ d ∷ []) h = absurd (omega arith)
six_first (a ∷ b ∷ c ∷ d ∷ e ∷ []) h = absurd (omega arith)
six_first (a ∷ b ∷ c ∷ d ∷ e ∷ f ∷ rest) h = refl

-- a text with the right part at each place
pub framed_from : (text : List ℕ) (high low letter : ℕ) (digits : List ℕ) → length text ≡ 28 → get_or text 0 0 ≡ 112 → get_or text 1 0 ≡ high → get_or text 2 0 ≡ low → get_or text 3 0 ≡ 45 → get_or text 4 0 ≡ letter → get_or text 5 0 ≡ 45 → take 16 (drop 6 text) ≡ digits → drop 22 text ≡ codes ".chunk" → text ≡ framed high low letter digits
framed_from text high low letter digits len p0 p1 p2 p3 p4 p5 middle ending =
    let first = six_first text (omega arith) in
    let split : take 16 (drop 6 text) ++ drop 16 (drop 6 text) ≡ drop 6 text = take-append-drop 16 (drop 6 text) in
    let end : drop 16 (drop 6 text) ≡ drop 22 text = drop-drop 16 6 text in
    cc

-- sixteen digits stand at their place
pub length-middle : (text : List ℕ) → length text ≡ 28 → length (take 16 (drop 6 text)) ≡ 16
length-middle text len = omega (arith, length-take 16 (drop 6 text), length-drop 6 text)

-- the parts of a name's text
pub IsSpelled-name_text : (name : ChunkName) → IsSpelled (name_text name) name
unfolding name_text
IsSpelled-name_text name =
    let high = 48 + name.partition.0 / 10 in
    let low = 48 + name.partition.0 % 10 in
    let letter = letter_of_kind name.kind in
    let len = length-hex_digits 16 name.number.0 in
    record {
      len = length-framed high low letter (hex_digits 16 name.number.0) len;
      start = refl;
      high = refl;
      low = refl;
      first_dash = refl;
      letter = refl;
      second_dash = refl;
      digits = digits-framed high low letter (hex_digits 16 name.number.0) len;
      ending = ending-framed high low letter (hex_digits 16 name.number.0) len;
    }

-- the parts of a text that is a name's
pub IsSpelled-from_text : (text : List ℕ) (name : ChunkName) → text ≡ name_text name → IsSpelled text name
IsSpelled-from_text text name e = subst (λ t. IsSpelled t name) (sym e) (IsSpelled-name_text name)

-- a text with all parts of a name's is the name's
pub text-from_IsSpelled : (text : List ℕ) (name : ChunkName) → IsSpelled text name → text ≡ name_text name
unfolding name_text
text-from_IsSpelled text name s =
    framed_from text (48 + name.partition.0 / 10) (48 + name.partition.0 % 10) (letter_of_kind name.kind) (hex_digits 16 name.number.0) s.len s.start s.high s.low s.first_dash s.letter s.second_dash s.digits s.ending

-- one text, one name
pub name_text_one : (a b : ChunkName) → IsChunkName a → IsChunkName b → name_text a ≡ name_text b → a ≡ b
name_text_one a b p q e =
    let x = IsSpelled-name_text a in
    let y = IsSpelled-from_text (name_text a) b e in
    let partition : a.partition.0 ≡ b.partition.0 = omega (arith, x.high, x.low, y.high, y.low) in
    let number : a.number.0 ≡ b.number.0 = hex_digits_one 16 a.number.0 b.number.0 (omega (arith, p.number)) (omega (arith, q.number)) (sym x.digits ∙ y.digits) in
    same_parts a b partition (letter_of_kind-one a.kind b.kind (sym x.letter ∙ y.letter)) number

pub length-name_text : (name : ChunkName) → length (name_text name) ≡ 28
length-name_text name = (IsSpelled-name_text name).len

-- the digits in the middle of a text are as many as there are places for them
pub middle_from : (text : List ℕ) (n : ℕ) → length text ≡ 28 → take 16 (drop 6 text) ≡ hex_digits 16 n → take 16 (drop 6 text) ≡ hex_digits (length (take 16 (drop 6 text))) n
middle_from text n len e = e ∙ ap (λ count. hex_digits count n) (sym (length-middle text len))

pub middle_sixteen : (text : List ℕ) (n : ℕ) → length text ≡ 28 → take 16 (drop 6 text) ≡ hex_digits (length (take 16 (drop 6 text))) n → take 16 (drop 6 text) ≡ hex_digits 16 n
middle_sixteen text n len e = e ∙ ap (λ count. hex_digits count n) (length-middle text len)

-- what holds in any case holds where there is nothing
pub IfNone-from : {A P : Type 0} (r : Option A) → P → IfNone r P
IfNone-from None h = h
IfNone-from (Some x) h = tt
