-- Texts of bytes, one byte after another.
use Rattle.std.proofs.Common.{◌≡◌, ◌<◌, ◌≤◌, ℕ, true, List, [], ◌∷◌, ◌++◌, All, length, refl, sym, ap, ◌∙◌, subst, arith, append_assoc, length-append, inl, inr, get_or}
use Rattle.std.specs.List.{flat_map}
use Rattle.std.proofs.lemmas.Bool.{cases_Bool}
use Rattle.std.proofs.lemmas.Bool.Decides.{nat_tests}
use Rattle.std.proofs.lemmas.List.{append-nil, flat_map_more}
use Rattle.std.proofs.lemmas.List.Elements.{All-head, All-tail, All-weaker}
use Rattle.script_text.specs.Fields.{bytes_of}
use Rattle.script_text.specs.Texts.{byte_text, is_plain, text_of}
use Rattle.script_text.proofs.ByteTexts.{byte_text-plain, byte_text-escaped, bytes_of-byte_text, bytes_of-spelled}

-- a byte has one byte of text, or three
length-byte_text : (b : ℕ) → 1 ≤ length (byte_text b)
length-byte_text b = elim (cases_Bool (is_plain b)) [
  | inl plain ↦ rw (byte_text-plain b plain) (omega arith)
  | inr escaped ↦ rw (byte_text-escaped b escaped) (omega arith)
]

cancel : (a b x y : List ℕ) → a ≡ b → a ++ x ≡ b ++ y → x ≡ y
cancel [] [] x y same e = e
cancel [] (d ∷ b) x y same e = absurd (cc)
cancel (c ∷ a) [] x y same e = absurd (cc)
cancel (c ∷ a) (d ∷ b) x y same e =
    let tails : a ≡ b = cc in
    let rests : a ++ x ≡ b ++ y = cc in
    cancel a b x y tails rests

-- the byte that a text begins with is determined, and so is the rest
pub byte_text_one : (a b : ℕ) (x y : List ℕ) → a < 256 → b < 256 → byte_text a ++ x ≡ byte_text b ++ y → (a ≡ b) × (x ≡ y)
byte_text_one a b x y small_a small_b e =
    let heads : a ∷ bytes_of x ≡ b ∷ bytes_of y = sym (bytes_of-byte_text a x small_a) ∙ ap bytes_of e ∙ bytes_of-byte_text b y small_b in
    let same : a ≡ b = ap (λ bs. get_or bs 0 0) heads in
    (same, cancel (byte_text a) (byte_text b) x y (ap byte_text same) e)

-- what follows the text of some of the bytes is the text of others
pub spelled_rest : (front bytes rest : List ℕ) → All (λ b. b < 256) front → All (λ b. b < 256) bytes → flat_map byte_text front ++ rest ≡ flat_map byte_text bytes → (back : List ℕ) × All (λ b. b < 256) back × (rest ≡ flat_map byte_text back)
spelled_rest [] bytes rest small_f small_b e = (bytes, small_b, e)
spelled_rest (x ∷ front) [] rest small_f small_b e =
    absurd (omega (arith, length-byte_text x, ap length e, length-append (flat_map byte_text (x ∷ front)) rest, length-append (byte_text x) (flat_map byte_text front)))
spelled_rest (x ∷ front) (y ∷ bytes) rest small_f small_b e =
    let parts = byte_text_one x y (flat_map byte_text front ++ rest) (flat_map byte_text bytes) (All-head (λ b. b < 256) x front small_f) (All-head (λ b. b < 256) y bytes small_b) (sym (append_assoc (byte_text x) (flat_map byte_text front) rest) ∙ e) in
    spelled_rest front bytes rest (All-tail (λ b. b < 256) x front small_f) (All-tail (λ b. b < 256) y bytes small_b) parts.1

-- and where something follows, there are more of the bytes
pub spelled_within : (front bytes rest : List ℕ) → All (λ b. b < 256) front → All (λ b. b < 256) bytes → flat_map byte_text front ++ rest ≡ flat_map byte_text bytes → 0 < length rest → length front < length bytes
spelled_within [] [] rest small_f small_b e some = absurd (omega (arith, ap length e, some))
spelled_within [] (y ∷ bytes) rest small_f small_b e some = omega arith
spelled_within (x ∷ front) [] rest small_f small_b e some =
    absurd (omega (arith, length-byte_text x, ap length e, length-append (flat_map byte_text (x ∷ front)) rest, length-append (byte_text x) (flat_map byte_text front)))
spelled_within (x ∷ front) (y ∷ bytes) rest small_f small_b e some =
    let parts = byte_text_one x y (flat_map byte_text front ++ rest) (flat_map byte_text bytes) (All-head (λ b. b < 256) x front small_f) (All-head (λ b. b < 256) y bytes small_b) (sym (append_assoc (byte_text x) (flat_map byte_text front) rest) ∙ e) in
    let more = spelled_within front bytes rest (All-tail (λ b. b < 256) x front small_f) (All-tail (λ b. b < 256) y bytes small_b) parts.1 some in
    omega (arith, more)

-- a text is no shorter than its bytes, and as long only where each of them stands for itself
spelled_longer : (bytes : List ℕ) → length bytes ≤ length (flat_map byte_text bytes)
spelled_longer [] = omega arith
spelled_longer (b ∷ bytes) = omega (arith, length-byte_text b, spelled_longer bytes, length-append (byte_text b) (flat_map byte_text bytes))

pub spelled_same : (bytes : List ℕ) → length (flat_map byte_text bytes) ≡ length bytes → flat_map byte_text bytes ≡ bytes
spelled_same [] e = refl
spelled_same (b ∷ bytes) e = elim (cases_Bool (is_plain b)) [
  | inl plain ↦
      let one = byte_text-plain b plain in
      let rest : length (flat_map byte_text bytes) ≡ length bytes = omega (arith, e, ap length one, length-append (byte_text b) (flat_map byte_text bytes)) in
      ap (λ t. t ++ flat_map byte_text bytes) one ∙ ap (λ t. b ∷ t) (spelled_same bytes rest)
  | inr escaped ↦
      absurd (omega (arith, e, ap length (byte_text-escaped b escaped), spelled_longer bytes, length-append (byte_text b) (flat_map byte_text bytes)))
]

pub spelled_plain : (bytes : List ℕ) → All (λ b. is_plain b ≡ true) bytes → flat_map byte_text bytes ≡ bytes
spelled_plain [] plain = refl
spelled_plain (b ∷ bytes) plain =
    ap (λ t. t ++ flat_map byte_text bytes) (byte_text-plain b (All-head (λ b. is_plain b ≡ true) b bytes plain))
    ∙ ap (λ t. b ∷ t) (spelled_plain bytes (All-tail (λ b. is_plain b ≡ true) b bytes plain))

-- one byte more of a text was read
pub spelled_more : (text front rest after : List ℕ) (byte : ℕ) → text ≡ flat_map byte_text front ++ rest → rest ≡ byte_text byte ++ after → text ≡ flat_map byte_text (front ++ byte ∷ []) ++ after
spelled_more text front rest after byte e next =
    e ∙ ap (λ t. flat_map byte_text front ++ t) next
    ∙ sym (append_assoc (flat_map byte_text front) (byte_text byte) after)
    ∙ ap (λ t. t ++ after) (flat_map_more byte_text [] front byte)

-- all of a text was read
pub spelled_whole : (text front rest : List ℕ) → All (λ b. b < 256) front → text ≡ flat_map byte_text front ++ rest → rest ≡ [] → (text ≡ flat_map byte_text front) × (bytes_of text ≡ front)
spelled_whole text front rest small e none =
    let whole = e ∙ ap (λ t. flat_map byte_text front ++ t) none ∙ append-nil (flat_map byte_text front) in
    (whole, ap bytes_of whole ∙ bytes_of-spelled front small)

-- what begins with the text of no byte is the text of bytes only where it is empty
pub spelled_none : (rest back : List ℕ) → ((byte : ℕ) (more : List ℕ) → byte < 256 → rest ≡ byte_text byte ++ more → ⊥) → All (λ b. b < 256) back → rest ≡ flat_map byte_text back → rest ≡ []
spelled_none rest [] none small e = e
spelled_none rest (b ∷ back) none small e = absurd (none b (flat_map byte_text back) (All-head (λ b. b < 256) b back small) e)

-- where a text is no longer than its bytes, it is these bytes
pub text_same : (text bytes : List ℕ) → text ≡ text_of bytes → length text ≡ length bytes → text ≡ bytes
text_same text [] e h = absurd (omega (arith, ap length e, h))
text_same text (b ∷ bytes) e h = e ∙ spelled_same (b ∷ bytes) (ap length (sym e) ∙ h)

-- a field that is neither a lone percent sign nor the text of a byte after another is no text
pub text_none : (field bytes : List ℕ) → (field ≡ 37 ∷ [] → ⊥) → ((bytes : List ℕ) → All (λ b. b < 256) bytes → field ≡ flat_map byte_text bytes → ⊥) → All (λ b. b < 256) bytes → field ≡ text_of bytes → ⊥
text_none field [] some none small e = some e
text_none field (b ∷ bytes) some none small e = none (b ∷ bytes) small e

-- only no bytes have a lone percent sign as their text
pub text_some : (field bytes : List ℕ) → (field ≡ 37 ∷ [] → ⊥) → field ≡ text_of bytes → 0 < length bytes
text_some field [] some e = absurd (some e)
text_some field (b ∷ bytes) some e = omega arith

plain_small : (b : ℕ) → is_plain b ≡ true → b < 256
plain_small b plain = grind (arith, nat_tests)

-- bytes that each stand for themselves are their own text
pub plain_whole : (text : List ℕ) → All (λ b. is_plain b ≡ true) text → All (λ b. b < 256) (bytes_of text) × (text ≡ flat_map byte_text (bytes_of text)) × (length text ≡ length (bytes_of text))
plain_whole text plain =
    let small = All-weaker (λ b. is_plain b ≡ true) (λ b. b < 256) plain_small text plain in
    let spelled = spelled_plain text plain in
    let same : bytes_of text ≡ text = ap bytes_of (sym spelled) ∙ bytes_of-spelled text small in
    (subst (All (λ b. b < 256)) (sym same) small, sym spelled ∙ ap (flat_map byte_text) (sym same), ap length (sym same))
