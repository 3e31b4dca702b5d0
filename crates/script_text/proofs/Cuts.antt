-- A list is cut at the first place of a byte in one way only.
use Rattle.std.proofs.Common.{◌≡◌, ◌≢◌, ℕ, List, [], ◌∷◌, ◌++◌, ◌+◌, ◌<◌, suc, All, length, get_or, take, drop, add-one, drop-cons, eq-eqb, get_or-take, refl, sym, ap, ◌∙◌, arith, length-append}
use Rattle.std.proofs.lemmas.Bool.{eqb-true}
use Rattle.std.proofs.lemmas.List.{get_or_at, length-take, take-append-drop}
use Rattle.std.proofs.lemmas.List.Elements.{All-from_get_or, All-head, All-tail}
use Rattle.memchr.specs.Find.{NoneBefore, Passes, is_byte}
use Rattle.script_text.specs.Fields.{IsCut}

-- the two parts are determined
pub cut_one : (byte : ℕ) (a c b d : List ℕ) → All (λ x. x ≢ byte) a → All (λ x. x ≢ byte) c → a ++ byte ∷ b ≡ c ++ byte ∷ d → (a ≡ c) × (b ≡ d)
cut_one byte [] [] b d la lc e = (refl, cc)
cut_one byte [] (y ∷ c) b d la lc e = absurd (All-head (λ x. x ≢ byte) y c lc (cc))
cut_one byte (x ∷ a) [] b d la lc e = absurd (All-head (λ x. x ≢ byte) x a la (cc))
cut_one byte (x ∷ a) (y ∷ c) b d la lc e =
    let rest : a ++ byte ∷ b ≡ c ++ byte ∷ d = cc in
    let same = cut_one byte a c b d (All-tail (λ x. x ≢ byte) x a la) (All-tail (λ x. x ≢ byte) y c lc) rest in
    let front : a ≡ c = same.0 in
    (cc, same.1)

-- a list without the byte is not cut
pub cut_none : (byte : ℕ) (bytes a b : List ℕ) → All (λ x. x ≢ byte) bytes → bytes ≡ a ++ byte ∷ b → ⊥
cut_none byte bytes a b lacking e =
    let here : get_or bytes (length a) 0 ≡ byte = ap (λ xs. get_or xs (length a) 0) e ∙ get_or_at a byte b 0 (length a) refl in
    lacking (length a) 0 (omega (arith, ap length e, length-append a (byte ∷ b))) here

-- the parts of a cut are those of any other
pub IsCut-one : (byte : ℕ) (bytes a b c d : List ℕ) → IsCut byte bytes a b → All (λ x. x ≢ byte) c → bytes ≡ c ++ byte ∷ d → (a ≡ c) × (b ≡ d)
IsCut-one byte bytes a b c d cut lacking e = cut_one byte a c b d cut.lacking lacking (sym cut.joined ∙ e)

-- a list is cut at the first place of a byte
pub IsCut-first : (byte : ℕ) (bytes : List ℕ) (k : ℕ) → NoneBefore (Passes (is_byte byte) bytes) 0 (length bytes) k → Passes (is_byte byte) bytes k → IsCut byte bytes (take k bytes) (drop (k + 1) bytes)
IsCut-first byte bytes k first here = record {
  joined =
      let place : k < length bytes = first.high in
      let same : get_or bytes k 0 ≡ byte = eqb-true (get_or bytes k 0) byte here in
      sym (take-append-drop k bytes) ∙ ap (λ t. take k bytes ++ t) (drop-cons bytes k 0 place ∙ ap (λ b. b ∷ drop (suc k) bytes) same ∙ ap (λ n. byte ∷ drop n bytes) (sym (add-one k)));
  lacking = All-from_get_or (λ b. b ≢ byte) (take k bytes) 0 (λ i h e.
      let below : i < k = omega (arith, h, length-take k bytes) in
      let same : get_or (take k bytes) i 0 ≡ get_or bytes i 0 = rw get_or-take in
      first.before i (omega arith) below (eq-eqb (get_or bytes i 0) byte (sym same ∙ e)));
}
