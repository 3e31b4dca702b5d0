-- Bytes that come in pieces, one piece after another.
use Rattle.std.proofs.Common.{◌≡◌, ℕ, ◌+◌, ◌<◌, ◌≤◌, ◌⊎◌, inl, inr, List, [], ◌∷◌, ◌++◌, length, get_or, take, drop, refl, sym, ap, ◌∙◌, subst, arith, length-append, append_assoc, append-nil, take-append-drop, Vec}
use Rattle.std.specs.declared.alloc.Global.{Global}
use Rattle.std.proofs.lemmas.List.{take_more}
use Rattle.std.proofs.lemmas.List.Concat.{flat_map-append}
use Rattle.hr_base.specs.declared.name.Class.{Class}
use Rattle.record_format.specs.Spelling.{spellings}
use Rattle.record_format.proofs.StepLaws.{damaged_spells_none}
use Rattle.chunk_read.specs.declared.refusal.ReadRefusal.{ReadRefusal}
use Rattle.chunk_read.specs.declared.refusal.ReadRefusal.TheVariants.{Damaged, Memory}
use Rattle.chunk_read.specs.Chunks.{IsDamagedAt}
use Rattle.chunk_read.specs.Pieces.{joined}
use Rattle.chunk_read.proofs.Reading.{one_damage}
use Rattle.chunk_read.proofs.WalkLaws.{damaged_stays}

-- with the next piece
pub joined_next : (ps : List (Vec ℕ Global)) (i : ℕ) (piece : Vec ℕ Global) → i < length ps → piece ≡ get_or ps i piece → joined (take (i + 1) ps) ≡ joined (take i ps) ++ piece.items
joined_next ps i piece within is =
    ap joined (take_more ps i piece within) ∙ flat_map-append (λ (p : Vec ℕ Global). p.items) (take i ps) (get_or ps i piece ∷ [])
    ∙ ap (λ (bytes : List ℕ). joined (take i ps) ++ bytes) (append-nil (get_or ps i piece).items ∙ ap (λ (p : Vec ℕ Global). p.items) (sym is))

-- all pieces are those so far, the next one, and the others
pub joined_all : (ps : List (Vec ℕ Global)) (i : ℕ) (piece : Vec ℕ Global) → i < length ps → piece ≡ get_or ps i piece → joined ps ≡ (joined (take i ps) ++ piece.items) ++ joined (drop (i + 1) ps)
joined_all ps i piece within is =
    ap joined (sym (take-append-drop (i + 1) ps)) ∙ flat_map-append (λ (p : Vec ℕ Global). p.items) (take (i + 1) ps) (drop (i + 1) ps)
    ∙ ap (λ (bytes : List ℕ). bytes ++ joined (drop (i + 1) ps)) (joined_next ps i piece within is)

pub piece_within : (ps : List (Vec ℕ Global)) (i : ℕ) (piece : Vec ℕ Global) → i < length ps → piece ≡ get_or ps i piece → length (joined (take i ps)) + length piece.items ≤ length (joined ps)
piece_within ps i piece within is =
    omega (arith, ap length (joined_all ps i piece within is), length-append (joined (take i ps) ++ piece.items) (joined (drop (i + 1) ps)), length-append (joined (take i ps)) piece.items)

-- bytes that are damaged stay so at the same place, whatever follows
pub damage_stays : (c : Class) (bytes more : List ℕ) (at : ℕ) → IsDamagedAt c bytes at → IsDamagedAt c (bytes ++ more) at
damage_stays c bytes more at is =
    let stays = damaged_stays c is.left more is.damaged in
    record {
      whole = is.whole;
      left = is.left ++ more;
      split = record {
        whole = ap (λ (b : List ℕ). b ++ more) is.split.whole ∙ append_assoc (spellings is.whole) is.left more;
        each = is.split.each;
        none = damaged_spells_none c (is.left ++ more) stays;
      };
      damaged = stays;
      place = is.place;
    }

-- where all bytes but the last pieces are damaged, all bytes are
pub piece_damages : (c : Class) (ps : List (Vec ℕ Global)) (i : ℕ) (piece : Vec ℕ Global) (at : ℕ) → i < length ps → piece ≡ get_or ps i piece → IsDamagedAt c (joined (take i ps) ++ piece.items) at → IsDamagedAt c (joined ps) at
piece_damages c ps i piece at within is damaged =
    subst (λ (bytes : List ℕ). IsDamagedAt c bytes at) (sym (joined_all ps i piece within is)) (damage_stays c (joined (take i ps) ++ piece.items) (joined (drop (i + 1) ps)) at damaged)

-- a refusal of damaged bytes, where `Damaged` is said of no others
pub refusal_of_damaged : (e : ReadRefusal) (c : Class) (bytes : List ℕ) (at : ℕ) → ((n : ℕ) → e ≡ Damaged n → IsDamagedAt c bytes n) → IsDamagedAt c bytes at → (e ≡ Damaged at) ⊎ (e ≡ Memory)
refusal_of_damaged Memory c bytes at says is = inr refl
refusal_of_damaged (Damaged n) c bytes at says is = inl (ap Damaged (one_damage c bytes n at (says n refl) is))
