-- What a walk stands for, before and after each of its calls.
use Rattle.std.proofs.Common.{◌≡◌, ℕ, ◌+◌, ◌-◌, ◌<◌, ◌≤◌, List, [], ◌∷◌, ◌++◌, length, map, drop, Option, None, Some, MatchOption, unwrap_or, refl, sym, ap, ◌∙◌, subst, arith, length-append, append_assoc, append-nil}
use Rattle.std.proofs.lemmas.List.{drop_at}
use Rattle.std.proofs.lemmas.List.Concat.{flat_map-append}
use Rattle.std.proofs.lemmas.List.Elements.{All-append}
use Rattle.hr_base.specs.declared.limits.TheConstants.{MAX_RECORD_LEN}
use Rattle.hr_base.specs.declared.name.Class.{Class}
use Rattle.record_format.specs.declared.record.Record.{Record}
use Rattle.record_format.specs.Spelling.{spelling, spellings}
use Rattle.record_format.specs.Splits.{IsDamaged, IsOfClass, IsTorn}
use Rattle.record_format.proofs.HeaderLaws.{header_seq-append, header_key-append, header_value-append}
use Rattle.record_format.proofs.SplitLaws.{one_split, whole_spellings_split, nothing_is_torn}
use Rattle.record_format.proofs.StepLaws.{damaged_spells_none}
use Rattle.chunk_read.specs.declared.found.End.{End}
use Rattle.chunk_read.specs.declared.found.End.TheVariants.{Torn, Damaged}
use Rattle.chunk_read.specs.declared.walk.Walk.TheInside.{Inside}
use Rattle.chunk_read.specs.Chunks.{IsChunkOf, IsDamagedAt, with_offsets}
use Rattle.chunk_read.specs.Readings.{IsRead, damage_of, torn_bytes}
use Rattle.chunk_read.specs.Walks.{AreAllOf, IsWalk, StandsFor, WalkState, first_offset, new_walk, pending, whole_to}

-- ---- records with their offsets

with_offsets-append : (at : ℕ) (rs ss : List Record) → with_offsets at (rs ++ ss) ≡ with_offsets at rs ++ with_offsets (at + length (spellings rs)) ss
with_offsets-append at [] ss = ap (λ (n : ℕ). with_offsets n ss) (let e : at ≡ at + 0 = omega arith in e)
with_offsets-append at (r ∷ rs) ss =
    let size : at + length (spelling r) + length (spellings rs) ≡ at + length (spellings (r ∷ rs)) = omega (arith, length-append (spelling r) (spellings rs)) in
    ap (λ (rest : List (ℕ × Record)). (at, r) ∷ rest) (with_offsets-append (at + length (spelling r)) rs ss ∙ ap (λ (n : ℕ). with_offsets (at + length (spelling r)) rs ++ with_offsets n ss) size)

-- records without their offsets
abbrev pub bare : List (ℕ × Record) → List Record
bare records = map (λ r. r.1) records

-- what waits are the records behind those that were handed out, each with its offset
record Parts (at : ℕ) (whole : List Record) (handed waiting : List (ℕ × Record)) : Type 0 where
  pub rest : List Record
  pub parts : whole ≡ bare handed ++ rest
  pub waits : waiting ≡ with_offsets (at + length (spellings (bare handed))) rest

parts_of : (at : ℕ) (whole : List Record) (handed waiting : List (ℕ × Record)) → with_offsets at whole ≡ handed ++ waiting → Parts at whole handed waiting
parts_of at whole [] waiting e = record {
  rest = whole;
  parts = refl;
  waits = sym e ∙ ap (λ (n : ℕ). with_offsets n whole) (let z : at ≡ at + 0 = omega arith in z);
}
parts_of at [] (h ∷ hs) waiting e = cc
parts_of at (r ∷ rs) (h ∷ hs) waiting e =
    let first : (at, r) ≡ h = cc in
    let later : with_offsets (at + length (spelling r)) rs ≡ hs ++ waiting = cc in
    let tail = parts_of (at + length (spelling r)) rs hs waiting later in
    let same : r ≡ h.1 = ap (λ (p : ℕ × Record). p.1) first in
    let size : at + length (spelling r) + length (spellings (bare hs)) ≡ at + length (spellings (bare (h ∷ hs))) =
    omega (arith, length-append (spelling h.1) (spellings (bare hs)), ap (λ (s : Record). length (spelling s)) same) in
    record {
      rest = tail.rest;
      parts = ap (λ (s : Record). s ∷ rs) same ∙ ap (λ (xs : List Record). h.1 ∷ xs) tail.parts;
      waits = tail.waits ∙ ap (λ (n : ℕ). with_offsets n tail.rest) size;
    }

-- ---- what is left

-- a damaged header stays damaged, whatever follows
pub damaged_stays : (c : Class) (bytes more : List ℕ) → IsDamaged c bytes → IsDamaged c (bytes ++ more)
damaged_stays c bytes more d =
    let s = header_seq-append c bytes more d.complete in
    let k = header_key-append c bytes more d.complete in
    let v = header_value-append c bytes more d.complete in
    record {
      complete = omega (arith, d.complete, length-append bytes more);
      flaw = rw (s, k, v) d.flaw;
    }

-- where a walk is not damaged, it keeps what is left, which is torn
undamaged_end : (w : WalkState) (fed : List ℕ) (handed : List (ℕ × Record)) → w.damage ≡ None → (s : StandsFor w fed handed) → IsTorn w.class s.left × (w.left ≡ s.left)
undamaged_end w fed handed none s = subst (λ (d : Option ℕ). MatchOption d (IsTorn w.class s.left × (w.left ≡ s.left)) (λ at. IsDamaged w.class s.left × (at ≡ length (spellings s.whole)) × (w.left ≡ []))) none s.end

-- where it is, that begins at the place that it says
damaged_end : (w : WalkState) (fed : List ℕ) (handed : List (ℕ × Record)) (at : ℕ) → w.damage ≡ Some at → (s : StandsFor w fed handed) → IsDamaged w.class s.left × (at ≡ length (spellings s.whole)) × (w.left ≡ [])
damaged_end w fed handed at some s = subst (λ (d : Option ℕ). MatchOption d (IsTorn w.class s.left × (w.left ≡ s.left)) (λ at. IsDamaged w.class s.left × (at ≡ length (spellings s.whole)) × (w.left ≡ []))) some s.end

fed_length : (w : WalkState) (fed : List ℕ) (handed : List (ℕ × Record)) → (s : StandsFor w fed handed) → length fed ≡ length (spellings s.whole) + length s.left
fed_length w fed handed s = ap length s.split.whole ∙ length-append (spellings s.whole) s.left

-- ---- a walk before and after a call

pub new_stands : (c : Class) → StandsFor (new_walk c) [] []
new_stands c = record {
  whole = [];
  left = [];
  split = whole_spellings_split c [] (λ k d below. absurd (omega arith));
  records = refl;
  end = (nothing_is_torn c, refl);
  count = refl;
}

pub new_is_walk : (c : Class) → IsWalk (new_walk c)
new_is_walk c = record { bytes = []; handed = []; stands = new_stands c; short = omega arith }

-- the walk after a piece in which these records and this end were found
abbrev pub grown : WalkState → List ℕ → List (ℕ × Record) → End → WalkState
grown w piece found end = record {
  class = w.class;
  fed = w.fed + length piece;
  waiting = w.waiting ++ found;
  left = torn_bytes (w.left ++ piece) end;
  damage = damage_of end;
}

-- what is kept of the bytes is what is left behind their whole records
kept_is : (c : Class) (begin : ℕ) (bytes : List ℕ) (found : List (ℕ × Record)) (count : ℕ) → (read : IsRead c begin bytes found (Torn count)) → torn_bytes bytes (Torn count) ≡ read.left
kept_is c begin bytes found count read =
    let size : length bytes - count ≡ length (spellings read.whole) = omega (arith, read.ends.1, ap length read.split.whole, length-append (spellings read.whole) read.left) in
    ap (λ (n : ℕ). drop n bytes) size ∙ ap (λ (s : List ℕ). drop (length (spellings read.whole)) s) read.split.whole ∙ drop_at (spellings read.whole) read.left (length (spellings read.whole)) refl

grown_end : (w : WalkState) (begin : ℕ) (piece : List ℕ) (found : List (ℕ × Record)) (end : End) (place : ℕ) → (read : IsRead w.class begin (w.left ++ piece) found end) → begin + length (spellings read.whole) ≡ place
    → MatchOption (damage_of end) (IsTorn w.class read.left × (torn_bytes (w.left ++ piece) end ≡ read.left)) (λ at. IsDamaged w.class read.left × (at ≡ place) × (torn_bytes (w.left ++ piece) end ≡ []))
grown_end w begin piece found (Torn count) place read e = (read.ends.0, kept_is w.class begin (w.left ++ piece) found count read)
grown_end w begin piece found (Damaged at) place read e = (read.ends.0, read.ends.1 ∙ e, refl)

pub grown_stands : (w : WalkState) (piece : List ℕ) (found : List (ℕ × Record)) (end : End) → w.damage ≡ None → IsRead w.class (w.fed - length w.left) (w.left ++ piece) found end
    → (fed : List ℕ) (handed : List (ℕ × Record)) → StandsFor w fed handed → StandsFor (grown w piece found end) (fed ++ piece) handed
grown_stands w piece found end none read fed handed s =
    let kept = (undamaged_end w fed handed none s).1 in
    let begin : w.fed - length w.left ≡ length (spellings s.whole) = omega (arith, s.count, fed_length w fed handed s, ap length kept) in
    let joined : spellings (s.whole ++ read.whole) ≡ spellings s.whole ++ spellings read.whole = flat_map-append spelling s.whole read.whole in
    let place : (w.fed - length w.left) + length (spellings read.whole) ≡ length (spellings (s.whole ++ read.whole)) = omega (arith, begin, ap length joined, length-append (spellings s.whole) (spellings read.whole)) in
    record {
      whole = s.whole ++ read.whole;
      left = read.left;
      split = record {
        whole = ap (λ (b : List ℕ). b ++ piece) s.split.whole ∙ append_assoc (spellings s.whole) s.left piece
            ∙ ap (λ (b : List ℕ). spellings s.whole ++ (b ++ piece)) (sym kept)
            ∙ ap (λ (b : List ℕ). spellings s.whole ++ b) read.split.whole
            ∙ sym (append_assoc (spellings s.whole) (spellings read.whole) read.left)
            ∙ ap (λ (b : List ℕ). b ++ read.left) (sym joined);
        each = All-append (IsOfClass w.class) s.whole read.whole s.split.each read.split.each;
        none = read.split.none;
      };
      records = with_offsets-append 0 s.whole read.whole ∙ ap (λ (xs : List (ℕ × Record)). xs ++ with_offsets (0 + length (spellings s.whole)) read.whole) s.records
          ∙ ap (λ (n : ℕ). (handed ++ w.waiting) ++ with_offsets n read.whole) (let e : 0 + length (spellings s.whole) ≡ w.fed - length w.left = omega (arith, begin) in e)
          ∙ ap (λ (xs : List (ℕ × Record)). (handed ++ w.waiting) ++ xs) (sym read.offsets)
          ∙ append_assoc handed w.waiting found;
      end = grown_end w (w.fed - length w.left) piece found end (length (spellings (s.whole ++ read.whole))) read place;
      count = omega (arith, s.count, length-append fed piece);
    }

grown_short : (c : Class) (begin : ℕ) (bytes : List ℕ) (found : List (ℕ × Record)) (end : End) → (read : IsRead c begin bytes found end) → length (torn_bytes bytes end) < MAX_RECORD_LEN
grown_short c begin bytes found (Torn count) read = omega (arith, read.ends.1, read.ends.2, ap length (kept_is c begin bytes found count read))
grown_short c begin bytes found (Damaged at) read = omega arith

pub grown_is_walk : (w : WalkState) (piece : List ℕ) (found : List (ℕ × Record)) (end : End) → w.damage ≡ None → IsRead w.class (w.fed - length w.left) (w.left ++ piece) found end → IsWalk w → IsWalk (grown w piece found end)
grown_is_walk w piece found end none read is = record {
  bytes = is.bytes ++ piece;
  handed = is.handed;
  stands = grown_stands w piece found end none read is.bytes is.handed is.stands;
  short = grown_short w.class (w.fed - length w.left) (w.left ++ piece) found end read;
}

-- what a damaged walk stands for when a further piece came
pub damaged_stands : (w : WalkState) (piece : List ℕ) (at : ℕ) → w.damage ≡ Some at → (fed : List ℕ) (handed : List (ℕ × Record)) → StandsFor w fed handed
    → StandsFor (record w { fed = w.fed + length piece }) (fed ++ piece) handed
damaged_stands w piece at some fed handed s =
    let ends = damaged_end w fed handed at some s in
    let stays = damaged_stays w.class s.left piece ends.0 in
    record {
      whole = s.whole;
      left = s.left ++ piece;
      split = record {
        whole = ap (λ (b : List ℕ). b ++ piece) s.split.whole ∙ append_assoc (spellings s.whole) s.left piece;
        each = s.split.each;
        none = damaged_spells_none w.class (s.left ++ piece) stays;
      };
      records = s.records;
      end = subst (λ (d : Option ℕ). MatchOption d (IsTorn w.class (s.left ++ piece) × (w.left ≡ s.left ++ piece)) (λ at. IsDamaged w.class (s.left ++ piece) × (at ≡ length (spellings s.whole)) × (w.left ≡ []))) (sym some) (stays, ends.1, ends.2);
      count = omega (arith, s.count, length-append fed piece);
    }

pub damaged_is_walk : (w : WalkState) (piece : List ℕ) (at : ℕ) → w.damage ≡ Some at → IsWalk w → IsWalk (record w { fed = w.fed + length piece })
damaged_is_walk w piece at some is = record {
  bytes = is.bytes ++ piece;
  handed = is.handed;
  stands = damaged_stands w piece at some is.bytes is.handed is.stands;
  short = is.short;
}

-- what it stands for when the first record that waits was handed out
pub next_stands : (w : WalkState) (r : ℕ × Record) (rest : List (ℕ × Record)) → w.waiting ≡ r ∷ rest → (fed : List ℕ) (handed : List (ℕ × Record)) → StandsFor w fed handed
    → StandsFor (record w { waiting = rest }) fed (handed ++ r ∷ [])
next_stands w r rest waits fed handed s = record {
  whole = s.whole;
  left = s.left;
  split = s.split;
  records = s.records ∙ ap (λ (xs : List (ℕ × Record)). handed ++ xs) waits ∙ sym (append_assoc handed (r ∷ []) rest);
  end = s.end;
  count = s.count;
}

pub next_is_walk : (w : WalkState) (r : ℕ × Record) (rest : List (ℕ × Record)) → w.waiting ≡ r ∷ rest → IsWalk w → IsWalk (record w { waiting = rest })
next_is_walk w r rest waits is = record {
  bytes = is.bytes;
  handed = is.handed ++ r ∷ [];
  stands = next_stands w r rest waits is.bytes is.handed is.stands;
  short = is.short;
}

-- ---- what follows of a walk

-- where nothing waits, all whole records were handed out
pub all_handed : (w : WalkState) → w.waiting ≡ [] → (fed : List ℕ) (handed : List (ℕ × Record)) → StandsFor w fed handed → AreAllOf w.class fed handed
all_handed w empty fed handed s = record {
  whole = s.whole;
  left = s.left;
  split = s.split;
  same = sym (s.records ∙ ap (λ (xs : List (ℕ × Record)). handed ++ xs) empty ∙ append-nil handed);
}

pub says_damaged : (w : WalkState) (at : ℕ) → w.damage ≡ Some at → (fed : List ℕ) (handed : List (ℕ × Record)) → StandsFor w fed handed → IsDamagedAt w.class fed at
says_damaged w at some fed handed s =
    let ends = damaged_end w fed handed at some s in
    record { whole = s.whole; left = s.left; split = s.split; damaged = ends.0; place = ends.1 }

pub says_undamaged : (w : WalkState) (at : ℕ) → w.damage ≡ None → (fed : List ℕ) (handed : List (ℕ × Record)) → StandsFor w fed handed → IsDamagedAt w.class fed at → ⊥
says_undamaged w at none fed handed s is =
    (undamaged_end w fed handed none s).0 (subst (IsDamaged w.class) (one_split w.class fed is.whole s.whole is.left s.left is.split s.split).1 is.damaged)

pub finished : (w : WalkState) → w.waiting ≡ [] → w.damage ≡ None → (fed : List ℕ) (handed : List (ℕ × Record)) → StandsFor w fed handed
    → IsChunkOf w.class fed (record { records = handed; rest = length w.left })
finished w empty none fed handed s =
    let ends = undamaged_end w fed handed none s in
    record {
      whole = s.whole;
      left = s.left;
      split = s.split;
      torn = ends.0;
      records = sym (s.records ∙ ap (λ (xs : List (ℕ × Record)). handed ++ xs) empty ∙ append-nil handed);
      rest = ap length ends.1;
    }

-- ---- how many bytes are pending

whole_to_is : (w : WalkState) (fed : List ℕ) (handed : List (ℕ × Record)) → (s : StandsFor w fed handed) → (d : Option ℕ) → w.damage ≡ d → unwrap_or d (w.fed - length w.left) ≡ length (spellings s.whole)
whole_to_is w fed handed s None none = omega (arith, s.count, fed_length w fed handed s, ap length (undamaged_end w fed handed none s).1)
whole_to_is w fed handed s (Some at) some = (damaged_end w fed handed at some s).1

-- the first record that waits begins behind those that were handed out
first_is : (at end : ℕ) (whole rest : List Record) (handed waiting : List (ℕ × Record)) → whole ≡ bare handed ++ rest → waiting ≡ with_offsets (at + length (spellings (bare handed))) rest → end ≡ at + length (spellings whole)
    → first_offset waiting end ≡ at + length (spellings (bare handed))
first_is at end whole [] handed waiting parts waits ends =
    ap (λ (xs : List (ℕ × Record)). first_offset xs end) waits ∙ ends ∙ ap (λ (rs : List Record). at + length (spellings rs)) (parts ∙ append-nil (bare handed))
first_is at end whole (r ∷ rs) handed waiting parts waits ends = ap (λ (xs : List (ℕ × Record)). first_offset xs end) waits

pub pending_from : (w : WalkState) (fed : List ℕ) (handed : List (ℕ × Record)) → StandsFor w fed handed → first_offset w.waiting (whole_to w) ≡ length (spellings (bare handed))
pending_from w fed handed s =
    let p = parts_of 0 s.whole handed w.waiting s.records in
    let from = first_is 0 (whole_to w) s.whole p.rest handed w.waiting p.parts p.waits (let e : whole_to w ≡ 0 + length (spellings s.whole) = omega (arith, whole_to_is w fed handed s w.damage refl) in e) in
    omega (arith, from)

handed_within : (w : WalkState) (fed : List ℕ) (handed : List (ℕ × Record)) → StandsFor w fed handed → length (spellings (bare handed)) ≤ length fed
handed_within w fed handed s =
    let p = parts_of 0 s.whole handed w.waiting s.records in
    omega (arith, fed_length w fed handed s, ap (λ (rs : List Record). length (spellings rs)) p.parts, ap length (flat_map-append spelling (bare handed) p.rest), length-append (spellings (bare handed)) (spellings p.rest))

pub pending_is : (w : WalkState) (fed : List ℕ) (handed : List (ℕ × Record)) → StandsFor w fed handed → pending w + length (spellings (bare handed)) ≡ length fed
pending_is w fed handed s = omega (arith, s.count, pending_from w fed handed s, handed_within w fed handed s)

-- the first byte that is pending is one of those fed
pub pending_within : (w : WalkState) → IsWalk w → first_offset w.waiting (whole_to w) ≤ w.fed
pending_within w is = omega (arith, is.stands.count, pending_from w is.bytes is.handed is.stands, handed_within w is.bytes is.handed is.stands)

-- what a walk keeps is among what was fed
pub left_within : (w : WalkState) → IsWalk w → (d : Option ℕ) → w.damage ≡ d → length w.left ≤ w.fed
left_within w is None none = omega (arith, is.stands.count, fed_length w is.bytes is.handed is.stands, ap length (undamaged_end w is.bytes is.handed none is.stands).1)
left_within w is (Some at) some = omega (arith, ap length (damaged_end w is.bytes is.handed at some is.stands).2)

-- where nothing waits and nothing is damaged, less than a record is pending
pub pending_short : (w : WalkState) → w.waiting ≡ [] → w.damage ≡ None → IsWalk w → pending w < MAX_RECORD_LEN
pending_short w empty none is =
    let from : first_offset w.waiting (whole_to w) ≡ w.fed - length w.left = ap (λ (xs : List (ℕ × Record)). first_offset xs (whole_to w)) empty ∙ ap (λ (d : Option ℕ). unwrap_or d (w.fed - length w.left)) none in
    omega (arith, from, is.short, left_within w is None none)

-- ---- a walk by its fields

abbrev pub seen : Inside → WalkState
seen it = record { class = it.class; fed = it.fed; waiting = it.waiting.items; left = it.left.items; damage = it.damage }

-- the walk after a piece stands for the piece too
pub record TakesPiece (old new : WalkState) (piece : List ℕ) : Type 0 where
  pub is_walk : IsWalk old → IsWalk new
  pub stands : (fed : List ℕ) (handed : List (ℕ × Record)) → StandsFor old fed handed → StandsFor new (fed ++ piece) handed

-- a walk with these parts is the one that the piece made
grown_is : (w : WalkState) (piece : List ℕ) (found waiting : List (ℕ × Record)) (left : List ℕ) (end : End) (damage : Option ℕ) → waiting ≡ w.waiting ++ found → left ≡ torn_bytes (w.left ++ piece) end → damage ≡ damage_of end
    → grown w piece found end ≡ record { class = w.class; fed = w.fed + length piece; waiting = waiting; left = left; damage = damage }
grown_is w piece found waiting left end damage a b d =
    let made : List (ℕ × Record) → List ℕ → Option ℕ → WalkState = λ xs bs o. record { class = w.class; fed = w.fed + length piece; waiting = xs; left = bs; damage = o } in
    sym (ap (λ (xs : List (ℕ × Record)). made xs left damage) a ∙ ap (λ (bs : List ℕ). made (w.waiting ++ found) bs damage) b ∙ ap (λ (o : Option ℕ). made (w.waiting ++ found) (torn_bytes (w.left ++ piece) end) o) d)

pub takes_grown : (w : WalkState) (piece : List ℕ) (found waiting : List (ℕ × Record)) (left : List ℕ) (end : End) (damage : Option ℕ) (begin : ℕ) → w.damage ≡ None → begin ≡ w.fed - length w.left → IsRead w.class begin (w.left ++ piece) found end
    → waiting ≡ w.waiting ++ found → left ≡ torn_bytes (w.left ++ piece) end → damage ≡ damage_of end
    → TakesPiece w (record { class = w.class; fed = w.fed + length piece; waiting = waiting; left = left; damage = damage }) piece
takes_grown w piece found waiting left end damage begin none at read a b d =
    let here : IsRead w.class (w.fed - length w.left) (w.left ++ piece) found end = subst (λ (n : ℕ). IsRead w.class n (w.left ++ piece) found end) at read in
    subst (λ (v : WalkState). TakesPiece w v piece) (grown_is w piece found waiting left end damage a b d) (record {
      is_walk = grown_is_walk w piece found end none here;
      stands = grown_stands w piece found end none here;
    })

pub takes_damaged : (w : WalkState) (piece : List ℕ) (at : ℕ) → w.damage ≡ Some at → TakesPiece w (record w { fed = w.fed + length piece }) piece
takes_damaged w piece at some = record { is_walk = damaged_is_walk w piece at some; stands = damaged_stands w piece at some }

-- what a walk that the piece damaged says, and one that it did not
abbrev pub Refuses : WalkState → List ℕ → ℕ → Type 0
Refuses w piece at = (fed : List ℕ) (handed : List (ℕ × Record)) → StandsFor w fed handed → IsDamagedAt w.class (fed ++ piece) at

abbrev pub Accepts : WalkState → List ℕ → Type 0
Accepts w piece = (fed : List ℕ) (handed : List (ℕ × Record)) → StandsFor w fed handed → (at : ℕ) → IsDamagedAt w.class (fed ++ piece) at → ⊥

pub refuses : (w v : WalkState) (piece : List ℕ) (at : ℕ) → TakesPiece w v piece → v.class ≡ w.class → v.damage ≡ Some at → Refuses w piece at
refuses w v piece at takes same some fed handed s = subst (λ (c : Class). IsDamagedAt c (fed ++ piece) at) same (says_damaged v at some (fed ++ piece) handed (takes.stands fed handed s))

pub accepts : (w v : WalkState) (piece : List ℕ) → TakesPiece w v piece → v.class ≡ w.class → v.damage ≡ None → Accepts w piece
accepts w v piece takes same none fed handed s at is = says_undamaged v at none (fed ++ piece) handed (takes.stands fed handed s) (subst (λ (c : Class). IsDamagedAt c (fed ++ piece) at) (sym same) is)

-- what a walk stands for when all records that wait were handed out
pub all_taken : (w : WalkState) (fed : List ℕ) (handed : List (ℕ × Record)) → StandsFor w fed handed → StandsFor (record w { waiting = [] }) fed (handed ++ w.waiting)
all_taken w fed handed s = record {
  whole = s.whole;
  left = s.left;
  split = s.split;
  records = s.records ∙ sym (append-nil (handed ++ w.waiting));
  end = s.end;
  count = s.count;
}
