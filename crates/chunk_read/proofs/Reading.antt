-- How the records of a chunk file are found one after another.
use Rattle.std.proofs.Common.{◌≡◌, ℕ, ◌+◌, ◌-◌, ◌<◌, ◌≤◌, ◌⊎◌, List, [], ◌∷◌, ◌++◌, length, take, drop, refl, sym, ap, ◌∙◌, subst, arith, inl, inr, length-append, length-drop}
use Rattle.std.proofs.Math.Seq.{take-length}
use Rattle.hr_base.specs.declared.limits.TheConstants.{MAX_RECORD_LEN}
use Rattle.hr_base.specs.declared.name.Class.{Class}
use Rattle.hr_base.specs.declared.name.Class.TheVariants.{Value, Tomb, Clear}
use Rattle.hr_base.specs.Records.{header_length}
use Rattle.record_format.specs.declared.record.Record.{Record}
use Rattle.record_format.specs.Spelling.{spelling, spellings}
use Rattle.record_format.specs.Splits.{BeginsWith, IsDamaged, IsOfClass, IsTorn, SpellsNone}
use Rattle.record_format.specs.declared.reading.RecordView.{RecordView}
use Rattle.record_format.specs.declared.reading.Step.TheVariants.{Torn as TornStep}
use Rattle.record_format.specs.Steps.{IsCutShort, IsStep, IsWhole, record_of}
use Rattle.record_format.proofs.SplitLaws.{begins_with_none, begins_with_more, begins_and_ends, one_split}
use Rattle.record_format.proofs.StepLaws.{damaged_spells_none, whole_rest}
use Rattle.chunk_read.specs.declared.found.End.TheVariants.{Torn, Damaged}
use Rattle.chunk_read.specs.Chunks.{IsDamagedAt, with_offsets}
use Rattle.chunk_read.specs.Readings.{IsRead}

-- these records, each with its offset, were found so far, and this is what is left behind them
pub record IsReadTo (class : Class) (begin : ℕ) (bytes : List ℕ) (found : List (ℕ × Record)) (left : List ℕ) : Type 0 where
  pub whole : List Record
  pub begun : BeginsWith class bytes whole left
  pub offsets : found ≡ with_offsets begin whole

pub none_read : (c : Class) (begin : ℕ) (bytes : List ℕ) → IsReadTo c begin bytes [] bytes
none_read c begin bytes = record { whole = []; begun = begins_with_none c bytes; offsets = refl }

-- a further record begins behind the spellings of those before
with_offsets-push : (at : ℕ) (rs : List Record) (r : Record) → with_offsets at (rs ++ r ∷ []) ≡ with_offsets at rs ++ (at + length (spellings rs), r) ∷ []
with_offsets-push at [] r = ap (λ (n : ℕ). (n, r) ∷ []) (let e : at ≡ at + 0 = omega arith in e)
with_offsets-push at (s ∷ rs) r =
    let size : at + length (spelling s) + length (spellings rs) ≡ at + length (spellings (s ∷ rs)) = omega (arith, length-append (spelling s) (spellings rs)) in
    ap (λ (rest : List (ℕ × Record)). (at, s) ∷ rest) (with_offsets-push (at + length (spelling s)) rs r ∙ ap (λ (n : ℕ). with_offsets (at + length (spelling s)) rs ++ (n, r) ∷ []) size)

begun_length : (c : Class) (bytes left : List ℕ) (rs : List Record) → BeginsWith c bytes rs left → length (spellings rs) + length left ≡ length bytes
begun_length c bytes left rs begun = omega (arith, ap length begun.whole, length-append (spellings rs) left)

-- one more record was found, and what is left lies behind it
pub one_more_read : (c : Class) (begin : ℕ) (bytes : List ℕ) (found items : List (ℕ × Record)) (left more : List ℕ) (view : RecordView) (count at : ℕ) (r : Record) → IsReadTo c begin bytes found left → IsWhole c left view count
    → r ≡ record_of view → at + length left ≡ length bytes → items ≡ found ++ (begin + at, r) ∷ [] → more ≡ drop count left → IsReadTo c begin bytes items more
one_more_read c begin bytes found items left more view count at r so_far here copied place pushed behind =
    let begins : left ≡ spelling r ++ more = whole_rest c left view count here ∙ ap (λ (s : Record). spelling s ++ drop count left) (sym copied) ∙ ap (λ (s : List ℕ). spelling r ++ s) (sym behind) in
    let offset : begin + at ≡ begin + length (spellings so_far.whole) = omega (arith, begun_length c bytes left so_far.whole so_far.begun) in
    record {
      whole = so_far.whole ++ r ∷ [];
      begun = begins_with_more c bytes so_far.whole left r more so_far.begun (subst (IsOfClass c) (sym copied) here.of) begins;
      offsets = pushed ∙ ap (λ (xs : List (ℕ × Record)). xs ++ (begin + at, r) ∷ []) so_far.offsets ∙ ap (λ (n : ℕ). with_offsets begin so_far.whole ++ (n, r) ∷ []) offset ∙ sym (with_offsets-push begin so_far.whole r);
    }

-- all that lies behind a front, which `&s[n..]` is
pub all_behind : (n : ℕ) (s : List ℕ) → take (length s - n) (drop n s) ≡ drop n s
all_behind n s = ap (λ (k : ℕ). take k (drop n s)) (sym (length-drop n s)) ∙ take-length (drop n s)

-- ---- the end of the whole records

header_short : (c : Class) → header_length c < MAX_RECORD_LEN
header_short Value = omega arith
header_short Tomb = omega arith
header_short Clear = omega arith

cut_short : (c : Class) (left : List ℕ) → IsCutShort c left → length left < MAX_RECORD_LEN
cut_short Value left cut = omega (arith, cut.short, cut.limits.key_fits, cut.limits.value_fits)
cut_short Tomb left cut = omega (arith, cut.short, cut.limits.key_fits, cut.limits.value_fits)
cut_short Clear left cut = omega (arith, cut.short, cut.limits.key_fits, cut.limits.value_fits)

-- what is torn is shorter than some record
torn_short : (c : Class) (left : List ℕ) → (length left < header_length c) ⊎ IsCutShort c left → length left < MAX_RECORD_LEN
torn_short c left early = elim early [ inl h ↦ omega (arith, h, header_short c) | inr cut ↦ cut_short c left cut ]

pub ends_torn : (c : Class) (begin : ℕ) (bytes : List ℕ) (found : List (ℕ × Record)) (left : List ℕ) → IsReadTo c begin bytes found left → SpellsNone c left × IsTorn c left → IsStep c left TornStep
    → IsRead c begin bytes found (Torn (length left))
ends_torn c begin bytes found left so_far ends early = record {
  whole = so_far.whole;
  left = left;
  split = begins_and_ends c bytes so_far.whole left so_far.begun ends.0;
  offsets = so_far.offsets;
  ends = (ends.1, refl, torn_short c left early);
}

pub ends_damaged : (c : Class) (begin : ℕ) (bytes : List ℕ) (found : List (ℕ × Record)) (left : List ℕ) → IsReadTo c begin bytes found left → IsDamaged c left → length left ≤ length bytes
    → IsRead c begin bytes found (Damaged (begin + (length bytes - length left)))
ends_damaged c begin bytes found left so_far damaged within = record {
  whole = so_far.whole;
  left = left;
  split = begins_and_ends c bytes so_far.whole left so_far.begun (damaged_spells_none c left damaged);
  offsets = so_far.offsets;
  ends = (damaged, let e : begin + (length bytes - length left) ≡ begin + length (spellings so_far.whole) = omega (arith, begun_length c bytes left so_far.whole so_far.begun) in e);
}

-- ---- bytes read from their first one on

-- bytes are damaged at one place
pub one_damage : (c : Class) (bytes : List ℕ) (m n : ℕ) → IsDamagedAt c bytes m → IsDamagedAt c bytes n → m ≡ n
one_damage c bytes m n a b = a.place ∙ ap (λ (rs : List Record). length (spellings rs)) (one_split c bytes a.whole b.whole a.left b.left a.split b.split).0 ∙ sym b.place

pub torn_undamaged : (c : Class) (bytes : List ℕ) (found : List (ℕ × Record)) (count at : ℕ) → IsRead c 0 bytes found (Torn count) → IsDamagedAt c bytes at → ⊥
torn_undamaged c bytes found count at read is = read.ends.0 (subst (IsDamaged c) (one_split c bytes is.whole read.whole is.left read.left is.split read.split).1 is.damaged)

pub damaged_here : (c : Class) (bytes : List ℕ) (found : List (ℕ × Record)) (here at : ℕ) → IsRead c 0 bytes found (Damaged here) → IsDamagedAt c bytes at → here ≡ at
damaged_here c bytes found here at read is = one_damage c bytes here at (record {
  whole = read.whole;
  left = read.left;
  split = read.split;
  damaged = read.ends.0;
  place = let e : here ≡ length (spellings read.whole) = omega (arith, read.ends.1) in e;
}) is
