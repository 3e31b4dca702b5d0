-- What holds of spellings and of splits.
use Rattle.std.proofs.Common.{◌≡◌, ℕ, suc, zero, ◌<◌, ◌≤◌, ⊎_elim, take-append-drop, List, [], ◌∷◌, ◌++◌, length, take, drop, All, refl, sym, ap, ◌∙◌, subst, ap₂, arith, length-append, append_assoc, append-nil}
use Rattle.std.specs.List.{AllByRecursion}
use Rattle.std.proofs.lemmas.List.{take-append-le, drop-append-le, take_at, drop_at, nil_from_length, flat_map_more}
use Rattle.std.proofs.lemmas.List.Elements.{recursion_from_All, All-nil, All-cons, All-push, All-drop}
use Rattle.std.proofs.lemmas.Bool.{cases_lt}
use Rattle.hr_base.specs.declared.name.Class.{Class}
use Rattle.hr_base.specs.declared.name.Class.TheVariants.{Value as Values, Tomb as Tombs, Clear as Clears}
use Rattle.hr_base.specs.Records.{header_length}
use Rattle.record_format.specs.declared.record.Record.{Record}
use Rattle.record_format.specs.Spelling.{seq_of, key_of, value_of, class_of_record, spelling, spellings}
use Rattle.record_format.specs.Headers.{header_seq, header_key, header_value}
use Rattle.record_format.specs.Splits.{IsOfClass, SpellsNone, BeginsWith, Splits, IsTorn}
use Rattle.record_format.specs.Prefixes.{PrefixSplit}
use Rattle.record_format.proofs.Fronts.{Front, front_or_none}
pub use Rattle.record_format.proofs.HeaderLaws.{spelling_length}
use Rattle.record_format.proofs.HeaderLaws.{header_seq-spelling, header_key-spelling, header_value-spelling, header_seq-append, header_key-append, header_value-append}
pub use Rattle.record_format.proofs.Distinct.{no_spelling_begins_another}

header_fits : (c : Class) → 16 ≤ header_length c
header_fits Values = omega arith
header_fits Tombs = omega arith
header_fits Clears = omega arith

pub spelling_fills : (r : Record) → 16 ≤ length (spelling r)
spelling_fills r = omega (arith, spelling_length r, header_fits (class_of_record r))

-- ---- whole spellings

pub nothing_spells : (c : Class) → SpellsNone c []
nothing_spells c r more of e = omega (arith, spelling_fills r, ap length e, length-append (spelling r) more)

pub whole_spellings_split : (c : Class) (rs : List Record) → All (IsOfClass c) rs → Splits c (spellings rs) rs []
whole_spellings_split c rs each = record { whole = sym (append-nil (spellings rs)); each = each; none = nothing_spells c }

pub nothing_is_torn : (c : Class) → IsTorn c []
nothing_is_torn c damaged = omega (arith, damaged.complete, header_fits c)

-- ---- a front of spellings

-- a front of a spelling has no header that no record has
front_is_torn : (c : Class) (r : Record) (b rest more : List ℕ) → IsOfClass c r → spelling r ++ more ≡ b ++ rest → IsTorn c b
front_is_torn c r b rest more of e damaged =
    let same : (read : Class → List ℕ → ℕ) (n : ℕ) → read (class_of_record r) (spelling r ++ more) ≡ n → read c (b ++ rest) ≡ read c b → read c b ≡ n =
    λ read n h g. sym g ∙ sym (ap (λ (s : List ℕ). read c s) e) ∙ sym (ap (λ (k : Class). read k (spelling r ++ more)) of.same) ∙ h in
    let s : header_seq c b ≡ seq_of r = same header_seq (seq_of r) (header_seq-spelling r more of.valid) (header_seq-append c b rest damaged.complete) in
    let k : header_key c b ≡ length (key_of r) = same header_key (length (key_of r)) (header_key-spelling r more of.valid) (header_key-append c b rest damaged.complete) in
    let v : header_value c b ≡ length (value_of r) = same header_value (length (value_of r)) (header_value-spelling r more of.valid) (header_value-append c b rest damaged.complete) in
    omega (arith, damaged.flaw)

-- a front shorter than the first spelling spells nothing
short_front : (c : Class) (r : Record) (b rest more : List ℕ) → IsOfClass c r → spelling r ++ more ≡ b ++ rest → length b < length (spelling r) → SpellsNone c b
short_front c r b rest more of e short s after ofs f =
    let whole : spelling r ++ more ≡ spelling s ++ (after ++ rest) = e ∙ ap (λ (t : List ℕ). t ++ rest) f ∙ append_assoc (spelling s) after rest in
    let same : r ≡ s = (no_spelling_begins_another c r s more (after ++ rest) of ofs whole).0 in
    omega (arith, ap (λ (t : Record). length (spelling t)) same, ap length f, length-append (spelling s) after)

-- where the first spelling is not whole
front_at_first : (c : Class) (r : Record) (rs : List Record) (b rest : List ℕ) → IsOfClass c r → spelling r ++ spellings rs ≡ b ++ rest → length b < length (spelling r) → PrefixSplit c (r ∷ rs) b
front_at_first c r rs b rest of e short = record {
  count = 0;
  left = b;
  within = omega arith;
  split = record { whole = refl; each = All-nil (IsOfClass c); none = short_front c r b rest (spellings rs) of e short };
  torn = front_is_torn c r b rest (spellings rs) of e;
  most = most;
} where
  most : (n : ℕ) → n ≤ length (r ∷ rs) → length (spellings (take n (r ∷ rs))) ≤ length b → n ≤ 0
  most zero h l = omega arith
  most (suc n) h l = absurd (omega (arith, length-append (spelling r) (spellings (take n rs))))

-- where the first spelling is whole
front_after_first : (c : Class) (r : Record) (rs : List Record) (b : List ℕ) → IsOfClass c r → PrefixSplit c rs b → PrefixSplit c (r ∷ rs) (spelling r ++ b)
front_after_first c r rs b of later = record {
  count = suc later.count;
  left = later.left;
  within = omega (arith, later.within);
  split = record {
    whole = ap (λ (s : List ℕ). spelling r ++ s) later.split.whole ∙ sym (append_assoc (spelling r) (spellings (take later.count rs)) later.left);
    each = All-cons (IsOfClass c) r (take later.count rs) of later.split.each;
    none = later.split.none;
  };
  torn = later.torn;
  most = most;
} where
  most : (n : ℕ) → n ≤ length (r ∷ rs) → length (spellings (take n (r ∷ rs))) ≤ length (spelling r ++ b) → n ≤ suc later.count
  most zero h l = omega arith
  most (suc n) h l = omega (arith, later.most n (omega arith) (omega (arith, length-append (spelling r) (spellings (take n rs)), length-append (spelling r) b)))

-- two ways to cut one list, the first not after the second
later_cut : (p x b rest : List ℕ) → p ++ x ≡ b ++ rest → length p ≤ length b → (p ++ drop (length p) b ≡ b) × (x ≡ drop (length p) b ++ rest)
later_cut p x b rest e h =
    let front : take (length p) b ≡ p = sym (take-append-le (length p) b rest h) ∙ ap (λ (s : List ℕ). take (length p) s) (sym e) ∙ take_at p x (length p) refl in (
      ap (λ (s : List ℕ). s ++ drop (length p) b) (sym front) ∙ take-append-drop (length p) b,
      sym (drop_at p x (length p) refl) ∙ ap (λ (s : List ℕ). drop (length p) s) e ∙ drop-append-le (length p) b rest h,
    )

no_records : (c : Class) (b rest : List ℕ) → [] ≡ b ++ rest → PrefixSplit c [] b
no_records c b rest e =
    let empty : b ≡ [] = nil_from_length b (omega (arith, ap length e, length-append b rest)) in
    record {
      count = 0;
      left = b;
      within = omega arith;
      split = record { whole = refl; each = All-nil (IsOfClass c); none = subst (SpellsNone c) (sym empty) (nothing_spells c) };
      torn = subst (IsTorn c) (sym empty) (nothing_is_torn c);
      most = λ n h l. h;
    }

front_splits : (c : Class) (rs : List Record) (b rest : List ℕ) → AllByRecursion (IsOfClass c) rs → spellings rs ≡ b ++ rest → PrefixSplit c rs b
front_splits c [] b rest each e = no_records c b rest e
front_splits c (r ∷ rs) b rest each e =
    ⊎_elim
    (λ short. front_at_first c r rs b rest each.0 e short)
    (λ whole.
    let cut = later_cut (spelling r) (spellings rs) b rest e whole in
    subst (PrefixSplit c (r ∷ rs)) cut.0 (front_after_first c r rs (drop (length (spelling r)) b) each.0 (front_splits c rs (drop (length (spelling r)) b) rest each.1 cut.1)))
    (cases_lt (length b) (length (spelling r)))

pub a_prefix_splits : (c : Class) (rs : List Record) (b rest : List ℕ) → All (IsOfClass c) rs → spellings rs ≡ b ++ rest → PrefixSplit c rs b
a_prefix_splits c rs b rest each e = front_splits c rs b rest (recursion_from_All (IsOfClass c) rs each) e

-- ---- bytes split in one way

one_split_of : (c : Class) (rs ss : List Record) (x y : List ℕ) → AllByRecursion (IsOfClass c) rs → AllByRecursion (IsOfClass c) ss → SpellsNone c x → SpellsNone c y → spellings rs ++ x ≡ spellings ss ++ y → (rs ≡ ss) × (x ≡ y)
one_split_of c [] [] x y each_r each_s none_x none_y e = (refl, e)
one_split_of c [] (s ∷ ss) x y each_r each_s none_x none_y e = absurd (none_x s (spellings ss ++ y) each_s.0 (e ∙ append_assoc (spelling s) (spellings ss) y))
one_split_of c (r ∷ rs) [] x y each_r each_s none_x none_y e = absurd (none_y r (spellings rs ++ x) each_r.0 (sym e ∙ append_assoc (spelling r) (spellings rs) x))
one_split_of c (r ∷ rs) (s ∷ ss) x y each_r each_s none_x none_y e =
    let first = no_spelling_begins_another c r s (spellings rs ++ x) (spellings ss ++ y) each_r.0 each_s.0 (sym (append_assoc (spelling r) (spellings rs) x) ∙ e ∙ append_assoc (spelling s) (spellings ss) y) in
    let later = one_split_of c rs ss x y each_r.1 each_s.1 none_x none_y first.1 in
    (ap₂ (λ (t : Record) (ts : List Record). t ∷ ts) first.0 later.0, later.1)

pub one_split : (c : Class) (bytes : List ℕ) (rs ss : List Record) (x y : List ℕ) → Splits c bytes rs x → Splits c bytes ss y → (rs ≡ ss) × (x ≡ y)
one_split c bytes rs ss x y a b = one_split_of c rs ss x y (recursion_from_All (IsOfClass c) rs a.each) (recursion_from_All (IsOfClass c) ss b.each) a.none b.none (sym a.whole ∙ b.whole)

-- ---- one record after another

pub none_split : (c : Class) (bytes : List ℕ) → SpellsNone c bytes → Splits c bytes [] bytes
none_split c bytes none = record { whole = refl; each = All-nil (IsOfClass c); none = none }

pub record_splits_off : (c : Class) (bytes : List ℕ) (r : Record) (more : List ℕ) (rs : List Record) (rest : List ℕ) → IsOfClass c r → bytes ≡ spelling r ++ more → Splits c more rs rest → Splits c bytes (r ∷ rs) rest
record_splits_off c bytes r more rs rest of e later = record {
  whole = e ∙ ap (λ (s : List ℕ). spelling r ++ s) later.whole ∙ sym (append_assoc (spelling r) (spellings rs) rest);
  each = All-cons (IsOfClass c) r rs of later.each;
  none = later.none;
}

pub begins_with_none : (c : Class) (bytes : List ℕ) → BeginsWith c bytes [] bytes
begins_with_none c bytes = record { whole = refl; each = All-nil (IsOfClass c) }

pub begins_with_more : (c : Class) (bytes : List ℕ) (rs : List Record) (rest : List ℕ) (r : Record) (more : List ℕ) → BeginsWith c bytes rs rest → IsOfClass c r → rest ≡ spelling r ++ more → BeginsWith c bytes (rs ++ r ∷ []) more
begins_with_more c bytes rs rest r more b of e = record {
  whole = b.whole ∙ ap (λ (s : List ℕ). spellings rs ++ s) e ∙ sym (append_assoc (spellings rs) (spelling r) more) ∙ ap (λ (s : List ℕ). s ++ more) (flat_map_more spelling [] rs r);
  each = All-push (IsOfClass c) rs r b.each of;
}

pub begins_and_ends : (c : Class) (bytes : List ℕ) (rs : List Record) (rest : List ℕ) → BeginsWith c bytes rs rest → SpellsNone c rest → Splits c bytes rs rest
begins_and_ends c bytes rs rest b none = record { whole = b.whole; each = b.each; none = none }

pub begins_before : (c : Class) (bytes : List ℕ) (rs : List Record) (rest : List ℕ) → BeginsWith c bytes rs rest → drop (length (spellings rs)) bytes ≡ rest
begins_before c bytes rs rest b = ap (λ (s : List ℕ). drop (length (spellings rs)) s) b.whole ∙ drop_at (spellings rs) rest (length (spellings rs)) refl

-- ---- all bytes split

abbrev SomeSplit : Class → List ℕ → Type 0
SomeSplit c bytes = (rs : List Record) × (rest : List ℕ) × Splits c bytes rs rest

no_more : (c : Class) (bytes : List ℕ) → SpellsNone c bytes → SomeSplit c bytes
no_more c bytes none = ([], bytes, none_split c bytes none)

more_splits : (c : Class) (bytes : List ℕ) (front : Front c bytes) → SomeSplit c front.more → SomeSplit c bytes
more_splits c bytes front later = (front.first ∷ later.0, later.1, record_splits_off c bytes front.first front.more later.0 later.1 front.of front.whole later.2)

shorter : (c : Class) (bytes : List ℕ) (n : ℕ) (front : Front c bytes) → length bytes ≤ suc n → length front.more ≤ n
shorter c bytes n front h = omega (arith, ap length front.whole, length-append (spelling front.first) front.more, spelling_fills front.first)

below_more_bytes : (c : Class) (bytes : List ℕ) (front : Front c bytes) → All (λ b. b < 256) bytes → All (λ b. b < 256) front.more
below_more_bytes c bytes front all =
    let rest = drop_at (spelling front.first) front.more (length (spelling front.first)) refl in
    subst (λ (s : List ℕ). All (λ b. b < 256) s) rest (All-drop (λ b. b < 256) (length (spelling front.first)) (spelling front.first ++ front.more) (subst (λ (s : List ℕ). All (λ b. b < 256) s) front.whole all))

splits_within : (n : ℕ) (c : Class) (bytes : List ℕ) → length bytes ≤ n → All (λ b. b < 256) bytes → SomeSplit c bytes
splits_within zero c bytes h all = no_more c bytes (subst (SpellsNone c) (sym (nil_from_length bytes (omega arith))) (nothing_spells c))
splits_within (suc n) c bytes h all =
    ⊎_elim
    (λ front. more_splits c bytes front (splits_within n c front.more (shorter c bytes n front h) (below_more_bytes c bytes front all)))
    (λ none. no_more c bytes none)
    (front_or_none c bytes all)

pub some_split : (c : Class) (bytes : List ℕ) → All (λ b. b < 256) bytes → (rs : List Record) × (rest : List ℕ) × Splits c bytes rs rest
some_split c bytes all = splits_within (length bytes) c bytes (omega arith) all
