-- Whether bytes begin with a spelling, which their header tells.
use Rattle.std.proofs.Common.{◌≡◌, ℕ, ◌+◌, ◌<◌, ◌≤◌, ◌^◌, ◌⊎◌, inl, inr, ⊎_elim, List, ◌++◌, length, take, drop, get_or, All, refl, sym, ap, ◌∙◌, subst, arith, length-append, length-drop, length-take, length-take-le, append_assoc, take-append-drop, drop-drop}
use Rattle.std.specs.Int.{w32, w64, to_be_bytes, from_be_bytes}
use Rattle.std.proofs.lemmas.Nat.{be_bytes_4, be_bytes_8}
use Rattle.std.proofs.lemmas.List.{get_or_past}
use Rattle.std.proofs.lemmas.List.Elements.{All-take, All-drop}
use Rattle.std.proofs.lemmas.Bool.{cases_lt}
use Rattle.hr_base.specs.declared.name.Class.{Class}
use Rattle.hr_base.specs.declared.name.Class.TheVariants.{Value as Values, Tomb as Tombs, Clear as Clears}
use Rattle.hr_base.specs.declared.limits.TheConstants.{MAX_KEY_LEN, MAX_VALUE_LEN, SEQ_END}
use Rattle.hr_base.specs.Records.{header_length, record_length, IsSeq}
use Rattle.record_format.specs.declared.record.Record.{Record}
use Rattle.record_format.specs.Spelling.{IsRecord, class_of_record, spelling}
use Rattle.record_format.specs.Headers.{header_seq, header_prefix, header_key, header_value}
use Rattle.record_format.specs.Splits.{IsOfClass, SpellsNone}
use Rattle.record_format.specs.declared.reading.Flaw.{Flaw}
use Rattle.record_format.specs.declared.reading.Flaw.TheVariants.{Number, KeyLength, ValueLength}
use Rattle.record_format.specs.declared.reading.Step.TheVariants.{Torn}
use Rattle.record_format.specs.Steps.{FitsLimits, IsFirstFlaw, IsFlawed, IsStep, record_with}
use Rattle.record_format.proofs.HeaderLaws.{spelling_length, header_seq-spelling, header_key-spelling, header_value-spelling}

-- the record that the bytes begin with, and the bytes behind it
pub record Front (c : Class) (bytes : List ℕ) : Type 0 where
  pub first : Record
  pub more : List ℕ
  pub of : IsOfClass c first
  pub whole : bytes ≡ spelling first ++ more

-- the header is one that a record has, and as much follows as it says
pub record Announces (c : Class) (bytes : List ℕ) : Type 0 where
  pub limits : FitsLimits (header_seq c bytes) (header_key c bytes) (header_value c bytes)
  pub room : record_length c (header_key c bytes) (header_value c bytes) ≤ length bytes

-- ---- a spelling announces itself

spelling_announces : (r : Record) (more : List ℕ) → IsRecord r → Announces (class_of_record r) (spelling r ++ more)
spelling_announces r more valid =
    let s = header_seq-spelling r more valid in
    let k = header_key-spelling r more valid in
    let v = header_value-spelling r more valid in
    record {
      limits = record {
        numbered = subst IsSeq (sym s) valid.seq;
        key_fits = omega (arith, valid.key);
        value_fits = omega (arith, valid.value);
      };
      room = omega (arith, spelling_length r, length-append (spelling r) more);
    }

pub spelled_announces : (c : Class) (bytes : List ℕ) (r : Record) (more : List ℕ) → IsOfClass c r → bytes ≡ spelling r ++ more → Announces c bytes
spelled_announces c bytes r more of e =
    subst (Announces c) (sym e) (subst (λ (k : Class). Announces k (spelling r ++ more)) of.same (spelling_announces r more of.valid))

pub none_unannounced : (c : Class) (bytes : List ℕ) → (Announces c bytes → ⊥) → SpellsNone c bytes
none_unannounced c bytes silent r more of e = silent (spelled_announces c bytes r more of e)

pub early_unannounced : (c : Class) (bytes : List ℕ) → IsStep c bytes Torn → Announces c bytes → ⊥
early_unannounced c bytes (inl few) a = omega (arith, a.room)
early_unannounced c bytes (inr cut) a = omega (arith, a.room, cut.short)

pub flawed_unannounced : (c : Class) (bytes : List ℕ) (flaw : Flaw) → IsFlawed c bytes flaw → Announces c bytes → ⊥
flawed_unannounced c bytes (Number n) f a = omega (arith, f.first.0, f.first.1, a.limits.numbered.numbered, a.limits.numbered.number)
flawed_unannounced c bytes (KeyLength n) f a = omega (arith, f.first.1, f.first.2, a.limits.key_fits)
flawed_unannounced c bytes (ValueLength n) f a = omega (arith, f.first.2, f.first.3, a.limits.value_fits)

-- ---- which of the three cases it is

abbrev SomeFlaw : ℕ → ℕ → ℕ → Type 0
SomeFlaw s k v = (flaw : Flaw) × IsFirstFlaw s k v flaw

first_flaw_or_none : (s k v : ℕ) → SomeFlaw s k v ⊎ FitsLimits s k v
first_flaw_or_none s k v =
    ⊎_elim (λ none. inl (Number s, (refl, inl (omega arith))))
    (λ numbered. ⊎_elim
    (λ number. ⊎_elim
    (λ long. inl (KeyLength k, (record { numbered = numbered; number = number }, refl, long)))
    (λ key. ⊎_elim
    (λ large. inl (ValueLength v, (record { numbered = numbered; number = number }, key, refl, large)))
    (λ value. inr (record { numbered = record { numbered = numbered; number = number }; key_fits = key; value_fits = value }))
    (cases_lt MAX_VALUE_LEN v))
    (cases_lt MAX_KEY_LEN k))
    (λ high. inl (Number s, (refl, inr high)))
    (cases_lt s SEQ_END))
    (cases_lt s 1)

pub announces_or_step : (c : Class) (bytes : List ℕ) → Announces c bytes ⊎ (IsStep c bytes Torn ⊎ ((flaw : Flaw) × IsFlawed c bytes flaw))
announces_or_step c bytes =
    let s = header_seq c bytes in
    let k = header_key c bytes in
    let v = header_value c bytes in
    ⊎_elim (λ few. inr (inl (inl few)))
    (λ complete. ⊎_elim
    (λ flawed. inr (inr (flawed.0, record { complete = complete; first = flawed.1 })))
    (λ limits. ⊎_elim
    (λ short. inr (inl (inr (record { complete = complete; limits = limits; short = short }))))
    (λ room. inl (record { limits = limits; room = room }))
    (cases_lt (length bytes) (record_length c k v)))
    (first_flaw_or_none s k v))
    (cases_lt (length bytes) (header_length c))

-- ---- what announces a record begins with its spelling

below : (bytes : List ℕ) → All (λ b. b < 256) bytes → (i : ℕ) → get_or bytes i 0 < 256
below bytes all i = ⊎_elim (λ h. all i 0 h) (λ h. omega (arith, get_or_past bytes i 0 h)) (cases_lt i (length bytes))

number_fits : (bs : List ℕ) → ((i : ℕ) → get_or bs i 0 < 256) → from_be_bytes w64 bs < 2 ^ 64
number_fits bs h = omega (arith, h 0, h 1, h 2, h 3, h 4, h 5, h 6, h 7)

pub field_fits : (n m : ℕ) (bytes : List ℕ) → n + m ≤ length bytes → length (take m (drop n bytes)) ≡ m
field_fits n m bytes h = length-take-le m (drop n bytes) (omega (arith, length-drop n bytes))

field_below : (n m : ℕ) (bytes : List ℕ) → All (λ b. b < 256) bytes → (i : ℕ) → get_or (take m (drop n bytes)) i 0 < 256
field_below n m bytes all = below (take m (drop n bytes)) (All-take (λ b. b < 256) m (drop n bytes) (All-drop (λ b. b < 256) n bytes all))

field_8 : (n : ℕ) (bytes : List ℕ) → All (λ b. b < 256) bytes → n + 8 ≤ length bytes → to_be_bytes w64 (from_be_bytes w64 (take 8 (drop n bytes))) ≡ take 8 (drop n bytes)
field_8 n bytes all h = be_bytes_8 (take 8 (drop n bytes)) (from_be_bytes w64 (take 8 (drop n bytes))) (field_fits n 8 bytes h) (field_below n 8 bytes all) refl

field_4 : (n l : ℕ) (bytes : List ℕ) → All (λ b. b < 256) bytes → n + 4 ≤ length bytes → l ≡ from_be_bytes w32 (take 4 (drop n bytes)) → to_be_bytes w32 l ≡ take 4 (drop n bytes)
field_4 n l bytes all h e = be_bytes_4 (take 4 (drop n bytes)) l (field_fits n 4 bytes h) (field_below n 4 bytes all) e

-- one more piece of the bytes
joined : (p : List ℕ) (n m : ℕ) (bytes : List ℕ) → p ++ drop n bytes ≡ bytes → p ++ take m (drop n bytes) ++ drop (n + m) bytes ≡ bytes
joined p n m bytes e =
    append_assoc p (take m (drop n bytes)) (drop (n + m) bytes)
    ∙ ap (λ (s : List ℕ). p ++ (take m (drop n bytes) ++ s)) (sym (drop-drop m n bytes))
    ∙ ap (λ (s : List ℕ). p ++ s) (take-append-drop m (drop n bytes))
    ∙ e

-- pieces that are equal one by one
same_4 : (a b c d x y z : List ℕ) → a ≡ x → b ≡ y → c ≡ z → a ++ b ++ c ++ d ≡ x ++ y ++ z ++ d
same_4 a b c d x y z e f g = ap (λ (t : List ℕ). t ++ b ++ c ++ d) e ∙ ap (λ (t : List ℕ). x ++ t ++ c ++ d) f ∙ ap (λ (t : List ℕ). x ++ y ++ t ++ d) g

-- the record that a header announces
abbrev pub record_at : Class → List ℕ → Record
record_at c bytes = record_with c (header_seq c bytes) (header_prefix c bytes)
    (take (header_key c bytes) (drop (header_length c) bytes)) (take (header_value c bytes) (drop (header_length c + header_key c bytes) bytes))

abbrev Spelled : Class → List ℕ → Type 0
Spelled c bytes = bytes ≡ spelling (record_at c bytes) ++ drop (record_length c (header_key c bytes) (header_value c bytes)) bytes

spelled_clear : (bytes : List ℕ) → All (λ b. b < 256) bytes → Announces Clears bytes → Spelled Clears bytes
spelled_clear bytes all a =
    let p = take 8 bytes in
    let s = take 8 (drop 8 bytes) in
    let ep = field_8 0 bytes all (omega (arith, a.room)) in
    let es = field_8 8 bytes all (omega (arith, a.room)) in
    let at_s = joined p 8 8 bytes (take-append-drop 8 bytes) in
    let seq : ℕ = from_be_bytes w64 s in
    sym (ap (λ (t : List ℕ). t ++ to_be_bytes w64 seq ++ drop 16 bytes) ep ∙ ap (λ (t : List ℕ). p ++ t ++ drop 16 bytes) es ∙ at_s)

spelled_tomb : (bytes : List ℕ) → All (λ b. b < 256) bytes → Announces Tombs bytes → Spelled Tombs bytes
spelled_tomb bytes all a =
    let k : ℕ = header_key Tombs bytes in
    let s = take 8 bytes in
    let p = take 8 (drop 8 bytes) in
    let l = take 4 (drop 16 bytes) in
    let key : List ℕ = take k (drop 20 bytes) in
    let more : List ℕ = drop (20 + k) bytes in
    let long : length key ≡ k = field_fits 20 k bytes (omega (arith, a.room)) in
    let es = field_8 0 bytes all (omega (arith, a.room)) in
    let ep = field_8 8 bytes all (omega (arith, a.room)) in
    let el = field_4 16 (length key) bytes all (omega (arith, a.room)) long in
    let at_p = joined s 8 8 bytes (take-append-drop 8 bytes) in
    let at_l = joined (s ++ p) 16 4 bytes at_p in
    let at_key = joined (s ++ p ++ l) 20 k bytes at_l in
    let header = same_4 (to_be_bytes w64 (from_be_bytes w64 s)) (to_be_bytes w64 (from_be_bytes w64 p)) (to_be_bytes w32 (length key)) key s p l es ep el in
    sym (ap (λ (t : List ℕ). t ++ more) header ∙ at_key) ∙ ap (λ (n : ℕ). spelling (record_at Tombs bytes) ++ drop n bytes) (omega arith)

spelled_value : (bytes : List ℕ) → All (λ b. b < 256) bytes → Announces Values bytes → Spelled Values bytes
spelled_value bytes all a =
    let k : ℕ = header_key Values bytes in
    let v : ℕ = header_value Values bytes in
    let s = take 8 bytes in
    let p = take 8 (drop 8 bytes) in
    let l = take 4 (drop 16 bytes) in
    let m = take 4 (drop 20 bytes) in
    let key : List ℕ = take k (drop 24 bytes) in
    let value : List ℕ = take v (drop (24 + k) bytes) in
    let more : List ℕ = drop (24 + k + v) bytes in
    let long : length key ≡ k = field_fits 24 k bytes (omega (arith, a.room)) in
    let large : length value ≡ v = field_fits (24 + k) v bytes a.room in
    let es = field_8 0 bytes all (omega (arith, a.room)) in
    let ep = field_8 8 bytes all (omega (arith, a.room)) in
    let el = field_4 16 (length key) bytes all (omega (arith, a.room)) long in
    let em = field_4 20 (length value) bytes all (omega (arith, a.room)) large in
    let at_p = joined s 8 8 bytes (take-append-drop 8 bytes) in
    let at_l = joined (s ++ p) 16 4 bytes at_p in
    let at_m = joined (s ++ p ++ l) 20 4 bytes at_l in
    let at_key = joined (s ++ p ++ l ++ m) 24 k bytes at_m in
    let at_value = joined (s ++ p ++ l ++ m ++ key) (24 + k) v bytes at_key in
    let numbers = same_4 (to_be_bytes w64 (from_be_bytes w64 s)) (to_be_bytes w64 (from_be_bytes w64 p)) (to_be_bytes w32 (length key)) (to_be_bytes w32 (length value)) s p l es ep el in
    let header = numbers ∙ ap (λ (t : List ℕ). s ++ p ++ l ++ t) em in
    sym (ap (λ (t : List ℕ). t ++ key ++ value ++ more) header ∙ at_value)

pub announced_spelled : (c : Class) (bytes : List ℕ) → All (λ b. b < 256) bytes → Announces c bytes → Spelled c bytes
announced_spelled Values bytes all a = spelled_value bytes all a
announced_spelled Tombs bytes all a = spelled_tomb bytes all a
announced_spelled Clears bytes all a = spelled_clear bytes all a

-- a field of the bytes is as long as it says, or shorter
field_short : (n m : ℕ) (bytes : List ℕ) → length (take m (drop n bytes)) ≤ m
field_short n m bytes = omega (arith, length-take m (drop n bytes))

pub announced_of_class : (c : Class) (bytes : List ℕ) → All (λ b. b < 256) bytes → Announces c bytes → IsOfClass c (record_at c bytes)
announced_of_class Values bytes all a = record {
  valid = record {
    seq = a.limits.numbered;
    prefix = number_fits (take 8 (drop 8 bytes)) (field_below 8 8 bytes all);
    key = omega (arith, a.limits.key_fits, field_short 24 (header_key Values bytes) bytes);
    value = omega (arith, a.limits.value_fits, field_short (24 + header_key Values bytes) (header_value Values bytes) bytes);
  };
  same = refl;
}
announced_of_class Tombs bytes all a = record {
  valid = record {
    seq = a.limits.numbered;
    prefix = number_fits (take 8 (drop 8 bytes)) (field_below 8 8 bytes all);
    key = omega (arith, a.limits.key_fits, field_short 20 (header_key Tombs bytes) bytes);
    value = omega arith;
  };
  same = refl;
}
announced_of_class Clears bytes all a = record {
  valid = record {
    seq = a.limits.numbered;
    prefix = number_fits (take 8 bytes) (field_below 0 8 bytes all);
    key = omega arith;
    value = omega arith;
  };
  same = refl;
}

read_front : (c : Class) (bytes : List ℕ) → All (λ b. b < 256) bytes → Announces c bytes → Front c bytes
read_front c bytes all a = record {
  first = record_at c bytes;
  more = drop (record_length c (header_key c bytes) (header_value c bytes)) bytes;
  of = announced_of_class c bytes all a;
  whole = announced_spelled c bytes all a;
}

-- bytes begin with a spelling of the class, or spell none
pub front_or_none : (c : Class) (bytes : List ℕ) → All (λ b. b < 256) bytes → Front c bytes ⊎ SpellsNone c bytes
front_or_none c bytes all = ⊎_elim
    (λ a. inl (read_front c bytes all a))
    (⊎_elim (λ early. inr (none_unannounced c bytes (early_unannounced c bytes early))) (λ flawed. inr (none_unannounced c bytes (flawed_unannounced c bytes flawed.0 flawed.1))))
    (announces_or_step c bytes)
