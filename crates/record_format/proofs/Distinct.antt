-- No spelling begins another of its class.
use Rattle.std.proofs.Common.{◌≡◌, ℕ, List, ◌++◌, length, take, drop, refl, sym, ap, ◌∙◌, append_assoc}
use Rattle.std.proofs.lemmas.List.{drop_at, take_at}
use Rattle.hr_base.specs.declared.name.Class.{Class}
use Rattle.hr_base.specs.Records.{header_length}
use Rattle.hr_base.specs.declared.name.Seq.{Seq}
use Rattle.record_format.specs.declared.record.Record.{Record}
use Rattle.record_format.specs.declared.record.Record.TheVariants.{Value, Tomb, Clear}
use Rattle.record_format.specs.Spelling.{IsRecord, seq_of, prefix_of, key_of, value_of, class_of_record, spelling}
use Rattle.record_format.specs.Headers.{header_seq, header_prefix, header_key, header_value}
use Rattle.record_format.specs.Splits.{IsOfClass}
use Rattle.record_format.proofs.HeaderLaws.{header_seq-spelling, header_prefix-spelling, header_key-spelling, header_value-spelling}

-- two lists that begin with pieces of one length
append_split : (p q x y : List ℕ) → length p ≡ length q → p ++ x ≡ q ++ y → (p ≡ q) × (x ≡ y)
append_split p q x y l e = (
  sym (take_at p x (length p) refl) ∙ ap (λ (s : List ℕ). take (length p) s) e ∙ take_at q y (length p) (sym l),
  sym (drop_at p x (length p) refl) ∙ ap (λ (s : List ℕ). drop (length p) s) e ∙ drop_at q y (length p) (sym l),
)

same_seq : (a b : Seq) → a.0 ≡ b.0 → a ≡ b
same_seq a b e = ap (λ (n : ℕ). let s : Seq = record { 0 = n } in s) e

-- after the header come the key and the value
drop-spelling : (r : Record) (more : List ℕ) → drop (header_length (class_of_record r)) (spelling r ++ more) ≡ key_of r ++ (value_of r ++ more)
drop-spelling (Value seq prefix key value) more = append_assoc key value more
drop-spelling (Tomb seq prefix key) more = refl
drop-spelling (Clear prefix seq) more = refl

-- a record is what can be read off it
same_record : (a b : Record) → class_of_record a ≡ class_of_record b → seq_of a ≡ seq_of b → prefix_of a ≡ prefix_of b → key_of a ≡ key_of b → value_of a ≡ value_of b → a ≡ b
same_record (Value s p k v) (Value t q l w) c es ep ek ev = let e = same_seq s t es in cc
same_record (Tomb s p k) (Tomb t q l) c es ep ek ev = let e = same_seq s t es in cc
same_record (Clear p s) (Clear q t) c es ep ek ev = let e = same_seq s t es in cc
same_record (Value s p k v) (Tomb t q l) c es ep ek ev = cc
same_record (Value s p k v) (Clear q t) c es ep ek ev = cc
same_record (Tomb s p k) (Value t q l w) c es ep ek ev = cc
same_record (Tomb s p k) (Clear q t) c es ep ek ev = cc
same_record (Clear p s) (Value t q l w) c es ep ek ev = cc
same_record (Clear p s) (Tomb t q l) c es ep ek ev = cc

-- what both headers read as
same_reading : (read : Class → List ℕ → ℕ) (of : Record → ℕ) → ((r : Record) (more : List ℕ) → IsRecord r → read (class_of_record r) (spelling r ++ more) ≡ of r)
    → (a b : Record) (x y : List ℕ) → class_of_record a ≡ class_of_record b → IsRecord a → IsRecord b → spelling a ++ x ≡ spelling b ++ y → of a ≡ of b
same_reading read of reads a b x y c va vb e =
    sym (reads a x va) ∙ ap (λ (k : Class). read k (spelling a ++ x)) c ∙ ap (λ (s : List ℕ). read (class_of_record b) s) e ∙ reads b y vb

pub no_spelling_begins_another : (c : Class) (a b : Record) (x y : List ℕ) → IsOfClass c a → IsOfClass c b → spelling a ++ x ≡ spelling b ++ y → (a ≡ b) × (x ≡ y)
no_spelling_begins_another c a b x y ca cb e =
    let k : class_of_record a ≡ class_of_record b = ca.same ∙ sym cb.same in
    let es : seq_of a ≡ seq_of b = same_reading header_seq seq_of header_seq-spelling a b x y k ca.valid cb.valid e in
    let ep : prefix_of a ≡ prefix_of b = same_reading header_prefix prefix_of header_prefix-spelling a b x y k ca.valid cb.valid e in
    let lk : length (key_of a) ≡ length (key_of b) = same_reading header_key (λ r. length (key_of r)) header_key-spelling a b x y k ca.valid cb.valid e in
    let lv : length (value_of a) ≡ length (value_of b) = same_reading header_value (λ r. length (value_of r)) header_value-spelling a b x y k ca.valid cb.valid e in
    let rest : key_of a ++ (value_of a ++ x) ≡ key_of b ++ (value_of b ++ y) =
    sym (drop-spelling a x) ∙ ap (λ (t : Class). drop (header_length t) (spelling a ++ x)) k ∙ ap (λ (s : List ℕ). drop (header_length (class_of_record b)) s) e ∙ drop-spelling b y in
    let keys = append_split (key_of a) (key_of b) (value_of a ++ x) (value_of b ++ y) lk rest in
    let values = append_split (value_of a) (value_of b) x y lv keys.1 in
    (same_record a b k es ep keys.0 values.0, values.1)
