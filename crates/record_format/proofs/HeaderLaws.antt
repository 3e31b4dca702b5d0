-- How long a spelling is, and what its header reads as.
use Rattle.std.proofs.Common.{◌≡◌, ℕ, ◌+◌, ◌≤◌, List, ◌++◌, length, take, drop, refl, ap, ◌∙◌, arith, length-append, length-drop, drop-drop}
use Rattle.std.specs.Int.{w32, w64, from_be_bytes}
use Rattle.std.proofs.lemmas.Nat.{from_be_bytes-to_be_bytes_4, from_be_bytes-to_be_bytes_8}
use Rattle.std.proofs.lemmas.List.{take-append-le, drop-append-le}
use Rattle.hr_base.specs.declared.name.Class.{Class}
use Rattle.hr_base.specs.declared.name.Class.TheVariants.{Value as Values, Tomb as Tombs, Clear as Clears}
use Rattle.hr_base.specs.Records.{header_length, record_length}
use Rattle.record_format.specs.declared.record.Record.{Record}
use Rattle.record_format.specs.declared.record.Record.TheVariants.{Value, Tomb, Clear}
use Rattle.record_format.specs.Spelling.{IsRecord, seq_of, prefix_of, key_of, value_of, class_of_record, spelling}
use Rattle.record_format.specs.Headers.{header_seq, header_prefix, header_key, header_value}

pub spelling_length : (r : Record) → length (spelling r) ≡ record_length (class_of_record r) (length (key_of r)) (length (value_of r))
spelling_length (Value seq prefix key value) = omega (arith, length-append key value)
spelling_length (Tomb seq prefix key) = omega arith
spelling_length (Clear prefix seq) = refl

-- ---- the header of a spelling says what the record is

pub header_seq-spelling : (r : Record) (more : List ℕ) → IsRecord r → header_seq (class_of_record r) (spelling r ++ more) ≡ seq_of r
header_seq-spelling (Value seq prefix key value) more valid = from_be_bytes-to_be_bytes_8 seq.0 (omega arith)
header_seq-spelling (Tomb seq prefix key) more valid = from_be_bytes-to_be_bytes_8 seq.0 (omega arith)
header_seq-spelling (Clear prefix seq) more valid = from_be_bytes-to_be_bytes_8 seq.0 (omega arith)

pub header_key-spelling : (r : Record) (more : List ℕ) → IsRecord r → header_key (class_of_record r) (spelling r ++ more) ≡ length (key_of r)
header_key-spelling (Value seq prefix key value) more valid = from_be_bytes-to_be_bytes_4 (length key) (omega arith)
header_key-spelling (Tomb seq prefix key) more valid = from_be_bytes-to_be_bytes_4 (length key) (omega arith)
header_key-spelling (Clear prefix seq) more valid = refl

pub header_value-spelling : (r : Record) (more : List ℕ) → IsRecord r → header_value (class_of_record r) (spelling r ++ more) ≡ length (value_of r)
header_value-spelling (Value seq prefix key value) more valid = from_be_bytes-to_be_bytes_4 (length value) (omega arith)
header_value-spelling (Tomb seq prefix key) more valid = refl
header_value-spelling (Clear prefix seq) more valid = refl

pub header_prefix-spelling : (r : Record) (more : List ℕ) → IsRecord r → header_prefix (class_of_record r) (spelling r ++ more) ≡ prefix_of r
header_prefix-spelling (Value seq prefix key value) more valid = from_be_bytes-to_be_bytes_8 prefix valid.prefix
header_prefix-spelling (Tomb seq prefix key) more valid = from_be_bytes-to_be_bytes_8 prefix valid.prefix
header_prefix-spelling (Clear prefix seq) more valid = from_be_bytes-to_be_bytes_8 prefix valid.prefix

-- ---- a complete header reads the same whatever follows

field-append : (n m : ℕ) (b more : List ℕ) → n + m ≤ length b → take m (drop n (b ++ more)) ≡ take m (drop n b)
field-append n m b more h =
    let near : n ≤ length b = omega arith in
    let room : m ≤ length (drop n b) = omega (arith, length-drop n b) in
    ap (λ (s : List ℕ). take m s) (drop-append-le n b more near) ∙ take-append-le m (drop n b) more room

pub header_seq-append : (c : Class) (b more : List ℕ) → header_length c ≤ length b → header_seq c (b ++ more) ≡ header_seq c b
header_seq-append Values b more h = ap (λ (s : List ℕ). from_be_bytes w64 s) (take-append-le 8 b more (omega arith))
header_seq-append Tombs b more h = ap (λ (s : List ℕ). from_be_bytes w64 s) (take-append-le 8 b more (omega arith))
header_seq-append Clears b more h = ap (λ (s : List ℕ). from_be_bytes w64 s) (field-append 8 8 b more (omega arith))

pub header_key-append : (c : Class) (b more : List ℕ) → header_length c ≤ length b → header_key c (b ++ more) ≡ header_key c b
header_key-append Values b more h = ap (λ (s : List ℕ). from_be_bytes w32 s) (field-append 16 4 b more (omega arith))
header_key-append Tombs b more h = ap (λ (s : List ℕ). from_be_bytes w32 s) (field-append 16 4 b more (omega arith))
header_key-append Clears b more h = refl

pub header_value-append : (c : Class) (b more : List ℕ) → header_length c ≤ length b → header_value c (b ++ more) ≡ header_value c b
header_value-append Values b more h = ap (λ (s : List ℕ). from_be_bytes w32 s) (field-append 20 4 b more (omega arith))
header_value-append Tombs b more h = refl
header_value-append Clears b more h = refl

-- ---- one piece of the bytes after another

pub drop_behind : (n m : ℕ) (bytes rest more : List ℕ) → rest ≡ drop n bytes → more ≡ drop m rest → more ≡ drop (n + m) bytes
drop_behind n m bytes rest more e f = f ∙ ap (λ (s : List ℕ). drop m s) e ∙ drop-drop m n bytes
