-- No two lines have one text.
use Rattle.std.proofs.Common.{All, ◌≡◌, ◌<◌, ◌^◌, ◌≤◌, ℕ, List, ◌∷◌, ◌++◌, decimal, sym, ap, ◌∙◌, arith, get_or, lit<}
use Rattle.std.proofs.lemmas.Fmt.{decimal_injective}
use Rattle.hr_base.specs.declared.name.Partition.{Partition}
use Rattle.script_text.specs.declared.line.Line.{Line}
use Rattle.script_text.specs.declared.line.Line.TheVariants.{Put, Remove, Clear, Get, Sync}
use Rattle.script_text.specs.declared.line.Mode.{Mode}
use Rattle.script_text.specs.Lines.{IsLine, line_text, partition_of}
use Rattle.script_text.specs.Texts.{text_of}
use Rattle.script_text.proofs.ByteTexts.{text_of-one}
use Rattle.script_text.proofs.CommandTexts.{command_text, line_text-split, IsLine-partition}
use Rattle.script_text.proofs.Cuts.{cut_one}
use Rattle.script_text.proofs.Numbers.{decimal_lacks_space, text_lacks_space}

-- a number before a space is determined
number_one : (m n : ℕ) (x y : List ℕ) → m < 2 ^ 64 → n < 2 ^ 64 → decimal m ++ 32 ∷ x ≡ decimal n ++ 32 ∷ y → (m ≡ n) × (x ≡ y)
number_one m n x y fits_m fits_n e =
    let parts = cut_one 32 (decimal m) (decimal n) x y (decimal_lacks_space m fits_m) (decimal_lacks_space n fits_n) e in
    (decimal_injective m n fits_m fits_n parts.0, parts.1)

-- so is the text of bytes
word_one : (a b x y : List ℕ) → All (λ b. b < 256) a → All (λ b. b < 256) b → text_of a ++ 32 ∷ x ≡ text_of b ++ 32 ∷ y → (a ≡ b) × (x ≡ y)
word_one a b x y small_a small_b e =
    let parts = cut_one 32 (text_of a) (text_of b) x y (text_lacks_space a) (text_lacks_space b) e in
    (text_of-one a b small_a small_b parts.0, parts.1)

-- texts that begin with two bytes differ
apart : (a b : ℕ) {xs ys : List ℕ} {X : Type 0} → a ∷ xs ≡ b ∷ ys → a < b → X
apart a b {xs} {ys} e below =
    let first : a ≡ b = ap (λ zs. get_or zs 0 0) e in
    absurd (omega (arith, first, below))

partition_one : (p q : Partition) → p.0 ≡ q.0 → p ≡ q
partition_one p q same = ap (λ (n : ℕ). let r : Partition = record { 0 = n } in r) same

command_one : (mode : Mode) (partitions : ℕ) (a b : Line) → IsLine mode partitions a → IsLine mode partitions b → partition_of a ≡ partition_of b → command_text a ≡ command_text b → a ≡ b
command_one mode partitions (Put p prefix key value) (Put q prefix' key' value') va vb same e =
    let arguments : decimal prefix ++ 32 ∷ (text_of key ++ 32 ∷ text_of value) ≡ decimal prefix' ++ 32 ∷ (text_of key' ++ 32 ∷ text_of value') = cc in
    let numbers = number_one prefix prefix' (text_of key ++ 32 ∷ text_of value) (text_of key' ++ 32 ∷ text_of value') va.1 vb.1 arguments in
    let words = word_one key key' (text_of value) (text_of value') va.2.each vb.2.each numbers.1 in
    let last = text_of-one value value' va.3.each vb.3.each words.1 in
    ap (λ (r : Partition). Put r prefix key value) (partition_one p q same)
    ∙ ap (λ (n : ℕ). Put q n key value) numbers.0
    ∙ ap (λ (bytes : List ℕ). Put q prefix' bytes value) words.0
    ∙ ap (λ (bytes : List ℕ). Put q prefix' key' bytes) last
command_one mode partitions (Remove p prefix key) (Remove q prefix' key') va vb same e =
    let arguments : decimal prefix ++ 32 ∷ text_of key ≡ decimal prefix' ++ 32 ∷ text_of key' = cc in
    let numbers = number_one prefix prefix' (text_of key) (text_of key') va.1 vb.1 arguments in
    let last = text_of-one key key' va.2.each vb.2.each numbers.1 in
    ap (λ (r : Partition). Remove r prefix key) (partition_one p q same)
    ∙ ap (λ (n : ℕ). Remove q n key) numbers.0
    ∙ ap (λ (bytes : List ℕ). Remove q prefix' bytes) last
command_one mode partitions (Get p prefix key) (Get q prefix' key') va vb same e =
    let arguments : decimal prefix ++ 32 ∷ text_of key ≡ decimal prefix' ++ 32 ∷ text_of key' = cc in
    let numbers = number_one prefix prefix' (text_of key) (text_of key') va.1 vb.1 arguments in
    let last = text_of-one key key' va.2.each vb.2.each numbers.1 in
    ap (λ (r : Partition). Get r prefix key) (partition_one p q same)
    ∙ ap (λ (n : ℕ). Get q n key) numbers.0
    ∙ ap (λ (bytes : List ℕ). Get q prefix' bytes) last
command_one mode partitions (Clear p prefix) (Clear q prefix') va vb same e =
    let arguments : decimal prefix ≡ decimal prefix' = cc in
    ap (λ (r : Partition). Clear r prefix) (partition_one p q same)
    ∙ ap (λ (n : ℕ). Clear q n) (decimal_injective prefix prefix' va.1 vb.1 arguments)
command_one mode partitions (Sync p) (Sync q) va vb same e = ap (λ (r : Partition). Sync r) (partition_one p q same)
command_one mode partitions (Put p prefix key value) (Remove q prefix' key') va vb same e = apart 112 114 e (lit< tt)
command_one mode partitions (Put p prefix key value) (Clear q prefix') va vb same e = apart 99 112 (sym e) (lit< tt)
command_one mode partitions (Put p prefix key value) (Get q prefix' key') va vb same e = apart 103 112 (sym e) (lit< tt)
command_one mode partitions (Put p prefix key value) (Sync q) va vb same e = apart 112 115 e (lit< tt)
command_one mode partitions (Remove p prefix key) (Put q prefix' key' value') va vb same e = apart 112 114 (sym e) (lit< tt)
command_one mode partitions (Remove p prefix key) (Clear q prefix') va vb same e = apart 99 114 (sym e) (lit< tt)
command_one mode partitions (Remove p prefix key) (Get q prefix' key') va vb same e = apart 103 114 (sym e) (lit< tt)
command_one mode partitions (Remove p prefix key) (Sync q) va vb same e = apart 114 115 e (lit< tt)
command_one mode partitions (Clear p prefix) (Put q prefix' key' value') va vb same e = apart 99 112 e (lit< tt)
command_one mode partitions (Clear p prefix) (Remove q prefix' key') va vb same e = apart 99 114 e (lit< tt)
command_one mode partitions (Clear p prefix) (Get q prefix' key') va vb same e = apart 99 103 e (lit< tt)
command_one mode partitions (Clear p prefix) (Sync q) va vb same e = apart 99 115 e (lit< tt)
command_one mode partitions (Get p prefix key) (Put q prefix' key' value') va vb same e = apart 103 112 e (lit< tt)
command_one mode partitions (Get p prefix key) (Remove q prefix' key') va vb same e = apart 103 114 e (lit< tt)
command_one mode partitions (Get p prefix key) (Clear q prefix') va vb same e = apart 99 103 (sym e) (lit< tt)
command_one mode partitions (Get p prefix key) (Sync q) va vb same e = apart 103 115 e (lit< tt)
command_one mode partitions (Sync p) (Put q prefix' key' value') va vb same e = apart 112 115 (sym e) (lit< tt)
command_one mode partitions (Sync p) (Remove q prefix' key') va vb same e = apart 114 115 (sym e) (lit< tt)
command_one mode partitions (Sync p) (Clear q prefix') va vb same e = apart 99 115 (sym e) (lit< tt)
command_one mode partitions (Sync p) (Get q prefix' key') va vb same e = apart 103 115 (sym e) (lit< tt)

-- lines with one text are the same
pub line_text-one : (mode : Mode) (partitions : ℕ) (a b : Line) → partitions ≤ 2 ^ 64 → IsLine mode partitions a → IsLine mode partitions b → line_text a ≡ line_text b → a ≡ b
line_text-one mode partitions a b few va vb e =
    let fits_a : partition_of a < 2 ^ 64 = omega (arith, IsLine-partition mode partitions a va) in
    let fits_b : partition_of b < 2 ^ 64 = omega (arith, IsLine-partition mode partitions b vb) in
    let parts = number_one (partition_of a) (partition_of b) (command_text a) (command_text b) fits_a fits_b (sym (line_text-split a) ∙ e ∙ line_text-split b) in
    command_one mode partitions a b va vb parts.0 parts.1
