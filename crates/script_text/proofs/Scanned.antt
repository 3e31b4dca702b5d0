-- A script's bytes are read as its lines, by the fields of each text.
use Rattle.std.proofs.Common.{◌≡◌, ◌≢◌, ◌≤◌, ◌<◌, ◌^◌, ◌==◌, ℕ, true, false, cond, List, [], ◌∷◌, ◌++◌, All, map, codes, decimal, refl, sym, ap, ◌∙◌, subst, arith}
use Rattle.std.specs.Str.Parse.{digits_value}
use Rattle.std.proofs.lemmas.Bool.{eqb-true, false_from_ne_true}
use Rattle.std.proofs.lemmas.Fmt.{decimal_is_IsNumeral}
use Rattle.std.proofs.lemmas.List.Elements.{All-head, All-tail}
use Rattle.script_text.specs.declared.line.Line.{Line}
use Rattle.script_text.specs.declared.line.Line.TheVariants.{Put, Remove, Clear, Get, Sync}
use Rattle.script_text.specs.declared.line.Mode.{Mode}
use Rattle.script_text.specs.Fields.{bytes_of}
use Rattle.script_text.specs.Lines.{IsLine, IsScript, line_text, line_texts, partition_of}
use Rattle.script_text.specs.Scripts.{before_byte, behind_byte, line_from, line_with_arguments, line_with_command, line_with_letter, script_lines}
use Rattle.script_text.specs.Texts.{text_of}
use Rattle.script_text.proofs.ByteTexts.{bytes_of-text_of}
use Rattle.script_text.proofs.CommandTexts.{command_text, line_text-split, IsLine-partition}
use Rattle.script_text.proofs.Numbers.{decimal_lacks_space, text_lacks_space}

-- ---- the first place of a byte

other_byte : (b byte : ℕ) → b ≢ byte → (b == byte) ≡ false
other_byte b byte other = false_from_ne_true (b == byte) (λ e. other (eqb-true b byte e))

before_cut : (byte : ℕ) (front back : List ℕ) → All (λ b. b ≢ byte) front → (byte == byte) ≡ true → before_byte byte (front ++ byte ∷ back) ≡ front
before_cut byte [] back lacking here = ap (λ t. cond t [] (byte ∷ before_byte byte back)) here
before_cut byte (b ∷ front) back lacking here =
    ap (λ t. cond t [] (b ∷ before_byte byte (front ++ byte ∷ back))) (other_byte b byte (All-head (λ b. b ≢ byte) b front lacking))
    ∙ ap (λ bytes. b ∷ bytes) (before_cut byte front back (All-tail (λ b. b ≢ byte) b front lacking) here)

behind_cut : (byte : ℕ) (front back : List ℕ) → All (λ b. b ≢ byte) front → (byte == byte) ≡ true → behind_byte byte (front ++ byte ∷ back) ≡ back
behind_cut byte [] back lacking here = ap (λ t. cond t back (behind_byte byte back)) here
behind_cut byte (b ∷ front) back lacking here =
    ap (λ t. cond t (front ++ byte ∷ back) (behind_byte byte (front ++ byte ∷ back))) (other_byte b byte (All-head (λ b. b ≢ byte) b front lacking))
    ∙ behind_cut byte front back (All-tail (λ b. b ≢ byte) b front lacking) here

before_none : (byte : ℕ) (bytes : List ℕ) → All (λ b. b ≢ byte) bytes → before_byte byte bytes ≡ bytes
before_none byte [] lacking = refl
before_none byte (b ∷ bytes) lacking =
    ap (λ t. cond t [] (b ∷ before_byte byte bytes)) (other_byte b byte (All-head (λ b. b ≢ byte) b bytes lacking))
    ∙ ap (λ rest. b ∷ rest) (before_none byte bytes (All-tail (λ b. b ≢ byte) b bytes lacking))

-- ---- a line

number_read : (n : ℕ) → n < 2 ^ 64 → digits_value 10 (decimal n) ≡ n
number_read n fits = (decimal_is_IsNumeral n fits).1

-- a number before a space, and what is behind it
arguments_read : (p letter prefix : ℕ) (words : List ℕ) → prefix < 2 ^ 64 → line_with_arguments p letter (decimal prefix ++ 32 ∷ words) ≡ line_with_letter p letter prefix words
arguments_read p letter prefix words fits =
    ap (λ (bytes : List ℕ). line_with_letter p letter (digits_value 10 bytes) (behind_byte 32 (decimal prefix ++ 32 ∷ words))) (before_cut 32 (decimal prefix) words (decimal_lacks_space prefix fits) refl)
    ∙ ap (λ (n : ℕ). line_with_letter p letter n (behind_byte 32 (decimal prefix ++ 32 ∷ words))) (number_read prefix fits)
    ∙ ap (λ (bytes : List ℕ). line_with_letter p letter prefix bytes) (behind_cut 32 (decimal prefix) words (decimal_lacks_space prefix fits) refl)

-- a number alone
number_alone : (prefix : ℕ) → prefix < 2 ^ 64 → digits_value 10 (before_byte 32 (decimal prefix)) ≡ prefix
number_alone prefix fits = ap (λ (bytes : List ℕ). digits_value 10 bytes) (before_none 32 (decimal prefix) (decimal_lacks_space prefix fits)) ∙ number_read prefix fits

command_read : (mode : Mode) (partitions : ℕ) (line : Line) → IsLine mode partitions line → line_with_command (partition_of line) (command_text line) ≡ line
command_read mode partitions (Put p prefix key value) valid =
    arguments_read p.0 112 prefix (text_of key ++ 32 ∷ text_of value) valid.1
    ∙ ap (λ (bytes : List ℕ). Put p prefix (bytes_of bytes) (bytes_of (behind_byte 32 (text_of key ++ 32 ∷ text_of value)))) (before_cut 32 (text_of key) (text_of value) (text_lacks_space key) refl)
    ∙ ap (λ (bytes : List ℕ). Put p prefix bytes (bytes_of (behind_byte 32 (text_of key ++ 32 ∷ text_of value)))) (bytes_of-text_of key valid.2.each)
    ∙ ap (λ (bytes : List ℕ). Put p prefix key (bytes_of bytes)) (behind_cut 32 (text_of key) (text_of value) (text_lacks_space key) refl)
    ∙ ap (λ (bytes : List ℕ). Put p prefix key bytes) (bytes_of-text_of value valid.3.each)
command_read mode partitions (Remove p prefix key) valid =
    arguments_read p.0 114 prefix (text_of key) valid.1 ∙ ap (λ (bytes : List ℕ). Remove p prefix bytes) (bytes_of-text_of key valid.2.each)
command_read mode partitions (Clear p prefix) valid = ap (λ (n : ℕ). Clear p n) (number_alone prefix valid.1)
command_read mode partitions (Get p prefix key) valid =
    arguments_read p.0 103 prefix (text_of key) valid.1 ∙ ap (λ (bytes : List ℕ). Get p prefix bytes) (bytes_of-text_of key valid.2.each)
command_read mode partitions (Sync p) valid = refl

-- the text of a line is read as that line
pub line_from-line_text : (mode : Mode) (partitions : ℕ) (line : Line) → partitions ≤ 2 ^ 64 → IsLine mode partitions line → line_from (line_text line) ≡ line
unfolding line_from
line_from-line_text mode partitions line few valid =
    let p : ℕ = partition_of line in
    let command : List ℕ = command_text line in
    let fits : p < 2 ^ 64 = omega (arith, IsLine-partition mode partitions line valid) in
    ap line_from (line_text-split line)
    ∙ ap (λ (bytes : List ℕ). line_with_command (digits_value 10 bytes) (behind_byte 32 (decimal p ++ 32 ∷ command))) (before_cut 32 (decimal p) command (decimal_lacks_space p fits) refl)
    ∙ ap (λ (n : ℕ). line_with_command n (behind_byte 32 (decimal p ++ 32 ∷ command))) (number_read p fits)
    ∙ ap (λ (bytes : List ℕ). line_with_command p bytes) (behind_cut 32 (decimal p) command (decimal_lacks_space p fits) refl)
    ∙ command_read mode partitions line valid

-- ---- lines

lines_from : (mode : Mode) (partitions : ℕ) (lines : List Line) → partitions ≤ 2 ^ 64 → All (IsLine mode partitions) lines → map line_from (map line_text lines) ≡ lines
lines_from mode partitions [] few valid = refl
lines_from mode partitions (line ∷ lines) few valid =
    ap (λ (first : Line). first ∷ map line_from (map line_text lines)) (line_from-line_text mode partitions line few (All-head (IsLine mode partitions) line lines valid))
    ∙ ap (λ (rest : List Line). line ∷ rest) (lines_from mode partitions lines few (All-tail (IsLine mode partitions) line lines valid))

-- the lines of a script are what its bytes are read as
pub script_lines-one : (mode : Mode) (partitions : ℕ) (bytes : List ℕ) (lines : List Line) → partitions ≤ 2 ^ 64 → IsScript mode partitions bytes lines → script_lines bytes ≡ lines
unfolding script_lines
script_lines-one mode partitions bytes lines few reads =
    ap (map line_from) reads.text ∙ lines_from mode partitions lines few reads.valid

-- so its bytes are read as a script
pub script_lines-read : (mode : Mode) (partitions : ℕ) (bytes : List ℕ) (lines : List Line) → partitions ≤ 2 ^ 64 → IsScript mode partitions bytes lines → IsScript mode partitions bytes (script_lines bytes)
script_lines-read mode partitions bytes lines few reads =
    subst (IsScript mode partitions bytes) (sym (script_lines-one mode partitions bytes lines few reads)) reads

-- no bytes are read as no lines
pub script_lines-none : (bytes : List ℕ) → bytes ≡ [] → script_lines bytes ≡ []
unfolding script_lines
script_lines-none bytes none = ap script_lines none

-- the first line and the others, where the first text is a line's
pub script_lines-first : (mode : Mode) (partitions : ℕ) (bytes text after : List ℕ) (line : Line) → partitions ≤ 2 ^ 64 → IsLine mode partitions line → line_texts bytes ≡ text ∷ line_texts after → text ≡ line_text line
    → script_lines bytes ≡ line ∷ script_lines after
unfolding script_lines
script_lines-first mode partitions bytes text after line few valid split spelled =
    ap (map line_from) split ∙ ap (λ (first : Line). first ∷ map line_from (line_texts after)) (ap line_from spelled ∙ line_from-line_text mode partitions line few valid)

-- the first text of a script is that of a line
pub first_is_line : (mode : Mode) (partitions : ℕ) (bytes text after : List ℕ) (lines : List Line) → IsScript mode partitions bytes lines → line_texts bytes ≡ text ∷ line_texts after
    → (line : Line) × IsLine mode partitions line × (text ≡ line_text line)
first_is_line mode partitions bytes text after [] reads split = absurd (let e : text ∷ line_texts after ≡ [] = sym split ∙ reads.text in cc)
first_is_line mode partitions bytes text after (line ∷ lines) reads split =
    let e : text ∷ line_texts after ≡ line_text line ∷ map line_text lines = sym split ∙ reads.text in
    (line, All-head (IsLine mode partitions) line lines reads.valid, cc)

-- and what is behind it is the script of the others
pub rest_is_script : (mode : Mode) (partitions : ℕ) (bytes text after : List ℕ) (lines : List Line) → partitions ≤ 2 ^ 64 → IsScript mode partitions bytes lines → line_texts bytes ≡ text ∷ line_texts after
    → IsScript mode partitions after (script_lines after)
rest_is_script mode partitions bytes text after [] few reads split = absurd (let e : text ∷ line_texts after ≡ [] = sym split ∙ reads.text in cc)
rest_is_script mode partitions bytes text after (line ∷ lines) few reads split =
    let e : text ∷ line_texts after ≡ line_text line ∷ map line_text lines = sym split ∙ reads.text in
    let rest : line_texts after ≡ map line_text lines = cc in
    script_lines-read mode partitions after lines few (record { valid = All-tail (IsLine mode partitions) line lines reads.valid; text = rest })
