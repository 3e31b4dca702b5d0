-- What the reading of one line goes by: its fields, and the byte that parts two of them.
use Rattle.std.specs.Prelude.{◌≡◌, ◌≢◌, ℕ, ◌+◌, ◌*◌, ◌-◌, ◌<◌, ◌≤◌, ◌^◌, ◌==◌, nat_lt, List, [], ◌∷◌, ◌++◌, All, codes, decimal, length, if◌then◌else◌}
use Rattle.hr_base.specs.declared.limits.TheConstants.{MAX_KEY_LEN, MAX_VALUE_LEN}
use Rattle.script_text.specs.declared.line.Line.{Line}
use Rattle.script_text.specs.declared.line.Line.TheVariants.{Put, Remove, Clear, Get, Sync}
use Rattle.script_text.specs.declared.text.Word.{Word}
use Rattle.script_text.specs.declared.read.BorrowedLine.{BorrowedLine}
use Rattle.script_text.specs.declared.read.BorrowedLine.TheVariants as borrowed
use Rattle.script_text.specs.Texts.{IsByteString, byte_text, text_of}

-- the bytes are cut at the first place of a byte, which neither part keeps
pub record IsCut (byte : ℕ) (bytes front back : List ℕ) : Type 0 where
  pub joined : bytes ≡ front ++ byte ∷ back
  pub lacking : All (λ b. b ≢ byte) front

-- the value of an upper-case hexadecimal digit
abbrev pub upper_digit_value : ℕ → ℕ
upper_digit_value c = if nat_lt c 58 then c - 48 else c - 55

-- the bytes that a text stands for
abbrev pub bytes_of : List ℕ → List ℕ
bytes_of [] = []
bytes_of (a ∷ []) = if a == 37 then [] else a ∷ []
bytes_of (a ∷ b ∷ []) = a ∷ bytes_of (b ∷ [])
bytes_of (a ∷ b ∷ c ∷ rest) = if a == 37 then (upper_digit_value b * 16 + upper_digit_value c) ∷ bytes_of rest else a ∷ bytes_of (b ∷ c ∷ rest)

-- the bytes that a key or a value in a line stands for
abbrev pub word_bytes : Word → List ℕ
word_bytes word = bytes_of word.text.now

-- a key or a value in a line: the text of its bytes, and the count of these
pub record IsWord (word : Word) : Type 0 where
  pub each : All (λ b. b < 256) (word_bytes word)
  pub spelled : word.text.now ≡ text_of (word_bytes word)
  pub counted : word.length ≡ length (word_bytes word)

-- the front of a text that stands for one byte, and the rest of it
pub record IsByteAndRest (text : List ℕ) (byte : ℕ) (rest : List ℕ) : Type 0 where
  pub small : byte < 256
  pub spelled : text ≡ byte_text byte ++ rest
  pub shorter : length rest < length text

-- the text of a put's prefix, key and value
pub record IsPutText (bytes : List ℕ) (prefix : ℕ) (key value : List ℕ) : Type 0 where
  pub fits : prefix < 2 ^ 64
  pub key_kept : IsByteString MAX_KEY_LEN key
  pub value_kept : IsByteString MAX_VALUE_LEN value
  pub text : bytes ≡ decimal prefix ++ 32 ∷ (text_of key ++ 32 ∷ text_of value)

-- the text of a prefix and a key
pub record IsKeyText (bytes : List ℕ) (prefix : ℕ) (key : List ℕ) : Type 0 where
  pub fits : prefix < 2 ^ 64
  pub key_kept : IsByteString MAX_KEY_LEN key
  pub text : bytes ≡ decimal prefix ++ 32 ∷ text_of key

-- the line whose key and value were borrowed
abbrev pub line_of : BorrowedLine → Line
line_of (borrowed.Put p prefix key value) = Put p prefix (word_bytes key) (word_bytes value)
line_of (borrowed.Remove p prefix key) = Remove p prefix (word_bytes key)
line_of (borrowed.Clear p prefix) = Clear p prefix
line_of (borrowed.Get p prefix key) = Get p prefix (word_bytes key)
line_of (borrowed.Sync p) = Sync p

-- what the line borrows are a key and a value
abbrev pub HasWords : BorrowedLine → Type 0
HasWords (borrowed.Put p prefix key value) = IsWord key × IsWord value
HasWords (borrowed.Remove p prefix key) = IsWord key
HasWords (borrowed.Clear p prefix) = Unit {0}
HasWords (borrowed.Get p prefix key) = IsWord key
HasWords (borrowed.Sync p) = Unit {0}

-- the bytes are the text of a line behind its partition and the space after it
abbrev pub IsCommandText : List ℕ → Line → Type 0
IsCommandText bytes (Put p prefix key value) = (arguments : List ℕ) × (bytes ≡ codes "put " ++ arguments) × IsPutText arguments prefix key value
IsCommandText bytes (Remove p prefix key) = (arguments : List ℕ) × (bytes ≡ codes "remove " ++ arguments) × IsKeyText arguments prefix key
IsCommandText bytes (Clear p prefix) = (arguments : List ℕ) × (bytes ≡ codes "clear " ++ arguments) × (prefix < 2 ^ 64) × (arguments ≡ decimal prefix)
IsCommandText bytes (Get p prefix key) = (arguments : List ℕ) × (bytes ≡ codes "get " ++ arguments) × IsKeyText arguments prefix key
IsCommandText bytes (Sync p) = bytes ≡ codes "sync"

-- what the line borrows is no longer than a key and a value may be
abbrev pub KeepsLengths : BorrowedLine → Type 0
KeepsLengths (borrowed.Put p prefix key value) = (length (word_bytes key) ≤ MAX_KEY_LEN) × (length (word_bytes value) ≤ MAX_VALUE_LEN)
KeepsLengths (borrowed.Remove p prefix key) = length (word_bytes key) ≤ MAX_KEY_LEN
KeepsLengths (borrowed.Clear p prefix) = Unit {0}
KeepsLengths (borrowed.Get p prefix key) = length (word_bytes key) ≤ MAX_KEY_LEN
KeepsLengths (borrowed.Sync p) = Unit {0}
