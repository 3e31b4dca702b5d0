-- Files as contracts see them.
use Rattle.std.specs.Prelude.{◌≡◌, ◌≢◌, ℕ, ◌<◌, ◌≤◌, Bool, true, false, List, [], ◌++◌, length, take, drop, Option, None, Some, IsSomeAnd}
use Rattle.hr_base.specs.declared.name.ChunkName.{ChunkName}
pub use Rattle.hr_base.specs.Counts.{Rose}

-- A file without its name: its bytes, how many of them a crash keeps at least, and whether a crash keeps its name.
pub record FileState : Type 0 where
  pub bytes : List ℕ
  pub front : ℕ
  pub named : Bool

-- a look-up of files by name
abbrev pub Files : Type 0
Files = ChunkName → Option FileState

-- a set of names, as a test
abbrev pub Names : Type 0
Names = ChunkName → Bool

-- just created: empty, with a name that a crash may take away
abbrev pub new_file : FileState
new_file = record { bytes = []; front = 0; named = false }

-- with more bytes at its end
abbrev pub with_bytes : FileState → List ℕ → FileState
with_bytes file piece = record { bytes = file.bytes ++ piece; front = file.front; named = file.named }

-- after a file sync: a crash keeps all bytes
abbrev pub synced_file : FileState → FileState
synced_file file = record { bytes = file.bytes; front = length file.bytes; named = file.named }

-- after a directory sync: a crash keeps the name
abbrev pub named_file : FileState → FileState
named_file file = record { bytes = file.bytes; front = file.front; named = true }

-- what a crash keeps at least is there
abbrev pub IsFile : FileState → Type 0
IsFile file = file.front ≤ length file.bytes

-- a crash keeps all bytes of the file, and its name
pub record IsDurable (file : FileState) : Type 0 where
  pub front : file.front ≡ length file.bytes
  pub named : file.named ≡ true

-- a crash keeps of the file what it kept before, or more
pub record KeepsMore (old new : FileState) : Type 0 where
  pub bytes : new.bytes ≡ old.bytes
  pub front : old.front ≤ new.front
  pub named : old.named ≡ true → new.named ≡ true

-- no file comes or goes, and a crash keeps of one what it kept before, or more
abbrev pub Rises : Option FileState → Option FileState → Type 0
Rises None new = new ≡ None
Rises (Some old) new = IsSomeAnd new (KeepsMore old)

-- the look-ups answer alike, but at this name
pub record ChangesAt {A : Type 0} (old new : ChunkName → A) (name : ChunkName) (value : A) : Type 0 where
  pub at : new name ≡ value
  pub others : (other : ChunkName) → other ≢ name → new other ≡ old other

-- the look-ups answer alike
abbrev pub SameAt : {A : Type 0} → (ChunkName → A) → (ChunkName → A) → Type 0
SameAt old new = (name : ChunkName) → new name ≡ old name

-- so many bytes, from this offset on, stand at the front of the buffer; there are none only where the file has no byte
-- there, or the buffer is empty
pub record IsReadAt (bytes : List ℕ) (at : ℕ) (into : List ℕ) (count : ℕ) : Type 0 where
  pub within : count ≤ length (drop at bytes)
  pub given : take count into ≡ take count (drop at bytes)
  pub end : count ≡ 0 → 0 < length into → length bytes ≤ at
