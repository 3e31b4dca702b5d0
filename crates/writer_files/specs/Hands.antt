-- The chunks that a writer has in hand: those that take records, one of each class at most, and full ones.
use Rattle.std.specs.Prelude.{◌≡◌, ℕ, Bool, true, false, List, [], ◌∷◌, ◌++◌, ⊤, Option, None, Some, option_to_list, IfSome, length, if◌then◌else◌}
use Rattle.hr_base.specs.declared.name.Class.{Class}
use Rattle.hr_base.specs.declared.name.Class.TheVariants.{Value, Tomb, Clear}
use Rattle.hr_base.specs.declared.name.ChunkName.{ChunkName}
use Rattle.hr_base.specs.Names.{class_of_kind}
use Rattle.hr_base.specs.NameTests.{is_name}
use Rattle.dir_files.specs.Files.{FileState, IsFile}
use Rattle.dir_files.specs.Ports.{Port, can_be_fixed}
use Rattle.value_chunk.specs.Chunks.{Chunk, fits}

-- ---- those that take records

pub record Takings : Type 0 where
  pub values : Option Chunk
  pub tombs : Option Chunk
  pub clears : Option Chunk

abbrev pub no_takings : Takings
no_takings = record { values = None; tombs = None; clears = None }

abbrev pub of_class : Takings → Class → Option Chunk
of_class takings Value = takings.values
of_class takings Tomb = takings.tombs
of_class takings Clear = takings.clears

-- with another one of this class
abbrev pub with_class : Takings → Class → Option Chunk → Takings
with_class takings Value chunk = record { values = chunk; tombs = takings.tombs; clears = takings.clears }
with_class takings Tomb chunk = record { values = takings.values; tombs = chunk; clears = takings.clears }
with_class takings Clear chunk = record { values = takings.values; tombs = takings.tombs; clears = chunk }

abbrev pub taking_list : Takings → List Chunk
taking_list takings = option_to_list takings.values ++ (option_to_list takings.tombs ++ option_to_list takings.clears)

-- the chunk's name is of the class
abbrev pub IsOf : Class → Option Chunk → Type 0
IsOf class taking = IfSome taking (λ chunk. class_of_kind chunk.name.kind ≡ class)

-- each is of its class
pub record HasClasses (takings : Takings) : Type 0 where
  pub values : IsOf Value takings.values
  pub tombs : IsOf Tomb takings.tombs
  pub clears : IsOf Clear takings.clears

-- some chunk takes records, and so many more bytes keep this limit there
abbrev pub taking_fits : Option Chunk → ℕ → ℕ → Bool
taking_fits None len limit = false
taking_fits (Some chunk) len limit = fits chunk.size len limit

-- ---- files of chunks

-- the file of the first chunk of this name
abbrev pub file_among : List Chunk → ChunkName → Option FileState
file_among [] name = None
file_among (chunk ∷ rest) name = if is_name chunk.name name then Some chunk.file else file_among rest name

-- no two chunks share a name
abbrev pub AreOnce : List Chunk → Type 0
AreOnce [] = ⊤
AreOnce (chunk ∷ rest) = (file_among rest chunk.name ≡ None) × AreOnce rest

-- A chunk whose file was created at the port and is out: a crash keeps of it what is there, and all of it where no bytes
-- are unsynced; no other file lies there under its name, and a directory sync fixes the name, or has.
pub record IsOut (port : Port) (chunk : Chunk) : Type 0 where
  pub file : IsFile chunk.file
  pub synced : chunk.unsynced ≡ false → chunk.file.front ≡ length chunk.file.bytes
  pub lent : port.lent chunk.name ≡ true
  pub held : port.held chunk.name ≡ None
  pub fixable : can_be_fixed port chunk.name ≡ true

abbrev pub AreOut : Port → List Chunk → Type 0
AreOut port [] = ⊤
AreOut port (chunk ∷ rest) = IsOut port chunk × AreOut port rest
