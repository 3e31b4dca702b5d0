-- A stock: the chunks that a writer has in hand, and the port that they go through.
use Rattle.std.specs.Prelude.{◌≡◌, ℕ, Bool, true, false, ◌||◌, List, [], ◌++◌, All, Option, Some, None, is_some, IfSome, length}
use Rattle.hr_base.specs.declared.name.Class.{Class}
use Rattle.hr_base.specs.declared.name.ChunkName.{ChunkName}
use Rattle.hr_base.specs.Names.{class_of_kind}
use Rattle.hr_base.specs.NameTests.{is_name}
use Rattle.dir_files.specs.Files.{FileState, Files, Names, IsDurable}
use Rattle.dir_files.specs.Ports.{Port, either_file}
use Rattle.value_chunk.specs.Chunks.{Chunk}
use Rattle.writer_files.specs.Hands.{Takings, no_takings, of_class, taking_list, taking_fits, file_among, AreOnce, AreOut}

pub record Stock : Type 0 where
  pub port : Port
  -- the chunks that take records
  pub taking : Takings
  -- those that take no more
  pub full : List Chunk
  -- a file was created since the last directory sync, or may have been
  pub fresh : Bool

-- the chunk that takes records of the class
abbrev pub taking_in : Stock → Class → Option Chunk
taking_in stock class = of_class stock.taking class

-- some chunk of the class takes records, and so many more bytes keep this limit there
abbrev pub takes : Stock → Class → ℕ → ℕ → Bool
takes stock class len limit = taking_fits (taking_in stock class) len limit

abbrev pub in_hand : Stock → List Chunk
in_hand stock = stock.full ++ taking_list stock.taking

-- the names of the chunks in hand
abbrev pub is_in_hand : Stock → ChunkName → Bool
is_in_hand stock name = is_some (file_among (in_hand stock) name)

-- all files, in hand or at the port, as one look-up
abbrev pub files_of : Stock → Files
files_of stock name = either_file (file_among (in_hand stock) name) (stock.port.held name)

-- What holds of each stock where the folder tells its content: the chunks in hand are out, each with a name of its own;
-- nothing at the port came from elsewhere or may come back, and no file there has bytes past its front; and all names
-- are durable unless a file was created since the last directory sync.
pub record IsStock (stock : Stock) : Type 0 where
  pub once : AreOnce (in_hand stock)
  pub out : AreOut stock.port (in_hand stock)
  pub foreign : (name : ChunkName) → stock.port.foreign name ≡ false
  pub gone : (name : ChunkName) → stock.port.gone name ≡ None
  pub front : (name : ChunkName) (file : FileState) → stock.port.held name ≡ Some file → file.front ≡ length file.bytes
  pub named : stock.fresh ≡ false → (name : ChunkName) (file : FileState) → files_of stock name ≡ Some file → file.named ≡ true

-- no name
abbrev pub no_names : Names
no_names name = false

-- no other name is lent at the port than those in hand and these
abbrev pub LendsBut : Names → Stock → Type 0
LendsBut names stock = (name : ChunkName) → stock.port.lent name ≡ true → (is_in_hand stock name || names name) ≡ true

-- the chunk that takes records of the class has this name
abbrev pub is_chunk_of : Option Chunk → ChunkName → Bool
is_chunk_of None name = false
is_chunk_of (Some chunk) name = is_name chunk.name name

-- the names of the chunks that take records
abbrev pub taking_of : Stock → ChunkName → Bool
taking_of stock name = is_chunk_of (taking_in stock (class_of_kind name.kind)) name

-- there is nothing to sync: no file was created since the last directory sync, and no chunk has unsynced bytes
pub record IsSynced (stock : Stock) : Type 0 where
  pub fresh : stock.fresh ≡ false
  pub synced : All (λ chunk. chunk.unsynced ≡ false) (in_hand stock)

-- and no full chunk waits
pub record IsSettled (stock : Stock) : Type 0 where
  pub synced : IsSynced stock
  pub full : stock.full ≡ []

-- no chunk is in hand
pub record HasNone (stock : Stock) : Type 0 where
  pub taking : stock.taking ≡ no_takings
  pub full : stock.full ≡ []

-- all files are durable
abbrev pub AllDurable : Files → Type 0
AllDurable files = (name : ChunkName) → IfSome (files name) IsDurable
