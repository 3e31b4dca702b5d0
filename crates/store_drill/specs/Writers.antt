-- The writers of a session, one for each partition, as contracts see them.
use Rattle.std.specs.Prelude.{◌≡◌, ℕ, ◌≤◌, false, List, sum_by, Option, Some, None, slice_get}
use Rattle.std.specs.Option.{option_map}
use Rattle.hr_base.specs.Entries.{Entries}
use Rattle.hr_base.specs.declared.limits.Limits.{Limits}
use Rattle.hr_base.specs.declared.limits.TheConstants.{CHUNK_NO_END, SEQ_END}
use Rattle.hr_base.specs.declared.name.ChunkName.{ChunkName}
use Rattle.dir_files.specs.Files.{FileState, Files}
use Rattle.crash_law.specs.Accounts.{Account}
use Rattle.writer_files.specs.Stocks.{files_of, taking_in}
use Rattle.partition_writer.specs.Standing.{Standing, Beginning, Stands}
use Rattle.restart_load.specs.Writers.{EachIs, HasLimits}
use Rattle.store_drill.specs.Numbers.{Numbers, SessionStart, numbers_at}

-- ---- all writers

-- each writer is as it is said of its partition, of what that has, and of it
abbrev pub EachFits : {A : Type 0} → (ℕ → A → Standing → Type 0) → List Standing → (ℕ → A) → Type 0
EachFits says writers values = (p : ℕ) (s : Standing) → slice_get writers p ≡ Some s → says p (values p) s

-- how often the disk failed at their ports
abbrev pub faults_of : List Standing → ℕ
faults_of writers = sum_by (λ s. s.faults) writers

-- ---- what is said of a writer

abbrev pub HasNumber : ℕ → ℕ → Standing → Type 0
HasNumber p number s = s.partition.0 ≡ number

abbrev pub HasMaps : ℕ → Entries → Standing → Type 0
HasMaps p maps s = s.maps ≡ maps

-- what the next record of a writer is numbered by
abbrev pub numbers_of : Standing → Numbers
numbers_of s = record { next = s.next; next_chunk = s.next_chunk; sizes = λ class. option_map (λ chunk. chunk.size) (taking_in s.stock class) }

abbrev pub HasNumbers : ℕ → Numbers → Standing → Type 0
HasNumbers p numbers s = numbers_of s ≡ numbers

-- the writers have these limits, maps and numbers
pub record HaveStart (limits : Limits) (writers : List Standing) (start : SessionStart) : Type 0 where
  pub limited : EachIs (HasLimits limits) writers
  pub maps : EachFits HasMaps writers start.maps
  pub numbers : EachFits HasNumbers writers (numbers_at start)

-- it stands for the account since its partition began so
abbrev pub StandsAt : (ℕ → Beginning) → ℕ → Account → Standing → Type 0
StandsAt begins p a s = Stands s (begins p) a

-- its files are of its own partition
abbrev pub OwnsFiles : Standing → Type 0
OwnsFiles s = (name : ChunkName) (file : FileState) → files_of s.stock name ≡ Some file → name.partition.0 ≡ s.partition.0

-- it has no file under a name that is held elsewhere
abbrev pub IsApart : Files → Standing → Type 0
IsApart held s = (name : ChunkName) (file : FileState) → files_of s.stock name ≡ Some file → held name ≡ None

-- the disk refused it no call
abbrev pub IsRunning : Standing → Type 0
IsRunning s = s.halted ≡ None

-- no record of its own lacks bytes
abbrev pub LostNothing : Standing → Type 0
LostNothing s = s.lost ≡ false

-- the disk refused it no call, so that no record of its own lacks bytes
pub record Runs (s : Standing) : Type 0 where
  pub running : s.halted ≡ None
  pub whole : s.lost ≡ false

-- no number that none can have was used up
pub record AreLimited (n : Numbers) : Type 0 where
  pub next : n.next ≤ SEQ_END
  pub next_chunk : n.next_chunk ≤ CHUNK_NO_END

abbrev pub IsLimited : Standing → Type 0
IsLimited s = AreLimited (numbers_of s)

-- ---- their files

abbrev pub files_in : Option Standing → ChunkName → Option FileState
files_in None name = None
files_in (Some s) name = files_of s.stock name

-- the file of this name, which its partition's writer has
abbrev pub files_at : List Standing → ChunkName → Option FileState
files_at writers name = files_in (slice_get writers name.partition.0) name
