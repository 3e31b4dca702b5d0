-- What a session finds in a folder, what it writes, and what it leaves there.
use Rattle.std.specs.Prelude.{◌≡◌, ◌⊎◌, ℕ, ◌+◌, ◌<◌, ◌≤◌, Bool, true, List, length, take, Option, ⊤}
use Rattle.hr_base.specs.declared.limits.Limits.{Limits}
use Rattle.hr_base.specs.Entries.{Entries}
use Rattle.hr_edges.specs.Edges.{TakesAll, TakesAtLeast}
use Rattle.hr_edges.specs.declared.sink.Sink.{Ghosts as SinkGhosts}
use Rattle.dir_files.specs.declared.folder.Folder.{Ghosts as FolderGhosts}
use Rattle.dir_files.specs.Images.{Image, KeepsImages, read_of}
use Rattle.dir_files.specs.Ports.{Port}
use Rattle.crash_law.specs.Accounts.{fresh_account}
use Rattle.crash_law.specs.Crashes.{AllSurvive}
use Rattle.crash_law.specs.Restarts.{AllRestart, Fact}
use Rattle.record_replay.specs.Replays.{IsNext}
use Rattle.script_text.specs.declared.line.Line.{Line}
use Rattle.script_text.specs.Replies.{replies}
use Rattle.restart_load.specs.Refusals.{IsPrintable, IsRefusedFor, SpeaksOfContent}
use Rattle.restart_load.specs.Writers.{IsNextChunk}
use Rattle.restart_load.specs.declared.refusal.RestartRefusal.{RestartRefusal}
use Rattle.restart_load.specs.declared.ended.Ended.{Ended}
use Rattle.restart_load.specs.declared.ended.Ended.TheVariants.{Whole, Sink, Disk, Memory, Load, Spent}
use Rattle.store_drill.specs.Accounts.{accounts_at}
use Rattle.store_drill.specs.Numbers.{IsEnd, SpendsAt, SessionStart}

-- ---- the outside of a session

-- A folder with its count of faults, and what a sink has taken, where it tells that.
pub record Outside : Type 0 where
  pub port : Port
  pub faults : ℕ
  pub taken : Option (List ℕ)

abbrev pub outside : {F File K : Type 0} → FolderGhosts F File → SinkGhosts K → F → K → Outside
outside folder sink f k = record { port = folder.port f; faults = folder.count f; taken = sink.taken k }

-- ---- what it begins with

-- The image restarts, each of so many partitions to its maps. Its first number is the least one above those of all its
-- records, and its first chunk has the least one above those of its chunks that a writer began.
pub record IsStart (image : Image) (partitions : ℕ) (start : SessionStart) : Type 0 where
  pub maps : AllRestart image partitions start.maps
  pub next : (p : ℕ) → p < partitions → IsNext (Fact image p) (start.next p)
  pub next_chunk : (p : ℕ) → p < partitions → IsNextChunk image p (start.next_chunk p)

-- ---- what it writes

-- What was written in a session that ended so, over the maps that each partition began with: the replies to the lines
-- that were answered. Where the sink failed, it took all but the last one, and a front of that; where there was no memory
-- for the last one, it is missing. So many replies were written whole.
abbrev pub TextAt : Ended → List Line → ℕ → ℕ → (ℕ → Entries) → Option (List ℕ) → Option (List ℕ) → Type 0
TextAt Whole lines count replied maps old new = TakesAll old new (replies lines maps)
TextAt Disk lines count replied maps old new = (replied ≡ count) × TakesAll old new (replies (take count lines) maps)
TextAt (Spent next) lines count replied maps old new = (replied ≡ count) × TakesAll old new (replies (take count lines) maps)
TextAt Sink lines count replied maps old new = (count ≡ replied + 1) × TakesAtLeast (length (replies (take replied lines) maps)) old new (replies (take count lines) maps)
TextAt Memory lines count replied maps old new = (replied ≤ count) × (count ≤ replied + 1) × TakesAll old new (replies (take replied lines) maps)
TextAt (Load refusal) lines count replied maps old new = ⊥

-- ---- what it leaves

-- the end of a session whose folder was not restarted
abbrev pub IsRefusal : Ended → Type 0
IsRefusal Memory = ⊤
IsRefusal Disk = ⊤
IsRefusal (Load refusal) = SpeaksOfContent refusal × IsPrintable refusal
IsRefusal Whole = ⊥
IsRefusal Sink = ⊥
IsRefusal (Spent next) = ⊥

-- The folder was not restarted: nothing was written, all files are read as before, and every crash leaves what it might
-- have left before. Where that is for the folder's content, the first thing that is wrong with it is told.
pub record NotBegun (tells : Bool) (partitions : ℕ) (old new : Outside) (ended : Ended) : Type 0 where
  pub refusal : IsRefusal ended
  pub silent : new.taken ≡ old.taken
  pub content : tells ≡ true → (refusal : RestartRefusal) → ended ≡ Load refusal → IsRefusedFor (read_of old.port) partitions refusal
  pub images : tells ≡ true → KeepsImages old.port new.port

-- The folder was restarted with so many partitions, and the session began with its lines.
pub record Session (tells : Bool) (limits : Limits) (lines : List Line) (old new : Outside) (ended : Ended) : Type 0 where
  -- what each partition began with, which is what the folder restarts to
  pub start : SessionStart
  pub started : tells ≡ true → IsStart (read_of old.port) limits.partitions start
  -- so many lines were answered, all of them where it was done to its end
  pub count : ℕ
  pub within : count ≤ length lines
  pub all : ended ≡ Whole → count ≡ length lines
  -- the replies that were written, so many of them whole
  pub replied : ℕ
  pub text : TextAt ended lines count replied start.maps old.taken new.taken
  -- no answered line needed a number that none can have, and want of one ended it exactly where the next line needs it
  pub spends : SpendsAt limits lines count replied start ended
  pub number : tells ≡ true → (next : ℕ) → ended ≡ Spent next → IsEnd next
  -- every crash leaves each key of each partition its state after a number of its own commands, which holds all that was
  -- synced
  pub survives : tells ≡ true → AllSurvive new.port.held new.port.gone limits.partitions (accounts_at ended lines count (λ p. fresh_account (start.maps p)))
  -- and unless the disk refused a call, what is read without a crash restarts to exactly the accounts' maps
  pub exact : tells ≡ true → (ended ≡ Disk → ⊥) → AllRestart (read_of new.port) limits.partitions (λ p. (accounts_at ended lines count (λ p. fresh_account (start.maps p)) p).maps)

-- its folder was not restarted, or it began
abbrev pub Ran : Bool → Limits → List Line → Outside → Outside → Ended → Type 0
Ran tells limits lines old new ended = NotBegun tells limits.partitions old new ended ⊎ Session tells limits lines old new ended
