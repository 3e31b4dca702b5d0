-- What the program did.
use Rattle.std.specs.Prelude.{◌≡◌, ◌⊎◌, ℕ, ◌<◌, ◌++◌, Bool, true, List, take, Option, None, Some, ⊤}
use Rattle.hr_base.specs.Counts.{Rose}
use Rattle.hr_base.specs.declared.limits.Limits.{Limits}
use Rattle.hr_base.specs.Entries.{Entries}
use Rattle.hr_edges.specs.Edges.{IsRead, TakesAll}
use Rattle.hr_edges.specs.declared.sink.Sink.{Ghosts as SinkGhosts}
use Rattle.hr_edges.specs.declared.source.Source.{Ghosts as SourceGhosts}
use Rattle.dir_files.specs.Images.{Image}
use Rattle.dir_files.specs.PortStates.{IsCalm}
use Rattle.dir_files.specs.declared.folder.Folder.{Ghosts as FolderGhosts}
use Rattle.crash_law.specs.Restarts.{AllRestart, IsRestartable}
use Rattle.script_text.specs.declared.line.Line.{Line}
use Rattle.script_text.specs.Dumps.{dump_lines}
use Rattle.script_text.specs.Replies.{replies}
use Rattle.command_words.specs.Words.{IsCommand}
use Rattle.command_words.specs.declared.read.Command.{Command}
use Rattle.command_words.specs.declared.read.Command.TheVariants.{Play, Dump}
use Rattle.restart_load.specs.Refusals.{IsRefusedFor, SpeaksOfContent}
use Rattle.restart_load.specs.declared.refusal.RestartRefusal.{RestartRefusal}
use Rattle.restart_load.specs.declared.ended.Ended.{Ended as SessionEnd}
use Rattle.restart_load.specs.declared.ended.Ended.TheVariants.{Disk, Load, Memory, Spent}
use Rattle.store_drill.specs.Dumping.{Wrote, flat}
use Rattle.store_drill.specs.Numbers.{IsEnd, IsSpentAt, SessionStart}
use Rattle.store_drill.specs.Sessions.{IsStart, Outside, Ran, outside}
use Rattle.store_serve.specs.declared.outcome.Outcome.{Outcome}
use Rattle.store_serve.specs.declared.outcome.Outcome.TheVariants.{Words, TooLong, BadLine, Ended}
use Rattle.store_serve.specs.Outcome.{Tells, last_line}
use Rattle.store_serve.specs.Scripts.{IsBadAt, IsFit, IsRefusedScript, IsScriptOf, IsTooLong}

-- ---- the world of the program

-- A folder with its count of faults, what a sink has taken, and the bytes that a source has left, where they tell it.
pub record World : Type 0 where
  pub outside : Outside
  pub left : Option (List ℕ)

abbrev pub world : {F File S K : Type 0} → FolderGhosts F File → SourceGhosts S → SinkGhosts K → F → S → K → World
world folder source sink f s k = record { outside = outside folder sink f k; left = source.left s }

-- the world where the sink has taken this
abbrev pub with_taken : World → Option (List ℕ) → World
with_taken w taken = record w { outside = record w.outside { taken = taken } }

-- ---- what the words mean

-- the words mean no command
abbrev pub IsNoCommand : List (List ℕ) → Type 0
IsNoCommand words = (command : Command) → IsCommand words command → ⊥

-- the words mean a command for which this holds
pub record Means (words : List (List ℕ)) (Holds : Command → Type 0) : Type 0 where
  pub command : Command
  pub meaning : IsCommand words command
  pub holds : Holds command

-- why no command was read
abbrev pub IsRefusedWords : List (List ℕ) → Outcome → Type 0
IsRefusedWords words Words = IsNoCommand words
IsRefusedWords words (Ended Memory) = ⊤
IsRefusedWords words outcome = ⊥

-- ---- what a command came to

-- The script was refused before its session: the folder and the sink are as they were.
pub record NotPlayed (partitions : ℕ) (before mid : World) (outcome : Outcome) : Type 0 where
  pub why : IsRefusedScript partitions before.left mid.left outcome
  pub same : mid.outside ≡ before.outside

-- The source was read to its end, it was the script of some lines, and the session ran over these.
pub record RanScript (tells : Bool) (limits : Limits) (before mid : World) (ended : SessionEnd) : Type 0 where
  pub lines : List Line
  pub script : IsScriptOf limits.partitions before.left lines
  pub read : IsRead before.left mid.left
  pub ran : Ran tells limits lines before.outside mid.outside ended

-- so an outcome of a session came about
abbrev pub RanTo : Bool → Limits → World → World → Outcome → Type 0
RanTo tells limits before mid (Ended ended) = RanScript tells limits before mid ended
RanTo tells limits before mid outcome = ⊥

-- so one of a dump did, with no call of the source
abbrev pub DumpedTo : Bool → ℕ → World → World → Outcome → Type 0
DumpedTo tells partitions before mid (Ended ended) = Wrote tells partitions before.outside mid.outside ended × (mid.left ≡ before.left)
DumpedTo tells partitions before mid outcome = ⊥

-- what a command came to before the last line
abbrev pub CameTo : Bool → Command → World → World → Outcome → Type 0
CameTo tells (Play limits) before mid outcome = NotPlayed limits.partitions before mid outcome ⊎ RanTo tells limits before mid outcome
CameTo tells (Dump limits) before mid outcome = DumpedTo tells limits.partitions before mid outcome

-- Why the program came to this, and what it left before the last line: no command was read, and all is as it was; or
-- one was, and came to this.
abbrev pub Because : Bool → List (List ℕ) → World → World → Outcome → Type 0
Because tells words before mid outcome =
    (IsRefusedWords words outcome × (mid ≡ before)) ⊎ Means words (λ command. CameTo tells command before mid outcome)

-- What the program did.
pub record Served (tells : Bool) (words : List (List ℕ)) (before after : World) (status : ℕ) : Type 0 where
  -- what it came to
  pub outcome : Outcome
  -- what the sink had taken before the last line, which changed nothing else
  pub mid : Option (List ℕ)
  -- why it came to this, what was replied until then, and what every crash leaves
  pub because : Because tells words before (with_taken after mid) outcome
  -- the disk refused a call only where the folder's count of faults rose
  pub disk : outcome ≡ Ended Disk → Rose before.outside.faults after.outside.faults
  -- no handle is out, and none came back that was given out elsewhere
  pub calm : tells ≡ true → IsCalm after.outside.port
  -- how the status and the last line tell the outcome
  pub told : Tells outcome status mid after.outside.taken

-- ---- what a status says

-- All lines of the script were done, and their replies were taken: those of a plain finite map for each partition, which
-- begins with what the folder restarts to. No line needed a number that none can have.
pub record WasPlayed (tells : Bool) (limits : Limits) (image : Image) (left before now : Option (List ℕ)) : Type 0 where
  pub lines : List Line
  pub script : IsScriptOf limits.partitions left lines
  pub start : SessionStart
  pub started : tells ≡ true → IsStart image limits.partitions start
  pub text : TakesAll before now (replies lines start.maps)
  pub unspent : (count next : ℕ) → ¬ IsSpentAt limits lines count start next

-- All entries of the maps that the folder restarts to were taken.
pub record WasDumped (tells : Bool) (partitions : ℕ) (image : Image) (before now : Option (List ℕ)) : Type 0 where
  pub maps : ℕ → Entries
  pub restarted : tells ≡ true → AllRestart image partitions maps
  pub text : TakesAll before now (flat (dump_lines partitions maps))

-- the command was done to its end
abbrev pub WasDone : Bool → Command → Image → Option (List ℕ) → Option (List ℕ) → Option (List ℕ) → Type 0
WasDone tells (Play limits) image left before now = WasPlayed tells limits image left before now
WasDone tells (Dump limits) image left before now = WasDumped tells limits.partitions image before now

-- The command's script was refused, and told so: as too long, or by the number of its first bad line.
abbrev pub WasRefused : Command → Option (List ℕ) → Option (List ℕ) → Option (List ℕ) → Option (List ℕ) → Type 0
WasRefused (Play limits) left rest before now =
    (IsTooLong left rest × TakesAll before now (last_line TooLong)) ⊎ ((number : ℕ) × IsBadAt limits.partitions left number × IsRead left rest × TakesAll before now (last_line (BadLine number)))
WasRefused (Dump limits) left rest before now = ⊥

-- how many partitions a command is for
abbrev pub partitions_of : Command → ℕ
partitions_of (Play limits) = limits.partitions
partitions_of (Dump limits) = limits.partitions

-- The folder does not restart with so many partitions, and the first thing that is wrong with it was told.
pub record WasUnloadable (partitions : ℕ) (image : Image) (before now : Option (List ℕ)) : Type 0 where
  pub refusal : RestartRefusal
  pub content : SpeaksOfContent refusal
  pub first : IsRefusedFor image partitions refusal
  pub text : TakesAll before now (last_line (Ended (Load refusal)))

-- Some lines of the script were answered, and the next one is the first that needs a number which none can have.
pub record WasSpent (limits : Limits) (image : Image) (left before now : Option (List ℕ)) : Type 0 where
  pub lines : List Line
  pub script : IsScriptOf limits.partitions left lines
  pub start : SessionStart
  pub started : IsStart image limits.partitions start
  pub count : ℕ
  pub next : ℕ
  pub spent : IsSpentAt limits lines count start next
  pub first : (earlier other : ℕ) → earlier < count → ¬ IsSpentAt limits lines earlier start other
  pub number : IsEnd next
  pub text : TakesAll before now (replies (take count lines) start.maps ++ last_line (Ended (Spent next)))

abbrev pub WasSpentBy : Command → Image → Option (List ℕ) → Option (List ℕ) → Option (List ℕ) → Type 0
WasSpentBy (Play limits) image left before now = WasSpent limits image left before now
WasSpentBy (Dump limits) image left before now = ⊥

-- no line of the script would need a number that none can have
abbrev pub NeverSpent : Limits → Image → Option (List ℕ) → Type 0
NeverSpent limits image left = (lines : List Line) (start : SessionStart) (count next : ℕ) → IsScriptOf limits.partitions left lines → IsStart image limits.partitions start
    → ¬ IsSpentAt limits lines count start next

-- The folder restarts, and some line of the script of these bytes needs a number that none can have.
pub record SpendsIn (limits : Limits) (image : Image) (bytes : List ℕ) : Type 0 where
  pub lines : List Line
  pub script : IsScriptOf limits.partitions (Some bytes) lines
  pub start : SessionStart
  pub started : IsStart image limits.partitions start
  pub count : ℕ
  pub next : ℕ
  pub spent : IsSpentAt limits lines count start next

-- and the source tells that these are its bytes
abbrev pub WillSpend : Limits → Image → Option (List ℕ) → Type 0
WillSpend limits image None = ⊥
WillSpend limits image (Some bytes) = SpendsIn limits image bytes

-- the command reads no script that has to be refused
abbrev pub ReadsNothingUnfit : Command → Option (List ℕ) → Type 0
ReadsNothingUnfit (Play limits) left = IsFit limits.partitions left
ReadsNothingUnfit (Dump limits) left = ⊤

-- nothing stands against the command: its script can be played, and needs no number that none can have, and the folder
-- restarts
abbrev pub CanBegin : Command → Image → Option (List ℕ) → Type 0
CanBegin (Play limits) image left = IsFit limits.partitions left × NeverSpent limits image left × IsRestartable image limits.partitions
CanBegin (Dump limits) image left = IsRestartable image limits.partitions
