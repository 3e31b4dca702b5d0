-- What the program comes to, and what is told of it.
use Rattle.std.specs.Prelude.{◌≡◌, ◌⊎◌, ℕ, List, [], ◌++◌, Option, codes, decimal}
use Rattle.hr_base.specs.Names.{name_text}
use Rattle.hr_edges.specs.Edges.{TakesAll, TakesFront}
use Rattle.restart_load.specs.Refusals.{IsPrintable}
use Rattle.restart_load.specs.declared.refusal.RestartRefusal.{RestartRefusal}
use Rattle.restart_load.specs.declared.refusal.RestartRefusal.TheVariants as refusal
use Rattle.restart_load.specs.declared.ended.Ended.TheVariants.{Whole, Sink, Disk, Memory, Load, Spent}
use Rattle.store_serve.specs.declared.outcome.Outcome.{Outcome}
use Rattle.store_serve.specs.declared.outcome.Outcome.TheVariants.{Words, TooLong, BadLine, Input, Ended}

-- the status that the program ends with
abbrev pub status_of : Outcome → ℕ
status_of (Ended Whole) = 0
status_of Words = 1
status_of TooLong = 2
status_of (BadLine number) = 2
status_of Input = 3
status_of (Ended Sink) = 4
status_of (Ended Disk) = 5
status_of (Ended (Load refusal)) = 6
status_of (Ended Memory) = 7
status_of (Ended (Spent next)) = 8

-- the line that tells what is wrong with a folder
abbrev pub refusal_text : RestartRefusal → List ℕ
refusal_text (refusal.Partition name) = codes "refused partition " ++ name_text name ++ codes "\n"
refusal_text (refusal.TooLarge name) = codes "refused too-large " ++ name_text name ++ codes "\n"
refusal_text (refusal.Damaged name at) = codes "refused damaged " ++ name_text name ++ codes " " ++ decimal at ++ codes "\n"
refusal_text (refusal.Clash p seq) = codes "refused clash " ++ decimal p.0 ++ codes " " ++ decimal seq.0 ++ codes "\n"
refusal_text refusal.Memory = codes "refused memory\n"
refusal_text refusal.DiskFault = codes "refused disk\n"

-- the line that is written last
abbrev pub last_line : Outcome → List ℕ
last_line (Ended Whole) = []
last_line Words = []
last_line TooLong = codes "refused too long\n"
last_line (BadLine number) = codes "refused line " ++ decimal number ++ codes "\n"
last_line Input = codes "refused input\n"
last_line (Ended Sink) = []
last_line (Ended Disk) = codes "refused disk\n"
last_line (Ended (Load refusal)) = refusal_text refusal
last_line (Ended Memory) = codes "refused memory\n"
last_line (Ended (Spent next)) = codes "refused spent " ++ decimal next ++ codes "\n"

-- How the status and the last line tell the outcome: as they should; or that there was no memory to tell it; or the
-- sink failed meanwhile, with a front of the last line taken.
pub data Tells : Outcome → ℕ → Option (List ℕ) → Option (List ℕ) → Type 0 where
  told : {outcome : Outcome} {mid now : Option (List ℕ)} → TakesAll mid now (last_line outcome) → Tells outcome (status_of outcome) mid now
  no_memory : {outcome : Outcome} {mid now : Option (List ℕ)} → TakesAll mid now (last_line (Ended Memory)) → Tells outcome 7 mid now
  not_taken : {outcome : Outcome} {mid now : Option (List ℕ)} → TakesFront mid now (last_line outcome) → Tells outcome 4 mid now
  nothing_taken : {outcome : Outcome} {mid now : Option (List ℕ)} → TakesFront mid now (last_line (Ended Memory)) → Tells outcome 4 mid now

-- what the last line speaks of can be printed
abbrev pub IsTellable : Outcome → Type 0
IsTellable (Ended (Load refusal)) = IsPrintable refusal
IsTellable outcome = Unit {0}

-- an outcome that leaves the folder as it was
abbrev pub IsEarly : Outcome → Type 0
IsEarly (Ended ended) = ⊥
IsEarly outcome = Unit {0}

-- the statuses that may come where the words mean no command: 1, unless memory or output failed before
abbrev pub CanRefuseWords : ℕ → Type 0
CanRefuseWords status = (status ≡ 1) ⊎ (status ≡ 4) ⊎ (status ≡ 7)

-- the statuses that may come where the script has to be refused: 2, unless input, output or memory failed before it was told
abbrev pub CanRefuse : ℕ → Type 0
CanRefuse status = (status ≡ 2) ⊎ (status ≡ 3) ⊎ (status ≡ 4) ⊎ (status ≡ 7)

-- the statuses that may come where the folder does not restart: 6, unless input, output, disk or memory failed before it was told
abbrev pub CanRefuseFolder : ℕ → Type 0
CanRefuseFolder status = (status ≡ 3) ⊎ (status ≡ 4) ⊎ (status ≡ 5) ⊎ (status ≡ 6) ⊎ (status ≡ 7)

-- the statuses that may come where a line needs a number that none can have: 8, unless input, output, disk or memory failed
-- before it was told
abbrev pub CanRefuseNumber : ℕ → Type 0
CanRefuseNumber status = (status ≡ 3) ⊎ (status ≡ 4) ⊎ (status ≡ 5) ⊎ (status ≡ 7) ⊎ (status ≡ 8)
