-- A line of a session, and lines one after another.
use Rattle.std.specs.Prelude.{◌≡◌, ℕ, ◌≤◌, Bool, true, List, length, Option, Some, slice_get, slice_set}
use Rattle.hr_base.specs.Counts.{Rose}
use Rattle.hr_base.specs.declared.limits.Limits.{Limits}
use Rattle.hr_base.specs.declared.limits.TheConstants.{MAX_KEY_LEN, MAX_VALUE_LEN}
use Rattle.hr_base.specs.Entries.{Entries}
use Rattle.crash_law.specs.Accounts.{Account}
use Rattle.script_text.specs.declared.line.Line.{Line}
use Rattle.script_text.specs.declared.line.Line.TheVariants.{Put, Remove, Clear, Get, Sync}
use Rattle.script_text.specs.Lines.{partition_of}
use Rattle.script_text.specs.Replies.{maps_after_line, text_after}
use Rattle.partition_writer.specs.Standing.{Standing, Beginning, Stands}
use Rattle.partition_writer.specs.declared.refusal.WriteRefusal.{WriteRefusal}
use Rattle.partition_writer.specs.declared.refusal.WriteRefusal.TheVariants.{Memory, DiskFault, Halted}
use Rattle.partition_writer.specs.declared.refusal.WriteRefusal.TheVariants as refusal
use Rattle.restart_load.specs.declared.ended.Ended.{Ended}
use Rattle.restart_load.specs.declared.ended.Ended.TheVariants.{Whole, Disk}
use Rattle.restart_load.specs.declared.ended.Ended.TheVariants as ends
use Rattle.restart_load.specs.Writers.{EachIs}
use Rattle.store_drill.specs.declared.step.Step.{Step}
use Rattle.store_drill.specs.declared.step.Step.TheVariants.{Answered, NoReply, NoMemory, DiskFailed, Spent}
use Rattle.store_drill.specs.Accounts.{account_after_line, account_after_refused, accounts_at}
use Rattle.store_drill.specs.Numbers.{IsEnd, SpendsAt, SessionStart, numbers_after, spent_for, written_for}
use Rattle.store_drill.specs.Sessions.{TextAt}
use Rattle.store_drill.specs.Writers.{EachFits, HasMaps, HasNumber, HaveStart, IsLimited, LostNothing, StandsAt, numbers_of}

-- ---- one line

-- its key and its value have lengths that those of a record may have
abbrev pub FitsRecord : Line → Type 0
FitsRecord (Put p prefix key value) = (length key ≤ MAX_KEY_LEN) × (length value ≤ MAX_VALUE_LEN)
FitsRecord (Remove p prefix key) = length key ≤ MAX_KEY_LEN
FitsRecord (Clear p prefix) = Unit {0}
FitsRecord (Get p prefix key) = Unit {0}
FitsRecord (Sync p) = Unit {0}

-- the disk refused nothing
pub record GoesOn (s t : Standing) : Type 0 where
  pub running : t.halted ≡ s.halted
  pub whole : t.lost ≡ s.lost

-- the number that its record needs on this writer, and that none can have
abbrev pub needed : Line → Standing → Option ℕ
needed line s = spent_for s.limits (numbers_of s) (written_for line s.maps)

-- numbers were used up where its record was written
pub record CountsNumbers (line : Line) (s t : Standing) : Type 0 where
  pub limits : t.limits ≡ s.limits
  pub numbers : numbers_of t ≡ numbers_after s.limits (numbers_of s) (written_for line s.maps)

-- what became of a line that its writer refused
abbrev pub step_of : WriteRefusal → Step
step_of Memory = NoMemory
step_of DiskFault = DiskFailed
step_of (Halted at) = DiskFailed
step_of (refusal.Spent next) = Spent next

-- what is replied, and the maps and numbers after it
abbrev pub Replies : Step → Line → Standing → Standing → List ℕ → Type 0
Replies Answered line s t text = (text ≡ text_after line s.maps) × (t.maps ≡ maps_after_line line s.maps) × GoesOn s t × CountsNumbers line s t
Replies NoReply line s t text = (t.maps ≡ maps_after_line line s.maps) × GoesOn s t × CountsNumbers line s t
Replies NoMemory line s t text = (t.maps ≡ s.maps) × GoesOn s t
Replies DiskFailed line s t text = (t.maps ≡ s.maps) × Rose s.faults t.faults
Replies (Spent next) line s t text = (needed line s ≡ Some next) × (t ≡ s)

-- the account after it
abbrev pub account_after_step : Step → Line → Account → Account
account_after_step Answered line a = account_after_line line a
account_after_step NoReply line a = account_after_line line a
account_after_step NoMemory line a = a
account_after_step DiskFailed line a = account_after_refused line a
account_after_step (Spent next) line a = a

-- a line was played on the writer of its partition
pub record Plays (tells : Bool) (step : Step) (line : Line) (s t : Standing) (text : List ℕ) : Type 0 where
  pub replies : Replies step line s t text
  -- want of a number comes before all else
  pub spent : (next : ℕ) → needed line s ≡ Some next → step ≡ Spent next
  pub partition : t.partition ≡ s.partition
  pub account : tells ≡ true → (b : Beginning) (a : Account) → Stands s b a → Stands t b (account_after_step step line a)

-- and the other writers stay
pub record PlaysAmong (tells : Bool) (step : Step) (line : Line) (old new : List Standing) (text : List ℕ) : Type 0 where
  pub before : Standing
  pub after : Standing
  pub was : slice_get old (partition_of line) ≡ Some before
  pub changed : new ≡ slice_set old (partition_of line) after
  pub plays : Plays tells step line before after text

-- ---- lines

-- The lines were played from the first on, each on the writer of its partition, until the end or the first refusal.
pub record Played (tells : Bool) (lines : List Line) (old new : List Standing) (before now : Option (List ℕ)) (ended : Ended) : Type 0 where
  -- so many lines were answered
  pub count : ℕ
  pub within : count ≤ length lines
  pub all : ended ≡ Whole → count ≡ length lines
  pub replied : ℕ
  pub text : (maps : ℕ → Entries) → EachFits HasMaps old maps → TextAt ended lines count replied maps before now
  pub numbers : EachFits HasNumber old (λ p. p) → EachFits HasNumber new (λ p. p)
  -- no answered line needed a number that none can have, and want of one ended it exactly where the next line needs it
  pub spends : (limits : Limits) (start : SessionStart) → HaveStart limits old start → SpendsAt limits lines count replied start ended
  pub number : EachIs IsLimited old → (next : ℕ) → ended ≡ ends.Spent next → IsEnd next
  -- unless the disk refused a line, no record lacks bytes
  pub whole : (ended ≡ Disk → ⊥) → EachIs LostNothing new
  pub account : tells ≡ true → (begins : ℕ → Beginning) (accounts : ℕ → Account) → EachFits (StandsAt begins) old accounts
      → EachFits (StandsAt begins) new (accounts_at ended lines count accounts)
