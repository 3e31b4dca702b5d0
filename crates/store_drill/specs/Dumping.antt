-- What a dump writes of a folder.
use Rattle.std.specs.Prelude.{◌≡◌, ◌⊎◌, ℕ, ◌≤◌, Bool, true, List, length, map, take, Option}
use Rattle.std.specs.List.{flat_map}
use Rattle.hr_base.specs.Entries.{Entries}
use Rattle.hr_edges.specs.Edges.{TakesAll, TakesFront}
use Rattle.dir_files.specs.Images.{KeepsImages, read_of}
use Rattle.crash_law.specs.Restarts.{AllRestart}
use Rattle.script_text.specs.Dumps.{dump_lines, entry_text}
use Rattle.restart_load.specs.declared.ended.Ended.{Ended}
use Rattle.restart_load.specs.declared.ended.Ended.TheVariants.{Whole, Sink, Disk, Memory, Load, Spent}
use Rattle.store_drill.specs.Sessions.{NotBegun, Outside}

-- the lines one after another
abbrev pub flat : List (List ℕ) → List ℕ
flat lines = flat_map (λ line. line) lines

-- What was written of these lines: all of them; whole ones from the first on, where memory was wanting; or a front of
-- them, where the sink failed.
abbrev pub DumpAt : Ended → List (List ℕ) → Option (List ℕ) → Option (List ℕ) → Type 0
DumpAt Whole lines old new = TakesAll old new (flat lines)
DumpAt Memory lines old new = (count : ℕ) × (count ≤ length lines) × TakesAll old new (flat (take count lines))
DumpAt Sink lines old new = TakesFront old new (flat lines)
DumpAt Disk lines old new = ⊥
DumpAt (Load refusal) lines old new = ⊥
DumpAt (Spent next) lines old new = ⊥

-- the lines of entries of a partition, in their order
abbrev pub lines_of_entries : ℕ → List (ℕ × List ℕ × List ℕ) → List (List ℕ)
lines_of_entries p entries = map (λ e. entry_text p e.0 e.1 e.2) entries

-- The folder was restarted with so many partitions, and the maps that it restarts to were written. All files are read as
-- before, and every crash leaves what it might have left before.
pub record Dumped (tells : Bool) (partitions : ℕ) (old new : Outside) (ended : Ended) : Type 0 where
  pub maps : ℕ → Entries
  pub restarted : tells ≡ true → AllRestart (read_of old.port) partitions maps
  pub text : DumpAt ended (dump_lines partitions maps) old.taken new.taken
  pub images : tells ≡ true → KeepsImages old.port new.port

-- its folder was not restarted, or its maps were written
abbrev pub Wrote : Bool → ℕ → Outside → Outside → Ended → Type 0
Wrote tells partitions old new ended = NotBegun tells partitions old new ended ⊎ Dumped tells partitions old new ended
