use Rattle.std.proofs.Common.{◌≡◌, ◌≤◌, ℕ, drop, length}
use Rattle.restart_load.specs.Writers.{standings}
use Rattle.script_text.specs.Scripts.{left}
use Rattle.store_drill.proofs.SessionLaws.{SoFar}
use Rattle.store_drill.proofs.lines.play_lines.Given as goal

-- so many lines were answered, and the others are left
abbrev pub invariant-script : goal.invariant-script
invariant-script g l =
    (i : ℕ) × SoFar g.F.Folder.tells (left l.fn.lines) i (standings l.fn.writers) (standings l.writers) (g.K.Sink.taken l.fn.out) (g.K.Sink.taken l.out) × (drop i (left l.fn.lines) ≡ left l.lines) × (g.K.Sink.count l.fn.out ≤ g.K.Sink.count l.out)

abbrev pub decreases-script : goal.decreases-script
decreases-script g l = length (left l.lines)
