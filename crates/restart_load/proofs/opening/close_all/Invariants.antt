use Rattle.std.proofs.Common.{◌≡◌, ◌≤◌, true, vec_len}
use Rattle.restart_load.specs.Opening.{HasNoFile}
use Rattle.restart_load.specs.Taking.{IsPortKept}
use Rattle.restart_load.specs.Writers.{EachIs, standings}
use Rattle.restart_load.proofs.opening.close_all.Given as goal

abbrev pub invariant-loop-writer : goal.invariant-loop-writer
invariant-loop-writer g l = record {
  none : g.F.Folder.tells ≡ true → EachIs HasNoFile (standings l.writers.items);
  same : g.F.Folder.tells ≡ true → IsPortKept (g.F.Folder.port l.fn.folder) (g.F.Folder.port l.folder);
  kept : g.F.Folder.count l.fn.folder ≤ g.F.Folder.count l.folder;
}

abbrev pub decreases-loop-writer : goal.decreases-loop-writer
decreases-loop-writer g l = vec_len l.writers
