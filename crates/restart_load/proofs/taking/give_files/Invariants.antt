use Rattle.std.proofs.Common.{◌≡◌, true}
use Rattle.dir_files.specs.Ports.{Port}
use Rattle.restart_load.specs.Taking.{AllDurableWith, HasTaken}
use Rattle.restart_load.proofs.taking.give_files.Given as goal

abbrev pub decreases-loop-taken : goal.decreases-loop-taken
decreases-loop-taken g l = goal.left-loop-taken g l

abbrev pub invariant-loop-taken : goal.invariant-loop-taken
invariant-loop-taken g l = record {
  given : g.F.Folder.tells ≡ true → (start : Port) → HasTaken start (g.F.Folder.port l.initial.folder) l.initial.files.items → HasTaken start (g.F.Folder.port l.folder) l.files.items;
  durable : g.F.Folder.tells ≡ true → (start : Port) → HasTaken start (g.F.Folder.port l.initial.folder) l.initial.files.items
      → AllDurableWith (g.F.Folder.port l.initial.folder) l.initial.files.items → AllDurableWith (g.F.Folder.port l.folder) l.files.items;
  count : g.F.Folder.count l.folder ≡ g.F.Folder.count l.initial.folder;
}
