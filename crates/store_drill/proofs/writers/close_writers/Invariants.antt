use Rattle.std.proofs.Common.{vec_len}
use Rattle.restart_load.specs.Writers.{standings}
use Rattle.store_drill.proofs.FolderLaws.{Closing}
use Rattle.store_drill.proofs.writers.close_writers.Given as goal

abbrev pub invariant-loop-writer : goal.invariant-loop-writer
invariant-loop-writer g l = Closing g.F.Folder.tells (standings l.fn.writers.items) (standings l.writers.items) (g.F.Folder.port l.fn.folder) (g.F.Folder.port l.folder) (g.F.Folder.count l.fn.folder) (g.F.Folder.count l.folder)

abbrev pub decreases-loop-writer : goal.decreases-loop-writer
decreases-loop-writer g l = vec_len l.writers
