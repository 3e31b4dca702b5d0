use Rattle.std.proofs.Common.{ℕ, inl, refl, sym, subst}
use Rattle.dir_files.specs.Images.{read_of}
use Rattle.crash_law.specs.Restarts.{IsRestartable}
use Rattle.restart_load.proofs.ResumedLaws.{restartable_same, resumed_same}
use Rattle.restart_load.specs.Writers.{standings}
use Rattle.store_drill.specs.Dumping.{Dumped}
use Rattle.store_drill.specs.Sessions.{outside}
use Rattle.store_drill.proofs.DumpLaws.{wrote_after}
use Rattle.store_drill.proofs.FolderLaws.{not_begun}
use Rattle.store_drill.proofs.dumping.dump.Goals as goal

pub dump_restarted-requires-clause-resumed : goal.dump_restarted-requires-clause-resumed
dump_restarted-requires-clause-resumed g c =
    resumed_same g.F.Folder.tells (read_of (g.F.Folder.port c.restart.new.folder)) (read_of (g.F.Folder.port c.args.folder.now)) (standings c.in-Ok.writers.items)
    (λ y. (c.restart.ensures.images y).read) c.in-Ok.ensures.resumed

pub dump_restarted-requires-clause-restartable : goal.dump_restarted-requires-clause-restartable
dump_restarted-requires-clause-restartable g c = λ y.
    subst (λ (partitions : ℕ). IsRestartable (read_of (g.F.Folder.port c.restart.new.folder)) partitions) (sym c.in-Ok.ensures.each)
    (restartable_same _ _ c.args.limits.now.partitions (c.restart.ensures.images y).read (c.in-Ok.ensures.restartable y))

pub returns-in-Ok-clause-wrote : goal.returns-in-Ok-clause-wrote
returns-in-Ok-clause-wrote g c =
    wrote_after g.F.Folder.tells c.args.limits.now.partitions (g.F.Folder.port c.args.folder.now) (g.F.Folder.port c.restart.new.folder) _ (g.F.Folder.count c.restart.new.folder)
    _ (outside g.F.Folder g.K.Sink c.dump_restarted.new.folder c.dump_restarted.new.out) c.dump_restarted.result c.restart.ensures.images
    (subst (λ (partitions : ℕ). Dumped g.F.Folder.tells partitions (outside g.F.Folder g.K.Sink c.restart.new.folder c.args.out.now)
    (outside g.F.Folder g.K.Sink c.dump_restarted.new.folder c.dump_restarted.new.out) c.dump_restarted.result) c.in-Ok.ensures.each c.dump_restarted.ensures.dumped)

pub returns-in-Err-clause-wrote : goal.returns-in-Err-clause-wrote
returns-in-Err-clause-wrote g c =
    inl (not_begun g.F.Folder.tells c.args.limits.now.partitions _ _ c.in-Err.refusal _ c.from.ensures refl c.in-Err.ensures.printable c.in-Err.ensures.refused c.restart.ensures.images)
