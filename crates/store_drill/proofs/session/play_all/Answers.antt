use Rattle.std.proofs.Common.{ℕ, inl, refl, sym, subst, arith}
use Rattle.dir_files.specs.Images.{read_of}
use Rattle.script_text.specs.declared.line.Mode.TheVariants.{Play}
use Rattle.script_text.specs.Lines.{IsLine}
use Rattle.script_text.specs.Scripts.{left}
use Rattle.std.specs.Prelude.{All}
use Rattle.crash_law.specs.Restarts.{IsRestartable}
use Rattle.restart_load.proofs.ResumedLaws.{restartable_same, resumed_same}
use Rattle.restart_load.specs.Writers.{standings}
use Rattle.store_drill.specs.Sessions.{outside}
use Rattle.store_drill.proofs.FolderLaws.{not_begun, ran_after}
use Rattle.store_drill.proofs.session.play_all.Goals as goal

pub play_restarted-requires-clause-valid : goal.play_restarted-requires-clause-valid
play_restarted-requires-clause-valid g c = subst (λ (partitions : ℕ). All (IsLine Play partitions) (left c.args.lines.now)) (sym c.in-Ok.ensures.each) c.requires.valid

pub play_restarted-requires-clause-resumed : goal.play_restarted-requires-clause-resumed
play_restarted-requires-clause-resumed g c =
    resumed_same g.F.Folder.tells (read_of (g.F.Folder.port c.restart.new.folder)) (read_of (g.F.Folder.port c.args.folder.now)) (standings c.in-Ok.writers.items)
    (λ y. (c.restart.ensures.images y).read) c.in-Ok.ensures.resumed

pub play_restarted-requires-clause-restartable : goal.play_restarted-requires-clause-restartable
play_restarted-requires-clause-restartable g c = λ y.
    subst (λ (partitions : ℕ). IsRestartable (read_of (g.F.Folder.port c.restart.new.folder)) partitions) (sym c.in-Ok.ensures.each)
    (restartable_same _ _ c.args.limits.now.partitions (c.restart.ensures.images y).read (c.in-Ok.ensures.restartable y))

pub returns-in-Ok-clause-ran : goal.returns-in-Ok-clause-ran
returns-in-Ok-clause-ran g c =
    ran_after g.F.Folder.tells c.args.limits.now (left c.args.lines.now) (g.F.Folder.port c.args.folder.now) (g.F.Folder.port c.restart.new.folder) _ (g.F.Folder.count c.restart.new.folder)
    _ (outside g.F.Folder g.K.Sink c.play_restarted.new.folder c.play_restarted.new.out) c.play_restarted.result c.restart.ensures.images
    (c.play_restarted.ensures.session c.args.limits.now
    c.in-Ok.ensures.limits c.in-Ok.ensures.each)

pub returns-in-Err-clause-ran : goal.returns-in-Err-clause-ran
returns-in-Err-clause-ran g c =
    inl (not_begun g.F.Folder.tells c.args.limits.now.partitions _ _ c.in-Err.refusal _ c.from.ensures refl c.in-Err.ensures.printable c.in-Err.ensures.refused c.restart.ensures.images)

pub returns-in-Ok-clause-disk : goal.returns-in-Ok-clause-disk
returns-in-Ok-clause-disk g c = λ is. omega (arith, c.restart.ensures.kept, c.play_restarted.ensures.disk is)
