use Rattle.std.proofs.Common.{List, ◌++◌, codes, decimal, refl, sym, subst, ap, ◌∙◌}
use Rattle.script_text.specs.declared.line.Line.TheVariants.{Sync}
use Rattle.partition_writer.specs.Standing.{Standing}
use Rattle.partition_writer.specs.WriterViews.{standing}
use Rattle.store_drill.specs.declared.step.Step.{Step}
use Rattle.store_drill.specs.Playing.{Plays}
use Rattle.store_drill.proofs.StepLaws.{counts_synced, goes_synced, plays_answered, plays_unsynced, unneeded}
use Rattle.store_drill.proofs.step.answer_sync.Goals as goal

pub returns-in-Ok : goal.returns-in-Ok
returns-in-Ok g c =
    let s : Standing = standing c.args.writer.now in
    let t : Standing = standing c.sync.new.self in
    plays_answered g.F.Folder.tells (Sync c.args.p) s t c.reply.new.text.items c.reply.result c.reply.ensures.only
    (λ e. c.reply.ensures.text e ∙ ap (λ (before : List _). before ++ (decimal c.args.p.0 ++ codes " synced\n")) c.requires.cleared)
    c.in-Ok.ensures.synced.maps (goes_synced s t c.in-Ok.ensures.disk.ok c.in-Ok.ensures.synced)
    (counts_synced c.args.p s t c.in-Ok.ensures.synced) (unneeded (Sync c.args.p) s refl) c.in-Ok.ensures.synced.partition c.in-Ok.ensures.account

pub returns-in-Err : goal.returns-in-Err
returns-in-Err g c =
    let s : Standing = standing c.args.writer.now in
    let t : Standing = standing c.sync.new.self in
    subst (λ (step : Step). Plays g.F.Folder.tells step (Sync c.args.p) s t c.args.text.now.items) (sym c.refused.ensures)
    (plays_unsynced _ g.F.Folder.tells c.args.p s t c.args.text.now.items c.in-Err.refusal c.in-Err.ensures.synced
    c.in-Err.ensures.disk.memory c.in-Err.ensures.disk.cause (λ at is. (c.in-Err.ensures.halted at).0 is) c.requires.running c.in-Err.ensures.account)
