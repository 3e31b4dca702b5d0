use Rattle.std.proofs.Common.{List, All, inl, refl, sym, subst}
use Rattle.script_text.specs.declared.line.Line.{Line}
use Rattle.script_text.specs.declared.line.Mode.TheVariants.{Play}
use Rattle.script_text.specs.Lines.{IsLine}
use Rattle.store_drill.specs.Sessions.{Ran, outside}
use Rattle.store_drill.proofs.session.play.Goals as goal

pub play_all-requires-clause-valid : goal.play_all-requires-clause-valid
play_all-requires-clause-valid g c = subst (All (IsLine Play c.args.limits.now.partitions)) (sym c.in-Ok.ensures) c.requires.valid

pub returns-in-Ok-clause-ran : goal.returns-in-Ok-clause-ran
returns-in-Ok-clause-ran g c =
    subst (λ (lines : List Line). Ran g.F.Folder.tells c.args.limits.now lines (outside g.F.Folder g.K.Sink c.args.folder.now c.args.out.now)
    (outside g.F.Folder g.K.Sink c.play_all.new.folder c.play_all.new.out) c.play_all.result) c.in-Ok.ensures c.play_all.ensures.ran

-- there was no memory for the lines, and nothing was touched
pub returns-in-Err-clause-ran : goal.returns-in-Err-clause-ran
returns-in-Err-clause-ran g c =
    inl (record { refusal = tt; silent = refl; content = λ y refusal e. cc; images = λ y. record { read = λ name. refl; images = λ image is. is } })
