use Rattle.restart_load.specs.Writers.{standings}
use Rattle.dir_files.proofs.JoinLaws.{given_back_same}
use Rattle.restart_load.proofs.OpeningLaws.{kept_after, kept_itself, kept_same, opened_no_file}
use Rattle.restart_load.proofs.opening.open_writers.Goals as goal

pub close_all-requires-clause-none : goal.close_all-requires-clause-none
close_all-requires-clause-none g c = λ y.
    opened_no_file g.F.Folder.tells c.args.limits.now c.args.parts.items c.args.chunks.now (standings c.open_each.new.writers.items) y c.open_each.ensures.opened

pub close_all-requires-clause-given_back : goal.close_all-requires-clause-given_back
close_all-requires-clause-given_back g c = λ y. given_back_same _ _ (c.open_each.ensures.same y) (c.requires.given_back y)

pub returns-in_err-writers-clause-same : goal.returns-in_err-writers-clause-same
returns-in_err-writers-clause-same g c = λ y. kept_itself _ (c.requires.given_back y)

pub returns-in-Ok-clause-same : goal.returns-in-Ok-clause-same
returns-in-Ok-clause-same g c = λ y. kept_same _ _ (c.open_each.ensures.same y) (c.requires.given_back y)

pub returns-in-Err-clause-same : goal.returns-in-Err-clause-same
returns-in-Err-clause-same g c = λ y. kept_after _ _ _ (kept_same _ _ (c.open_each.ensures.same y) (c.requires.given_back y)) (c.close_all.ensures.same y)
