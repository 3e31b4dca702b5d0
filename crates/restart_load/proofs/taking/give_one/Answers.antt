use Rattle.std.proofs.Common.{◌++◌, ◌∷◌, [], sym, subst}
use Rattle.restart_load.specs.Taking.{AllDurableWith, HasTaken, TakenFile}
use Rattle.restart_load.proofs.TakingLaws.{given_durable, given_one}
use Rattle.restart_load.proofs.taking.give_one.Goals as goal

pub returns-clause-given : goal.returns-clause-given
returns-clause-given g c = λ tells start files has.
    let t : TakenFile = record { name = c.taken.inside.name; file = g.F.Folder.state c.taken.inside.file } in
    given_one start (g.F.Folder.port c.args.folder.now) files t (subst (λ (x : TakenFile). HasTaken start (g.F.Folder.port c.args.folder.now) (files ++ x ∷ [])) (sym c.taken.view_is) has)
    (g.F.Folder.port c.give.new.self) (c.give.ensures.given tells c.taken.inside.name (c.taken.invariant tells))

pub returns-clause-durable : goal.returns-clause-durable
returns-clause-durable g c = λ tells start files has durable.
    let t : TakenFile = record { name = c.taken.inside.name; file = g.F.Folder.state c.taken.inside.file } in
    given_durable start (g.F.Folder.port c.args.folder.now) files t (subst (λ (x : TakenFile). HasTaken start (g.F.Folder.port c.args.folder.now) (files ++ x ∷ [])) (sym c.taken.view_is) has)
    (g.F.Folder.port c.give.new.self) (c.give.ensures.given tells c.taken.inside.name (c.taken.invariant tells))
    (subst (λ (x : TakenFile). AllDurableWith (g.F.Folder.port c.args.folder.now) (files ++ x ∷ [])) (sym c.taken.view_is) durable)
