use Rattle.std.proofs.lemmas.Result.{IfErr-weaker, IfOk-weaker}
use Rattle.restart_load.specs.Gathering.{IsReplayRefusal}
use Rattle.restart_load.specs.Loading.{IsLoadRefusal}
use Rattle.restart_load.proofs.GatherLaws.{IsLoadRefusal-found, IsReplayOf-found}
use Rattle.restart_load.proofs.load.load.Goals as goal

pub returns-clause-replayed : goal.returns-clause-replayed
returns-clause-replayed c =
    IfOk-weaker c.replay_each.result _ _
    (λ parts h p part e. IsReplayOf-found c.args.files.items c.in_ok-found.found.items c.in_ok-found.ensures.found p part (h p part e))
    c.replay_each.ensures.replayed

pub returns-clause-refused : goal.returns-clause-refused
returns-clause-refused c =
    IfErr-weaker c.replay_each.result (IsReplayRefusal c.in_ok-found.found.items) (IsLoadRefusal c.args.files.items)
    (λ e h. IsLoadRefusal-found c.args.files.items c.in_ok-found.found.items c.in_ok-found.ensures.found c.in_ok-found.ensures.torn e h)
    c.replay_each.ensures.refused
