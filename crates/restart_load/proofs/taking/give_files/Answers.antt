use Rattle.std.proofs.Common.{◌≡◌, ◌++◌, ◌∷◌, List, [], rules, subst, ◌∙◌}
use Rattle.dir_files.specs.Ports.{Port}
use Rattle.restart_load.specs.Taking.{AllDurableWith, HasTaken, TakenFile}
use Rattle.restart_load.proofs.taking.give_files.Goals as goal

pub loop-taken-preserved : goal.loop-taken-preserved
loop-taken-preserved g c =
    let split : c.loop-taken.files.items ≡ c.pop.new.self.items ++ c.in-Some.taken ∷ [] = c.in-Some.ensures.items in
    let last = λ (start : Port) (has : HasTaken start (g.F.Folder.port c.loop-taken.folder) c.loop-taken.files.items).
    subst (λ (files : List TakenFile). HasTaken start (g.F.Folder.port c.loop-taken.folder) files) split has in
    record {
      given = λ tells start has. c.give_one.ensures.given tells start c.pop.new.self.items (last start (c.loop-taken.invariant.given tells start has));
      durable = λ tells start has all.
          c.give_one.ensures.durable tells start c.pop.new.self.items (last start (c.loop-taken.invariant.given tells start has))
          (subst (λ (files : List TakenFile). AllDurableWith (g.F.Folder.port c.loop-taken.folder) files) split (c.loop-taken.invariant.durable tells start has all));
      count = c.give_one.ensures.count ∙ c.loop-taken.invariant.count;
    }

pub returns-clause-given : goal.returns-clause-given
returns-clause-given g c = λ tells start has.
    let none : c.loop-taken.files.items ≡ [] = search rules in
    subst (λ (files : List TakenFile). HasTaken start (g.F.Folder.port c.loop-taken.folder) files) none (c.loop-taken.invariant.given tells start has)

pub returns-clause-durable : goal.returns-clause-durable
returns-clause-durable g c = λ tells start has all.
    let none : c.loop-taken.files.items ≡ [] = search rules in
    subst (λ (files : List TakenFile). AllDurableWith (g.F.Folder.port c.loop-taken.folder) files) none (c.loop-taken.invariant.durable tells start has all)
