use Rattle.std.proofs.Common.{[], ◌∷◌, ◌++◌, ◌∙◌}
use Rattle.std.specs.Vec.{vec_items}
use Rattle.ram_map.proofs.Triples.{triples_more, triples_whole}
use Rattle.ram_map.proofs.sorted.push_entries.Goals as goal

pub loop-key-preserved : goal.loop-key-preserved
loop-key-preserved c =
    let put = c.in_ok-push.ensures.items
    ∙ (λ i. c.loop-key.triples.items ++ (c.args.prefix, (c.in_ok-key.ensures ∙ c.deref.ensures.value) i, c.in_ok-clone.ensures.cases i) ∷ []) in
    triples_more vec_items c.args.prefix c.loop-key.triples.items c.push-in-loop-key.new.self.items c.loop-key.key-iterator c.next.new.self c.in-Some.key.now c.in-Some.value.now put c.in-Some.ensures.steps
    ∙ c.loop-key.invariant

pub returns-clause-ok : goal.returns-clause-ok
returns-clause-ok c = triples_whole vec_items c.args.prefix _ _ c.loop-key.key-iterator c.loop-key.invariant c.in-None.ensures.steps.0
