use Rattle.std.proofs.Common.{sym, subst, ◌∙◌}
use Rattle.std.specs.List.{IsDistinct, AllByRecursion}
use Rattle.std.specs.Map.{keys_of}
use Rattle.std.specs.Vec.{vec_items}
use Rattle.ram_map.specs.Nested.{same_bytes}
use Rattle.ram_map.proofs.PrefixLemmas.{flat_distinct}
use Rattle.ram_map.proofs.Triples.{maps_more}
use Rattle.ram_map.proofs.sorted.all_triples.Goals as goal

pub loop-prefix-preserved : goal.loop-prefix-preserved
loop-prefix-preserved c = record {
  put = maps_more vec_items c.loop-prefix.triples.items c.push_entries.new.triples.items c.loop-prefix.prefix-iterator c.next.new.self c.in-Some.prefix.now c.in-Some.one.now c.in_ok-push_entries.ensures.ok c.in-Some.ensures.steps
      ∙ c.loop-prefix.invariant.put;
  unique = λ rest.
      c.loop-prefix.invariant.unique (subst (AllByRecursion (λ m. IsDistinct (same_bytes vec_items) (keys_of m.1.entries))) (sym c.in-Some.ensures.steps) (c.in_ok-push_entries.ensures.unique, rest));
}

pub returns-clause-distinct : goal.returns-clause-distinct
returns-clause-distinct c =
    flat_distinct vec_items c.args.maps.now.entries c.into_iter-prefix-iterator.ensures.into_iter_gives.4
    (c.loop-prefix.invariant.unique (subst (AllByRecursion (λ m. IsDistinct (same_bytes vec_items) (keys_of m.1.entries))) (sym c.in-None.ensures.steps.0) tt))
