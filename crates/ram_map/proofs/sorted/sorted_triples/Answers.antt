use Rattle.std.proofs.Common.{subst}
use Rattle.std.specs.List.Sorted.{IsPermutation}
use Rattle.std.specs.Vec.{vec_items}
use Rattle.ram_map.specs.Nested.{all_entries, flat_entries}
use Rattle.ram_map.proofs.Triples.{triples_in_order}
use Rattle.ram_map.proofs.sorted.sorted_triples.Goals as goal

pub returns : goal.returns
unfolding all_entries
returns c =
    triples_in_order (flat_entries vec_items c.args.maps.now.entries) c.sort_unstable.new.self.items c.in_ok-triples.ensures.distinct
    (subst (λ l. IsPermutation l c.sort_unstable.new.self.items) c.in_ok-triples.ensures.ok c.sort_unstable.ensures.permutation) c.sort_unstable.ensures.sorted
