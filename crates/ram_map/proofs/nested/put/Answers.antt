use Rattle.std.proofs.Common.{IsSome, refl, sym, subst}
use Rattle.std.specs.Vec.{vec_items}
use Rattle.ram_map.proofs.NestedLemmas.{all_entries-put}
use Rattle.ram_map.proofs.nested.put.Goals as goal

pub returns-clause-entries : goal.returns-clause-entries
returns-clause-entries c =
    let written = c.get_mut.follows.holds c.insert.new.self in
    let was = c.in-Some.ensures.value in
    all_entries-put vec_items c.args.maps.now.entries _ c.args.prefix c.insert.new.self (written.3 (subst IsSome was refl)).0 c.get_mut.ensures.unique written.4 _ c.args.key c.args.value (sym was) (rw c.unwrap.ensures at c.insert.ensures.entries)
