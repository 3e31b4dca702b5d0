use Rattle.std.proofs.Common.{IsSome, nat_eq, refl, sym, ap, subst, ◌∙◌}
use Rattle.std.specs.Map.{lookup}
use Rattle.indexmap.specs.IndexMap.{IsUnique}
use Rattle.ram_map.specs.Nested.{all_entries}
use Rattle.std.specs.Vec.{vec_items}
use Rattle.ram_map.proofs.NestedLemmas.{all_entries-kept, all_entries-opened}
use Rattle.ram_map.proofs.nested.make_room.Goals as goal

pub returns-in_err-reserve-clause-entries : goal.returns-in_err-reserve-clause-entries
returns-in_err-reserve-clause-entries c =
    let written = c.get_mut.follows.holds c.reserve.new.self in
    let was = c.in-Some.ensures.value in
    all_entries-kept vec_items c.args.maps.now.entries _ c.args.prefix c.reserve.new.self (written.3 (subst IsSome was refl)).0 c.get_mut.ensures.unique written.4 _ (sym was) c.reserve.ensures.entries

pub returns-in-Some-clause-entries : goal.returns-in-Some-clause-entries
returns-in-Some-clause-entries c =
    let written = c.get_mut.follows.holds c.reserve.new.self in
    let was = c.in-Some.ensures.value in
    all_entries-kept vec_items c.args.maps.now.entries _ c.args.prefix c.reserve.new.self (written.3 (subst IsSome was refl)).0 c.get_mut.ensures.unique written.4 _ (sym was) c.reserve.ensures.entries

pub returns-clause-entries : goal.returns-clause-entries
returns-clause-entries c =
    let same = c.get_mut.follows.holds-at-none in
    all_entries-opened vec_items _ _ c.args.prefix c.in_ok-map.map c.in_ok-insert.ensures.updates.0 (subst (IsUnique nat_eq) (sym same) c.get_mut.ensures.unique) c.insert.ensures.unique
    (ap (λ m. lookup (nat_eq c.args.prefix) m.entries) same ∙ sym c.in_default.ensures.value) c.in_ok-map.ensures.empty
    ∙ ap (λ m. all_entries vec_items m.entries) same
