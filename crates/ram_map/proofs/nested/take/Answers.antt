use Rattle.std.proofs.Common.{IsSome, option_map, option_and_then, refl, sym, ap, subst, ◌∙◌}
use Rattle.std.specs.Map.{lookup}
use Rattle.std.specs.Vec.{vec_items}
use Rattle.hr_base.specs.Entries.{key_at, content_of}
use Rattle.hr_base.proofs.EntryLaws.{remove-absent}
use Rattle.ram_map.specs.Nested.{has_bytes, all_entries}
use Rattle.ram_map.proofs.NestedLemmas.{get-all_entries, all_entries-taken}
use Rattle.ram_map.proofs.nested.take.Goals as goal

pub returns-in_err-map-clause-entries : goal.returns-in_err-map-clause-entries
returns-in_err-map-clause-entries c =
    let k = key_at c.args.prefix c.args.key.now in
    let absent = get-all_entries vec_items c.args.maps.now.entries k c.get_mut.ensures.unique
    ∙ ap (λ o. option_map content_of (option_and_then (λ m. lookup (has_bytes vec_items c.args.key.now) m.entries) o)) (sym c.in_err-map.ensures.value) in
    ap (λ m. all_entries vec_items m.entries) c.get_mut.follows.holds-at-none ∙ remove-absent _ k absent

pub returns-clause-entries : goal.returns-clause-entries
returns-clause-entries c =
    let written = c.get_mut.follows.holds c.swap_remove.new.self in
    let was = c.in_ok-map.ensures.value in
    let updates = c.swap_remove.ensures.updates in
    all_entries-taken vec_items c.args.maps.now.entries _ c.args.prefix c.swap_remove.new.self (written.3 (subst IsSome was refl)).0 c.get_mut.ensures.unique written.4 _ c.args.key.now (sym was) updates.1 updates.3
