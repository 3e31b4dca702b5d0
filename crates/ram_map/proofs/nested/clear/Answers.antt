use Rattle.std.proofs.Common.{[], option_and_then, sym, ap, ◌∙◌}
use Rattle.std.specs.Map.{lookup}
use Rattle.std.specs.Vec.{vec_items}
use Rattle.ram_map.specs.Nested.{has_bytes}
use Rattle.ram_map.proofs.PrefixLemmas.{count_under_is, all_entries-cleared, none_distinct_keys}
use Rattle.ram_map.proofs.nested.clear.Goals as goal

pub returns-in-Some-clause-count : goal.returns-in-Some-clause-count
returns-in-Some-clause-count c =
    c.len.ensures.len
    ∙ sym (count_under_is vec_items c.args.maps.now.entries c.args.prefix c.requires c.in-Some.map.entries c.len.ensures.unique (λ b. ap (option_and_then (λ m. lookup (has_bytes vec_items b) m.entries)) (sym c.in-Some.ensures.value)))

pub returns-in-None-clause-count : goal.returns-in-None-clause-count
returns-in-None-clause-count c =
    sym (count_under_is vec_items c.args.maps.now.entries c.args.prefix c.requires [] (none_distinct_keys vec_items) (λ b. ap (option_and_then (λ m. lookup (has_bytes vec_items b) m.entries)) (sym c.in-None.ensures.value)))

pub returns-in-Some-clause-entries : goal.returns-in-Some-clause-entries
returns-in-Some-clause-entries c = all_entries-cleared vec_items c.args.maps.now.entries c.args.prefix c.requires c.swap_remove.new.self.entries c.swap_remove.ensures.unique c.swap_remove.ensures.updates.0

pub returns-in-None-clause-entries : goal.returns-in-None-clause-entries
returns-in-None-clause-entries c = all_entries-cleared vec_items c.args.maps.now.entries c.args.prefix c.requires c.swap_remove.new.self.entries c.swap_remove.ensures.unique c.swap_remove.ensures.updates.0
