use Rattle.std.proofs.Common.{[], option_and_then, sym, ap, ◌∙◌}
use Rattle.std.specs.Map.{lookup}
use Rattle.std.specs.Vec.{vec_items}
use Rattle.ram_map.specs.Nested.{has_bytes}
use Rattle.ram_map.proofs.PrefixLemmas.{count_under_is, none_distinct_keys}
use Rattle.ram_map.proofs.nested.count.Goals as goal

pub returns-in-Some : goal.returns-in-Some
returns-in-Some c =
    c.len.ensures.len
    ∙ sym (count_under_is vec_items c.args.maps.now.entries c.args.prefix c.requires c.in-Some.map.now.entries c.len.ensures.unique (λ b. ap (option_and_then (λ m. lookup (has_bytes vec_items b) m.entries)) (sym c.in-Some.ensures.value)))

pub returns-in-None : goal.returns-in-None
returns-in-None c =
    sym (count_under_is vec_items c.args.maps.now.entries c.args.prefix c.requires [] (none_distinct_keys vec_items) (λ b. ap (option_and_then (λ m. lookup (has_bytes vec_items b) m.entries)) (sym c.in-None.ensures.value)))
