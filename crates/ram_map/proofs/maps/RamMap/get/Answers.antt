use Rattle.std.proofs.Common.{option_map, sym, ap, ◌∙◌}
use Rattle.std.specs.FinMap.{get}
use Rattle.std.specs.Vec.{vec_items}
use Rattle.hr_base.specs.Entries.{key_at, content_of}
use Rattle.ram_map.proofs.NestedLemmas.{get-all_entries, option_map-option_map}
use Rattle.ram_map.proofs.maps.RamMap.get.Goals as goal

pub returns : goal.returns
returns c =
    option_map-option_map content_of (λ v. v.now) c.find.result ∙ ap (option_map content_of) c.find.ensures
    ∙ sym (get-all_entries vec_items c.self.inside.maps.entries (key_at c.args.prefix c.args.key.now) c.self.invariant.unique)
    ∙ ap (λ m. get m.entries (key_at c.args.prefix c.args.key.now)) c.self.view_is
