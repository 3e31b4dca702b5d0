use Rattle.std.proofs.Common.{sym, ap, ◌∙◌}
use Rattle.std.specs.FinMap.{len}
use Rattle.ram_map.proofs.FinMaps.{length-keys}
use Rattle.ram_map.proofs.maps.RamMap.len.Goals as goal

pub returns : goal.returns
returns c = c.self.invariant.counted ∙ ap (λ m. len m.entries) c.self.view_is ∙ sym (length-keys c.args.self.now.entries)
