use Rattle.std.proofs.Common.{◌≡◌, map, take}
use Rattle.std.specs.Option.{option_map}
use Rattle.gc_event.specs.Books.{last_in}
use Rattle.occ_ledger.specs.Lists.{entry_in}
use Rattle.occ_ledger.proofs.lists.last_at.Given as goal

abbrev pub invariant-loop-spot : goal.invariant-loop-spot
invariant-loop-spot l = option_map (λ s. entry_in s.now) l.last ≡ last_in (map entry_in (take l.spot-index l.fn.present)) l.fn.seq l.fn.chunk
