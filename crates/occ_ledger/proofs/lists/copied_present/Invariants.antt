use Rattle.std.proofs.Common.{◌≡◌, take}
use Rattle.occ_ledger.proofs.lists.copied_present.Given as goal

abbrev pub invariant-loop-spot : goal.invariant-loop-spot
invariant-loop-spot l = l.copies.items ≡ take l.spot-index l.fn.present
