use Rattle.std.proofs.Common.{◌≡◌, map, take, drop}
use Rattle.occ_ledger.specs.Scans.{unplaced_spot}
use Rattle.occ_ledger.proofs.lists.unplace.Given as goal

abbrev pub invariant-loop-spot : goal.invariant-loop-spot
invariant-loop-spot l = record {
  front : take l.spot-index l.present ≡ map (unplaced_spot l.fn.own l.fn.seq) (take l.spot-index l.fn.present);
  rest : drop l.spot-index l.present ≡ drop l.spot-index l.fn.present;
}
