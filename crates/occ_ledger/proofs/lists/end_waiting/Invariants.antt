use Rattle.std.proofs.Common.{◌≡◌, map, take, drop}
use Rattle.occ_ledger.specs.Scans.{ended_spot}
use Rattle.occ_ledger.proofs.lists.end_waiting.Given as goal

abbrev pub invariant-loop-spot : goal.invariant-loop-spot
invariant-loop-spot l = record {
  front : take l.spot-index l.present ≡ map ended_spot (take l.spot-index l.fn.present);
  rest : drop l.spot-index l.present ≡ drop l.spot-index l.fn.present;
}
