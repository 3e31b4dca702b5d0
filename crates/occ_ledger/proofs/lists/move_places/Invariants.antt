use Rattle.std.proofs.Common.{◌≡◌, take, drop}
use Rattle.occ_ledger.specs.Scans.{placed}
use Rattle.occ_ledger.proofs.lists.move_places.Given as goal

abbrev pub invariant-loop-i : goal.invariant-loop-i
invariant-loop-i l = record {
  front : take l.i l.present ≡ take l.i (placed l.fn.present l.fn.present);
  rest : drop l.i l.present ≡ drop l.i l.fn.present;
}
