use Rattle.std.proofs.Common.{◌≡◌, ◌+◌, drop}
use Rattle.occ_ledger.specs.Scans.{smaller}
use Rattle.occ_ledger.proofs.records.count_smaller.Given as goal

abbrev pub invariant-loop-i : goal.invariant-loop-i
invariant-loop-i l = smaller l.fn.seq l.fn.records ≡ l.i + smaller l.fn.seq (drop l.i l.fn.records)
