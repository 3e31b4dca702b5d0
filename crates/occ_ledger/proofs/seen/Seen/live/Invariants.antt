use Rattle.std.proofs.Common.{◌≡◌, ◌-◌, drop, length}
use Rattle.occ_ledger.specs.Scans.{scan_among}
use Rattle.occ_ledger.proofs.seen.Seen.live.Given as goal

abbrev pub invariant-loop-done : goal.invariant-loop-done
invariant-loop-done l = l.records.items ≡ scan_among l.fn.self l.fn.chunk (drop (length l.fn.self.present.now - l.done) l.fn.self.present.now)
