use Rattle.std.proofs.Common.{◌≡◌, ◌++◌, length}
use Rattle.chunk_read.proofs.pieces.take_waiting.Given as goal

-- the records that waited are taken, or wait still
abbrev pub invariant-loop-next : goal.invariant-loop-next
invariant-loop-next l = record {
  records : l.records.items ++ l.walk.waiting ≡ l.initial.records.items ++ l.initial.walk.waiting;
  walk : l.walk ≡ record l.initial.walk { waiting = l.walk.waiting };
}

abbrev pub decreases-loop-next : goal.decreases-loop-next
decreases-loop-next l = length l.walk.waiting
