use Rattle.std.proofs.Common.{◌≡◌, length, take}
use Rattle.restart_load.proofs.NumberLaws.{AreNextAmong}
use Rattle.restart_load.proofs.numbers.next_chunks.Given as goal

abbrev pub invariant-loop-name : goal.invariant-loop-name
invariant-loop-name l = record {
  each : length l.next.items ≡ l.partitions;
  next : AreNextAmong (take l.name-index l.names) l.next.items;
}
