use Rattle.std.proofs.Common.{◌≡◌, [], replicate, vec_capacity}
use Rattle.restart_load.proofs.load.none_found.Given as goal

-- so many lists were put, and there is room for all
abbrev pub invariant-loop : goal.invariant-loop
invariant-loop l = record {
  none : l.found.items ≡ replicate l.counter [];
  room : vec_capacity l.found ≡ l.partitions;
}
