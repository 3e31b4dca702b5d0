use Rattle.std.proofs.Common.{◌≡◌, length, drop, vec_capacity}
use Rattle.std.specs.Vec.Iter.{into_iter_items}
use Rattle.restart_load.proofs.GatherLaws.{AreReplayed}
use Rattle.restart_load.proofs.load.replay_each.Given as goal

-- the lists before this place are replayed, and there is room for all
abbrev pub invariant-loop-one : goal.invariant-loop-one
invariant-loop-one l = record {
  can : (goal.iterator-loop-one).can_next l.one-iterator;
  finite : (goal.iterator-loop-one).is_finite l.one-iterator;
  left : into_iter_items l.one-iterator ≡ drop l.p l.fn.found.items;
  count : length l.parts.items ≡ l.p;
  room : vec_capacity l.parts ≡ l.partitions;
  replayed : AreReplayed l.fn.found.items l.parts.items;
}
