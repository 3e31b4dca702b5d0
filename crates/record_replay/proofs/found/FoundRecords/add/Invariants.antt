use Rattle.std.proofs.Common.{◌≡◌, ◌++◌, ◌+◌, ◌≤◌, map, vec_len, vec_capacity}
use Rattle.std.specs.Vec.Iter.{into_iter_items, into_iter_len}
use Rattle.record_replay.specs.Replays.{found_in}
use Rattle.record_replay.proofs.found.FoundRecords.add.Given as goal

-- those that are put and those that are left are all, and there is room for what is left
abbrev pub invariant-loop-offset : goal.invariant-loop-offset
invariant-loop-offset l = record {
  can : (goal.iterator-loop-offset).can_next l._offset-iterator;
  finite : (goal.iterator-loop-offset).is_finite l._offset-iterator;
  put : l.self-inside.list.items ++ map (λ x. found_in l.chunk x.1) (into_iter_items l._offset-iterator) ≡ l.fn.self ++ map (λ x. found_in l.chunk x.1) l.fn.records;
  room : vec_len l.self-inside.list + into_iter_len l._offset-iterator ≤ vec_capacity l.self-inside.list;
}
