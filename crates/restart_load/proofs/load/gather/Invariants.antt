use Rattle.std.proofs.Common.{◌≡◌, length}
use Rattle.std.specs.Vec.Iter.{into_iter_items}
use Rattle.restart_load.proofs.GatherLaws.{IsGathered}
use Rattle.restart_load.proofs.load.gather.Given as goal

-- those that are read and those that are left are all
abbrev pub invariant-loop-file : goal.invariant-loop-file
invariant-loop-file l = record {
  can : (goal.iterator-loop-file).can_next l.file-iterator;
  finite : (goal.iterator-loop-file).is_finite l.file-iterator;
  lists : length l.found.items ≡ l.partitions;
  gathered : IsGathered l.fn.files.items (into_iter_items l.file-iterator) l.found.items;
}
