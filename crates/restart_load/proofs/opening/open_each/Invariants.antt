use Rattle.std.proofs.Common.{◌≡◌, ◌≤◌, ◌++◌, true, length, vec_capacity}
use Rattle.std.specs.Vec.Iter.{into_iter_items, into_iter_len}
use Rattle.dir_files.specs.Ports.{SamePort}
use Rattle.restart_load.specs.Opening.{AreOpened}
use Rattle.restart_load.specs.Writers.{standings}
use Rattle.restart_load.proofs.opening.open_each.Given as goal

abbrev pub invariant-loop-part : goal.invariant-loop-part
invariant-loop-part g l = record {
  split : l.yielded ++ into_iter_items l.part-iterator ≡ l.fn.parts.items;
  left : into_iter_len l.part-iterator ≡ length (into_iter_items l.part-iterator);
  place : length l.yielded ≡ l.p;
  length : length l.writers.items ≡ l.p;
  room : l.limits.partitions ≤ vec_capacity l.writers;
  opened : AreOpened g.F.Folder.tells l.limits l.fn.parts.items l.chunks (standings l.writers.items);
  same : g.F.Folder.tells ≡ true → SamePort (g.F.Folder.port l.fn.folder) (g.F.Folder.port l.folder);
  count : g.F.Folder.count l.folder ≡ g.F.Folder.count l.fn.folder;
}
