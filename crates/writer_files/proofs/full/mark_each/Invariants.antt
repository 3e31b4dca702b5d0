use Rattle.std.proofs.Common.{◌≡◌, take, drop}
use Rattle.std.specs.List.{AllZip}
use Rattle.writer_files.specs.HandCalls.{IsMarkedFrom}
use Rattle.writer_files.proofs.full.mark_each.Given as goal

abbrev pub invariant-loop-chunk : goal.invariant-loop-chunk
invariant-loop-chunk g l = record {
  marked : AllZip (IsMarkedFrom g.F.Folder.tells (g.F.Folder.port l.initial.port).fixed) (take l.chunk-index l.initial.full) (take l.chunk-index l.full);
  rest : drop l.chunk-index l.full ≡ drop l.chunk-index l.initial.full;
}
