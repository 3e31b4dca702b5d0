use Rattle.std.proofs.Common.{◌≡◌, false, true, List, ◌++◌}
use Rattle.std.specs.VecDeque.{deque_len}
use Rattle.dir_files.specs.PortCalls.{CountsCall}
use Rattle.value_chunk.specs.Chunks.{Chunk}
use Rattle.writer_files.specs.HandCalls.{GivesEach}
use Rattle.writer_files.proofs.full.give_each.Given as goal

abbrev pub invariant-loop-chunk : goal.invariant-loop-chunk
invariant-loop-chunk g l = record {
  given : List Chunk;
  split : l.initial.full.items ≡ l.full.items ++ given;
  gives : g.F.Folder.tells ≡ true → GivesEach (g.F.Folder.port l.initial.port) (g.F.Folder.port l.port) given;
  counts : CountsCall g.F.Folder false l.initial.port l.port;
}

abbrev pub decreases-loop-chunk : goal.decreases-loop-chunk
decreases-loop-chunk g l = deque_len l.full
