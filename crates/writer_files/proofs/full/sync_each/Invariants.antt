use Rattle.std.proofs.Common.{◌≡◌, false, All, take, drop}
use Rattle.std.specs.List.{AllZip}
use Rattle.dir_files.specs.PortCalls.{LeavesPort}
use Rattle.value_chunk.specs.Calls.{IsTold, synced_chunk}
use Rattle.writer_files.proofs.full.sync_each.Given as goal

abbrev pub invariant-loop-chunk : goal.invariant-loop-chunk
invariant-loop-chunk g l = record {
  synced : AllZip (λ c d. IsTold g.F.Folder.tells (synced_chunk c) d) (take l.chunk-index l.initial.full) (take l.chunk-index l.full);
  rest : drop l.chunk-index l.full ≡ drop l.chunk-index l.initial.full;
  idle : All (λ c. c.unsynced ≡ false) l.initial.full → (l.full ≡ l.initial.full) × (l.port ≡ l.initial.port);
  port : LeavesPort g.F.Folder false l.initial.port l.port;
}
