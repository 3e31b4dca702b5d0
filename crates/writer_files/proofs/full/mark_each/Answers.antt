use Rattle.std.proofs.Common.{get_or, arith}
use Rattle.writer_files.specs.HandCalls.{IsMarkedFrom}
use Rattle.writer_files.proofs.SyncLaws.{reads, rest_more, front_more, marked_from}
use Rattle.writer_files.proofs.full.mark_each.Goals as goal

pub loop-chunk-preserved : goal.loop-chunk-preserved
loop-chunk-preserved g c =
    let i = c.loop-chunk.invariant in
    let R = IsMarkedFrom g.F.Folder.tells (g.F.Folder.port c.args.port.now).fixed in
    let is = marked_from g.F.Folder.tells (g.F.Folder.port c.args.port.now).fixed c.mark.result _ c.mark.new.self c.mark.ensures.fixed c.mark.ensures.marked in
    record {
      marked = front_more R c.args.full.now c.loop-chunk.full c.loop-chunk.chunk-index (get_or c.loop-chunk.full c.loop-chunk.chunk-index c.chunk-item.result) c.mark.new.self (omega arith) (omega arith) (reads c.loop-chunk.full c.loop-chunk.chunk-index c.chunk-item.result (omega arith)) i.marked i.rest is;
      rest = rest_more R c.args.full.now c.loop-chunk.full c.loop-chunk.chunk-index (get_or c.loop-chunk.full c.loop-chunk.chunk-index c.chunk-item.result) c.mark.new.self (omega arith) (omega arith) (reads c.loop-chunk.full c.loop-chunk.chunk-index c.chunk-item.result (omega arith)) i.marked i.rest;
    }
