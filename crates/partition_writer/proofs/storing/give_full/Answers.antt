use Rattle.std.proofs.Common.{false, refl, ◌∙◌, subst}
use Rattle.dir_files.specs.PortCalls.{CountsCall}
use Rattle.writer_files.specs.Stocks.{no_names}
use Rattle.writer_files.specs.StockViews.{stock, stock_port}
use Rattle.writer_files.proofs.SyncLaws.{counts_none, counts_then}
use Rattle.partition_writer.proofs.StockLaws.{none_full, rest_files, rest_synced}
use Rattle.partition_writer.proofs.storing.give_full.Goals as goal

pub loop-chunk-init : goal.loop-chunk-init
loop-chunk-init g c = record {
  synced = c.requires.synced;
  taking = refl;
  idle = λ none. (none, refl);
  files = λ told n. refl;
  lends = c.requires.lends;
  counts = counts_none g.F.Folder (stock_port c.args.files.now) (g.met.F.Folder.sound_count (stock_port c.args.files.now));
}

pub loop-chunk-preserved : goal.loop-chunk-preserved
loop-chunk-preserved g c =
    let i = c.loop-chunk.invariant in
    let old = stock c.loop-chunk.files in
    let was = stock c.next_sealed.new.self in
    let new = stock c.give.new.self in
    let chunk = c.in-Some.chunk in
    let out = c.in-Some.ensures.out in
    let hands = c.give.ensures.hands in record {
      synced = rest_synced old was new chunk out hands.0 hands.1 hands.2 i.synced;
      taking = hands.0 ∙ out.taking ∙ i.taking;
      idle = λ none. absurd (none_full old was chunk out (i.idle none).0);
      files = λ told n.
          rest_files old was new chunk out hands.0 hands.1 hands.2 (c.in-Some.ensures.files told).0 (c.in-Some.ensures.files told).1 (c.give.ensures.files told) n ∙ i.files told n;
      lends = λ told. c.give.ensures.lends told no_names ((c.in-Some.ensures.lends told).1 no_names (i.lends told));
      counts =
          counts_then g.F.Folder false (stock_port c.args.files.now) (stock_port c.loop-chunk.files) (stock_port c.give.new.self) i.counts
          (subst (λ (x : _). CountsCall g.F.Folder false x (stock_port c.give.new.self)) c.in-Some.ensures.port c.give.ensures.counts);
    }
