use Rattle.std.proofs.Common.{◌≡◌, false, true, [], length}
use Rattle.dir_files.specs.Files.{SameAt}
use Rattle.dir_files.specs.PortCalls.{CountsCall}
use Rattle.writer_files.specs.Stocks.{IsSynced, LendsBut, files_of, no_names}
use Rattle.writer_files.specs.StockViews.{stock, stock_port}
use Rattle.partition_writer.proofs.storing.give_full.Given as goal

abbrev pub invariant-loop-chunk : goal.invariant-loop-chunk
invariant-loop-chunk g l = record {
  synced : IsSynced (stock l.files);
  taking : (stock l.files).taking ≡ (stock l.initial.files).taking;
  idle : (stock l.initial.files).full ≡ [] → ((stock l.files).full ≡ []) × (stock_port l.files ≡ stock_port l.initial.files);
  files : g.F.Folder.tells ≡ true → SameAt (files_of (stock l.initial.files)) (files_of (stock l.files));
  lends : g.F.Folder.tells ≡ true → LendsBut no_names (stock l.files);
  counts : CountsCall g.F.Folder false (stock_port l.initial.files) (stock_port l.files);
}

abbrev pub decreases-loop-chunk : goal.decreases-loop-chunk
decreases-loop-chunk g l = length (stock l.files).full
