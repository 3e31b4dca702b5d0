use Rattle.writer_files.specs.StockViews.{stock}
use Rattle.writer_files.proofs.StockLaws.{hands_then, quiet_durable, stock_files}
use Rattle.writer_files.proofs.files.WriterFiles.sync.Goals as goal

pub returns-in_err-sync_bytes-clause-fits : goal.returns-in_err-sync_bytes-clause-fits
returns-in_err-sync_bytes-clause-fits g c told =
    stock_files (stock c.sync_bytes.new.self) (c.sync_bytes.new.self.stocked told) (g.met.F.Folder.lawful c.sync_bytes.new.self.port told)

pub returns-in_err-sync_names-clause-fits : goal.returns-in_err-sync_names-clause-fits
returns-in_err-sync_names-clause-fits g c told =
    stock_files (stock c.sync_names.new.self) (c.sync_names.new.self.stocked told) (g.met.F.Folder.lawful c.sync_names.new.self.port told)

pub returns-in_err-sync_names-clause-kept : goal.returns-in_err-sync_names-clause-kept
returns-in_err-sync_names-clause-kept g c =
    hands_then (stock c.args.self.now) (stock c.sync_bytes.new.self) (stock c.sync_names.new.self) c.in_ok-sync_bytes.ensures.kept c.in_err-sync_names.ensures.kept

pub returns-in_ok-sync_names-clause-kept : goal.returns-in_ok-sync_names-clause-kept
returns-in_ok-sync_names-clause-kept g c =
    hands_then (stock c.args.self.now) (stock c.sync_bytes.new.self) (stock c.sync_names.new.self) c.in_ok-sync_bytes.ensures.kept c.in_ok-sync_names.ensures.kept

pub returns-else-self-clause-durable : goal.returns-else-self-clause-durable
returns-else-self-clause-durable g c told =
    quiet_durable (stock c.sync_bytes.new.self) (c.sync_bytes.new.self.stocked told) c.if-self.false c.in_ok-sync_bytes.ensures.synced

pub returns-else-self-clause-fits : goal.returns-else-self-clause-fits
returns-else-self-clause-fits g c told =
    stock_files (stock c.sync_bytes.new.self) (c.sync_bytes.new.self.stocked told) (g.met.F.Folder.lawful c.sync_bytes.new.self.port told)
