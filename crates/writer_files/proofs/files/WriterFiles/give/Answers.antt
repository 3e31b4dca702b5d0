use Rattle.std.proofs.Common.{refl}
use Rattle.writer_files.specs.Stocks.{Stock}
use Rattle.writer_files.specs.StockViews.{stock}
use Rattle.writer_files.proofs.StockLaws.{back_files, back_lends, back_stock}
use Rattle.writer_files.proofs.files.WriterFiles.give.Goals as goal

pub invariant_of-self : goal.invariant_of-self
invariant_of-self g c = record {
  stocked = λ told.
      let new : Stock = record { port = g.F.Folder.port c.give.new.port; taking = c.args.self.now.taking; full = c.args.self.now.full.items; fresh = c.args.self.now.fresh } in
      back_stock (stock c.args.self.now) new c.args.chunk.name c.args.chunk.file (c.args.self.now.stocked told) (c.give.ensures.given told) refl refl (c.requires.out told).0 (c.requires.out told).1 (c.requires.durable told) refl;
}

pub returns-clause-files : goal.returns-clause-files
returns-clause-files g c told =
    let new : Stock = record { port = g.F.Folder.port c.give.new.port; taking = c.args.self.now.taking; full = c.args.self.now.full.items; fresh = c.args.self.now.fresh } in
    back_files (stock c.args.self.now) new c.args.chunk.name c.args.chunk.file (c.args.self.now.stocked told) (c.give.ensures.given told) refl refl (c.requires.out told).0

pub returns-clause-lends : goal.returns-clause-lends
returns-clause-lends g c told =
    let new : Stock = record { port = g.F.Folder.port c.give.new.port; taking = c.args.self.now.taking; full = c.args.self.now.full.items; fresh = c.args.self.now.fresh } in
    back_lends (stock c.args.self.now) new c.args.chunk.name c.args.chunk.file (c.args.self.now.stocked told) (c.give.ensures.given told) refl refl (c.requires.out told).0
