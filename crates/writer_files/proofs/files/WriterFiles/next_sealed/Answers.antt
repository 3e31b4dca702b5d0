use Rattle.std.proofs.Common.{refl}
use Rattle.writer_files.specs.Stocks.{Stock}
use Rattle.writer_files.specs.StockViews.{stock}
use Rattle.writer_files.proofs.StockLaws.{idle_first, out_durable, popped_stock}
use Rattle.writer_files.proofs.files.WriterFiles.next_sealed.Goals as goal

pub invariant_of-self : goal.invariant_of-self
invariant_of-self g c = record {
  stocked = λ told. popped_stock (stock c.args.self.now) c.pop_front.new.self.items c.pop_front.result c.pop_front.ensures.items (c.args.self.now.stocked told);
}

pub sealed-requires-clause-durable : goal.sealed-requires-clause-durable
sealed-requires-clause-durable g c told =
    let new : Stock = record { port = g.F.Folder.port c.args.self.now.port; taking = c.args.self.now.taking; full = c.pop_front.new.self.items; fresh = c.args.self.now.fresh } in
    out_durable (stock c.args.self.now) new c.in-Some.chunk (c.args.self.now.stocked told) refl c.in-Some.ensures.items refl refl c.requires.fresh (idle_first (stock c.args.self.now) c.in-Some.chunk c.pop_front.new.self.items c.in-Some.ensures.items c.requires.synced)
