use Rattle.std.proofs.Common.{refl}
use Rattle.writer_files.specs.StockViews.{stock}
use Rattle.writer_files.proofs.StockLaws.{appended_files, appended_lends, appended_stock}
use Rattle.writer_files.proofs.files.WriterFiles.append.Goals as goal

pub invariant_of-self : goal.invariant_of-self
invariant_of-self g c = record {
  stocked = λ told.
      appended_stock g.F.Folder.tells told c.append.result (stock c.args.self.now) (record { port = g.F.Folder.port c.append.new.port; taking = c.append.new.self; full = c.args.self.now.full.items; fresh = c.args.self.now.fresh })
      c.args.class c.args.bytes.now (c.args.self.now.stocked told) (c.append.ensures.port.same told) c.append.ensures.appended refl refl;
}

pub returns-clause-files : goal.returns-clause-files
returns-clause-files g c told =
    appended_files g.F.Folder.tells told c.append.result (stock c.args.self.now) (record { port = g.F.Folder.port c.append.new.port; taking = c.append.new.self; full = c.args.self.now.full.items; fresh = c.args.self.now.fresh })
    c.args.class c.args.bytes.now (c.args.self.now.stocked told) (c.append.ensures.port.same told) c.append.ensures.appended refl refl c.requires.room

pub returns-clause-lends : goal.returns-clause-lends
returns-clause-lends g c told =
    appended_lends g.F.Folder.tells told c.append.result (stock c.args.self.now) (record { port = g.F.Folder.port c.append.new.port; taking = c.append.new.self; full = c.args.self.now.full.items; fresh = c.args.self.now.fresh })
    c.args.class c.args.bytes.now (c.args.self.now.stocked told) (c.append.ensures.port.same told) c.append.ensures.appended refl refl
