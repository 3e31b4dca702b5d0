use Rattle.std.proofs.Common.{false, refl}
use Rattle.writer_files.specs.HandCalls.{IsMarkedFrom}
use Rattle.writer_files.specs.Stocks.{Stock, in_hand}
use Rattle.writer_files.specs.StockViews.{stock}
use Rattle.writer_files.proofs.StockLaws.{hands_same, hands_zip, idle_marked, keeps_hands, marked_chunks, settled_durable, settled_files, settled_lends, settled_stock}
use Rattle.writer_files.proofs.files.WriterFiles.sync_names.Goals as goal

pub returns-in_err-sync_names-clause-kept : goal.returns-in_err-sync_names-clause-kept
returns-in_err-sync_names-clause-kept g c = hands_same (stock c.args.self.now) (g.F.Folder.port c.sync_names.new.self)

pub invariant_of-self-2 : goal.invariant_of-self-2
invariant_of-self-2 g c = record {
  stocked = λ told.
      let old = stock c.args.self.now in
      let new : Stock = record { port = g.F.Folder.port c.sync_names.new.self; taking = c.mark.new.self; full = c.mark_full.new.full.items; fresh = false } in
      let zip = hands_zip (IsMarkedFrom g.F.Folder.tells new.port.fixed) old new c.mark_full.ensures c.mark.ensures in
      settled_stock g.F.Folder.tells told old new (c.args.self.now.stocked told) (c.in_ok-sync_names.ensures.synced told) c.requires.synced zip;
}

pub returns-clause-durable : goal.returns-clause-durable
returns-clause-durable g c told =
    let old = stock c.args.self.now in
    let new : Stock = record { port = g.F.Folder.port c.sync_names.new.self; taking = c.mark.new.self; full = c.mark_full.new.full.items; fresh = false } in
    let zip = hands_zip (IsMarkedFrom g.F.Folder.tells new.port.fixed) old new c.mark_full.ensures c.mark.ensures in
    settled_durable g.F.Folder.tells told old new (c.args.self.now.stocked told) (c.in_ok-sync_names.ensures.synced told) c.requires.synced zip

pub returns-clause-files : goal.returns-clause-files
returns-clause-files g c told =
    let old = stock c.args.self.now in
    let new : Stock = record { port = g.F.Folder.port c.sync_names.new.self; taking = c.mark.new.self; full = c.mark_full.new.full.items; fresh = false } in
    let zip = hands_zip (IsMarkedFrom g.F.Folder.tells new.port.fixed) old new c.mark_full.ensures c.mark.ensures in
    settled_files g.F.Folder.tells told old new (c.args.self.now.stocked told) (c.in_ok-sync_names.ensures.synced told) c.requires.synced zip

pub returns-clause-lends : goal.returns-clause-lends
returns-clause-lends g c told =
    let old = stock c.args.self.now in
    let new : Stock = record { port = g.F.Folder.port c.sync_names.new.self; taking = c.mark.new.self; full = c.mark_full.new.full.items; fresh = false } in
    let zip = hands_zip (IsMarkedFrom g.F.Folder.tells new.port.fixed) old new c.mark_full.ensures c.mark.ensures in
    settled_lends g.F.Folder.tells told old new (c.args.self.now.stocked told) (c.in_ok-sync_names.ensures.synced told) c.requires.synced zip

pub returns-clause-synced : goal.returns-clause-synced
returns-clause-synced g c =
    let old = stock c.args.self.now in
    let new : Stock = record { port = g.F.Folder.port c.sync_names.new.self; taking = c.mark.new.self; full = c.mark_full.new.full.items; fresh = false } in
    let zip = hands_zip (IsMarkedFrom g.F.Folder.tells new.port.fixed) old new c.mark_full.ensures c.mark.ensures in
    record {
      fresh = refl;
      synced = idle_marked g.F.Folder.tells new.port.fixed (in_hand old) (in_hand new) zip c.requires.synced;
    }

pub returns-clause-kept : goal.returns-clause-kept
returns-clause-kept g c =
    let old = stock c.args.self.now in
    let new : Stock = record { port = g.F.Folder.port c.sync_names.new.self; taking = c.mark.new.self; full = c.mark_full.new.full.items; fresh = false } in
    keeps_hands (IsMarkedFrom g.F.Folder.tells new.port.fixed) (marked_chunks g.F.Folder.tells new.port.fixed) old new c.mark_full.ensures c.mark.ensures
