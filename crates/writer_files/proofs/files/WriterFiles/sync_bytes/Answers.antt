use Rattle.std.proofs.Common.{ap, refl, ◌∙◌}
use Rattle.std.proofs.lemmas.Bool.{false≢true}
use Rattle.value_chunk.specs.Calls.{IsChunkKept}
use Rattle.writer_files.specs.Stocks.{Stock}
use Rattle.writer_files.specs.StockViews.{stock}
use Rattle.writer_files.proofs.SyncLaws.{kept_itself, leaves_then}
use Rattle.writer_files.proofs.StockLaws.{each_same, full_kept, hands_zip, idle_full, idle_taking, keeps_hands, kept_chunks, kept_files, kept_lends, kept_stock, same_stock, synced_idle, takings_kept}
use Rattle.writer_files.proofs.files.WriterFiles.sync_bytes.Goals as goal

pub invariant_of-self : goal.invariant_of-self
invariant_of-self g c = record {
  stocked = λ told.
      let old = stock c.args.self.now in
      let new : Stock = record { port = g.F.Folder.port c.sync_full.new.port; taking = c.args.self.now.taking; full = c.sync_full.new.full.items; fresh = c.args.self.now.fresh } in
      let zip = hands_zip (IsChunkKept g.F.Folder.tells) old new c.in_err-sync_full.ensures.synced (each_same (IsChunkKept g.F.Folder.tells) (kept_itself g.F.Folder.tells) c.args.self.now.taking) in
      kept_stock g.F.Folder.tells told old new (c.args.self.now.stocked told) (c.in_err-sync_full.ensures.port.same told) zip refl;
}

pub returns-in_err-sync_full-clause-idle : goal.returns-in_err-sync_full-clause-idle
returns-in_err-sync_full-clause-idle g c all =
    absurd (false≢true (c.in_err-sync_full.ensures.idle (idle_full (stock c.args.self.now) all)).0)

pub returns-in_err-sync_full-clause-kept : goal.returns-in_err-sync_full-clause-kept
returns-in_err-sync_full-clause-kept g c =
    let new : Stock = record { port = g.F.Folder.port c.sync_full.new.port; taking = c.args.self.now.taking; full = c.sync_full.new.full.items; fresh = c.args.self.now.fresh } in
    keeps_hands (IsChunkKept g.F.Folder.tells) (kept_chunks g.F.Folder.tells) (stock c.args.self.now) new c.in_err-sync_full.ensures.synced (each_same (IsChunkKept g.F.Folder.tells) (kept_itself g.F.Folder.tells) c.args.self.now.taking)

pub returns-in_err-sync_full-clause-files : goal.returns-in_err-sync_full-clause-files
returns-in_err-sync_full-clause-files g c told =
    let old = stock c.args.self.now in
    let new : Stock = record { port = g.F.Folder.port c.sync_full.new.port; taking = c.args.self.now.taking; full = c.sync_full.new.full.items; fresh = c.args.self.now.fresh } in
    let zip = hands_zip (IsChunkKept g.F.Folder.tells) old new c.in_err-sync_full.ensures.synced (each_same (IsChunkKept g.F.Folder.tells) (kept_itself g.F.Folder.tells) c.args.self.now.taking) in
    kept_files g.F.Folder.tells told old new (c.args.self.now.stocked told) (c.in_err-sync_full.ensures.port.same told) zip

pub returns-in_err-sync_full-clause-lends : goal.returns-in_err-sync_full-clause-lends
returns-in_err-sync_full-clause-lends g c told =
    let old = stock c.args.self.now in
    let new : Stock = record { port = g.F.Folder.port c.sync_full.new.port; taking = c.args.self.now.taking; full = c.sync_full.new.full.items; fresh = c.args.self.now.fresh } in
    let zip = hands_zip (IsChunkKept g.F.Folder.tells) old new c.in_err-sync_full.ensures.synced (each_same (IsChunkKept g.F.Folder.tells) (kept_itself g.F.Folder.tells) c.args.self.now.taking) in
    kept_lends g.F.Folder.tells told old new (c.args.self.now.stocked told) (c.in_err-sync_full.ensures.port.same told) zip

pub invariant_of-self-2 : goal.invariant_of-self-2
invariant_of-self-2 g c = record {
  stocked = λ told.
      let old = stock c.args.self.now in
      let new : Stock = record { port = g.F.Folder.port c.sync.new.port; taking = c.sync.new.self; full = c.sync_full.new.full.items; fresh = c.args.self.now.fresh } in
      let zip = hands_zip (IsChunkKept g.F.Folder.tells) old new (full_kept g.F.Folder.tells old.full new.full c.in_ok-sync_full.ensures.synced) (takings_kept g.F.Folder.tells c.sync.result old.taking new.taking c.sync.ensures.synced) in
      let port = leaves_then g.F.Folder _ c.args.self.now.port c.sync_full.new.port c.sync.new.port c.in_ok-sync_full.ensures.port c.sync.ensures.port in
      kept_stock g.F.Folder.tells told old new (c.args.self.now.stocked told) (port.same told) zip refl;
}

pub returns-clause-synced : goal.returns-clause-synced
returns-clause-synced g c =
    let new : Stock = record { port = g.F.Folder.port c.sync.new.port; taking = c.sync.new.self; full = c.sync_full.new.full.items; fresh = c.args.self.now.fresh } in
    synced_idle g.F.Folder.tells c.sync.result (stock c.args.self.now) new c.in_ok-sync_full.ensures.synced c.sync.ensures.synced

pub returns-clause-idle : goal.returns-clause-idle
returns-clause-idle g c all =
    let first = c.in_ok-sync_full.ensures.idle (idle_full (stock c.args.self.now) all) in
    let second = c.sync.ensures.idle (idle_taking (stock c.args.self.now) all) in (
      second.0,
      same_stock (stock c.args.self.now) (g.F.Folder.port c.sync.new.port) c.sync.new.self c.sync_full.new.full.items (ap g.F.Folder.port (second.2 ∙ first.2)) second.1 first.1,
      second.2 ∙ first.2,
    )

pub returns-clause-kept : goal.returns-clause-kept
returns-clause-kept g c =
    let old = stock c.args.self.now in
    let new : Stock = record { port = g.F.Folder.port c.sync.new.port; taking = c.sync.new.self; full = c.sync_full.new.full.items; fresh = c.args.self.now.fresh } in
    keeps_hands (IsChunkKept g.F.Folder.tells) (kept_chunks g.F.Folder.tells) old new (full_kept g.F.Folder.tells old.full new.full c.in_ok-sync_full.ensures.synced) (takings_kept g.F.Folder.tells c.sync.result old.taking new.taking c.sync.ensures.synced)

pub returns-clause-files : goal.returns-clause-files
returns-clause-files g c told =
    let old = stock c.args.self.now in
    let new : Stock = record { port = g.F.Folder.port c.sync.new.port; taking = c.sync.new.self; full = c.sync_full.new.full.items; fresh = c.args.self.now.fresh } in
    let zip = hands_zip (IsChunkKept g.F.Folder.tells) old new (full_kept g.F.Folder.tells old.full new.full c.in_ok-sync_full.ensures.synced) (takings_kept g.F.Folder.tells c.sync.result old.taking new.taking c.sync.ensures.synced) in
    let port = leaves_then g.F.Folder _ c.args.self.now.port c.sync_full.new.port c.sync.new.port c.in_ok-sync_full.ensures.port c.sync.ensures.port in
    kept_files g.F.Folder.tells told old new (c.args.self.now.stocked told) (port.same told) zip

pub returns-clause-lends : goal.returns-clause-lends
returns-clause-lends g c told =
    let old = stock c.args.self.now in
    let new : Stock = record { port = g.F.Folder.port c.sync.new.port; taking = c.sync.new.self; full = c.sync_full.new.full.items; fresh = c.args.self.now.fresh } in
    let zip = hands_zip (IsChunkKept g.F.Folder.tells) old new (full_kept g.F.Folder.tells old.full new.full c.in_ok-sync_full.ensures.synced) (takings_kept g.F.Folder.tells c.sync.result old.taking new.taking c.sync.ensures.synced) in
    let port = leaves_then g.F.Folder _ c.args.self.now.port c.sync_full.new.port c.sync.new.port c.in_ok-sync_full.ensures.port c.sync.ensures.port in
    kept_lends g.F.Folder.tells told old new (c.args.self.now.stocked told) (port.same told) zip
