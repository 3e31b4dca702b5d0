use Rattle.std.proofs.Common.{◌≡◌, false, Err, get_or, sym, ap, ◌∙◌, subst, arith, Bool}
use Rattle.std.proofs.lemmas.Result.{err_from_is_err_and}
use Rattle.dir_files.specs.declared.folder.FolderRefusal.{FolderRefusal}
use Rattle.dir_files.specs.Faults.{is_fault}
use Rattle.dir_files.specs.PortCalls.{LeavesPort}
use Rattle.value_chunk.specs.Chunks.{Chunk}
use Rattle.writer_files.proofs.SyncLaws.{reads, leaves_then, read_old, rest_more, front_more, stopped, same_more, all_zipped, kept_synced, kept_itself, kept_told}
use Rattle.value_chunk.specs.Calls.{IsChunkKept}
use Rattle.writer_files.specs.HandCalls.{IsSyncedFrom}
use Rattle.writer_files.proofs.full.sync_each.Goals as goal

pub returns-in_err-sync-clause-synced : goal.returns-in_err-sync-clause-synced
returns-in_err-sync-clause-synced g c =
    let i = c.loop-chunk.invariant in
    let e = err_from_is_err_and c.from_residual.result c.from_residual.ensures.1 in
    rw e.1 (stopped (IsSyncedFrom g.F.Folder.tells) c.args.full.now c.loop-chunk.full c.loop-chunk.chunk-index (get_or c.loop-chunk.full c.loop-chunk.chunk-index c.chunk-item.result) c.sync.new.self (omega arith) (omega arith) (reads c.loop-chunk.full c.loop-chunk.chunk-index c.chunk-item.result (omega arith)) i.synced i.rest (IsChunkKept g.F.Folder.tells) (kept_synced g.F.Folder.tells) (kept_itself g.F.Folder.tells) (kept_told g.F.Folder.tells _ _ c.in_err-sync.ensures.synced))

pub returns-in_err-sync-clause-port : goal.returns-in_err-sync-clause-port
returns-in_err-sync-clause-port g c =
    let e = err_from_is_err_and c.from_residual.result c.from_residual.ensures.1 in
    let same = ap is_fault (e.1 ∙ ap (λ (x : FolderRefusal). Err x) e.2) in
    subst (λ (b : Bool). LeavesPort g.F.Folder b c.args.port.now c.sync.new.port) (sym same)
    (leaves_then g.F.Folder _ c.args.port.now c.loop-chunk.port c.sync.new.port c.loop-chunk.invariant.port c.in_err-sync.ensures.port)

pub loop-chunk-preserved : goal.loop-chunk-preserved
loop-chunk-preserved g c =
    let i = c.loop-chunk.invariant in
    let zip = front_more (IsSyncedFrom g.F.Folder.tells) c.args.full.now c.loop-chunk.full c.loop-chunk.chunk-index (get_or c.loop-chunk.full c.loop-chunk.chunk-index c.chunk-item.result) c.sync.new.self (omega arith) (omega arith) (reads c.loop-chunk.full c.loop-chunk.chunk-index c.chunk-item.result (omega arith)) i.synced i.rest c.in_ok-sync.ensures.synced in
    let rest = rest_more (IsSyncedFrom g.F.Folder.tells) c.args.full.now c.loop-chunk.full c.loop-chunk.chunk-index (get_or c.loop-chunk.full c.loop-chunk.chunk-index c.chunk-item.result) c.sync.new.self (omega arith) (omega arith) (reads c.loop-chunk.full c.loop-chunk.chunk-index c.chunk-item.result (omega arith)) i.synced i.rest in
    record {
      synced = zip;
      rest = rest;
      idle = λ all.
          let same = i.idle all in
          let none : (get_or c.loop-chunk.full c.loop-chunk.chunk-index c.chunk-item.result).unsynced ≡ false =
          ap (λ (x : Chunk). x.unsynced) (read_old (IsSyncedFrom g.F.Folder.tells) c.args.full.now c.loop-chunk.full c.loop-chunk.chunk-index (get_or c.loop-chunk.full c.loop-chunk.chunk-index c.chunk-item.result) c.sync.new.self (omega arith) (omega arith) (reads c.loop-chunk.full c.loop-chunk.chunk-index c.chunk-item.result (omega arith)) i.synced i.rest)
          ∙ all c.loop-chunk.chunk-index (get_or c.loop-chunk.full c.loop-chunk.chunk-index c.chunk-item.result) (omega arith) in
          let kept = c.in_ok-sync.ensures.idle none in
          (same_more (IsSyncedFrom g.F.Folder.tells) c.args.full.now c.loop-chunk.full c.loop-chunk.chunk-index (get_or c.loop-chunk.full c.loop-chunk.chunk-index c.chunk-item.result) c.sync.new.self (omega arith) (omega arith) (reads c.loop-chunk.full c.loop-chunk.chunk-index c.chunk-item.result (omega arith)) i.synced i.rest kept.1 ∙ same.0, kept.2 ∙ same.1);
      port = leaves_then g.F.Folder false c.args.port.now c.loop-chunk.port c.sync.new.port i.port c.in_ok-sync.ensures.port;
    }

pub returns-clause-synced : goal.returns-clause-synced
returns-clause-synced g c =
    all_zipped (IsSyncedFrom g.F.Folder.tells) c.args.full.now c.loop-chunk.full c.loop-chunk.chunk-index (omega arith) (omega arith) c.loop-chunk.invariant.synced
