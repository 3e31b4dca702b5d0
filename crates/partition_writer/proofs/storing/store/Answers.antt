use Rattle.std.proofs.Common.{rules, sym, subst, ◌≢◌, length, Result, Err, OnOk}
use Rattle.hr_base.specs.declared.limits.TheConstants.{MAX_CHUNK_LIMIT}
use Rattle.hr_base.specs.declared.name.ChunkName.{ChunkName}
use Rattle.dir_files.specs.declared.folder.FolderRefusal.{FolderRefusal}
use Rattle.dir_files.specs.declared.folder.FolderRefusal.TheVariants.{Fault}
use Rattle.writer_files.specs.Stocks.{files_of, no_names}
use Rattle.writer_files.specs.StockViews.{stock}
use Rattle.writer_files.specs.StockCalls.{ExtendsFile}
use Rattle.partition_writer.specs.Standing.{chosen}
use Rattle.partition_writer.specs.Storing.{Fills, StoresIn}
use Rattle.partition_writer.proofs.StockLaws.{appended_files, appended_own, appended_ready, appended_taking, below_after, fills_done, no_fault_before, ok_no_fault, stores_after}
use Rattle.partition_writer.proofs.storing.store.Goals as goal

pub returns-clause-own : goal.returns-clause-own
returns-clause-own g c =
    appended_own g.F.Folder.tells c.append.result (stock c.make_room.new.files) (stock c.append.new.self) c.args.class c.args.bytes.now (length c.args.bytes.now) MAX_CHUNK_LIMIT
    (search rules) c.append.ensures.appended c.args.next.partition c.make_room.ensures.own

pub returns-clause-ready : goal.returns-clause-ready
returns-clause-ready g c = λ whole.
    appended_ready g.F.Folder.tells c.append.result (stock c.make_room.new.files) (stock c.append.new.self) c.args.class c.args.bytes.now (length c.args.bytes.now) MAX_CHUNK_LIMIT
    (search rules) c.append.ensures.appended
    (no_fault_before c.append.result (subst (λ (answer : Result (Unit {0}) FolderRefusal). answer ≢ Err Fault) c.without_offset.ensures whole)) c.make_room.ensures.ready

pub returns-clause-taking : goal.returns-clause-taking
returns-clause-taking g c = λ other taking.
    c.make_room.ensures.taking other
    (appended_taking g.F.Folder.tells c.append.result (stock c.make_room.new.files) (stock c.append.new.self) c.args.class c.args.bytes.now (length c.args.bytes.now) MAX_CHUNK_LIMIT
    (search rules) c.append.ensures.appended other taking)

pub returns-clause-fills : goal.returns-clause-fills
returns-clause-fills g c =
    subst (λ (answer : Result (Unit {0}) FolderRefusal). OnOk answer (Fills (stock c.args.files.now) (stock c.append.new.self) c.args.class (length c.args.bytes.now) c.args.limit c.args.next)) (sym c.without_offset.ensures)
    (fills_done g.F.Folder.tells c.append.result (stock c.args.files.now) (stock c.make_room.new.files) (stock c.append.new.self) c.args.class c.args.bytes.now c.args.limit MAX_CHUNK_LIMIT c.args.next
    (search rules) (search rules) c.make_room.ensures.others (search rules) (search rules) c.append.ensures.appended)

pub returns-clause-files : goal.returns-clause-files
returns-clause-files g c = λ tells.
    let name = chosen (stock c.args.files.now) c.args.class (length c.args.bytes.now) c.args.limit c.args.next in
    let extends = appended_files g.F.Folder.tells c.append.result (stock c.make_room.new.files) (stock c.append.new.self) c.args.class c.args.bytes.now (length c.args.bytes.now) MAX_CHUNK_LIMIT
    (search rules) c.append.ensures.appended
    (λ (n : ChunkName). ExtendsFile c.append.result (files_of (stock c.make_room.new.files)) (files_of (stock c.append.new.self)) n c.args.bytes.now)
    (c.append.ensures.files tells) name (search rules) in
    subst (λ (answer : Result (Unit {0}) FolderRefusal). StoresIn answer (files_of (stock c.args.files.now)) (files_of (stock c.append.new.self)) name c.args.bytes.now) (sym c.without_offset.ensures)
    (stores_after (files_of (stock c.args.files.now)) (files_of (stock c.make_room.new.files)) (files_of (stock c.append.new.self)) name c.args.bytes.now c.append.result
    (c.in_ok-make_room.ensures.files tells) extends)

pub returns-clause-below : goal.returns-clause-below
returns-clause-below g c = λ tells whole numbered below.
    let name = chosen (stock c.args.files.now) c.args.class (length c.args.bytes.now) c.args.limit c.args.next in
    let extends = appended_files g.F.Folder.tells c.append.result (stock c.make_room.new.files) (stock c.append.new.self) c.args.class c.args.bytes.now (length c.args.bytes.now) MAX_CHUNK_LIMIT
    (search rules) c.append.ensures.appended
    (λ (n : ChunkName). ExtendsFile c.append.result (files_of (stock c.make_room.new.files)) (files_of (stock c.append.new.self)) n c.args.bytes.now)
    (c.append.ensures.files tells) name (search rules) in
    below_after (files_of (stock c.make_room.new.files)) (files_of (stock c.append.new.self)) name c.args.bytes.now c.append.result c.make_room.new.next_chunk
    (c.make_room.ensures.below tells (ok_no_fault _ (search rules)) numbered below) extends

pub returns-clause-lends : goal.returns-clause-lends
returns-clause-lends g c told = c.append.ensures.lends told no_names (c.make_room.ensures.lends told)
