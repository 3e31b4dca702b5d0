use Rattle.std.proofs.Common.{◌≡◌, ◌<◌, ℕ, All, List, Some, slice_get, sym, subst, ◌∙◌, arith}
use Rattle.std.proofs.lemmas.List.{length-map}
use Rattle.std.proofs.lemmas.Result.{err_from_is_err_and}
use Rattle.hr_base.specs.declared.name.ChunkName.{ChunkName}
use Rattle.hr_base.specs.Names.{IsChunkName}
use Rattle.partition_writer.specs.WriterViews.{standing}
use Rattle.restart_load.specs.Contents.{FileBytes}
use Rattle.restart_load.specs.Numbers.{IsNextAmong}
use Rattle.restart_load.specs.Opening.{AreOpened, CanOpenAll}
use Rattle.restart_load.specs.Writers.{standings}
use Rattle.restart_load.proofs.FolderLaws.{keeps_after}
use Rattle.restart_load.proofs.LoadLaws.{printable_refusal, refused_image}
use Rattle.restart_load.proofs.ResumedLaws.{All-unmap, can_open, image_restarts, images_kept, none_stray, refused_same, rest_kept, restartable_same, resumed_at, resumed_from}
use Rattle.restart_load.proofs.restarting.restart.Goals as goal

pub load-requires-clause-known : goal.load-requires-clause-known
load-requires-clause-known g c =
    All-unmap (λ (name : ChunkName). name.partition.0 < c.args.limits.now.partitions) (λ (file : FileBytes). file.name) c.in_ok-contents.contents.items c.in_ok-names.names.items
    (c.in_ok-contents.ensures.names ∙ c.as_slice-2.ensures.value)
    (subst (λ (names : List ChunkName). All (λ name. name.partition.0 < c.args.limits.now.partitions) names) c.as_slice.ensures.value c.in_default.ensures.none)

pub returns-in_err-parts-clause-refused : goal.returns-in_err-parts-clause-refused
returns-in_err-parts-clause-refused g c = λ tells.
    let known : All (λ (name : ChunkName). name.partition.0 < c.args.limits.now.partitions) c.in_ok-names.names.items =
    subst (λ (names : List ChunkName). All (λ name. name.partition.0 < c.args.limits.now.partitions) names) c.as_slice.ensures.value c.in_default.ensures.none in
    let e = err_from_is_err_and c.from_residual-in_err-parts.result c.from_residual-in_err-parts.ensures.1 in
    rw (e.1, e.2)
    (refused_same _ _ c.args.limits.now.partitions _ (λ name. sym ((c.list_names.ensures.images tells).read name))
    (refused_image _ c.in_ok-contents.contents.items (c.in_ok-contents.ensures.read tells) c.args.limits.now.partitions
    (none_stray _ c.in_ok-names.names.items (c.in_ok-names.ensures.listed tells) c.args.limits.now.partitions known) c.in_ok-contents.ensures.small _ c.in_err-parts.ensures.refused))

pub returns-in_err-parts-clause-printable : goal.returns-in_err-parts-clause-printable
returns-in_err-parts-clause-printable g c =
    let e = err_from_is_err_and c.from_residual-in_err-parts.result c.from_residual-in_err-parts.ensures.1 in
    rw (e.1, e.2)
    (printable_refusal c.in_ok-contents.contents.items
    (All-unmap IsChunkName (λ (file : FileBytes). file.name) c.in_ok-contents.contents.items c.in_ok-names.names.items (c.in_ok-contents.ensures.names ∙ c.as_slice-2.ensures.value) c.in_ok-names.ensures.valid)
    _ c.in_err-parts.ensures.refused)

pub open_writers-requires-clause-open : goal.open_writers-requires-clause-open
open_writers-requires-clause-open g c =
    subst (λ (chunks : List ℕ). CanOpenAll c.in_ok-parts.parts.items chunks) (sym c.as_slice-4.ensures.value)
    (can_open c.in_ok-contents.contents.items c.as_slice-3.result.now c.in_ok-parts.parts.items c.in_ok-chunks.chunks.items c.in_ok-parts.ensures.replayed c.in_ok-chunks.ensures.next)

pub returns-clause-limits : goal.returns-clause-limits
returns-clause-limits g c = λ p s is. (c.in_ok-writers.ensures.opened p s is).4.limited

pub returns-clause-resumed : goal.returns-clause-resumed
returns-clause-resumed g c =
    let known : All (λ (name : ChunkName). name.partition.0 < c.args.limits.now.partitions) c.in_ok-names.names.items =
    subst (λ (names : List ChunkName). All (λ name. name.partition.0 < c.args.limits.now.partitions) names) c.as_slice.ensures.value c.in_default.ensures.none in
    let next : (p n : ℕ) → slice_get c.in_ok-chunks.chunks.items p ≡ Some n → IsNextAmong c.in_ok-names.names.items p n =
    subst (λ (names : List ChunkName). (p n : ℕ) → slice_get c.in_ok-chunks.chunks.items p ≡ Some n → IsNextAmong names p n) c.as_slice-3.ensures.value c.in_ok-chunks.ensures.next in
    let opened : AreOpened g.F.Folder.tells c.args.limits.now c.in_ok-parts.parts.items c.in_ok-chunks.chunks.items (standings c.in_ok-writers.writers.items) =
    subst (λ (chunks : List ℕ). AreOpened g.F.Folder.tells c.args.limits.now c.in_ok-parts.parts.items chunks (standings c.in_ok-writers.writers.items)) c.as_slice-4.ensures.value c.in_ok-writers.ensures.opened in
    resumed_from g.F.Folder.tells c.args.limits.now (g.F.Folder.port c.args.folder.now) (g.F.Folder.port c.list_names.new.folder) c.in_ok-names.names.items c.in_ok-contents.contents.items
    c.in_ok-parts.parts.items c.in_ok-chunks.chunks.items (standings c.in_ok-writers.writers.items) opened
    (length-map c.in_ok-writers.writers.items (λ writer. standing writer) ∙ c.in_ok-writers.ensures.all)
    (λ tells. (c.list_names.ensures.images tells).read)
    (λ tells p s is below.
    resumed_at g.F.Folder.tells c.args.limits.now (g.F.Folder.port c.list_names.new.folder) c.in_ok-names.names.items c.in_ok-contents.contents.items c.in_ok-parts.parts.items c.in_ok-chunks.chunks.items
    (standings c.in_ok-writers.writers.items) opened (c.in_ok-names.ensures.listed tells) (c.in_ok-contents.ensures.read tells) c.in_ok-contents.ensures.small c.in_ok-parts.ensures.torn known
    c.in_ok-parts.ensures.each c.in_ok-parts.ensures.replayed next p s is below tells)

pub returns-clause-restartable : goal.returns-clause-restartable
returns-clause-restartable g c = λ tells.
    let known : All (λ (name : ChunkName). name.partition.0 < c.args.limits.now.partitions) c.in_ok-names.names.items =
    subst (λ (names : List ChunkName). All (λ name. name.partition.0 < c.args.limits.now.partitions) names) c.as_slice.ensures.value c.in_default.ensures.none in
    let next : (p n : ℕ) → slice_get c.in_ok-chunks.chunks.items p ≡ Some n → IsNextAmong c.in_ok-names.names.items p n =
    subst (λ (names : List ChunkName). (p n : ℕ) → slice_get c.in_ok-chunks.chunks.items p ≡ Some n → IsNextAmong names p n) c.as_slice-3.ensures.value c.in_ok-chunks.ensures.next in
    let opened : AreOpened g.F.Folder.tells c.args.limits.now c.in_ok-parts.parts.items c.in_ok-chunks.chunks.items (standings c.in_ok-writers.writers.items) =
    subst (λ (chunks : List ℕ). AreOpened g.F.Folder.tells c.args.limits.now c.in_ok-parts.parts.items chunks (standings c.in_ok-writers.writers.items)) c.as_slice-4.ensures.value c.in_ok-writers.ensures.opened in
    restartable_same _ _ c.args.limits.now.partitions (λ name. sym ((c.list_names.ensures.images tells).read name))
    (image_restarts g.F.Folder.tells c.args.limits.now (g.F.Folder.port c.list_names.new.folder) c.in_ok-names.names.items c.in_ok-contents.contents.items c.in_ok-parts.parts.items c.in_ok-chunks.chunks.items
    (standings c.in_ok-writers.writers.items) opened (c.in_ok-names.ensures.listed tells) (c.in_ok-contents.ensures.read tells) c.in_ok-contents.ensures.small c.in_ok-parts.ensures.torn known
    c.in_ok-parts.ensures.each c.in_ok-parts.ensures.replayed next)

pub returns-clause-calm : goal.returns-clause-calm
returns-clause-calm g c = λ tells. (c.open_writers.ensures.same tells).given_back.calm

pub returns-clause-images : goal.returns-clause-images
returns-clause-images g c = λ tells.
    keeps_after _ _ _ (c.list_names.ensures.images tells)
    (keeps_after _ _ _ (c.in_ok-contents.ensures.images tells) (images_kept _ _ (c.in_ok-contents.ensures.given_back tells) (c.open_writers.ensures.same tells)))

pub returns-clause-at_rest : goal.returns-clause-at_rest
returns-clause-at_rest g c = λ tells. rest_kept _ _ (c.open_writers.ensures.same tells) (c.in_ok-contents.ensures.at_rest tells)

pub returns-clause-kept : goal.returns-clause-kept
returns-clause-kept g c = omega (arith, c.list_names.ensures.kept, c.read_folder.ensures.kept, c.open_writers.ensures.kept)
