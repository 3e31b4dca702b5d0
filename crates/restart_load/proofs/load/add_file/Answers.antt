use Rattle.std.proofs.Common.{◌≡◌, ◌<◌, ◌++◌, List, [], length, map, ap, subst, sym, ◌∙◌, refl, rules, slice_set}
use Rattle.std.proofs.lemmas.List.{get_or_default}
use Rattle.hr_base.specs.Names.{class_of_kind}
use Rattle.chunk_read.specs.Chunks.{IsChunkOf}
use Rattle.crash_law.specs.Placed.{Placed}
use Rattle.record_replay.specs.Replays.{found_in}
use Rattle.restart_load.specs.Contents.{FileBytes}
use Rattle.restart_load.specs.Gathering.{IsAdded, found_of}
use Rattle.restart_load.proofs.GatherLaws.{IsAdded-from_chunk}
use Rattle.restart_load.proofs.load.add_file.Goals as goal

pub returns-in-Ok-clause-added : goal.returns-in-Ok-clause-added
returns-in-Ok-clause-added c =
    let file : FileBytes = record { name = c.file.inside.name; bytes = c.file.inside.bytes.items } in
    let is : IsChunkOf (class_of_kind file.name.kind) file.bytes c.in-Ok.chunk = rw (sym c.class_of.ensures, sym c.deref.ensures.value) c.in-Ok.ensures.read in
    let within : file.name.partition.0 < length c.args.found.now = search rules in
    let added : c.add.new.self ≡ found_of c.args.found.now file.name.partition.0 ++ map (λ x. found_in file.name x.1) c.in-Ok.chunk.records =
    c.in_ok-add-in-Ok.ensures.ok
    ∙ ap (λ (xs : List Placed). xs ++ map (λ x. found_in file.name x.1) c.in-Ok.chunk.records) (get_or_default c.args.found.now file.name.partition.0 c.index-found-name.result [] within) in
    let same : file ≡ c.args.file = search rules in
    subst (λ (x : FileBytes). IsAdded x c.args.found.now (slice_set c.args.found.now file.name.partition.0 c.add.new.self)) same
    (IsAdded-from_chunk file c.args.found.now _ c.add.new.self c.in-Ok.chunk is added refl)
