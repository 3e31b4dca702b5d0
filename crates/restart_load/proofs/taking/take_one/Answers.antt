use Rattle.std.proofs.Common.{◌≡◌, ◌++◌, ◌∷◌, List, [], All, subst, sym, ap, ◌∙◌}
use Rattle.std.proofs.lemmas.List.Elements.{All-push}
use Rattle.dir_files.specs.Files.{FileState, IsDurable, synced_file}
use Rattle.dir_files.specs.Ports.{Gives}
use Rattle.restart_load.specs.Taking.{HasTaken, TakenFile}
use Rattle.restart_load.proofs.TakingLaws.{taken_back, taken_durable, taken_one}
use Rattle.restart_load.proofs.taking.take_one.Goals as goal

pub returns-in-Ok-clause-taken : goal.returns-in-Ok-clause-taken
returns-in-Ok-clause-taken g c = λ tells start has.
    let file : FileState = g.F.Folder.state c.in_ok-file.file in
    let state : g.F.Folder.state c.sync_file.new.file ≡ synced_file file = c.in-Ok.ensures.synced tells in
    let list : c.push_reserved.new.self.items ≡ c.args.files.now.items ++ record { name = c.args.name; file = synced_file file } ∷ [] =
    c.push_reserved.ensures.items ∙ ap (λ (f : FileState). let t : TakenFile = record { name = c.args.name; file = f } in c.args.files.now.items ++ t ∷ []) state in
    subst (λ (files : List TakenFile). HasTaken start (g.F.Folder.port c.sync_file.new.self) files) (sym list)
    (taken_one start (g.F.Folder.port c.args.folder.now) c.args.files.now.items has c.args.name file (sym (c.in_ok-file.ensures.file tells).1)
    (g.F.Folder.port c.take.new.self) (g.F.Folder.port c.sync_file.new.self) (c.in_ok-file.ensures.taken tells) (g.met.F.Folder.file_fits c.in_ok-file.file tells) (c.in-Ok.ensures.same tells))

pub returns-in-Ok-clause-durable : goal.returns-in-Ok-clause-durable
returns-in-Ok-clause-durable g c = λ tells named all.
    let file : FileState = g.F.Folder.state c.in_ok-file.file in
    let state : g.F.Folder.state c.sync_file.new.file ≡ synced_file file = c.in-Ok.ensures.synced tells in
    let list : c.push_reserved.new.self.items ≡ c.args.files.now.items ++ record { name = c.args.name; file = synced_file file } ∷ [] =
    c.push_reserved.ensures.items ∙ ap (λ (f : FileState). let t : TakenFile = record { name = c.args.name; file = f } in c.args.files.now.items ++ t ∷ []) state in
    subst (λ (files : List TakenFile). All (λ taken. IsDurable taken.file) files) (sym list)
    (All-push (λ (taken : TakenFile). IsDurable taken.file) c.args.files.now.items (record { name = c.args.name; file = synced_file file }) all (taken_durable (g.F.Folder.port c.args.folder.now) c.args.name file (sym (c.in_ok-file.ensures.file tells).1) named))

pub returns-in-Err-clause-taken : goal.returns-in-Err-clause-taken
returns-in-Err-clause-taken g c = λ tells start has.
    let file : FileState = g.F.Folder.state c.in_ok-file.file in
    taken_back start (g.F.Folder.port c.args.folder.now) c.args.files.now.items has c.args.name file (sym (c.in_ok-file.ensures.file tells).1)
    (g.F.Folder.port c.take.new.self) (g.F.Folder.port c.sync_file.new.self) (g.F.Folder.port c.give.new.self) (c.in_ok-file.ensures.taken tells) (c.in-Err.ensures.same tells)
    (subst (λ (f : FileState). Gives (g.F.Folder.port c.sync_file.new.self) (g.F.Folder.port c.give.new.self) c.args.name f) (c.in-Err.ensures.refused tells)
    (c.give.ensures.given tells c.args.name (c.in-Err.ensures.name ∙ (c.in_ok-file.ensures.file tells).0)))
