use Rattle.std.proofs.lemmas.Result.{IfOk-weaker}
use Rattle.restart_load.proofs.FolderLaws.{all_at_rest, all_given, all_keep, all_read, all_refused}
use Rattle.restart_load.proofs.restarting.read_folder.Goals as goal

pub returns-clause-read : goal.returns-clause-read
returns-clause-read g c = λ tells.
    all_read (λ contents. contents.items) c.secure-read.result _ _ c.args.names.now c.secure-read.new.files.items (c.requires.listed tells) (c.secure-read.ensures.taken tells)
    (c.secure-read.ensures.read tells) c.secure-read.ensures.names

pub returns-clause-refused : goal.returns-clause-refused
returns-clause-refused g c =
    all_refused c.secure-read.result g.F.Folder.tells _ (g.F.Folder.port c.secure-read.new.folder) c.args.names.now c.secure-read.new.files.items c.requires.valid c.requires.sorted
    c.requires.listed c.secure-read.ensures.taken c.secure-read.ensures.refused c.secure-read.ensures.listed

pub returns-clause-images : goal.returns-clause-images
returns-clause-images g c = λ tells. all_keep _ _ (c.requires.given_back tells) (c.give_files.ensures.given tells _ (c.secure-read.ensures.taken tells))

pub returns-clause-given_back : goal.returns-clause-given_back
returns-clause-given_back g c = λ tells. all_given _ _ (c.requires.given_back tells) (c.give_files.ensures.given tells _ (c.secure-read.ensures.taken tells))

pub returns-clause-at_rest : goal.returns-clause-at_rest
returns-clause-at_rest g c = λ tells.
    let taken = c.secure-read.ensures.taken tells in
    IfOk-weaker c.secure-read.result _ _
    (λ _ durable. all_at_rest _ _ (c.requires.given_back tells) (c.give_files.ensures.given tells _ taken) (c.give_files.ensures.durable tells _ taken durable))
    (c.secure-read.ensures.durable tells)
