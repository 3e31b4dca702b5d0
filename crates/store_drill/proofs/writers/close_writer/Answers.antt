use Rattle.std.proofs.Common.{Option, ap, ◌∙◌}
use Rattle.dir_files.specs.Files.{FileState}
use Rattle.dir_files.specs.Ports.{either_file}
use Rattle.writer_files.specs.Stocks.{files_of}
use Rattle.partition_writer.specs.WriterViews.{standing}
use Rattle.dir_files.proofs.JoinLaws.{can_join, given_back_joined}
use Rattle.store_drill.proofs.writers.close_writer.Goals as goal

pub adopt-requires : goal.adopt-requires
adopt-requires g c = λ y. can_join _ _ (files_of (standing c.args.writer).stock) (c.requires.given_back y) (c.close.ensures.given y) (c.close.ensures.held y) (c.requires.apart y)

pub returns-clause-given_back : goal.returns-clause-given_back
returns-clause-given_back g c = λ y. given_back_joined _ _ _ (c.requires.given_back y) (c.close.ensures.given y) (c.adopt.ensures.joined y)

pub returns-clause-held : goal.returns-clause-held
returns-clause-held g c = λ y name.
    (c.adopt.ensures.joined y).held name ∙ ap (λ (o : Option FileState). either_file ((g.F.Folder.port c.args.folder.now).held name) o) (c.close.ensures.held y name)
