use Rattle.std.proofs.Common.{◌∙◌}
use Rattle.writer_files.specs.Stocks.{files_of}
use Rattle.partition_writer.specs.WriterViews.{standing}
use Rattle.dir_files.proofs.JoinLaws.{can_join, no_some}
use Rattle.restart_load.proofs.OpeningLaws.{kept_joined}
use Rattle.restart_load.proofs.opening.close_one.Goals as goal

pub adopt-requires : goal.adopt-requires
adopt-requires g c = λ y.
    can_join _ _ (files_of (standing c.args.writer).stock) (c.requires.given_back y) (c.close.ensures.given y) (c.close.ensures.held y)
    (λ name file is. absurd (no_some _ file (c.requires.none y name) is))

pub returns-clause-same : goal.returns-clause-same
returns-clause-same g c = λ y.
    kept_joined _ _ _ (c.requires.given_back y) (c.close.ensures.given y) (λ name. c.close.ensures.held y name ∙ c.requires.none y name) (c.adopt.ensures.joined y)
