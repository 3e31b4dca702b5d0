use Rattle.std.proofs.lemmas.Bool.{false≢true}
use Rattle.writer_files.specs.Stocks.{no_names}
use Rattle.partition_writer.proofs.StockLaws.{not_lent as not_true}
use Rattle.partition_writer.proofs.StandLaws.{leaves, reads}
use Rattle.partition_writer.proofs.writer.Writer.close.Goals as goal

pub returns-clause-survives : goal.returns-clause-survives
returns-clause-survives g c = λ tells b a h. leaves _ b a _ h (c.close.ensures.held tells)

pub returns-clause-exact : goal.returns-clause-exact
returns-clause-exact g c = λ tells b a h whole. reads _ b a _ h (c.close.ensures.held tells) whole

pub returns-clause-given : goal.returns-clause-given
returns-clause-given g c = λ tells. record {
  calm = record {
    lent = λ name. not_true ((g.F.Folder.port c.close.result).lent name) (λ lent. false≢true (c.close.ensures.lends tells no_names (c.args.self.lends tells) name lent));
    foreign = λ name. (c.close.ensures.calm tells name).0;
  };
  gone = λ name. (c.close.ensures.calm tells name).1;
}
