use Rattle.writer_files.specs.Stocks.{no_names}
use Rattle.writer_files.specs.StockViews.{stock}
use Rattle.partition_writer.proofs.StockLaws.{begun_own, refused_taking, same_own}
use Rattle.partition_writer.proofs.storing.make_room.Goals as goal

pub returns-in_err-begin-clause-own : goal.returns-in_err-begin-clause-own
returns-in_err-begin-clause-own g c =
    same_own c.args.next.partition (stock c.args.files.now) (stock c.begin.new.self) c.requires.own
    (refused_taking g.F.Folder.tells _ (stock c.args.files.now) (stock c.begin.new.self) c.args.next c.in_err-begin.ensures.begun)

pub returns-in_ok-begin-clause-own : goal.returns-in_ok-begin-clause-own
returns-in_ok-begin-clause-own g c =
    begun_own g.F.Folder.tells (stock c.args.files.now) (stock c.begin.new.self) c.args.class c.args.next c.requires.kind c.requires.own c.in_ok-begin.ensures.begun

pub returns-in_ok-begin-clause-lends : goal.returns-in_ok-begin-clause-lends
returns-in_ok-begin-clause-lends g c told = c.in_ok-begin.ensures.lends told no_names (c.requires.lends told)
