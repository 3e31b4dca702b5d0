use Rattle.writer_files.proofs.GiveLaws.{gives_one}
use Rattle.writer_files.proofs.taking.give_taking.Goals as goal

pub returns-in-Some-clause-given : goal.returns-in-Some-clause-given
returns-in-Some-clause-given g c told =
    gives_one (g.F.Folder.port c.args.port.now) (g.F.Folder.port c.give.new.port) c.args.taking c.in-Some.chunk c.in-Some.is (c.give.ensures.given told)
