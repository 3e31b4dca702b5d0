use Rattle.writer_files.proofs.GiveLaws.{gives_takings}
use Rattle.writer_files.proofs.taking.Fillings.give.Goals as goal

pub returns-clause-given : goal.returns-clause-given
returns-clause-given g c told =
    gives_takings (g.F.Folder.port c.args.port.now) (g.F.Folder.port c.give_taking.new.port) (g.F.Folder.port c.give_taking-2.new.port) (g.F.Folder.port c.give_taking-3.new.port)
    (record { values = c.self.inside.values; tombs = c.self.inside.tombs; clears = c.self.inside.clears }) c.args.self c.self.view_is (c.requires told)
    (c.give_taking.ensures.given told) (c.give_taking-2.ensures.given told) (c.give_taking-3.ensures.given told)
