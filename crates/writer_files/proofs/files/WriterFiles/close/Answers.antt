use Rattle.writer_files.specs.Hands.{taking_list}
use Rattle.writer_files.specs.StockViews.{stock}
use Rattle.writer_files.proofs.GiveLaws.{gives_parts}
use Rattle.writer_files.proofs.HandLaws.{once_back, once_front}
use Rattle.writer_files.proofs.StockLaws.{closed_calm, closed_lends}
use Rattle.writer_files.proofs.files.WriterFiles.close.Goals as goal

pub give-requires : goal.give-requires
give-requires g c told = once_back c.args.self.full.items (taking_list c.args.self.taking) (c.args.self.stocked told).once

pub give_each-requires : goal.give_each-requires
give_each-requires g c told = once_front c.args.self.full.items (taking_list c.args.self.taking) (c.args.self.stocked told).once

pub returns-clause-held : goal.returns-clause-held
returns-clause-held g c told =
    (gives_parts (g.F.Folder.port c.args.self.port) (g.F.Folder.port c.give.new.port) (g.F.Folder.port c.give_each.new.port) c.args.self.full.items (taking_list c.args.self.taking) (c.args.self.stocked told).once (c.give.ensures.given told) (c.give_each.ensures.given told)).held

pub returns-clause-lends : goal.returns-clause-lends
returns-clause-lends g c told =
    closed_lends (stock c.args.self) (g.F.Folder.port c.give_each.new.port) (c.args.self.stocked told)
    (gives_parts (g.F.Folder.port c.args.self.port) (g.F.Folder.port c.give.new.port) (g.F.Folder.port c.give_each.new.port) c.args.self.full.items (taking_list c.args.self.taking) (c.args.self.stocked told).once (c.give.ensures.given told) (c.give_each.ensures.given told))

pub returns-clause-calm : goal.returns-clause-calm
returns-clause-calm g c told =
    closed_calm (stock c.args.self) (g.F.Folder.port c.give_each.new.port) (c.args.self.stocked told)
    (gives_parts (g.F.Folder.port c.args.self.port) (g.F.Folder.port c.give.new.port) (g.F.Folder.port c.give_each.new.port) c.args.self.full.items (taking_list c.args.self.taking) (c.args.self.stocked told).once (c.give.ensures.given told) (c.give_each.ensures.given told))
