use Rattle.std.proofs.Common.{false, [], ◌∷◌, sym, append-nil}
use Rattle.writer_files.proofs.GiveLaws.{gives_none, gives_more, split_more, split_none}
use Rattle.writer_files.proofs.SyncLaws.{counts_then, counts_none, counts_given}
use Rattle.writer_files.proofs.full.give_each.Goals as goal

pub loop-chunk-init : goal.loop-chunk-init
loop-chunk-init g c = record {
  given = [];
  split = sym (append-nil c.args.full.items);
  gives = λ told. gives_none (g.F.Folder.port c.args.port.now);
  counts = counts_none g.F.Folder c.args.port.now (g.met.F.Folder.sound_count c.args.port.now);
}

pub loop-chunk-preserved : goal.loop-chunk-preserved
loop-chunk-preserved g c =
    let i = c.loop-chunk.invariant in
    let split = split_more c.args.full.items c.loop-chunk.full.items c.pop_back.new.self.items i.given c.pop_back.result c.in-Some.chunk i.split c.pop_back.ensures.items c.in-Some.is in
    record {
      given = c.in-Some.chunk ∷ i.given;
      split = split;
      gives = λ told.
          gives_more (g.F.Folder.port c.args.port.now) (g.F.Folder.port c.loop-chunk.port) (g.F.Folder.port c.give.new.port) c.in-Some.chunk i.given (i.gives told) (c.give.ensures.given told)
          (split_none c.args.full.items c.pop_back.new.self.items i.given c.in-Some.chunk split (c.requires told));
      counts = counts_then g.F.Folder false c.args.port.now c.loop-chunk.port c.give.new.port i.counts (counts_given g.F.Folder c.loop-chunk.port c.give.new.port c.in-Some.chunk.name c.in-Some.chunk.file c.give.ensures);
    }
