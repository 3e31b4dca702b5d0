use Rattle.std.proofs.Common.{rules, ◌∙◌, arith}
use Rattle.restart_load.proofs.ListedLaws.{all_durable, names_all, names_last, names_more, next_held}
use Rattle.restart_load.proofs.taking.take_files.Goals as goal

pub take_one-requires-clause-held : goal.take_one-requires-clause-held
take_one-requires-clause-held g c = λ tells.
    next_held (g.F.Folder.port c.args.folder.now) (g.F.Folder.port c.loop-name.folder) c.args.names.now c.loop-name.files.items (c.requires.listed tells) (c.loop-name.invariant.taken tells)
    c.loop-name.name-index _ (omega arith) c.loop-name.invariant.names

pub returns-in_err-take_one-clause-taken : goal.returns-in_err-take_one-clause-taken
returns-in_err-take_one-clause-taken g c = λ tells. c.take_one.ensures.taken tells _ (c.loop-name.invariant.taken tells)

pub loop-name-preserved : goal.loop-name-preserved
loop-name-preserved g c = record {
  taken = λ tells. c.take_one.ensures.taken tells _ (c.loop-name.invariant.taken tells);
  durable = λ tells.
      c.take_one.ensures.durable tells (names_last (g.F.Folder.port c.args.folder.now) (g.F.Folder.port c.loop-name.folder) c.loop-name.files.items (c.requires.named tells) (c.loop-name.invariant.taken tells))
      (c.loop-name.invariant.durable tells);
  names = names_more c.args.names.now c.loop-name.name-index _ _ _ (omega arith) c.in_ok-take_one.ensures.names c.loop-name.invariant.names;
  room = c.take_one.ensures.room ∙ c.loop-name.invariant.room;
  counts = search rules;
}

pub returns-clause-durable : goal.returns-clause-durable
returns-clause-durable g c = λ tells.
    all_durable (g.F.Folder.port c.args.folder.now) (g.F.Folder.port c.loop-name.folder) c.args.names.now c.loop-name.files.items (c.requires.listed tells) (c.loop-name.invariant.taken tells)
    (names_all c.args.names.now c.loop-name.name-index _ (omega (arith, c.loop-name-test.false)) c.loop-name.invariant.names) (c.loop-name.invariant.durable tells)
