use Rattle.std.proofs.Common.{ap, ◌∙◌, slice_set}
use Rattle.std.proofs.lemmas.List.{map-set}
use Rattle.record_format.specs.declared.record.Record.{Record}
use Rattle.crash_law.specs.Placed.{Placed, records_of}
use Rattle.record_replay.proofs.play.take_record.Goals as goal

pub returns-clause-left : goal.returns-clause-left
returns-clause-left c =
    map-set (λ (x : Placed). x.content) c.args.list.now c.args.place _
    ∙ ap (λ (r : Record). slice_set (records_of c.args.list.now) c.args.place r) c.replace.ensures.after
