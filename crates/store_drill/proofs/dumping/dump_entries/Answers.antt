use Rattle.std.proofs.Common.{List, subst, arith}
use Rattle.std.proofs.lemmas.List.{take_all}
use Rattle.restart_load.specs.declared.ended.Ended.TheVariants.{Whole}
use Rattle.store_drill.specs.Dumping.{DumpAt, lines_of_entries}
use Rattle.store_drill.proofs.DumpLaws.{dump_none, entry_stops, entry_then}
use Rattle.store_drill.proofs.dumping.dump_entries.Goals as goal

pub loop-entry-init : goal.loop-entry-init
loop-entry-init g c = record { text = dump_none (g.K.Sink.taken c.args.out.now); sink_kept = omega arith }

pub returns-in_default : goal.returns-in_default
returns-in_default g c = record {
  text =
      entry_stops c.args.p.0 c.args.entries.now c.loop-entry.entry-index c.entry-item.result c.loop-entry-test.true c.entry-item.is c.dump_entry.result _ _ _ c.in_default.not-Whole
      c.loop-entry.invariant.text c.dump_entry.ensures.text;
  sink = λ is. omega (arith, c.loop-entry.invariant.sink_kept, c.dump_entry.ensures.sink is);
  sink_kept = omega (arith, c.loop-entry.invariant.sink_kept, c.dump_entry.ensures.sink_kept);
}

pub loop-entry-preserved : goal.loop-entry-preserved
loop-entry-preserved g c = record {
  text =
      entry_then c.args.p.0 c.args.entries.now c.loop-entry.entry-index c.entry-item.result c.loop-entry-test.true c.entry-item.is Whole _ _ _ c.loop-entry.invariant.text c.in-Whole.ensures.text;
  sink_kept = omega (arith, c.loop-entry.invariant.sink_kept, c.dump_entry.ensures.sink_kept);
}

pub returns-clause-text : goal.returns-clause-text
returns-clause-text g c =
    subst (λ (list : List _). DumpAt Whole (lines_of_entries c.args.p.0 list) (g.K.Sink.taken c.args.out.now) (g.K.Sink.taken c.loop-entry.out))
    (take_all c.loop-entry.entry-index c.args.entries.now c.loop-entry-test.false) c.loop-entry.invariant.text

pub returns-clause-sink_kept : goal.returns-clause-sink_kept
returns-clause-sink_kept g c = c.loop-entry.invariant.sink_kept
