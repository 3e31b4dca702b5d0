use Rattle.std.proofs.Common.{◌≤◌, take}
use Rattle.restart_load.specs.declared.ended.Ended.TheVariants.{Whole}
use Rattle.store_drill.specs.Dumping.{DumpAt, lines_of_entries}
use Rattle.store_drill.proofs.dumping.dump_entries.Given as goal

abbrev pub invariant-loop-entry : goal.invariant-loop-entry
invariant-loop-entry g l = record {
  text : DumpAt Whole (lines_of_entries l.p.0 (take l.entry-index l.entries)) (g.K.Sink.taken l.fn.out) (g.K.Sink.taken l.out);
  sink_kept : g.K.Sink.count l.fn.out ≤ g.K.Sink.count l.out;
}
