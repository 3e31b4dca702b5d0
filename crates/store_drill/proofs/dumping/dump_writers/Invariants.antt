use Rattle.std.proofs.Common.{◌≤◌, ℕ}
use Rattle.hr_base.specs.Entries.{Entries}
use Rattle.script_text.specs.Dumps.{dump_lines}
use Rattle.restart_load.specs.Writers.{standings}
use Rattle.restart_load.specs.declared.ended.Ended.TheVariants.{Whole}
use Rattle.store_drill.specs.Dumping.{DumpAt}
use Rattle.store_drill.specs.Writers.{EachFits, HasMaps}
use Rattle.store_drill.proofs.dumping.dump_writers.Given as goal

abbrev pub invariant-loop-writer : goal.invariant-loop-writer
invariant-loop-writer g l = record {
  text : (maps : ℕ → Entries) → EachFits HasMaps (standings l.writers) maps → DumpAt Whole (dump_lines l.writer-index maps) (g.K.Sink.taken l.fn.out) (g.K.Sink.taken l.out);
  sink_kept : g.K.Sink.count l.fn.out ≤ g.K.Sink.count l.out;
}
