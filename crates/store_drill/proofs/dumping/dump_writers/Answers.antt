use Rattle.std.proofs.Common.{◌≡◌, ℕ, length, Some, slice_get, sym, subst, ap, ◌∙◌, arith}
use Rattle.partition_writer.specs.Standing.{Standing}
use Rattle.partition_writer.specs.WriterViews.{standing}
use Rattle.script_text.specs.Dumps.{dump_lines}
use Rattle.restart_load.specs.Writers.{standings}
use Rattle.restart_load.specs.declared.ended.Ended.TheVariants.{Whole}
use Rattle.store_drill.specs.Dumping.{DumpAt}
use Rattle.store_drill.proofs.DumpLaws.{dump_none, partition_stops, partition_then, written_of}
use Rattle.store_drill.proofs.WriterListLaws.{get_mapped}
use Rattle.store_drill.proofs.dumping.dump_writers.Goals as goal

pub loop-writer-init : goal.loop-writer-init
loop-writer-init g c = record { text = λ maps each. dump_none (g.K.Sink.taken c.args.out.now); sink_kept = omega arith }

pub returns-in_default : goal.returns-in_default
returns-in_default g c =
    let writers = c.args.writers.now in
    let i : ℕ = c.loop-writer.writer-index in
    let s : Standing = standing c.writer-item.result in
    let there : slice_get (standings writers) i ≡ Some s =
    get_mapped (λ w. standing w) writers i c.writer-item.result c.loop-writer-test.true ∙ ap (λ w. Some (standing w)) (sym c.writer-item.is) in
    record {
      text = λ maps each.
          partition_stops i (length writers) maps c.dump_writer.result _ _ _ c.loop-writer-test.true c.in_default.not-Whole (c.loop-writer.invariant.text maps each)
          (written_of c.dump_writer.result s.partition.0 i s.maps (maps i) _ _ (c.requires.numbers i s there) (each i s there) c.dump_writer.ensures.text);
      sink = λ is. omega (arith, c.loop-writer.invariant.sink_kept, c.dump_writer.ensures.sink is);
      sink_kept = omega (arith, c.loop-writer.invariant.sink_kept, c.dump_writer.ensures.sink_kept);
    }

pub loop-writer-preserved : goal.loop-writer-preserved
loop-writer-preserved g c =
    let writers = c.args.writers.now in
    let i : ℕ = c.loop-writer.writer-index in
    let s : Standing = standing c.writer-item.result in
    let there : slice_get (standings writers) i ≡ Some s =
    get_mapped (λ w. standing w) writers i c.writer-item.result c.loop-writer-test.true ∙ ap (λ w. Some (standing w)) (sym c.writer-item.is) in
    record {
      text = λ maps each.
          partition_then i maps Whole _ _ _ (c.loop-writer.invariant.text maps each)
          (written_of Whole s.partition.0 i s.maps (maps i) _ _ (c.requires.numbers i s there) (each i s there) c.in-Whole.ensures.text);
      sink_kept = omega (arith, c.loop-writer.invariant.sink_kept, c.dump_writer.ensures.sink_kept);
    }

pub returns-clause-text : goal.returns-clause-text
returns-clause-text g c = λ maps each.
    let end : c.loop-writer.writer-index ≡ length c.args.writers.now = omega (arith, c.loop-writer-test.false, c.loop-writer.auto.writer-index-end) in
    subst (λ (n : ℕ). DumpAt Whole (dump_lines n maps) (g.K.Sink.taken c.args.out.now) (g.K.Sink.taken c.loop-writer.out)) end (c.loop-writer.invariant.text maps each)

pub returns-clause-sink_kept : goal.returns-clause-sink_kept
returns-clause-sink_kept g c = c.loop-writer.invariant.sink_kept
