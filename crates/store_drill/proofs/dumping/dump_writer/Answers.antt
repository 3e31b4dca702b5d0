use Rattle.std.proofs.Common.{◌≡◌, ℕ, List, map, subst, ap, ◌∙◌}
use Rattle.std.specs.FinMap.{entries}
use Rattle.hr_base.specs.Entries.{Entries}
use Rattle.partition_writer.specs.WriterViews.{standing}
use Rattle.ram_map.specs.Nested.{triple_of}
use Rattle.script_text.specs.Dumps.{lines_of_maps}
use Rattle.store_drill.specs.Dumping.{DumpAt, lines_of_entries}
use Rattle.store_drill.proofs.DumpLaws.{entry_lines}
use Rattle.store_drill.proofs.dumping.dump_writer.Goals as goal

pub returns-in-Ok-clause-text : goal.returns-in-Ok-clause-text
returns-in-Ok-clause-text g c =
    let s = standing c.args.writer.now in
    let same : lines_of_entries c.partition.result.0 c.as_slice.result.now ≡ lines_of_maps s.partition.0 s.maps =
    ap (λ list. lines_of_entries c.partition.result.0 list) (c.as_slice.ensures.value ∙ c.in-Ok.ensures ∙ ap (λ (maps : Entries). map triple_of (entries maps)) c.map.ensures)
    ∙ ap (λ p. lines_of_entries p.0 (map triple_of (entries s.maps))) c.partition.ensures ∙ entry_lines s.partition.0 s.maps in
    subst (λ (lines : List (List ℕ)). DumpAt c.dump_entries.result lines (g.K.Sink.taken c.args.out.now) (g.K.Sink.taken c.dump_entries.new.out)) same c.dump_entries.ensures.text
