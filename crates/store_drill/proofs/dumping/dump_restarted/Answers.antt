use Rattle.std.proofs.Common.{◌≡◌, ℕ, List, length, slice_get, sym, subst, ap, ◌∙◌}
use Rattle.std.proofs.lemmas.List.{length-map}
use Rattle.hr_base.specs.Entries.{Entries}
use Rattle.dir_files.specs.Images.{read_of}
use Rattle.crash_law.specs.Restarts.{AllRestart, IsRestartable}
use Rattle.partition_writer.specs.Standing.{Standing}
use Rattle.partition_writer.specs.WriterViews.{standing}
use Rattle.script_text.specs.Dumps.{dump_lines}
use Rattle.restart_load.specs.Writers.{standings}
use Rattle.store_drill.specs.Dumping.{DumpAt}
use Rattle.store_drill.specs.Writers.{EachFits, HasMaps}
use Rattle.store_drill.proofs.DumpLaws.{closed_keeps}
use Rattle.store_drill.proofs.FolderLaws.{all_apart, all_own, begun_stand, begun_start, have_maps, started}
use Rattle.store_drill.proofs.dumping.dump_restarted.Goals as goal

pub dump_writers-ended-requires : goal.dump_writers-ended-requires
dump_writers-ended-requires g c = record { numbers = λ p s is. (c.requires.resumed p s (ap (λ writers. slice_get (standings writers) p) (sym c.as_slice.ensures.value) ∙ is)).number }

pub close_writers-requires-clause-given_back : goal.close_writers-requires-clause-given_back
close_writers-requires-clause-given_back g c = λ y. (c.requires.at_rest y).given_back

pub close_writers-requires-clause-numbers : goal.close_writers-requires-clause-numbers
close_writers-requires-clause-numbers g c = λ p s is. (c.requires.resumed p s is).number

pub close_writers-requires-clause-own : goal.close_writers-requires-clause-own
close_writers-requires-clause-own g c = λ y.
    all_own (g.F.Folder.port c.args.folder.now) (started (standings c.args.writers.items)) (standings c.args.writers.items) _
    (begun_stand g.F.Folder.tells (read_of (g.F.Folder.port c.args.folder.now)) (standings c.args.writers.items) c.requires.resumed y)

pub close_writers-requires-clause-apart : goal.close_writers-requires-clause-apart
close_writers-requires-clause-apart g c = λ y.
    all_apart (g.F.Folder.port c.args.folder.now) (started (standings c.args.writers.items)) (standings c.args.writers.items) _
    (begun_stand g.F.Folder.tells (read_of (g.F.Folder.port c.args.folder.now)) (standings c.args.writers.items) c.requires.resumed y)

pub returns-clause-calm : goal.returns-clause-calm
returns-clause-calm g c = λ y. (c.close_writers.ensures.given_back y).calm

pub returns-clause-dumped : goal.returns-clause-dumped
returns-clause-dumped g c =
    let writers : List Standing = standings c.args.writers.items in
    let count : length writers ≡ length c.args.writers.items = length-map c.args.writers.items (λ writer. standing writer) in
    record {
      maps = (started writers).maps;
      restarted = λ y.
          subst (λ (partitions : ℕ). AllRestart (read_of (g.F.Folder.port c.args.folder.now)) partitions (started writers).maps) count
          (begun_start g.F.Folder.tells (read_of (g.F.Folder.port c.args.folder.now)) writers c.requires.resumed y
          (subst (λ (partitions : ℕ). IsRestartable (read_of (g.F.Folder.port c.args.folder.now)) partitions) (sym count) (c.requires.restartable y))).maps;
      text =
          subst (λ list. (maps : ℕ → Entries) → EachFits HasMaps (standings list) maps → DumpAt c.dump_writers-ended.result (dump_lines (length list) maps) (g.K.Sink.taken c.args.out.now) (g.K.Sink.taken c.dump_writers-ended.new.out))
          c.as_slice.ensures.value c.dump_writers-ended.ensures.text (started writers).maps (have_maps writers);
      images = λ y. closed_keeps g.F.Folder.tells _ writers _ _ c.requires.resumed y (c.requires.at_rest y) (c.close_writers.ensures.given_back y) (c.close_writers.ensures.held y);
    }
