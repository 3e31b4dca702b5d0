use Rattle.std.proofs.Common.{◌≡◌, ◌<◌, ℕ, Some, length, slice_get, slice_set, get_or, subst, ap, ◌∙◌, rules, arith}
use Rattle.std.proofs.lemmas.List.{map-set}
use Rattle.script_text.specs.declared.line.Mode.TheVariants.{Play}
use Rattle.script_text.specs.Lines.{partition_of}
use Rattle.script_text.specs.Scripts.{line_of_view}
use Rattle.partition_writer.specs.WriterViews.{standing}
use Rattle.restart_load.specs.Writers.{standings}
use Rattle.store_drill.proofs.StepLaws.{fits_record, of_partition}
use Rattle.store_drill.proofs.WriterListLaws.{get_mapped}
use Rattle.store_drill.proofs.step.answer.Goals as goal

pub offset_bounds-writers-at : goal.offset_bounds-writers-at
offset_bounds-writers-at g c =
    let within : c.place-at.result < length c.args.writers.now = omega (arith, c.place-at.ensures, of_partition Play (length c.args.writers.now) (line_of_view c.args.line.now) c.requires.valid) in
    search rules

pub bounds-writers-at : goal.bounds-writers-at
bounds-writers-at g c = omega (arith, c.place-at.ensures, of_partition Play (length c.args.writers.now) (line_of_view c.args.line.now) c.requires.valid)

pub answer_on-requires-clause-fits : goal.answer_on-requires-clause-fits
answer_on-requires-clause-fits g c = fits_record Play (length c.args.writers.now) (line_of_view c.args.line.now) c.requires.valid

pub answer_on-requires-clause-running : goal.answer_on-requires-clause-running
answer_on-requires-clause-running g c =
    let writers = c.args.writers.now in
    let at : ℕ = c.place-at.result in
    let within : at < length writers = omega (arith, c.place-at.ensures, of_partition Play (length writers) (line_of_view c.args.line.now) c.requires.valid) in
    let writer = get_or writers at c.index-writers-at.result in
    c.requires.running at (standing writer) (get_mapped (λ w. standing w) writers at c.index-writers-at.result within)

pub returns : goal.returns
returns g c =
    let writers = c.args.writers.now in
    let at : ℕ = c.place-at.result in
    let p : ℕ = partition_of (line_of_view c.args.line.now) in
    let within : at < length writers = omega (arith, c.place-at.ensures, of_partition Play (length writers) (line_of_view c.args.line.now) c.requires.valid) in
    let writer = get_or writers at c.index-writers-at.result in
    record {
      before = standing writer;
      after = standing c.answer_on.new.writer;
      was =
          subst (λ (n : ℕ). slice_get (standings writers) n ≡ Some (standing writer)) c.place-at.ensures
          (get_mapped (λ w. standing w) writers at c.index-writers-at.result within);
      changed =
          map-set (λ w. standing w) writers at c.answer_on.new.writer
          ∙ ap (λ (n : ℕ). slice_set (standings writers) n (standing c.answer_on.new.writer)) c.place-at.ensures;
      plays = c.answer_on.ensures;
    }
