use Rattle.std.proofs.Common.{◌≡◌, ◌≤◌, ℕ, ◌++◌, length, take, drop, slice_get, sym, subst, ap, ◌∙◌, rules}
use Rattle.script_text.specs.declared.line.Mode.TheVariants.{Play}
use Rattle.script_text.specs.Lines.{IsLine}
use Rattle.script_text.specs.Scripts.{left}
use Rattle.std.specs.Prelude.{All}
use Rattle.restart_load.specs.Writers.{standings}
use Rattle.restart_load.proofs.FolderLaws.{written_back}
use Rattle.store_drill.specs.Playing.{Played}
use Rattle.store_drill.specs.Writers.{faults_of}
use Rattle.store_drill.proofs.session.play_on.Goals as goal

pub play_lines-requires-clause-valid : goal.play_lines-requires-clause-valid
play_lines-requires-clause-valid g c =
    subst (λ (partitions : ℕ). All (IsLine Play partitions) (left c.args.lines.now)) (sym (ap (λ writers. length writers) c.as_mut_slice.ensures.value)) c.requires.valid

pub play_lines-requires-clause-running : goal.play_lines-requires-clause-running
play_lines-requires-clause-running g c = λ p s is.
    c.requires.running p s (ap (λ writers. slice_get (standings writers) p) (sym c.as_mut_slice.ensures.value) ∙ is)

pub returns-clause-played : goal.returns-clause-played
returns-clause-played g c =
    let items = c.args.writers.now.items in
    let played = c.play_lines.new.writers in
    let same : length played ≡ length items = search rules in
    let back : take c.args.writers.now.len (played ++ drop (length played) items) ≡ played = written_back c.args.writers.now.len items played same (search rules) in
    subst (λ writers. Played g.F.Folder.tells (left c.args.lines.now) (standings items) (standings writers) (g.K.Sink.taken c.args.out.now) (g.K.Sink.taken c.play_lines.new.out) c.play_lines.result) (sym back)
    (subst (λ writers. Played g.F.Folder.tells (left c.args.lines.now) (standings writers) (standings played) (g.K.Sink.taken c.args.out.now) (g.K.Sink.taken c.play_lines.new.out) c.play_lines.result) c.as_mut_slice.ensures.value
    c.play_lines.ensures.played)

pub returns-clause-same : goal.returns-clause-same
returns-clause-same g c =
    let items = c.args.writers.now.items in
    let played = c.play_lines.new.writers in
    let same : length played ≡ length items = search rules in
    let back : take c.args.writers.now.len (played ++ drop (length played) items) ≡ played = written_back c.args.writers.now.len items played same (search rules) in
    ap (λ writers. length writers) back ∙ same

pub returns-clause-disk : goal.returns-clause-disk
returns-clause-disk g c = λ is.
    let items = c.args.writers.now.items in
    let played = c.play_lines.new.writers in
    let same : length played ≡ length items = search rules in
    let back : take c.args.writers.now.len (played ++ drop (length played) items) ≡ played = written_back c.args.writers.now.len items played same (search rules) in
    subst (λ writers. 1 ≤ faults_of (standings writers)) (sym back) (c.play_lines.ensures.disk is)
