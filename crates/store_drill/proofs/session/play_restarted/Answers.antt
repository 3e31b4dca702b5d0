use Rattle.std.proofs.Common.{◌≡◌, ℕ, List, length, sym, subst, ◌∙◌, arith}
use Rattle.std.proofs.lemmas.List.{length-map}
use Rattle.dir_files.specs.Images.{read_of}
use Rattle.partition_writer.specs.Standing.{Standing}
use Rattle.partition_writer.specs.WriterViews.{standing}
use Rattle.crash_law.specs.Restarts.{IsRestartable}
use Rattle.restart_load.specs.Writers.{standings}
use Rattle.store_drill.proofs.FolderLaws.{all_apart, all_own, played_numbers, played_stand, session_ran, started}
use Rattle.store_drill.proofs.session.play_restarted.Goals as goal

pub play_on-ended-requires-clause-running : goal.play_on-ended-requires-clause-running
play_on-ended-requires-clause-running g c = λ p s is. record { running = (c.requires.resumed p s is).running; whole = (c.requires.resumed p s is).whole }

pub close_writers-requires-clause-given_back : goal.close_writers-requires-clause-given_back
close_writers-requires-clause-given_back g c = λ y. (c.requires.at_rest y).given_back

pub close_writers-requires-clause-numbers : goal.close_writers-requires-clause-numbers
close_writers-requires-clause-numbers g c =
    played_numbers _ _ (g.F.Folder.port c.args.folder.now) (standings c.args.writers.items) (standings c.play_on-ended.new.writers.items) _ _ _ c.requires.resumed c.play_on-ended.ensures.played

pub close_writers-requires-clause-own : goal.close_writers-requires-clause-own
close_writers-requires-clause-own g c = λ y.
    all_own (g.F.Folder.port c.args.folder.now) (started (standings c.args.writers.items)) (standings c.play_on-ended.new.writers.items) _
    (played_stand _ _ (g.F.Folder.port c.args.folder.now) (standings c.args.writers.items) (standings c.play_on-ended.new.writers.items) _ _ _ c.requires.resumed c.play_on-ended.ensures.played y)

pub close_writers-requires-clause-apart : goal.close_writers-requires-clause-apart
close_writers-requires-clause-apart g c = λ y.
    all_apart (g.F.Folder.port c.args.folder.now) (started (standings c.args.writers.items)) (standings c.play_on-ended.new.writers.items) _
    (played_stand _ _ (g.F.Folder.port c.args.folder.now) (standings c.args.writers.items) (standings c.play_on-ended.new.writers.items) _ _ _ c.requires.resumed c.play_on-ended.ensures.played y)

pub returns-clause-calm : goal.returns-clause-calm
returns-clause-calm g c = λ y. (c.close_writers.ensures.given_back y).calm

pub returns-clause-session : goal.returns-clause-session
returns-clause-session g c limits limited each =
    let begun : List Standing = standings c.args.writers.items in
    let writers : List Standing = standings c.play_on-ended.new.writers.items in
    let count : length begun ≡ length c.args.writers.items = length-map c.args.writers.items (λ writer. standing writer) in
    let same : length writers ≡ length begun = length-map c.play_on-ended.new.writers.items (λ writer. standing writer) ∙ c.play_on-ended.ensures.same ∙ sym count in
    session_ran _ limits _ begun writers _ _ _ c.requires.resumed limited (count ∙ each)
    (λ y. subst (λ (partitions : ℕ). IsRestartable (read_of (g.F.Folder.port c.args.folder.now)) partitions) each (c.requires.restartable y))
    c.requires.at_rest c.play_on-ended.ensures.played same c.close_writers.ensures.given_back c.close_writers.ensures.held

pub returns-clause-disk : goal.returns-clause-disk
returns-clause-disk g c = λ is. omega (arith, c.play_on-ended.ensures.disk is, c.close_writers.ensures.count)
