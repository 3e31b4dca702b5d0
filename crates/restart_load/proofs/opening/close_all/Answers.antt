use Rattle.std.proofs.Common.{List, subst, rules}
use Rattle.partition_writer.specs.Standing.{Standing}
use Rattle.partition_writer.specs.WriterViews.{standing}
use Rattle.restart_load.specs.Opening.{HasNoFile}
use Rattle.restart_load.specs.Writers.{EachIs, standings}
use Rattle.restart_load.proofs.OpeningLaws.{kept_after, kept_itself, no_file_before, no_file_last, standings_pushed}
use Rattle.restart_load.proofs.opening.close_all.Goals as goal

pub loop-writer-init : goal.loop-writer-init
loop-writer-init g c = record {
  none = c.requires.none;
  same = λ y. kept_itself _ (c.requires.given_back y);
  kept = search rules;
}

pub close_one-requires-clause-none : goal.close_one-requires-clause-none
close_one-requires-clause-none g c = λ y.
    no_file_last (standings c.pop.new.self.items) (standing c.in-Some.writer)
    (subst (λ (writers : List Standing). EachIs HasNoFile writers) (standings_pushed c.pop.new.self.items c.loop-writer.writers.items c.in-Some.writer c.in-Some.ensures.items) (c.loop-writer.invariant.none y))

pub loop-writer-preserved : goal.loop-writer-preserved
loop-writer-preserved g c = record {
  none = λ y.
      no_file_before (standings c.pop.new.self.items) (standing c.in-Some.writer)
      (subst (λ (writers : List Standing). EachIs HasNoFile writers) (standings_pushed c.pop.new.self.items c.loop-writer.writers.items c.in-Some.writer c.in-Some.ensures.items) (c.loop-writer.invariant.none y));
  same = λ y. kept_after _ _ _ (c.loop-writer.invariant.same y) (c.close_one.ensures.same y);
  kept = search rules;
}

pub close_one-requires-clause-given_back : goal.close_one-requires-clause-given_back
close_one-requires-clause-given_back g c = λ y. (c.loop-writer.invariant.same y).given_back
