use Rattle.std.proofs.Common.{◌≡◌, ◌↔◌, ◌∙◌, ℕ, Some, None, subst, rules, arith}
use Rattle.crash_law.specs.Accounts.{answered}
use Rattle.partition_writer.specs.Answers.{with_maps}
use Rattle.hr_base.specs.Entries.{Entries, count_under}
use Rattle.hr_base.specs.declared.name.Class.TheVariants.{Clear as Clears}
use Rattle.partition_writer.specs.Standing.{Stands, spent_by}
use Rattle.partition_writer.specs.declared.refusal.WriteRefusal.TheVariants.{Halted, Spent}
use Rattle.partition_writer.specs.WriterViews.{standing}
use Rattle.crash_law.specs.Commands.{Clear}
use Rattle.partition_writer.proofs.LimitLaws.{as_refused, as_refused_and, clear_limits, none_counted, some_counted}
use Rattle.partition_writer.proofs.StandLaws.{holds_tail, stand_nothing}
use Rattle.partition_writer.proofs.writer.Writer.clear.Goals as goal

pub returns-in-Some-refusal-clause-halted : goal.returns-in-Some-refusal-clause-halted
returns-in-Some-refusal-clause-halted g c = λ at. as_refused c.in-Some-refusal.refused (Halted at) (c.in-Some-refusal.ensures.halted at)

pub returns-in-Some-refusal-clause-spent : goal.returns-in-Some-refusal-clause-spent
returns-in-Some-refusal-clause-spent g c = λ next.
    as_refused_and c.in-Some-refusal.refused (Spent next) (omega (arith, c.count.ensures))
    (subst (λ (n : ℕ). (Some c.in-Some-refusal.refused ≡ Some (Spent next)) ↔ ((c.args.self.now.halted ≡ None) × (spent_by (standing c.args.self.now) Clears n ≡ Some next)))
    c.record_len-len.ensures (c.in-Some-refusal.ensures.spent next))

pub returns-then-count-eq0-clause-account : goal.returns-then-count-eq0-clause-account
returns-then-count-eq0-clause-account g c = λ tells b a h.
    stand_nothing (standing c.args.self.now) b a (Clear c.args.prefix) h (none_counted (count_under c.args.prefix c.args.self.now.map.entries) (omega (arith, c.count.ensures)))

pub returns-then-count-eq0-clause-whole : goal.returns-then-count-eq0-clause-whole
returns-then-count-eq0-clause-whole g c = λ tells b a h. holds_tail (standing c.args.self.now) b a h (c.args.self.now.unlost (search rules))

pub invariant_of-self : goal.invariant_of-self
invariant_of-self g c = record {
  partitioned = c.write.new.self.partitioned;
  value_limit = c.write.new.self.value_limit;
  tomb_limit = c.write.new.self.tomb_limit;
  numbered = c.write.new.self.numbered;
  limited = c.write.new.self.limited;
  chunk_numbered = c.write.new.self.chunk_numbered;
  chunk_limited = c.write.new.self.chunk_limited;
  own = c.write.new.self.own;
  ready = c.write.new.self.ready;
  below = c.write.new.self.below;
  lends = c.write.new.self.lends;
  unlost = c.write.new.self.unlost;
  lengths = clear_limits c.write.new.self.map.entries c.clear.new.self.entries c.args.prefix c.write.new.self.lengths (search rules);
}

pub returns-clause-account : goal.returns-clause-account
returns-clause-account g c = λ tells b a h.
    let some = some_counted (count_under c.args.prefix c.args.self.now.map.entries) (λ none. c.if-count-eq0.false (c.count.ensures ∙ none)) in
    let after = c.in_ok-write.ensures.account tells b a h some in
    subst (λ (m : Entries). Stands (with_maps (standing c.write.new.self) m) b (answered a (Clear c.args.prefix))) (search rules) after

pub returns-clause-whole : goal.returns-clause-whole
returns-clause-whole g c = λ tells b a h. holds_tail _ b _ (returns-clause-account g c tells b a h) (c.write.new.self.unlost (search rules))
