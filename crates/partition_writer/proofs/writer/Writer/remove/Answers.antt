use Rattle.std.proofs.Common.{◌≡◌, ◌↔◌, ◌∙◌, ℕ, Some, None, ap, subst, rules}
use Rattle.hr_base.specs.Entries.{Entries, key_at}
use Rattle.record_format.specs.declared.record.Record.{Record}
use Rattle.crash_law.specs.Accounts.{answered}
use Rattle.partition_writer.specs.Answers.{remove_record, with_maps}
use Rattle.hr_base.specs.declared.name.Class.TheVariants.{Tomb}
use Rattle.partition_writer.specs.Standing.{Stands, spent_by}
use Rattle.partition_writer.specs.declared.refusal.WriteRefusal.TheVariants.{Halted, Spent}
use Rattle.partition_writer.specs.WriterViews.{standing}
use Rattle.crash_law.specs.Commands.{Remove, command_of, is_written, maps_after}
use Rattle.partition_writer.proofs.LimitLaws.{absent_by, as_refused, as_refused_and, present_by, take_limits}
use Rattle.partition_writer.proofs.StandLaws.{holds_tail, stand_nothing}
use Rattle.partition_writer.proofs.writer.Writer.remove.Goals as goal

pub returns-in-Some-refusal-clause-halted : goal.returns-in-Some-refusal-clause-halted
returns-in-Some-refusal-clause-halted g c = λ at. as_refused c.in-Some-refusal.refused (Halted at) (c.in-Some-refusal.ensures.halted at)

pub returns-in-Some-refusal-clause-spent : goal.returns-in-Some-refusal-clause-spent
returns-in-Some-refusal-clause-spent g c = λ next.
    as_refused_and c.in-Some-refusal.refused (Spent next) (search rules)
    (subst (λ (n : ℕ). (Some c.in-Some-refusal.refused ≡ Some (Spent next)) ↔ ((c.args.self.now.halted ≡ None) × (spent_by (standing c.args.self.now) Tomb n ≡ Some next)))
    c.record_len-len.ensures (c.in-Some-refusal.ensures.spent next))

pub returns-then-is_none-clause-account : goal.returns-then-is_none-clause-account
returns-then-is_none-clause-account g c = λ tells b a h.
    stand_nothing (standing c.args.self.now) b a (Remove c.args.prefix c.args.key.now) h (absent_by _ _ _ c.get.ensures (search rules))

pub returns-then-is_none-clause-whole : goal.returns-then-is_none-clause-whole
returns-then-is_none-clause-whole g c = λ tells b a h. holds_tail (standing c.args.self.now) b a h (c.args.self.now.unlost (search rules))

pub invariant_of-self : goal.invariant_of-self
invariant_of-self g c = record {
  partitioned = c.write.new.self.partitioned;
  value_limit = c.write.new.self.value_limit;
  tomb_limit = c.write.new.self.tomb_limit;
  numbered = c.write.new.self.numbered;
  limited = c.write.new.self.limited;
  chunk_numbered = c.write.new.self.chunk_numbered;
  chunk_limited = c.write.new.self.chunk_limited;
  own = c.write.new.self.own;
  ready = c.write.new.self.ready;
  below = c.write.new.self.below;
  lends = c.write.new.self.lends;
  unlost = c.write.new.self.unlost;
  lengths = take_limits c.write.new.self.map.entries c.take.new.self.entries (key_at c.args.prefix c.args.key.now) c.write.new.self.lengths (search rules);
}

pub returns-clause-account : goal.returns-clause-account
returns-clause-account g c = λ tells b a h.
    let is : c.in_ok-rec.rec ≡ remove_record c.args.self.now.next c.args.prefix c.args.key.now = c.in_ok-rec.ensures.ok in
    let present = present_by _ _ _ c.get.ensures (search rules) in
    let after = c.in_ok-write.ensures.account tells b a h (ap (λ (r : Record). is_written (command_of r) c.args.self.now.map.entries) is ∙ present) in
    subst (λ (m : Entries). Stands (with_maps (standing c.write.new.self) m) b (answered a (Remove c.args.prefix c.args.key.now))) (search rules)
    (subst (λ (r : Record). Stands (with_maps (standing c.write.new.self) (maps_after (command_of r) c.args.self.now.map.entries)) b (answered a (command_of r))) is after)

pub returns-clause-whole : goal.returns-clause-whole
returns-clause-whole g c = λ tells b a h. holds_tail _ b _ (returns-clause-account g c tells b a h) (c.write.new.self.unlost (search rules))
