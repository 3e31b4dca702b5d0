use Rattle.std.proofs.Common.{◌≡◌, ◌↔◌, ℕ, Some, None, ap, sym, subst, rules}
use Rattle.hr_base.specs.Entries.{Entries}
use Rattle.record_format.specs.declared.record.Record.{Record}
use Rattle.crash_law.specs.Accounts.{answered}
use Rattle.crash_law.specs.Commands.{Put, command_of, is_written, maps_after}
use Rattle.partition_writer.specs.Answers.{put_record, with_maps}
use Rattle.hr_base.specs.declared.name.Class.TheVariants.{Value}
use Rattle.partition_writer.specs.Standing.{Stands, spent_by}
use Rattle.partition_writer.specs.declared.refusal.WriteRefusal.TheVariants.{Halted, Spent}
use Rattle.partition_writer.specs.WriterViews.{standing}
use Rattle.partition_writer.proofs.LimitLaws.{as_refused, put_limits}
use Rattle.partition_writer.proofs.StandLaws.{holds_tail}
use Rattle.partition_writer.proofs.writer.Writer.put.Goals as goal

pub returns-in-Some-clause-halted : goal.returns-in-Some-clause-halted
returns-in-Some-clause-halted g c = λ at. as_refused c.in-Some.refused (Halted at) (c.in-Some.ensures.halted at)

pub returns-in-Some-clause-spent : goal.returns-in-Some-clause-spent
returns-in-Some-clause-spent g c = λ next. as_refused c.in-Some.refused (Spent next)
    (subst (λ (n : ℕ). (Some c.in-Some.refused ≡ Some (Spent next)) ↔ ((c.args.self.now.halted ≡ None) × (spent_by (standing c.args.self.now) Value n ≡ Some next)))
    c.record_len-len.ensures (c.in-Some.ensures.spent next))

pub invariant_of-self-2 : goal.invariant_of-self-2
invariant_of-self-2 g c = record {
  partitioned = c.write.new.self.partitioned;
  value_limit = c.write.new.self.value_limit;
  tomb_limit = c.write.new.self.tomb_limit;
  numbered = c.write.new.self.numbered;
  limited = c.write.new.self.limited;
  chunk_numbered = c.write.new.self.chunk_numbered;
  chunk_limited = c.write.new.self.chunk_limited;
  own = c.write.new.self.own;
  ready = c.write.new.self.ready;
  below = c.write.new.self.below;
  lends = c.write.new.self.lends;
  unlost = c.write.new.self.unlost;
  lengths = put_limits c.write.new.self.map.entries c.set.new.self.entries c.args.prefix c.args.key.now c.args.value.now c.write.new.self.lengths (search rules) c.requires.key c.requires.value;
}

pub returns-clause-account : goal.returns-clause-account
returns-clause-account g c = λ tells b a h.
    let is : c.in_ok-rec.rec ≡ put_record c.args.self.now.next c.args.prefix c.args.key.now c.args.value.now =
    c.in_ok-rec.ensures.made in
    let before = subst (λ (m : Entries). Stands (with_maps (standing c.args.self.now) m) b a) (sym c.in_ok-own.ensures.entries) h in
    let after = c.in_ok-write.ensures.account tells b a before (ap (λ (r : Record). is_written (command_of r) c.reserve.new.self.entries) is) in
    subst (λ (m : Entries). Stands (with_maps (standing c.write.new.self) m) b (answered a (Put c.args.prefix c.args.key.now c.args.value.now))) (search rules)
    (subst (λ (r : Record). Stands (with_maps (standing c.write.new.self) (maps_after (command_of r) c.reserve.new.self.entries)) b (answered a (command_of r))) is after)

pub returns-clause-whole : goal.returns-clause-whole
returns-clause-whole g c = λ tells b a h. holds_tail _ b _ (returns-clause-account g c tells b a h) (c.write.new.self.unlost (search rules))
