use Rattle.std.proofs.Common.{List, ap, sym, ◌∙◌}
use Rattle.hr_base.specs.declared.name.ChunkName.{ChunkName}
use Rattle.mem_folder.specs.declared.chain.Slot.{Slot}
use Rattle.mem_folder.specs.Links.{slots_of}
use Rattle.mem_folder.specs.Memory.{has_name, synced_slots}
use Rattle.mem_folder.proofs.Slots.{slots_at_end, slots_at_more, tidy_at_more, has_name-synced, synced_more, synced_end}
use Rattle.mem_folder.proofs.chain.Chain.+sync.Goals as goal
use Rattle.mem_folder.proofs.chain.Chain.+sync.Goals.{in-End, in-More}

pub invariant_of-self : goal.invariant_of-self
invariant_of-self t c = elim c.match-self.branch [
  | in-End w ↦ rw w.self-inside-is c.self.invariant
  | in-More w ↦
      let tidy = tidy_at_more c.self.inside.link w.in-More.slot w.in-More.rest c.self.invariant w.in-More.is in
      let names = λ (other : ChunkName). ap (λ (s : List Slot). has_name s other) (w.sync-in-More.ensures ∙ ap synced_slots w.deref_mut.ensures.value) ∙ has_name-synced w.in-More.rest.value other in
      rw w.self-inside-is (tidy.0, λ other there. tidy.1 other (sym (names other) ∙ there))
]

pub returns : goal.returns
returns t c = elim c.match-self.branch [
  | in-End w ↦
      rw w.self-inside-is (ap slots_of w.in-End.is ∙ synced_end c.args.self.now (slots_at_end c.self.inside.link c.args.self.now c.self.view_is w.in-End.is))
  | in-More w ↦
      let is = slots_at_more c.self.inside.link c.args.self.now w.in-More.slot w.in-More.rest c.self.view_is w.in-More.is in
      rw w.self-inside-is (synced_more c.args.self.now w.in-More.rest.value w.sync-in-More.new.self w.in-More.slot w.sync.new.self is w.sync.ensures (w.sync-in-More.ensures ∙ ap synced_slots w.deref_mut.ensures.value))
]
