use Rattle.std.proofs.Common.{List, sym, subst}
use Rattle.mem_folder.specs.declared.chain.Slot.{Slot}
use Rattle.mem_folder.specs.Crashes.{LeavesSlots}
use Rattle.mem_folder.proofs.Slots.{slots_at_end, slots_at_more, tidy_at_more}
use Rattle.mem_folder.proofs.Crashes.{leaves_at_end, leaves_more}
use Rattle.mem_folder.proofs.chain.Chain.+crash.Goals as goal
use Rattle.mem_folder.proofs.chain.Chain.+crash.Goals.{in-End, in-More}

pub returns : goal.returns
returns t c = elim c.match-self.branch [
  | in-End w ↦
      let is = slots_at_end c.self.inside.link c.args.self.now c.self.view_is w.in-End.is in
      rw w.self-inside-is (subst (λ (s : List Slot). LeavesSlots c.args.pick c.args.self.now s) (sym c.self.view_is) (leaves_at_end c.args.pick c.args.self.now is))
  | in-More w ↦
      let is = slots_at_more c.self.inside.link c.args.self.now w.in-More.slot w.in-More.rest c.self.view_is w.in-More.is in
      let tidy = tidy_at_more c.self.inside.link w.in-More.slot w.in-More.rest c.self.invariant w.in-More.is in
      let behind = subst (λ (s : List Slot). LeavesSlots w.crash-behind.result s w.crash.new.self) w.deref_mut.ensures.value w.crash.ensures in
      rw w.self-inside-is (leaves_more c.args.pick w.in-More.slot w.in-More.rest.value w.crash.new.self w.crash-behind.new.self tidy.0 tidy.1 w.crash-behind.ensures.left c.args.self.now w.crash-behind.result is w.crash-behind.ensures.pick behind)
]
