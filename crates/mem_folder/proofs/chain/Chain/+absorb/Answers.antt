use Rattle.std.proofs.Common.{◌≡◌, List, ap, sym, ◌∙◌, subst}
use Rattle.hr_base.specs.declared.name.ChunkName.{ChunkName}
use Rattle.mem_folder.specs.declared.chain.Slot.{Slot}
use Rattle.mem_folder.specs.Memory.{joined, entry_at, Merges}
use Rattle.mem_folder.proofs.Entries.{blank-joined}
use Rattle.mem_folder.proofs.Slots.{slots_at_end, slots_at_more, tidy_at_more, first_absent, entry_at-absorbed}
use Rattle.mem_folder.proofs.chain.Chain.+absorb.Goals as goal

pub returns-in-End : goal.returns-in-End
unfolding entry_at
returns-in-End t c = λ name.
    let is = slots_at_end c.newer.inside.link c.args.newer c.newer.view_is c.in-End.is in
    sym (blank-joined (entry_at c.args.self.now name))
    ∙ sym (ap (λ (s : List Slot). joined (entry_at s name) (entry_at c.args.self.now name)) is)

pub returns-in-More : goal.returns-in-More
returns-in-More t c = λ name.
    let is = slots_at_more c.newer.inside.link c.args.newer c.in-More.slot c.in-More.rest c.newer.view_is c.in-More.is in
    let tidy = tidy_at_more c.newer.inside.link c.in-More.slot c.in-More.rest c.newer.invariant c.in-More.is in
    let others : c.replace-others.result ≡ c.in-More.rest.value = cc in
    let rest = λ (n : ChunkName). c.absorb.ensures n ∙ ap (λ (s : List Slot). joined (entry_at s n) (entry_at c.merge.new.self n)) others in
    let merges = subst (λ (s : Slot). Merges c.args.self.now c.merge.new.self s) c.in-More.slot-is c.merge.ensures in
    entry_at-absorbed c.in-More.slot c.in-More.rest.value c.args.self.now c.merge.new.self c.absorb.new.self (first_absent c.in-More.rest.value c.in-More.slot.name tidy.1) merges rest name
    ∙ sym (ap (λ (s : List Slot). joined (entry_at s name) (entry_at c.args.self.now name)) is)
