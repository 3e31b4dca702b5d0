use Rattle.std.proofs.Common.{◌≡◌, true, false, List, ap, sym, ◌∙◌}
use Rattle.hr_base.specs.NameTests.{is_name}
use Rattle.mem_folder.specs.declared.chain.Slot.{Slot}
use Rattle.mem_folder.specs.Memory.{entry_at}
use Rattle.mem_folder.proofs.Slots.{slots_at_end, slots_at_more, entry_at-here, entry_at-past}
use Rattle.mem_folder.proofs.chain.Chain.+entry.Goals as goal

pub returns-in-End : goal.returns-in-End
unfolding entry_at
returns-in-End t c =
    ap (λ (s : List Slot). entry_at s c.args.name) (slots_at_end c.self.inside.link c.args.self.now c.self.view_is c.in-End.is)

pub returns-then-is_same : goal.returns-then-is_same
returns-then-is_same t c =
    let is = slots_at_more c.self.inside.link c.args.self.now c.in-More.slot c.in-More.rest c.self.view_is c.in-More.is in
    let here : is_name c.args.name c.in-More.slot.name ≡ true = cc in
    sym (ap (λ (s : List Slot). entry_at s c.args.name) is ∙ entry_at-here c.args.name c.in-More.slot c.in-More.rest.value here)

pub returns-else-is_same : goal.returns-else-is_same
returns-else-is_same t c =
    let is = slots_at_more c.self.inside.link c.args.self.now c.in-More.slot c.in-More.rest c.self.view_is c.in-More.is in
    let past : is_name c.args.name c.in-More.slot.name ≡ false = cc in
    let e : entry_at c.args.self.now c.args.name ≡ entry_at c.deref.result.now c.args.name =
    ap (λ (s : List Slot). entry_at s c.args.name) is ∙ entry_at-past c.args.name c.in-More.slot c.in-More.rest.value past ∙ ap (λ (s : List Slot). entry_at s c.args.name) (sym c.deref.ensures) in
    rw e c.entry.ensures
