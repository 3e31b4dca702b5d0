use Rattle.std.proofs.Common.{◌≡◌, false, List, ap, sym, ◌∙◌, subst, inl, inr}
use Rattle.std.proofs.lemmas.Bool.{cases_Bool}
use Rattle.hr_base.specs.NameTests.{is_name}
use Rattle.hr_base.proofs.NameTestLaws.{is_name-same}
use Rattle.mem_folder.specs.declared.chain.Entry.{Entry}
use Rattle.mem_folder.specs.declared.chain.Slot.{Slot}
use Rattle.mem_folder.specs.Memory.{entry_at}
use Rattle.mem_folder.proofs.Orders.{before_other}
use Rattle.mem_folder.proofs.Slots.{slots_at_end, slots_at_more, tidy_at_more, is_name-back_false, lent_named, entry_at-here, entry_at-past}
use Rattle.mem_folder.proofs.chain.Chain.+lends.Goals as goal

pub returns-in-End-clause-none : goal.returns-in-End-clause-none
unfolding entry_at
returns-in-End-clause-none t c = λ none name.
    ap (λ (s : List Slot). (entry_at s name).lent) (slots_at_end c.self.inside.link c.args.self.now c.self.view_is c.in-End.is)

pub returns-then-slot-clause-some : goal.returns-then-slot-clause-some
returns-then-slot-clause-some t c = λ lent.
    let is = slots_at_more c.self.inside.link c.args.self.now c.in-More.slot c.in-More.rest c.self.view_is c.in-More.is in
    let name = c.in-More.slot.name in
    (name, ap (λ (s : List Slot). (entry_at s name).lent) is ∙ ap (λ (e : Entry). e.lent) (entry_at-here name c.in-More.slot c.in-More.rest.value (is_name-same name)) ∙ lent)

pub returns-else-slot-clause-some : goal.returns-else-slot-clause-some
returns-else-slot-clause-some t c = λ lends.
    let is = slots_at_more c.self.inside.link c.args.self.now c.in-More.slot c.in-More.rest c.self.view_is c.in-More.is in
    let tidy = tidy_at_more c.self.inside.link c.in-More.slot c.in-More.rest c.self.invariant c.in-More.is in
    let found = c.lends.ensures.some lends in
    let lent = sym (ap (λ (s : List Slot). (entry_at s found.0).lent) c.deref.ensures) ∙ found.1 in
    let before = tidy.1 found.0 (lent_named c.in-More.rest.value found.0 lent) in
    let past = is_name-back_false c.in-More.slot.name found.0 (before_other c.in-More.slot.name found.0 before) in
    (found.0, ap (λ (s : List Slot). (entry_at s found.0).lent) is ∙ ap (λ (e : Entry). e.lent) (entry_at-past found.0 c.in-More.slot c.in-More.rest.value past) ∙ lent)

pub returns-else-slot-clause-none : goal.returns-else-slot-clause-none
returns-else-slot-clause-none t c = λ none name.
    let is = slots_at_more c.self.inside.link c.args.self.now c.in-More.slot c.in-More.rest c.self.view_is c.in-More.is in
    ap (λ (s : List Slot). (entry_at s name).lent) is ∙ elim (cases_Bool (is_name name c.in-More.slot.name)) [
      | inl here ↦ ap (λ (e : Entry). e.lent) (entry_at-here name c.in-More.slot c.in-More.rest.value here) ∙ c.if-slot.false
      | inr past ↦
          ap (λ (e : Entry). e.lent) (entry_at-past name c.in-More.slot c.in-More.rest.value past)
          ∙ ap (λ (s : List Slot). (entry_at s name).lent) (sym c.deref.ensures)
          ∙ c.lends.ensures.none none name
    ]
