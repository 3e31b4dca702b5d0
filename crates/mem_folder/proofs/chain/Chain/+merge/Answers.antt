use Rattle.std.proofs.Common.{◌≡◌, List, ◌∷◌, refl, sym, ap, ◌∙◌, subst}
use Rattle.mem_folder.specs.declared.chain.Slot.{Slot}
use Rattle.mem_folder.specs.Links.{slots_of}
use Rattle.mem_folder.specs.Memory.{Merges}
use Rattle.mem_folder.proofs.Orders.{before_less, before_greater, before_other, same_equal}
use Rattle.mem_folder.proofs.Slots.{slots_at_end, slots_at_more, tidy_at_more, none_has_name, is_name-back_false, before_first, merged_front, merged_here, merged_behind, merged_after}
use Rattle.mem_folder.proofs.chain.Chain.+merge.Goals as goal

pub begin_with-requires-clause-first : goal.begin_with-requires-clause-first
begin_with-requires-clause-first t c = λ other there.
    absurd (none_has_name (slots_of c.self.inside.link) other (ap slots_of c.in-End.is) there)

pub begin_with-requires-in-Less-clause-first : goal.begin_with-requires-in-Less-clause-first
begin_with-requires-in-Less-clause-first t c =
    let tidy = tidy_at_more c.self.inside.link c.in-More.known c.in-More.rest c.self.invariant c.in-More.is in
    let before = before_less c.args.slot.name c.in-More.known.name c.order_of.result c.order_of.ensures c.in-Less.is in
    before_first (c.in-More.known ∷ c.in-More.rest.value) c.in-More.rest.value c.in-More.known c.args.slot.name refl before tidy.1

pub invariant_of-self-in-Greater : goal.invariant_of-self-in-Greater
invariant_of-self-in-Greater t c =
    let tidy = tidy_at_more c.self.inside.link c.in-More.known c.in-More.rest c.self.invariant c.in-More.is in
    let after = before_greater c.args.slot.name c.in-More.known.name c.order_of.result c.order_of.ensures c.in-Greater.is in
    let merges = subst (λ (s : List Slot). Merges s c.merge.new.self c.args.slot) c.deref_mut.ensures.value c.merge.ensures in
    (tidy.0, merged_after c.in-More.rest.value c.merge.new.self c.args.slot c.in-More.known.name merges after tidy.1)

pub returns-in-End : goal.returns-in-End
returns-in-End t c =
    let is = slots_at_end c.self.inside.link c.args.self.now c.self.view_is c.in-End.is in
    let new = c.begin_with.ensures ∙ ap (λ (s : List Slot). c.args.slot ∷ s) c.self.view_is in
    subst (λ (s : List Slot). Merges c.args.self.now s c.args.slot) (sym new) (merged_front c.args.self.now c.args.slot (λ other there. absurd (none_has_name c.args.self.now other is there)))

pub returns-in-Less : goal.returns-in-Less
returns-in-Less t c =
    let is = slots_at_more c.self.inside.link c.args.self.now c.in-More.known c.in-More.rest c.self.view_is c.in-More.is in
    let tidy = tidy_at_more c.self.inside.link c.in-More.known c.in-More.rest c.self.invariant c.in-More.is in
    let before = before_less c.args.slot.name c.in-More.known.name c.order_of.result c.order_of.ensures c.in-Less.is in
    let new = c.begin_with-in-Less.ensures ∙ ap (λ (s : List Slot). c.args.slot ∷ s) (sym is) in
    subst (λ (s : List Slot). Merges c.args.self.now s c.args.slot) (sym new) (merged_front c.args.self.now c.args.slot (before_first c.args.self.now c.in-More.rest.value c.in-More.known c.args.slot.name is before tidy.1))

pub returns-in-Equal : goal.returns-in-Equal
returns-in-Equal t c =
    let is = slots_at_more c.self.inside.link c.args.self.now c.in-More.known c.in-More.rest c.self.view_is c.in-More.is in
    let tidy = tidy_at_more c.self.inside.link c.in-More.known c.in-More.rest c.self.invariant c.in-More.is in
    let same = same_equal c.args.slot.name c.in-More.known.name c.order_of.result c.requires tidy.0 c.order_of.ensures c.in-Equal.is in
    merged_here c.args.self.now c.in-More.rest.value c.in-More.known c.args.slot c.join.new.self is same c.join.ensures

pub returns-in-Greater : goal.returns-in-Greater
returns-in-Greater t c =
    let is = slots_at_more c.self.inside.link c.args.self.now c.in-More.known c.in-More.rest c.self.view_is c.in-More.is in
    let after = before_greater c.args.slot.name c.in-More.known.name c.order_of.result c.order_of.ensures c.in-Greater.is in
    let past = is_name-back_false c.in-More.known.name c.args.slot.name (before_other c.in-More.known.name c.args.slot.name after) in
    let merges = subst (λ (s : List Slot). Merges s c.merge.new.self c.args.slot) c.deref_mut.ensures.value c.merge.ensures in
    merged_behind c.args.self.now c.in-More.rest.value c.merge.new.self c.in-More.known c.args.slot is past merges
