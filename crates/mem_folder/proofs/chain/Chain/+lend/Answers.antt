use Rattle.std.proofs.Common.{◌≡◌, true, false, List, Some, IsSome, rules, ap, sym, ◌∙◌, subst}
use Rattle.std.proofs.lemmas.Bool.{false≢true}
use Rattle.hr_base.specs.NameTests.{is_name}
use Rattle.mem_folder.specs.declared.chain.Entry.{Entry}
use Rattle.mem_folder.specs.declared.chain.Slot.{Slot}
use Rattle.mem_folder.specs.Memory.{lent_entry, entry_at, ChangesEntry}
use Rattle.mem_folder.proofs.Slots.{slots_at_end, slots_at_more, entry_at-here, entry_at-past, lent_here, lent_behind}
use Rattle.mem_folder.proofs.chain.Chain.+lend.Goals as goal
use Rattle.mem_folder.proofs.chain.Chain.+lend.Goals.{then-is_same, else-is_same}

pub unreachable-requires : goal.unreachable-requires
unfolding entry_at
unreachable-requires t c =
    let is = slots_at_end c.self.inside.link c.args.self.now c.self.view_is c.in-End.is in
    false≢true (subst (λ (s : List Slot). IsSome (entry_at s c.args.name).held) is c.requires)

pub lend-requires : goal.lend-requires
lend-requires t c =
    let is = slots_at_more c.self.inside.link c.args.self.now c.in-More.slot c.in-More.rest c.self.view_is c.in-More.is in
    let here : is_name c.args.name c.in-More.slot.name ≡ true = cc in
    let e = ap (λ (s : List Slot). entry_at s c.args.name) is ∙ entry_at-here c.args.name c.in-More.slot c.in-More.rest.value here in
    subst (λ (x : Entry). IsSome x.held) e c.requires

pub lend-requires-else-is_same : goal.lend-requires-else-is_same
lend-requires-else-is_same t c =
    let is = slots_at_more c.self.inside.link c.args.self.now c.in-More.slot c.in-More.rest c.self.view_is c.in-More.is in
    let past : is_name c.args.name c.in-More.slot.name ≡ false = cc in
    let e = ap (λ (s : List Slot). entry_at s c.args.name) is ∙ entry_at-past c.args.name c.in-More.slot c.in-More.rest.value past ∙ ap (λ (s : List Slot). entry_at s c.args.name) (sym c.deref_mut.ensures.value) in
    (search rules, subst (λ (x : Entry). IsSome x.held) e c.requires)

pub returns-clause-content : goal.returns-clause-content
returns-clause-content t c =
    let is = slots_at_more c.self.inside.link c.args.self.now c.in-More.slot c.in-More.rest c.self.view_is c.in-More.is in
    elim c.if-is_same.branch [
      | then-is_same w ↦
          let here : is_name c.args.name c.in-More.slot.name ≡ true = cc in
          let e = ap (λ (s : List Slot). entry_at s c.args.name) is ∙ entry_at-here c.args.name c.in-More.slot c.in-More.rest.value here in
          ap Some w.result-is ∙ w.lend.ensures.content ∙ sym (ap (λ (x : Entry). x.held) e)
      | else-is_same w ↦
          let past : is_name c.args.name c.in-More.slot.name ≡ false = cc in
          let e = ap (λ (s : List Slot). entry_at s c.args.name) is ∙ entry_at-past c.args.name c.in-More.slot c.in-More.rest.value past ∙ ap (λ (s : List Slot). entry_at s c.args.name) (sym w.deref_mut.ensures.value) in
          ap Some w.result-is ∙ w.lend-else-is_same.ensures.content ∙ sym (ap (λ (x : Entry). x.held) e)
    ]

pub returns-clause-lent : goal.returns-clause-lent
returns-clause-lent t c =
    let is = slots_at_more c.self.inside.link c.args.self.now c.in-More.slot c.in-More.rest c.self.view_is c.in-More.is in
    elim c.if-is_same.branch [
      | then-is_same w ↦
          let here : is_name c.args.name c.in-More.slot.name ≡ true = cc in
          rw w.self-inside-is (lent_here c.args.self.now c.in-More.rest.value c.in-More.slot c.args.name w.lend.new.self is here w.lend.ensures.lent)
      | else-is_same w ↦
          let past : is_name c.args.name c.in-More.slot.name ≡ false = cc in
          let behind = subst (λ (s : List Slot). ChangesEntry s w.lend-else-is_same.new.self c.args.name (lent_entry (entry_at s c.args.name))) w.deref_mut.ensures.value w.lend-else-is_same.ensures.lent in
          rw w.self-inside-is (lent_behind c.args.self.now c.in-More.rest.value w.lend-else-is_same.new.self c.in-More.slot c.args.name is past behind)
    ]
