use Rattle.std.proofs.Common.{◌≡◌, ◌++◌, List, [], ◌∷◌, true, false, is_some, ap, sym, ◌∙◌, subst}
use Rattle.std.proofs.lemmas.Result.{on_ok_weaker}
use Rattle.hr_base.specs.declared.name.ChunkName.{ChunkName}
use Rattle.mem_folder.specs.declared.chain.Slot.{Slot}
use Rattle.dir_files.specs.Ports.{IsListing}
use Rattle.mem_folder.specs.Memory.{held_names, memory_port}
use Rattle.mem_folder.proofs.Slots.{slots_at_end, slots_at_more, tidy_at_more, first_absent}
use Rattle.mem_folder.proofs.Listing.{IsListing-more, listing_at_end, added_at_end, added_held, added_none}
use Rattle.mem_folder.proofs.chain.Chain.+list.Goals as goal
use Rattle.mem_folder.proofs.chain.Chain.+list.Goals.{then-is_some+in_ok-push-in-More, else-is_some}

pub returns-in-End-clause-added : goal.returns-in-End-clause-added
returns-in-End-clause-added t c =
    added_at_end c.args.self.now c.args.names.now.items (slots_at_end c.self.inside.link c.args.self.now c.self.view_is c.in-End.is)

pub returns-in-End-clause-listing : goal.returns-in-End-clause-listing
returns-in-End-clause-listing t c =
    listing_at_end c.args.self.now (slots_at_end c.self.inside.link c.args.self.now c.self.view_is c.in-End.is)

pub returns-after-is_some-clause-added : goal.returns-after-is_some-clause-added
returns-after-is_some-clause-added t c =
    let is = slots_at_more c.self.inside.link c.args.self.now c.in-More.slot c.in-More.rest c.self.view_is c.in-More.is in
    let behind : held_names c.deref.result.now ≡ held_names c.in-More.rest.value = ap held_names c.deref.ensures in
    elim c.if-is_some.branch [
      | then-is_some+in_ok-push-in-More w ↦
          let held : is_some c.in-More.slot.entry.held ≡ true = cc in
          let pushed : c.if-is_some.names.items ≡ c.args.names.now.items ++ c.in-More.slot.name ∷ [] =
          rw w.names-is w.in_ok-push-in-More.ensures.items in
          on_ok_weaker c.list.result (λ (added : c.list.new.names.items ≡ c.if-is_some.names.items ++ held_names c.deref.result.now).
          added_held c.args.self.now c.in-More.rest.value c.in-More.slot c.args.names.now.items c.if-is_some.names.items c.list.new.names.items is held pushed (added ∙ ap (λ (n : List ChunkName). c.if-is_some.names.items ++ n) behind)) c.list.ensures.added
      | else-is_some w ↦
          let none : is_some c.in-More.slot.entry.held ≡ false = cc in
          let same : c.if-is_some.names.items ≡ c.args.names.now.items = rw w.names-is in
          on_ok_weaker c.list.result (λ (added : c.list.new.names.items ≡ c.if-is_some.names.items ++ held_names c.deref.result.now).
          added_none c.args.self.now c.in-More.rest.value c.in-More.slot c.args.names.now.items c.list.new.names.items is none (added ∙ ap (λ (n : List ChunkName). n ++ held_names c.deref.result.now) same ∙ ap (λ (n : List ChunkName). c.args.names.now.items ++ n) behind)) c.list.ensures.added
    ]

pub returns-after-is_some-clause-listing : goal.returns-after-is_some-clause-listing
returns-after-is_some-clause-listing t c =
    let is = slots_at_more c.self.inside.link c.args.self.now c.in-More.slot c.in-More.rest c.self.view_is c.in-More.is in
    let tidy = tidy_at_more c.self.inside.link c.in-More.slot c.in-More.rest c.self.invariant c.in-More.is in
    on_ok_weaker c.list.result (λ (listing : IsListing (memory_port c.deref.result.now) (held_names c.deref.result.now)).
    subst (λ (s : List Slot). IsListing (memory_port s) (held_names s)) (sym is) (IsListing-more c.in-More.slot c.in-More.rest.value tidy.0 (first_absent c.in-More.rest.value c.in-More.slot.name tidy.1) (subst (λ (s : List Slot). IsListing (memory_port s) (held_names s)) c.deref.ensures listing))) c.list.ensures.listing
