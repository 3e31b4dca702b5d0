use Rattle.std.proofs.Common.{ℕ, ◌+◌, ◌<◌, ◌^◌, IsSome, is_some, inl, inr, ⊎_elim, option_map, sym, ap, subst, ◌∙◌, true≢false, arith}
use Rattle.std.specs.FinMap.{get, len}
use Rattle.std.specs.Vec.{vec_items}
use Rattle.hr_base.specs.Entries.{key_at, content_of}
use Rattle.ram_map.specs.Nested.{all_entries}
use Rattle.ram_map.proofs.EntryCounts.{is_some-option_map, len-put, put_count, put_fits}
use Rattle.ram_map.proofs.NestedLemmas.{get-all_entries, IsSome-option_map}
use Rattle.ram_map.proofs.maps.RamMap.set.Goals as goal

pub put-before-requires : goal.put-before-requires
put-before-requires c =
    let k = key_at c.args.prefix c.args.key.items in
    let same = get-all_entries vec_items c.self.inside.maps.entries k c.self.invariant.unique in
    ⊎_elim
    (λ here. inl (IsSome-option_map content_of _ (subst IsSome (sym (ap (λ m. get m.entries k) c.self.view_is) ∙ same) here)))
    (λ ready. inr (c.self.invariant.room _ (ap (λ m. m.ready) c.self.view_is ∙ ready)))
    c.requires

pub returns-clause-old : goal.returns-clause-old
returns-clause-old c =
    let k = key_at c.args.prefix c.args.key.items in
    ap (option_map content_of) c.put-before.ensures.old ∙ sym (get-all_entries vec_items c.self.inside.maps.entries k c.self.invariant.unique) ∙ ap (λ m. get m.entries k) c.self.view_is

pub overflow_add-self : goal.overflow_add-self
overflow_add-self c =
    let k = key_at c.args.prefix c.args.key.items in
    let was = ap (option_map content_of) c.put-before.ensures.old ∙ sym (get-all_entries vec_items c.self.inside.maps.entries k c.self.invariant.unique) ∙ ap (λ m. get m.entries k) c.self.view_is in
    let h : c.self.inside.size + c.from.result < 2 ^ 64 = put_fits c.self.inside.size c.from.result _ _ c.is_none.ensures c.from.ensures (omega arith) (λ new.
    ⊎_elim
    (λ here. absurd (true≢false (sym here ∙ ap is_some (sym was) ∙ is_some-option_map c.put-before.result ∙ new)))
    (λ ready. c.self.invariant.fits (ap is_some (ap (λ m. m.ready) c.self.view_is ∙ ready)))
    c.requires) in
    omega arith

pub invariant_of-self : goal.invariant_of-self
invariant_of-self c = record {
  unique = c.put-before.ensures.unique;
  room = λ p none. cc;
  counted = (let k = key_at c.args.prefix c.args.key.items in
      let m = all_entries vec_items c.self.inside.maps.entries in
      let was = ap (option_map content_of) c.put-before.ensures.old ∙ sym (get-all_entries vec_items c.self.inside.maps.entries k c.self.invariant.unique) in
      ap (λ (l : ℕ). l + c.from.result) c.self.invariant.counted ∙ put_count (len m) c.from.result _ _ c.is_none.ensures c.from.ensures
      ∙ sym (ap len c.put-before.ensures.entries ∙ len-put m k (content_of c.args.value) c.put-before.result was));
  fits = λ none. cc;
}
