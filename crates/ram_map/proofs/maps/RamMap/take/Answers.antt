use Rattle.std.proofs.Common.{ℕ, ◌-◌, ◌<◌, is_some, option_map, sym, ap, subst, ◌∙◌, arith}
use Rattle.std.specs.FinMap.{get, len}
use Rattle.std.specs.Int.{from_bool}
use Rattle.std.specs.Vec.{vec_items}
use Rattle.hr_base.specs.Entries.{key_at, content_of}
use Rattle.ram_map.specs.Nested.{all_entries}
use Rattle.ram_map.proofs.EntryCounts.{is_some-option_map, len-present, len-taken, taken_count, taken_within}
use Rattle.ram_map.proofs.NestedLemmas.{get-all_entries}
use Rattle.ram_map.proofs.maps.RamMap.take.Goals as goal

pub returns-clause-old : goal.returns-clause-old
returns-clause-old c =
    let k = key_at c.args.prefix c.args.key.now in
    ap (option_map content_of) c.take-before.ensures.old ∙ sym (get-all_entries vec_items c.self.inside.maps.entries k c.self.invariant.unique) ∙ ap (λ m. get m.entries k) c.self.view_is

pub overflow_sub-self : goal.overflow_sub-self
overflow_sub-self c =
    let k = key_at c.args.prefix c.args.key.now in
    let was = ap (option_map content_of) c.take-before.ensures.old ∙ sym (get-all_entries vec_items c.self.inside.maps.entries k c.self.invariant.unique) in
    taken_within c.self.inside.size c.from.result _ (c.from.ensures ∙ ap from_bool c.is_some.ensures) (λ here.
    subst (λ (n : ℕ). 0 < n) (sym c.self.invariant.counted)
    (len-present (all_entries vec_items c.self.inside.maps.entries) k (ap is_some (sym was) ∙ is_some-option_map c.take-before.result ∙ here)))

pub invariant_of-self : goal.invariant_of-self
invariant_of-self c = record {
  unique = c.take-before.ensures.unique;
  room = λ p ready. c.take-before.ensures.kept p (c.self.invariant.room p ready);
  counted = (let k = key_at c.args.prefix c.args.key.now in
      let m = all_entries vec_items c.self.inside.maps.entries in
      let was = ap (option_map content_of) c.take-before.ensures.old ∙ sym (get-all_entries vec_items c.self.inside.maps.entries k c.self.invariant.unique) in
      ap (λ (l : ℕ). l - c.from.result) c.self.invariant.counted ∙ taken_count (len m) c.from.result _ (c.from.ensures ∙ ap from_bool c.is_some.ensures)
      ∙ sym (ap len c.take-before.ensures.entries ∙ len-taken m k c.take-before.result was));
  fits = λ ready. omega (arith, c.self.invariant.fits ready);
}
