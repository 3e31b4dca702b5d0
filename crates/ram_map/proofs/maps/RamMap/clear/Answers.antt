use Rattle.std.proofs.Common.{◌≡◌, ℕ, ◌-◌, false, Option, Some, nat_eq, arith, sym, ap, ◌∙◌}
use Rattle.std.specs.Cmp.{nat_eq_equiv}
use Rattle.std.specs.FinMap.{len}
use Rattle.std.specs.Option.{option_eq}
use Rattle.std.specs.Vec.{vec_items}
use Rattle.ram_map.specs.Nested.{all_entries}
use Rattle.ram_map.proofs.EntryCounts.{count_under-le, len-without_prefix}
use Rattle.ram_map.proofs.maps.RamMap.clear.Goals as goal

pub overflow_sub-self : goal.overflow_sub-self
overflow_sub-self c = omega (arith, c.self.invariant.counted, c.clear-removed.ensures.count, count_under-le c.args.prefix (all_entries vec_items c.self.inside.maps.entries))

pub invariant_of-self : goal.invariant_of-self
invariant_of-self c = record {
  unique = c.clear-removed.ensures.unique;
  room = λ p none. cc;
  counted = (λ i. c.self.invariant.counted i - c.clear-removed.ensures.count i) ∙ sym (ap len c.clear-removed.ensures.entries ∙ len-without_prefix c.args.prefix (all_entries vec_items c.self.inside.maps.entries));
  fits = λ none. cc;
}

-- what is ready for another prefix is not for this one
apart : (p o : ℕ) (ready : Option ℕ) → ready ≡ Some o → option_eq nat_eq ready (Some p) ≡ false → nat_eq p o ≡ false
apart p o ready is other = nat_eq_equiv.symm p o ∙ ap (λ (r : Option ℕ). option_eq nat_eq r (Some p)) (sym is) ∙ other

pub invariant_of-self-else-eq : goal.invariant_of-self-else-eq
invariant_of-self-else-eq c = record {
  unique = c.clear-removed.ensures.unique;
  room = λ p ready. c.clear-removed.ensures.kept p (apart c.args.prefix p c.self.inside.ready ready (sym c.eq.ensures ∙ c.if-eq.false)) (c.self.invariant.room p ready);
  counted = (λ i. c.self.invariant.counted i - c.clear-removed.ensures.count i) ∙ sym (ap len c.clear-removed.ensures.entries ∙ len-without_prefix c.args.prefix (all_entries vec_items c.self.inside.maps.entries));
  fits = λ ready. omega (arith, c.self.invariant.fits ready);
}
