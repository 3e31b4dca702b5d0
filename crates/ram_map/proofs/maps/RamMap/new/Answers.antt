use Rattle.std.proofs.Common.{sym, ap, ◌∙◌}
use Rattle.std.specs.FinMap.{len, len-empty}
use Rattle.std.specs.Vec.{vec_items}
use Rattle.hr_base.specs.Entries.{Content, key_cmp}
use Rattle.ram_map.proofs.NestedLemmas.{all_entries-empty}
use Rattle.ram_map.proofs.maps.RamMap.new.Goals as goal

pub returns-clause-entries : goal.returns-clause-entries
returns-clause-entries c = all_entries-empty vec_items _ c.new.ensures.empty

pub invariant_of-result : goal.invariant_of-result
invariant_of-result c = record {
  unique = c.new.ensures.unique;
  room = λ p none. cc;
  counted = sym (ap len (all_entries-empty vec_items _ c.new.ensures.empty) ∙ len-empty key_cmp Content);
  fits = λ none. cc;
}
