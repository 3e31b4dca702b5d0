use Rattle.std.proofs.Common.{◌≡◌, ◌++◌, map}
use Rattle.std.specs.List.{IsDistinct, AllByRecursion}
use Rattle.std.specs.Map.{keys_of}
use Rattle.std.specs.Vec.{vec_items}
use Rattle.ram_map.specs.Nested.{flat_entries, same_bytes, triple_of}
use Rattle.ram_map.proofs.sorted.all_triples.Given as goal

-- what was put, and then what is left; and no key stands twice in a map, if it does in none that is left
abbrev pub invariant-loop-prefix : goal.invariant-loop-prefix
invariant-loop-prefix l = record {
  put : l.triples.items ++ map triple_of (flat_entries vec_items l.prefix-iterator) ≡ map triple_of (flat_entries vec_items l.maps.entries);
  unique : AllByRecursion (λ m. IsDistinct (same_bytes vec_items) (keys_of m.1.entries)) l.prefix-iterator → AllByRecursion (λ m. IsDistinct (same_bytes vec_items) (keys_of m.1.entries)) l.maps.entries;
}
