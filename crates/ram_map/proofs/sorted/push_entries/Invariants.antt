use Rattle.std.proofs.Common.{◌≡◌, ◌++◌, map}
use Rattle.std.specs.Vec.{vec_items}
use Rattle.ram_map.specs.Nested.{entries_under, triple_of}
use Rattle.ram_map.proofs.sorted.push_entries.Given as goal

-- what was put, and then what is left
abbrev pub invariant-loop-key : goal.invariant-loop-key
invariant-loop-key l =
    l.triples.items ++ map triple_of (entries_under vec_items l.prefix l.key-iterator) ≡ l.fn.triples.items ++ map triple_of (entries_under vec_items l.prefix l.one.entries)
