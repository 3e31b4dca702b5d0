-- Maps from prefixes to maps from keys to values, seen as one map.
use Rattle.std.specs.Prelude.{◌≡◌, ℕ, ◌-◌, ◌^◌, ◌<◌, Bool, List, [], ◌∷◌, ◌++◌, map, nat_eq, Option, IsSome, IsSomeAnd, option_and_then}
use Rattle.std.specs.Option.{ForSome}
use Rattle.std.specs.Cmp.Lexicographic.{pointwise}
use Rattle.std.specs.FinMap.{from_entries, len}
use Rattle.std.specs.Map.{lookup}
use Rattle.std.specs.HashMap.{HashMap, IsUnique, get, spare}
use Rattle.hr_base.specs.Entries.{Key, Content, Entries, key_at, content_of}

module _ {K : Type 0} (bytes : K → List ℕ) where
  -- whether a key has these bytes
  abbrev pub has_bytes : List ℕ → K → Bool
  has_bytes sought key = pointwise nat_eq sought (bytes key)

  -- whether two keys have the same bytes
  abbrev pub same_bytes : K → K → Bool
  same_bytes x y = pointwise nat_eq (bytes x) (bytes y)

  -- the entries of one map, under its prefix
  abbrev pub entries_under : ℕ → List (K × List ℕ) → List (Key × Content)
  entries_under prefix es = map (λ e. (key_at prefix (bytes e.0), content_of e.1)) es

  module _ {S : Type 0} where
    -- the entries of all maps, one map after another
    abbrev pub flat_entries : List (ℕ × HashMap K (List ℕ) S) → List (Key × Content)
    flat_entries [] = []
    flat_entries (m ∷ ms) = entries_under m.0 m.1.entries ++ flat_entries ms

    -- the maps as one
    unfoldable pub all_entries : List (ℕ × HashMap K (List ℕ) S) → Entries
    all_entries ms = from_entries (flat_entries ms)

    -- the value that a look-up of the prefix, and then of the bytes, finds
    abbrev pub nested_get : List (ℕ × HashMap K (List ℕ) S) → ℕ → List ℕ → Option (List ℕ)
    nested_get ms prefix sought = option_and_then (λ m. lookup (has_bytes sought) m.entries) (lookup (nat_eq prefix) ms)

-- there is a map with this prefix, and one more key fits in it with no memory
abbrev pub HasRoom : {K X S T : Type 0} → HashMap ℕ (HashMap K X S) T → ℕ → Type 0
HasRoom maps prefix = IsSomeAnd (get nat_eq maps prefix) (λ m. 0 < spare m)

-- an entry as its prefix, its key's bytes and its value
abbrev pub triple_of : Key × Content → ℕ × List ℕ × List ℕ
triple_of e = (e.0.prefix, e.0.bytes, e.1.value)

-- What the maps in memory keep, with the prefix that room was made for and the count of all keys.
pub record IsConsistent {K S T : Type 0} (bytes : K → List ℕ) (maps : HashMap ℕ (HashMap K (List ℕ) S) T) (ready : Option ℕ) (size : ℕ) : Type 0 where
  -- no prefix stands twice
  pub unique : IsUnique nat_eq maps
  -- there is room for the new key
  pub room : ForSome ready (HasRoom maps)
  -- all keys are counted
  pub counted : size ≡ len (all_entries bytes maps.entries)
  -- and the new one can be
  pub fits : IsSome ready → size < 2 ^ 64 - 1
