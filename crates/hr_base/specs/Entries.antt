-- The maps of a partition: one finite map from keys, each with the prefix that names its map, to contents.
use Rattle.std.specs.Prelude.{◌≡◌, ℕ, ◌==◌, ◌≤◌, Bool, not, List, length, Option, Some, count_by, refl}
use Rattle.std.specs.FinMap as map
use Rattle.std.specs.Ordering.{nat_cmp, ordering_then, eq_by_cmp}
use Rattle.std.specs.declared.cmp.Ordering.{Ordering}
use Rattle.std.specs.Cmp.Lexicographic.{slice_cmp}
use Rattle.hr_base.specs.declared.limits.TheConstants.{MAX_KEY_LEN, MAX_VALUE_LEN}
use Rattle.std.specs.Coded.{Coded, code_by, coded×, coded_ℕ, coded_list}

-- a key, and the map that it is of
pub record Key : Type 0 where
  pub prefix : ℕ
  pub bytes : List ℕ

-- what a key has where it is present
pub record Content : Type 0 where
  pub value : List ℕ

-- by prefix, and then by bytes
abbrev pub key_cmp : Key → Key → Ordering
key_cmp a b = ordering_then (nat_cmp a.prefix b.prefix) (slice_cmp nat_cmp a.bytes b.bytes)

-- whether two keys are one
abbrev pub is_key : Key → Key → Bool
is_key a b = eq_by_cmp key_cmp a b

-- the maps of a partition, in one
abbrev pub Entries : Type 0
Entries = map.FinMap key_cmp Content

-- a key's state: present with a content, or absent
abbrev pub State : Type 0
State = Option Content

-- the key with these bytes in the map with this prefix
abbrev pub key_at : ℕ → List ℕ → Key
key_at prefix bytes = record { prefix = prefix; bytes = bytes }

-- the content with this value
abbrev pub content_of : List ℕ → Content
content_of value = record { value = value }

-- how many keys the map with this prefix has
abbrev pub count_under : ℕ → Entries → ℕ
count_under prefix m = count_by (λ k. prefix == k.prefix) (map.keys m)

-- the maps without the keys of this prefix
abbrev pub without_prefix : ℕ → Entries → Entries
without_prefix prefix m = map.retain_keys m (λ k. not (prefix == k.prefix))

-- keys and values have lengths that records can have
pub record KeepsLimits (m : Entries) : Type 0 where
  pub keys : (k : Key) (c : Content) → map.get m k ≡ Some c → length k.bytes ≤ MAX_KEY_LEN
  pub values : (k : Key) (c : Content) → map.get m k ≡ Some c → length c.value ≤ MAX_VALUE_LEN

abbrev pub coded_key : Coded Key
coded_key = code_by (ℕ × List ℕ) (coded× coded_ℕ (coded_list coded_ℕ)) (λ k. (k.prefix, k.bytes)) (λ p. record { prefix = p.0; bytes = p.1 }) (λ _. refl)

abbrev pub coded_content : Coded Content
coded_content = code_by (List ℕ) (coded_list coded_ℕ) (λ c. c.value) (λ v. record { value = v }) (λ _. refl)
