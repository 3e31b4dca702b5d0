-- How many keys the maps have, under all prefixes and under one.
use Rattle.std.specs.Prelude.{◌≡◌, ℕ, ◌==◌, ◌+◌, ◌-◌, ◌^◌, ◌<◌, ◌≤◌, Bool, true, false, not, cond, List, Option, None, Some, is_some, IsSome, option_map, refl}
use Rattle.std.proofs.Common.{sym, ◌∙◌, ap, add-zero, arith}
use Rattle.std.specs.FinMap.{get, insert, remove, len, empty_of_len, len-insert, len-remove, get-retain_keys}
use Rattle.std.specs.Int.{from_bool}
use Rattle.hr_base.specs.Entries.{Key, Content, Entries, content_of, count_under, without_prefix}
use Rattle.hr_base.proofs.EntryLaws.{key_total, key_exact, get-empty-entries}
use Rattle.ram_map.proofs.FinMaps.{count_by_both}

-- ---- under all prefixes

pub is_some-option_map : (before : Option (List ℕ)) → is_some (option_map content_of before) ≡ is_some before
is_some-option_map None = refl
is_some-option_map (Some v) = refl

-- a key that is present keeps the count, and a new one is one more
pub len-put : (m : Entries) (k : Key) (c : Content) (before : Option (List ℕ)) → option_map content_of before ≡ get m k → len (insert m k c) ≡ cond (is_some before) (len m) (len m + 1)
len-put m k c before was = len-insert key_total m k c ∙ ap (λ (t : Bool). cond t (len m) (len m + 1)) (ap is_some (sym was) ∙ is_some-option_map before)

-- a key that is taken out is one less
pub len-taken : (m : Entries) (k : Key) (before : Option (List ℕ)) → option_map content_of before ≡ get m k → len (remove m k) ≡ cond (is_some before) (len m - 1) (len m)
len-taken m k before was = len-remove key_total m k ∙ ap (λ (t : Bool). cond t (len m - 1) (len m)) (ap is_some (sym was) ∙ is_some-option_map before)

-- where a key is present, there is one
pub len-present : (m : Entries) (k : Key) → IsSome (get m k) → 0 < len m
len-present m k here = some_key (len m) (λ none. absurd_none (ap (λ (n : Entries). is_some (get n k)) (empty_of_len m none) ∙ ap is_some (get-empty-entries k)))
  where
    absurd_none : is_some (get m k) ≡ false → ⊥
    absurd_none none = cc

    some_key : (n : ℕ) → (n ≡ 0 → ⊥) → 0 < n
    some_key n h = grind arith

-- ---- under one prefix

-- those of a prefix and those without it are all
pub count_under-both : (p : ℕ) (m : Entries) → count_under p m + len (without_prefix p m) ≡ len m
count_under-both p m = count_by_both key_total key_exact m (λ k. p == k.prefix)

pub len-without_prefix : (p : ℕ) (m : Entries) → len (without_prefix p m) ≡ len m - count_under p m
len-without_prefix p m = omega (arith, count_under-both p m)

pub count_under-le : (p : ℕ) (m : Entries) → count_under p m ≤ len m
count_under-le p m = omega (arith, count_under-both p m)

pub get-without_prefix : (p : ℕ) (m : Entries) (q : Key) → get (without_prefix p m) q ≡ cond (not (p == q.prefix)) (get m q) None
get-without_prefix p m q = get-retain_keys m (λ k. not (p == k.prefix)) q (λ x t. ap (λ (k : Key). not (p == k.prefix)) (sym (key_exact q x t)))

-- ---- the count as a number that is kept

pub put_count : (l n : ℕ) (was new : Bool) → was ≡ not new → n ≡ from_bool new → l + n ≡ cond was l (l + 1)
put_count l n was true w e = ap (λ (x : ℕ). l + x) e ∙ sym (ap (λ (t : Bool). cond t l (l + 1)) w)
put_count l n was false w e = ap (λ (x : ℕ). l + x) e ∙ add-zero l ∙ sym (ap (λ (t : Bool). cond t l (l + 1)) w)

pub put_fits : (l n : ℕ) (was new : Bool) → was ≡ not new → n ≡ from_bool new → l < 2 ^ 64 → (was ≡ false → l < 2 ^ 64 - 1) → l + n < 2 ^ 64
put_fits l n was true w e fits room = omega (arith, e, room w)
put_fits l n was false w e fits room = omega (arith, e)

pub taken_count : (l n : ℕ) (was : Bool) → n ≡ from_bool was → l - n ≡ cond was (l - 1) l
taken_count l n true e = ap (λ (x : ℕ). l - x) e
taken_count l n false e = omega (arith, e)

pub taken_within : (l n : ℕ) (was : Bool) → n ≡ from_bool was → (was ≡ true → 0 < l) → n ≤ l
taken_within l n true e some = omega (arith, e, some refl)
taken_within l n false e some = omega (arith, e)
