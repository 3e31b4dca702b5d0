-- Laws of keys and of entries, each from the order of the keys.
use Rattle.std.specs.Prelude.{◌≡◌, ◌≢◌, ◌⊎◌, ℕ, List, Bool, true, false, cond, Some, None, refl}
use Rattle.std.proofs.Common.{sym, ◌∙◌, ap, inl, inr, true≢false}
use Rattle.std.specs.FinMap.{IsAntisymmetric, empty, get, insert, remove, get-empty, get-insert, get-remove, same_map}
use Rattle.std.specs.Ordering.{nat_cmp, is_eq}
use Rattle.std.specs.declared.cmp.Ordering.{Ordering}
use Rattle.std.specs.declared.cmp.Ordering.TheVariants.{Less, Equal, Greater}
use Rattle.std.specs.Cmp.{IsTotalOrder, eq_by_cmp_equiv}
use Rattle.std.specs.Cmp.Lexicographic.{slice_cmp}
use Rattle.std.proofs.lemmas.Cmp.{nat_cmp_total, nat_list_cmp_total, on_total, then_total}
use Rattle.std.proofs.lemmas.Map.Lookups.{exact_bytes, exact_pairs, exact_unsigned}
use Rattle.hr_base.specs.Entries.{Key, Content, Entries, key_cmp, is_key}

pub key_total : IsTotalOrder key_cmp
key_total = then_total (on_total (λ k. k.prefix) nat_cmp_total) (on_total (λ k. k.bytes) nat_list_cmp_total)

-- keys that compare alike are one
pub key_exact : IsAntisymmetric key_cmp
key_exact a b e = ap (λ (p : ℕ × List ℕ). record { prefix = p.0; bytes = p.1 }) (exact_pairs nat_cmp (slice_cmp nat_cmp) exact_unsigned exact_bytes (a.prefix, a.bytes) (b.prefix, b.bytes) e)

equal_from_test : (o : Ordering) → is_eq o ≡ true → o ≡ Equal
equal_from_test Less h = absurd (true≢false (sym h))
equal_from_test Equal h = refl
equal_from_test Greater h = absurd (true≢false (sym h))

pub is_key-true : (a b : Key) → is_key a b ≡ true → a ≡ b
is_key-true a b h = key_exact a b (equal_from_test (key_cmp a b) h)

pub is_key-same : (a : Key) → is_key a a ≡ true
is_key-same a = (eq_by_cmp_equiv key_total).refl a

pub is_key-false : (a b : Key) → is_key a b ≡ false → a ≢ b
is_key-false a b h e = true≢false (sym (is_key-same a) ∙ ap (is_key a) e ∙ h)

not_key : (a b : Key) → a ≢ b → (t : Bool) → is_key a b ≡ t → is_key a b ≡ false
not_key a b apart true h = absurd (apart (is_key-true a b h))
not_key a b apart false h = h

-- keys that differ fail the test
pub is_key-apart : (a b : Key) → a ≢ b → is_key a b ≡ false
is_key-apart a b apart = not_key a b apart (is_key a b) refl

same_by_test : (a b : Key) (t : Bool) → is_key a b ≡ t → (a ≡ b) ⊎ (a ≢ b)
same_by_test a b true h = inl (is_key-true a b h)
same_by_test a b false h = inr (is_key-false a b h)

pub same_key_or_not : (a b : Key) → (a ≡ b) ⊎ (a ≢ b)
same_key_or_not a b = same_by_test a b (is_key a b) refl

pub get-empty-entries : (q : Key) → get (empty {X = Content} {R = key_cmp}) q ≡ None
get-empty-entries q = get-empty key_cmp q

pub get-insert-same : (m : Entries) (k : Key) (c : Content) → get (insert m k c) k ≡ Some c
get-insert-same m k c = get-insert key_total m k c k ∙ ap (λ t. cond t (Some c) (get m k)) (is_key-same k)

pub get-insert-other : (m : Entries) (k q : Key) (c : Content) → q ≢ k → get (insert m k c) q ≡ get m q
get-insert-other m k q c apart = get-insert key_total m k c q ∙ ap (λ t. cond t (Some c) (get m q)) (is_key-apart q k apart)

pub get-remove-same : (m : Entries) (k : Key) → get (remove m k) k ≡ None
get-remove-same m k = get-remove key_total m k k ∙ ap (λ t. cond t None (get m k)) (is_key-same k)

pub get-remove-other : (m : Entries) (k q : Key) → q ≢ k → get (remove m k) q ≡ get m q
get-remove-other m k q apart = get-remove key_total m k q ∙ ap (λ t. cond t None (get m q)) (is_key-apart q k apart)

-- entries that answer alike at each key are the same
pub same_entries : (m n : Entries) → ((q : Key) → get m q ≡ get n q) → m ≡ n
same_entries m n alike = same_map key_total key_exact m n alike

kept_at : (m : Entries) (k q : Key) → get m k ≡ None → (q ≡ k) ⊎ (q ≢ k) → get m q ≡ get (remove m k) q
kept_at m k q none (inl same) = ap (get m) same ∙ none ∙ sym (ap (get (remove m k)) same ∙ get-remove-same m k)
kept_at m k q none (inr apart) = sym (get-remove-other m k q apart)

-- to remove a key that is absent changes nothing
pub remove-absent : (m : Entries) (k : Key) → get m k ≡ None → m ≡ remove m k
remove-absent m k none = same_entries _ _ (λ q. kept_at m k q none (same_key_or_not q k))
