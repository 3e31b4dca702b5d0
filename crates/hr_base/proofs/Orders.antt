-- How lists and numbers compare part by part.
use Rattle.std.proofs.Common.{◌≡◌, ℕ, ◌+◌, ◌*◌, ◌/◌, ◌%◌, ◌<◌, ◌≤◌, List, [], ◌∷◌, ◌++◌, length, refl, sym, ap, ◌∙◌, arith}
use Rattle.std.specs.declared.cmp.Ordering.{Ordering}
use Rattle.std.specs.declared.cmp.Ordering.TheVariants.{Less, Equal, Greater}
use Rattle.std.specs.Ordering.{nat_cmp, ordering_then}
use Rattle.std.specs.Cmp.Lexicographic.{slice_cmp}
use Rattle.std.proofs.Math.Nat.{mul-le-mul_right}
use Rattle.std.proofs.lemmas.Cmp.{ranked, by_ranked}
use Rattle.std.proofs.lemmas.Nat.{div-add-mod', mod_below}
use Rattle.std.proofs.lemmas.Bool.Decides.{nat_tests}

-- to compare by two orders and then by a third is to compare by the first and then by the other two
pub ordering_then-assoc : (o p q : Ordering) → ordering_then (ordering_then o p) q ≡ ordering_then o (ordering_then p q)
ordering_then-assoc Less p q = refl
ordering_then-assoc Equal p q = refl
ordering_then-assoc Greater p q = refl

pub ordering_then-equal : (o : Ordering) → ordering_then o Equal ≡ o
ordering_then-equal Less = refl
ordering_then-equal Equal = refl
ordering_then-equal Greater = refl

-- joined lists, of which the first parts have one length
pub slice_cmp-append : {A : Type 0} (R : A → A → Ordering) (a b c d : List A) → length a ≡ length c → slice_cmp R (a ++ b) (c ++ d) ≡ ordering_then (slice_cmp R a c) (slice_cmp R b d)
slice_cmp-append R [] b [] d e = refl
slice_cmp-append R [] b (y ∷ c) d e = absurd (omega arith)
slice_cmp-append R (x ∷ a) b [] d e = absurd (omega arith)
slice_cmp-append R (x ∷ a) b (y ∷ c) d e =
    ap (ordering_then (R x y)) (slice_cmp-append R a b c d (omega arith))
    ∙ sym (ordering_then-assoc (R x y) (slice_cmp R a c) (slice_cmp R b d))

nat_cmp-less : (x y : ℕ) → x < y → nat_cmp x y ≡ Less
nat_cmp-less x y h = grind (arith, nat_tests)

pub nat_cmp-equal : (x y : ℕ) → x ≡ y → nat_cmp x y ≡ Equal
nat_cmp-equal x y h = grind (arith, nat_tests)

nat_cmp-greater : (x y : ℕ) → y < x → nat_cmp x y ≡ Greater
nat_cmp-greater x y h = grind (arith, nat_tests)

-- to add one number to both changes nothing
pub nat_cmp-shift : (n r s : ℕ) → nat_cmp r s ≡ nat_cmp (n + r) (n + s)
nat_cmp-shift n r s = grind (arith, nat_tests)

place_below : (base h k r s : ℕ) → r < base → h < k → h * base + r < k * base + s
place_below base h k r s p below =
    let more : (h + 1) * base ≤ k * base = mul-le-mul_right base (omega arith) in
    omega (arith, more)

same_place : (base h k r s : ℕ) → h ≡ k → nat_cmp r s ≡ nat_cmp (h * base + r) (k * base + s)
same_place base h k r s e = rw e (nat_cmp-shift (k * base) r s)

-- one more place: numbers compare by what stands before their last digit, and then by that digit
pub place_cmp : (base h k r s : ℕ) → r < base → s < base → ordering_then (nat_cmp h k) (nat_cmp r s) ≡ nat_cmp (h * base + r) (k * base + s)
place_cmp base h k r s p q =
    by_ranked (h < k) (h ≡ k) (k < h) (nat_cmp h k) (ranked h k (nat_cmp h k) refl)
    (λ e below. ap (λ o. ordering_then o (nat_cmp r s)) e ∙ sym (nat_cmp-less (h * base + r) (k * base + s) (place_below base h k r s p below)))
    (λ e same. ap (λ o. ordering_then o (nat_cmp r s)) e ∙ same_place base h k r s same)
    (λ e above. ap (λ o. ordering_then o (nat_cmp r s)) e ∙ sym (nat_cmp-greater (h * base + r) (k * base + s) (place_below base k h s r q above)))

-- numbers compare by what a division gives, and then by what it leaves
pub div_mod_cmp : (a b n : ℕ) → 0 < n → ordering_then (nat_cmp (a / n) (b / n)) (nat_cmp (a % n) (b % n)) ≡ nat_cmp a b
div_mod_cmp a b n h =
    place_cmp n (a / n) (b / n) (a % n) (b % n) (mod_below a n h) (mod_below b n h)
    ∙ ap (λ x. nat_cmp x (b / n * n + b % n)) (div-add-mod' a n)
    ∙ ap (nat_cmp a) (div-add-mod' b n)
