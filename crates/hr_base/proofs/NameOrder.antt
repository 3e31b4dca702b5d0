-- Names in the order of their texts.
use Rattle.std.proofs.Common.{◌≡◌, ℕ, ◌+◌, ◌/◌, ◌%◌, ◌^◌, ◌<◌, ◌≤◌, List, ◌++◌, length, codes, All, get_or, true, false, Some, refl, sym, ap, ◌∙◌, lit<, arith}
use Rattle.std.specs.declared.cmp.Ordering.{Ordering}
use Rattle.std.specs.declared.cmp.Ordering.TheVariants.{Less, Equal, Greater}
use Rattle.std.specs.Ordering.{nat_cmp, ordering_then, ordering_reverse, is_lt, is_gt, is_some_and}
use Rattle.std.specs.Cmp.Lexicographic.{slice_cmp, slice_partial_cmp, lists_agrees}
use Rattle.std.specs.List.Sorted.{IsSorted}
use Rattle.std.proofs.lemmas.List.Elements.{All-get_or}
use Rattle.std.proofs.lemmas.List.Sorted.{ranks_by, sorted_far}
use Rattle.std.proofs.lemmas.Cmp.{upto, tied_itself, nat_list_cmp_total}
use Rattle.hr_base.specs.contracts.name.KindOrd.TheImpl as kind_ord
use Rattle.hr_base.specs.contracts.name.ChunkNameOrd.TheImpl as name_ord
use Rattle.hr_base.specs.contracts.name.ChunkNameOrd.TheImpl.Laws.{total-law}
use Rattle.hr_base.specs.declared.name.Kind.{Kind}
use Rattle.hr_base.specs.declared.name.Kind.TheVariants.{T, U, V, W, X, Y}
use Rattle.hr_base.specs.declared.name.ChunkName.{ChunkName}
use Rattle.hr_base.specs.Names.{IsChunkName, IsUpTo, name_text, letter_of_kind, hex_digits}
use Rattle.hr_base.proofs.HexDigits.{length-hex_digits, hex_digits_cmp}
use Rattle.hr_base.proofs.Orders.{ordering_then-assoc, ordering_then-equal, slice_cmp-append, nat_cmp-shift, div_mod_cmp}

-- kinds compare as their letters
pub kind_cmp : (a b : Kind) → kind_ord.ghosts.cmp a b ≡ nat_cmp (letter_of_kind a) (letter_of_kind b)
kind_cmp T T = refl
kind_cmp U U = refl
kind_cmp V V = refl
kind_cmp W W = refl
kind_cmp X X = refl
kind_cmp Y Y = refl
kind_cmp a b = refl

-- two decimal digits compare as the number
decimal_cmp : (a b : ℕ) → ordering_then (nat_cmp (48 + a / 10) (48 + b / 10)) (nat_cmp (48 + a % 10) (48 + b % 10)) ≡ nat_cmp a b
decimal_cmp a b =
    ap (λ o. ordering_then o (nat_cmp (48 + a % 10) (48 + b % 10))) (sym (nat_cmp-shift 48 (a / 10) (b / 10)))
    ∙ ap (ordering_then (nat_cmp (a / 10) (b / 10))) (sym (nat_cmp-shift 48 (a % 10) (b % 10)))
    ∙ div_mod_cmp a b 10 (lit< tt)

-- sixteen digits with one ending compare as the number
tail_cmp : (m n : ℕ) → m < 16 ^ 16 → n < 16 ^ 16 → slice_cmp nat_cmp (hex_digits 16 m ++ codes ".chunk") (hex_digits 16 n ++ codes ".chunk") ≡ nat_cmp m n
tail_cmp m n p q =
    slice_cmp-append nat_cmp (hex_digits 16 m) (codes ".chunk") (hex_digits 16 n) (codes ".chunk") (length-hex_digits 16 m ∙ sym (length-hex_digits 16 n))
    ∙ ap (λ o. ordering_then o Equal) (hex_digits_cmp 16 m n p q)
    ∙ ordering_then-equal (nat_cmp m n)

-- chunk names compare as their texts
pub name_cmp : (a b : ChunkName) → IsChunkName a → IsChunkName b → name_ord.ghosts.cmp a b ≡ slice_cmp nat_cmp (name_text a) (name_text b)
unfolding name_text
name_cmp a b p q =
    let partitions = nat_cmp a.partition.0 b.partition.0 in
    let high = nat_cmp (48 + a.partition.0 / 10) (48 + b.partition.0 / 10) in
    let low = nat_cmp (48 + a.partition.0 % 10) (48 + b.partition.0 % 10) in
    let letters = nat_cmp (letter_of_kind a.kind) (letter_of_kind b.kind) in
    let tails = slice_cmp nat_cmp (hex_digits 16 a.number.0 ++ codes ".chunk") (hex_digits 16 b.number.0 ++ codes ".chunk") in
    let tail : tails ≡ nat_cmp a.number.0 b.number.0 = tail_cmp a.number.0 b.number.0 (omega (arith, p.number)) (omega (arith, q.number)) in
    ap (λ o. ordering_then partitions (ordering_then o (nat_cmp a.number.0 b.number.0))) (kind_cmp a.kind b.kind)
    ∙ ap (λ o. ordering_then partitions (ordering_then letters o)) (sym tail)
    ∙ ap (λ o. ordering_then o (ordering_then letters tails)) (sym (decimal_cmp a.partition.0 b.partition.0))
    ∙ ordering_then-assoc high low (ordering_then letters tails)

not_after : (o : Ordering) → is_lt o ≡ true → is_gt o ≡ false
not_after Less e = refl
not_after Equal e = cc
not_after Greater e = cc

not_after_turned : (o : Ordering) → is_lt o ≡ false → is_gt (ordering_reverse o) ≡ false
not_after_turned Less e = cc
not_after_turned Equal e = refl
not_after_turned Greater e = refl

-- of sorted names an earlier one comes up to a later one
pub sorted_up_to : (names : List ChunkName) → All IsChunkName names → IsSorted name_ord.ghosts.cmp names → (i j : ℕ) (d : ChunkName) → i ≤ j → j < length names → IsUpTo (get_or names i d) (get_or names j d)
sorted_up_to names valid sorted i j d h k =
    let a = get_or names i d in
    let b = get_or names j d in
    let p : IsChunkName a = All-get_or IsChunkName names i d (omega arith) valid in
    let q : IsChunkName b = All-get_or IsChunkName names j d k valid in
    let ranked = ranks_by total-law (λ (name : ChunkName). name) in
    let texts = sym (ap is_lt (name_cmp b a q p)) ∙ sorted_far (λ x y. is_lt (name_ord.ghosts.cmp x y)) ranked names sorted i j d h k in
    ap is_gt (nat_list_cmp_total.antisymm (name_text a) (name_text b)) ∙ not_after_turned (slice_cmp nat_cmp (name_text b) (name_text a)) texts

pub up_to-itself : (a : ChunkName) → IsUpTo a a
up_to-itself a = ap is_gt (tied_itself nat_list_cmp_total (name_text a))

pub up_to-chain : (a b c : ChunkName) → IsUpTo a b → IsUpTo b c → IsUpTo a c
up_to-chain a b c h k = upto nat_list_cmp_total (name_text a) (name_text b) (name_text c) h k

as_cmp : (a b : ChunkName) → is_some_and is_lt (slice_partial_cmp (λ x y. Some (nat_cmp x y)) (name_text a) (name_text b)) ≡ is_lt (slice_cmp nat_cmp (name_text a) (name_text b))
as_cmp a b = ap (is_some_and is_lt) (lists_agrees (λ x y. refl) (name_text a) (name_text b))

-- what a comparison of two texts says
pub up_to_less : (a b : ChunkName) → is_some_and is_lt (slice_partial_cmp (λ x y. Some (nat_cmp x y)) (name_text a) (name_text b)) ≡ true → IsUpTo a b
up_to_less a b e = not_after (slice_cmp nat_cmp (name_text a) (name_text b)) (sym (as_cmp a b) ∙ e)

pub up_to_not_less : (a b : ChunkName) → is_some_and is_lt (slice_partial_cmp (λ x y. Some (nat_cmp x y)) (name_text a) (name_text b)) ≡ false → IsUpTo b a
up_to_not_less a b e =
    ap is_gt (nat_list_cmp_total.antisymm (name_text b) (name_text a)) ∙ not_after_turned (slice_cmp nat_cmp (name_text a) (name_text b)) (sym (as_cmp a b) ∙ e)
