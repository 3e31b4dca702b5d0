-- Laws of the order of names.
use Rattle.std.proofs.Common.{◌≡◌, true, false, refl, sym, ap, ◌∙◌, subst}
use Rattle.std.specs.declared.cmp.Ordering.{Ordering}
use Rattle.std.specs.declared.cmp.Ordering.TheVariants.{Less, Equal, Greater}
use Rattle.std.specs.Ordering.{nat_cmp, is_lt, ordering_reverse}
use Rattle.std.specs.Cmp.Lexicographic.{slice_cmp}
use Rattle.std.proofs.lemmas.Bool.{false≢true, false_from_ne_true}
use Rattle.std.proofs.lemmas.Cmp.{nat_list_cmp_total, tied_itself}
use Rattle.std.proofs.lemmas.Map.Lookups.{exact_bytes}
use Rattle.hr_base.specs.declared.name.ChunkName.{ChunkName}
use Rattle.hr_base.specs.Names.{IsChunkName, name_text}
use Rattle.hr_base.specs.NameTests.{is_name}
use Rattle.hr_base.proofs.NameTexts.{name_text_one}
use Rattle.hr_base.proofs.NameTestLaws.{is_name-true}
use Rattle.mem_folder.specs.Orders.{ComesBefore}

is_less : (o : Ordering) → is_lt o ≡ true → o ≡ Less
is_less Less lt = refl
is_less Equal lt = absurd (false≢true lt)
is_less Greater lt = absurd (false≢true lt)

-- no name comes before itself
pub before_itself : (a : ChunkName) → ComesBefore a a → ⊥
before_itself a before =
    false≢true (sym (ap is_lt (tied_itself nat_list_cmp_total (name_text a))) ∙ before)

pub before_chain : (a b c : ChunkName) → ComesBefore a b → ComesBefore b c → ComesBefore a c
before_chain a b c ab bc =
    ap is_lt (nat_list_cmp_total.trans (name_text a) (name_text b) (name_text c) (is_less _ ab) (is_less _ bc))

-- a name that comes before another is not the same
pub before_other : (a b : ChunkName) → ComesBefore a b → is_name a b ≡ false
before_other a b before =
    false_from_ne_true (is_name a b) (λ same. before_itself a (subst (ComesBefore a) (sym (is_name-true a b same)) before))

-- what a comparison says
pub before_less : (a b : ChunkName) (o : Ordering) → o ≡ slice_cmp nat_cmp (name_text a) (name_text b) → o ≡ Less → ComesBefore a b
before_less a b o is less = ap is_lt (sym is ∙ less)

pub before_greater : (a b : ChunkName) (o : Ordering) → o ≡ slice_cmp nat_cmp (name_text a) (name_text b) → o ≡ Greater → ComesBefore b a
before_greater a b o is greater =
    ap is_lt (nat_list_cmp_total.antisymm (name_text b) (name_text a) ∙ ap ordering_reverse (sym is ∙ greater))

pub same_equal : (a b : ChunkName) (o : Ordering) → IsChunkName a → IsChunkName b → o ≡ slice_cmp nat_cmp (name_text a) (name_text b) → o ≡ Equal → a ≡ b
same_equal a b o p q is equal = name_text_one a b p q (exact_bytes (name_text a) (name_text b) (sym is ∙ equal))
