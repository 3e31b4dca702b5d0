-- The number of a partition's next chunk, as one name more is known.
use Rattle.std.proofs.Common.{◌≡◌, ◌≢◌, ◌⊎◌, ℕ, ◌+◌, ◌≤◌, Bool, true, false, List, [], ◌∷◌, ◌++◌, Some, refl, ap, sym, ◌∙◌, subst, inl, inr, arith, zero, suc}
use Rattle.std.specs.Prelude.{max, replicate, slice_get, slice_set, if◌then◌else◌}
use Rattle.std.proofs.lemmas.Bool.{false≢true}
use Rattle.std.proofs.lemmas.List.Elements.{Contains-append_left, Contains-push, Contains-push_cases}
use Rattle.hr_base.specs.declared.name.ChunkName.{ChunkName}
use Rattle.hr_base.specs.Names.{IsChunkName}
use Rattle.restart_load.specs.Numbers.{IsNextAmong, IsWriterName, is_writer_kind, next_after}
use Rattle.restart_load.proofs.OpeningLaws.{get_set_other, get_set_same}

-- each number is the next one of its partition
abbrev pub AreNextAmong : List ChunkName → List ℕ → Type 0
AreNextAmong names next = (p n : ℕ) → slice_get next p ≡ Some n → IsNextAmong names p n

-- ---- no name is known

no_name : (p : ℕ) (name : ChunkName) → IsWriterName [] p name → ⊥
no_name p name is = omega (arith, is.listed.1)

next_none : (p : ℕ) → IsNextAmong [] p 1
next_none p = record {
  above = λ name is. absurd (no_name p name is);
  least = inr (λ name is. no_name p name is, refl);
  some = omega arith;
  limited = omega arith;
}

replicate_get : (count p n : ℕ) → slice_get (replicate count 1) p ≡ Some n → n ≡ 1
replicate_get zero p n is = cc
replicate_get (suc count) zero n is = cc
replicate_get (suc count) (suc p) n is = replicate_get count p n is

pub are_next_none : (count : ℕ) → AreNextAmong [] (replicate count 1)
are_next_none count p n is = subst (λ (m : ℕ). IsNextAmong [] p m) (sym (replicate_get count p n is)) (next_none p)

-- ---- one name more is known

max_cases : (a b : ℕ) → ((max a b ≡ a) × (b ≤ a)) ⊎ (max a b ≡ b)
max_cases a b = grind arith

-- a value that a test chose
chosen : (P : ℕ → Type 0) (test : Bool) (a b : ℕ) → (test ≡ true → P a) → (test ≡ false → P b) → P (if test then a else b)
chosen P true a b if_so if_not = if_so refl
chosen P false a b if_so if_not = if_not refl

same_or_not : (p q : ℕ) → (p ≡ q) ⊎ (p ≢ q)
same_or_not p q = grind arith

module _ (names : List ChunkName) (name : ChunkName) where
  -- a name among the longer list is among the shorter one, or the last one
  before_or_last : (p : ℕ) (other : ChunkName) → IsWriterName (names ++ name ∷ []) p other → IsWriterName names p other ⊎ (name ≡ other)
  before_or_last p other is = elim (Contains-push_cases names name other is.listed) [
    | inl before ↦ inl (record { listed = before; partition = is.partition; kind = is.kind })
    | inr last ↦ inr last
  ]

  still : (p : ℕ) (other : ChunkName) → IsWriterName names p other → IsWriterName (names ++ name ∷ []) p other
  still p other is = record { listed = Contains-append_left names (name ∷ []) other is.listed; partition = is.partition; kind = is.kind }

  module _ (p n : ℕ) (next : IsNextAmong names p n) where
    -- it is none of the partition's that a writer began
    pub next_stays : ¬ IsWriterName (names ++ name ∷ []) p name → IsNextAmong (names ++ name ∷ []) p n
    next_stays never = record {
      above = λ other is. elim (before_or_last p other is) [
        | inl before ↦ next.above other before
        | inr last ↦ absurd (never (subst (λ (x : ChunkName). IsWriterName (names ++ name ∷ []) p x) (sym last) is))
      ];
      least = elim next.least [
        | inl found ↦ inl (found.0, still p found.0 found.1, found.2)
        | inr none ↦ inr (
          λ other is. elim (before_or_last p other is) [
            | inl before ↦ none.0 other before
            | inr last ↦ never (subst (λ (x : ChunkName). IsWriterName (names ++ name ∷ []) p x) (sym last) is)
          ],
          none.1,
        )
      ];
      some = next.some;
      limited = next.limited;
    }

    -- it is one of the partition's that a writer began
    pub next_rises : IsChunkName name → IsWriterName (names ++ name ∷ []) p name → IsNextAmong (names ++ name ∷ []) p (max n (name.number.0 + 1))
    next_rises valid here = record {
      above = λ other is. elim (before_or_last p other is) [
        | inl before ↦ omega (arith, next.above other before)
        | inr last ↦ omega (arith, ap (λ (x : ChunkName). x.number.0) last)
      ];
      least = elim (max_cases n (name.number.0 + 1)) [
        | inl old ↦ elim next.least [
          | inl found ↦ inl (found.0, still p found.0 found.1, found.2 ∙ sym old.0)
          | inr none ↦ let never : ⊥ = omega (arith, old.1, none.1, valid.numbered) in absurd never
        ]
        | inr new ↦ inl (name, here, sym new)
      ];
      some = omega (arith, next.some);
      limited = omega (arith, next.limited, valid.number);
    }

  pub next_raised : (n : ℕ) → IsNextAmong names name.partition.0 n → IsChunkName name → IsNextAmong (names ++ name ∷ []) name.partition.0 (next_after n name)
  next_raised n next valid =
      chosen (λ (m : ℕ). IsNextAmong (names ++ name ∷ []) name.partition.0 m) (is_writer_kind name.kind) (max n (name.number.0 + 1)) n
      (λ holds. next_rises name.partition.0 n next valid (record { listed = Contains-push names name; partition = refl; kind = holds }))
      (λ fails. next_stays name.partition.0 n next (λ is. false≢true (sym fails ∙ is.kind)))

  pub are_next_raised : (next : List ℕ) (n : ℕ) → AreNextAmong names next → IsChunkName name → slice_get next name.partition.0 ≡ Some n
      → AreNextAmong (names ++ name ∷ []) (slice_set next name.partition.0 (next_after n name))
  are_next_raised next n each valid here p m is = elim (same_or_not p name.partition.0) [
    | inl same ↦
        let at : slice_get (slice_set next name.partition.0 (next_after n name)) name.partition.0 ≡ Some m =
        subst (λ (q : ℕ). slice_get (slice_set next name.partition.0 (next_after n name)) q ≡ Some m) same is in
        subst (λ (q : ℕ). IsNextAmong (names ++ name ∷ []) q m) (sym same)
        (subst (λ (v : ℕ). IsNextAmong (names ++ name ∷ []) name.partition.0 v) (sym (get_set_same next name.partition.0 (next_after n name) m at))
        (next_raised n (each name.partition.0 n here) valid))
    | inr apart ↦
        next_stays p m (each p m (sym (get_set_other next name.partition.0 p (next_after n name) apart) ∙ is)) (λ w. apart (sym w.partition))
  ]
