-- Laws of the test whether two chunk names are the same one.
use Rattle.std.specs.Prelude.{◌≡◌, ◌≢◌, ℕ, ◌==◌, true, false, ◌&&◌, if◌then◌else◌, ◌⊎◌, refl}
use Rattle.std.proofs.Common.{ap, sym, ◌∙◌, inl, inr}
use Rattle.std.proofs.lemmas.Bool.{eqb-true, eq-eqb, and_from, and_parts, false≢true, cases_Bool, false_from_ne_true}
use Rattle.hr_base.specs.declared.name.Kind.{Kind}
use Rattle.hr_base.specs.declared.name.Kind.TheVariants.{V, T, X, W, U, Y}
use Rattle.hr_base.specs.declared.name.ChunkName.{ChunkName}
use Rattle.hr_base.specs.Names.{letter_of_kind}
use Rattle.hr_base.specs.NameTests.{is_name}

-- the kind that has this letter, and the last one at another letter
abbrev pub kind_of_letter : ℕ → Kind
kind_of_letter letter =
    if letter == 118 then V else (if letter == 116 then T else (if letter == 120 then X else (if letter == 119 then W else (if letter == 117 then U else Y))))

-- each kind is the one that its letter stands for
pub kind_of_letter-letter : (kind : Kind) → kind_of_letter (letter_of_kind kind) ≡ kind
kind_of_letter-letter V = refl
kind_of_letter-letter T = refl
kind_of_letter-letter X = refl
kind_of_letter-letter W = refl
kind_of_letter-letter U = refl
kind_of_letter-letter Y = refl

-- no two kinds share a letter
pub letter_of_kind-one : (a b : Kind) → letter_of_kind a ≡ letter_of_kind b → a ≡ b
letter_of_kind-one a b same =
    sym (kind_of_letter-letter a) ∙ ap kind_of_letter same ∙ kind_of_letter-letter b

-- a name is given by its three parts
pub same_parts : (a b : ChunkName) → a.partition.0 ≡ b.partition.0 → a.kind ≡ b.kind → a.number.0 ≡ b.number.0 → a ≡ b
same_parts a b partition kind number =
    ap (λ (p : ℕ). let name : ChunkName = record { partition = record { 0 = p }; kind = a.kind; number = record { 0 = a.number.0 } } in name) partition
    ∙ ap (λ (k : Kind). let name : ChunkName = record { partition = record { 0 = b.partition.0 }; kind = k; number = record { 0 = a.number.0 } } in name) kind
    ∙ ap (λ (n : ℕ). let name : ChunkName = record { partition = record { 0 = b.partition.0 }; kind = b.kind; number = record { 0 = n } } in name) number

-- names at which the test holds are the same
pub is_name-true : (a b : ChunkName) → is_name a b ≡ true → a ≡ b
is_name-true a b holds =
    let parts = and_parts (a.partition.0 == b.partition.0) ((letter_of_kind a.kind == letter_of_kind b.kind) && (a.number.0 == b.number.0)) holds in
    let rest = and_parts (letter_of_kind a.kind == letter_of_kind b.kind) (a.number.0 == b.number.0) parts.1 in
    same_parts a b (eqb-true a.partition.0 b.partition.0 parts.0) (letter_of_kind-one a.kind b.kind (eqb-true _ _ rest.0)) (eqb-true a.number.0 b.number.0 rest.1)

-- the test holds at each name and itself
pub is_name-same : (a : ChunkName) → is_name a a ≡ true
is_name-same a =
    and_from (a.partition.0 == a.partition.0) ((letter_of_kind a.kind == letter_of_kind a.kind) && (a.number.0 == a.number.0)) (eq-eqb a.partition.0 a.partition.0 refl) (and_from (letter_of_kind a.kind == letter_of_kind a.kind) (a.number.0 == a.number.0) (eq-eqb (letter_of_kind a.kind) (letter_of_kind a.kind) refl) (eq-eqb a.number.0 a.number.0 refl))

-- names at which the test fails differ
pub is_name-false : (a b : ChunkName) → is_name a b ≡ false → a ≢ b
is_name-false a b fails same =
    false≢true (sym fails ∙ ap (λ (name : ChunkName). is_name a name) (sym same) ∙ is_name-same a)

-- two names are the same, or they differ
pub same_name_or_not : (a b : ChunkName) → (a ≡ b) ⊎ (a ≢ b)
same_name_or_not a b =
    elim (cases_Bool (is_name a b)) [ inl holds ↦ inl (is_name-true a b holds) | inr fails ↦ inr (is_name-false a b fails) ]

-- names that differ fail the test
pub is_name-other : (a b : ChunkName) → a ≢ b → is_name a b ≡ false
is_name-other a b differ =
    false_from_ne_true (is_name a b) (λ holds. differ (is_name-true a b holds))
