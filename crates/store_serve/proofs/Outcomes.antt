-- What a status says of the outcome that it tells.
use Rattle.std.proofs.Common.{◌≡◌, ◌⊎◌, ℕ, ◌≤◌, List, [], Option, refl, arith, inl, inr, subst, sym, ◌∙◌}
use Rattle.hr_edges.specs.Edges.{TakesAll}
use Rattle.restart_load.specs.declared.ended.Ended.TheVariants.{Whole, Sink, Disk, Memory, Load, Spent}
use Rattle.restart_load.specs.declared.refusal.RestartRefusal.{RestartRefusal}
use Rattle.store_serve.specs.declared.outcome.Outcome.{Outcome}
use Rattle.store_serve.specs.declared.outcome.Outcome.TheVariants.{Words, TooLong, BadLine, Input, Ended}
use Rattle.store_serve.specs.Outcome.{CanRefuse, CanRefuseFolder, CanRefuseNumber, CanRefuseWords, IsEarly, status_of, last_line, Tells, told, no_memory, not_taken, nothing_taken}

-- a status other than 4 and 7 is the outcome's own, and its last line was taken
pub told_of : (outcome : Outcome) (status : ℕ) (mid now : Option (List ℕ)) → Tells outcome status mid now → (status ≡ 4 → ⊥) → (status ≡ 7 → ⊥)
    → (status_of outcome ≡ status) × TakesAll mid now (last_line outcome)
told_of outcome _ mid now (told t) four seven = (refl, t)
told_of outcome _ mid now (no_memory t) four seven = absurd (seven refl)
told_of outcome _ mid now (not_taken t) four seven = absurd (four refl)
told_of outcome _ mid now (nothing_taken t) four seven = absurd (four refl)

-- where one of several statuses is the outcome's own, they are that one, 4 or 7
pub told_among : (outcome : Outcome) (status : ℕ) (mid now : Option (List ℕ)) → Tells outcome status mid now → (status ≡ status_of outcome) ⊎ (status ≡ 4) ⊎ (status ≡ 7)
told_among outcome _ mid now (told t) = inl refl
told_among outcome _ mid now (no_memory t) = inr (inr refl)
told_among outcome _ mid now (not_taken t) = inr (inl refl)
told_among outcome _ mid now (nothing_taken t) = inr (inl refl)

-- the last line of an outcome is that of one that is the same
same_line : (outcome other : Outcome) (mid now : Option (List ℕ)) → outcome ≡ other → TakesAll mid now (last_line outcome) → TakesAll mid now (last_line other)
same_line outcome other mid now e taken = subst (λ (x : Outcome). TakesAll mid now (last_line x)) e taken

-- ---- one status

whole_of_status : (outcome : Outcome) → status_of outcome ≡ 0 → outcome ≡ Ended Whole
whole_of_status (Ended Whole) e = refl
whole_of_status (Ended other) e = cc
whole_of_status other e = cc

-- status 0 tells a whole session and nothing else, and that nothing was written after it
pub whole_told : (outcome : Outcome) (status : ℕ) (mid now : Option (List ℕ)) → Tells outcome status mid now → status ≡ 0 → (outcome ≡ Ended Whole) × TakesAll mid now []
whole_told outcome status mid now t e =
    let own = told_of outcome status mid now t (λ f. cc) (λ f. cc) in
    let whole = whole_of_status outcome (own.0 ∙ e) in
    (whole, same_line outcome (Ended Whole) mid now whole own.1)

words_of_status : (outcome : Outcome) → status_of outcome ≡ 1 → outcome ≡ Words
words_of_status Words e = refl
words_of_status (Ended Whole) e = cc
words_of_status (Ended other) e = cc
words_of_status other e = cc

-- status 1 tells wrong words and nothing else
pub words_told : (outcome : Outcome) (status : ℕ) (mid now : Option (List ℕ)) → Tells outcome status mid now → status ≡ 1 → outcome ≡ Words
words_told outcome status mid now t e = words_of_status outcome ((told_of outcome status mid now t (λ f. cc) (λ f. cc)).0 ∙ e)

input_of_status : (outcome : Outcome) → status_of outcome ≡ 3 → outcome ≡ Input
input_of_status Input e = refl
input_of_status (Ended Whole) e = cc
input_of_status (Ended other) e = cc
input_of_status other e = cc

pub input_told : (outcome : Outcome) (status : ℕ) (mid now : Option (List ℕ)) → Tells outcome status mid now → status ≡ 3 → outcome ≡ Input
input_told outcome status mid now t e = input_of_status outcome ((told_of outcome status mid now t (λ f. cc) (λ f. cc)).0 ∙ e)

disk_of_status : (outcome : Outcome) → status_of outcome ≡ 5 → outcome ≡ Ended Disk
disk_of_status (Ended Disk) e = refl
disk_of_status (Ended other) e = cc
disk_of_status other e = cc

pub disk_told : (outcome : Outcome) (status : ℕ) (mid now : Option (List ℕ)) → Tells outcome status mid now → status ≡ 5 → outcome ≡ Ended Disk
disk_told outcome status mid now t e = disk_of_status outcome ((told_of outcome status mid now t (λ f. cc) (λ f. cc)).0 ∙ e)

load_of_status : (outcome : Outcome) → status_of outcome ≡ 6 → (refusal : RestartRefusal) × (outcome ≡ Ended (Load refusal))
load_of_status (Ended (Load refusal)) e = (refusal, refl)
load_of_status (Ended other) e = cc
load_of_status other e = cc

-- a status that neither want of memory nor a failing sink gives tells what it stands for, and that this was taken
told_as : {A : Type 0} (f : A → Outcome) (n : ℕ) → (n ≡ 4 → ⊥) → (n ≡ 7 → ⊥) → ((outcome : Outcome) → status_of outcome ≡ n → (x : A) × (outcome ≡ f x))
    → (outcome : Outcome) (status : ℕ) (mid now : Option (List ℕ)) → Tells outcome status mid now → status ≡ n → (x : A) × (outcome ≡ f x) × TakesAll mid now (last_line (f x))
told_as f n four seven of outcome status mid now t e =
    let own = told_of outcome status mid now t (λ h. four (sym e ∙ h)) (λ h. seven (sym e ∙ h)) in
    let found = of outcome (own.0 ∙ e) in
    (found.0, found.1, same_line outcome (f found.0) mid now found.1 own.1)

-- status 6 tells what is wrong with a folder
pub load_told : (outcome : Outcome) (status : ℕ) (mid now : Option (List ℕ)) → Tells outcome status mid now → status ≡ 6
    → (refusal : RestartRefusal) × (outcome ≡ Ended (Load refusal)) × TakesAll mid now (last_line (Ended (Load refusal)))
load_told = told_as (λ refusal. Ended (Load refusal)) 6 (λ h. cc) (λ h. cc) load_of_status

spent_of_status : (outcome : Outcome) → status_of outcome ≡ 8 → (next : ℕ) × (outcome ≡ Ended (Spent next))
spent_of_status (Ended (Spent next)) e = (next, refl)
spent_of_status (Ended other) e = cc
spent_of_status other e = cc

-- status 8 tells a number that none can have
pub spent_told : (outcome : Outcome) (status : ℕ) (mid now : Option (List ℕ)) → Tells outcome status mid now → status ≡ 8
    → (next : ℕ) × (outcome ≡ Ended (Spent next)) × TakesAll mid now (last_line (Ended (Spent next)))
spent_told = told_as (λ next. Ended (Spent next)) 8 (λ h. cc) (λ h. cc) spent_of_status

-- ---- several statuses

early_of_status : (outcome : Outcome) (n : ℕ) → status_of outcome ≡ n → 1 ≤ n → n ≤ 3 → IsEarly outcome
early_of_status (Ended Whole) n e low high = absurd (omega arith)
early_of_status (Ended other) n e low high = absurd (omega arith)
early_of_status other n e low high = tt

-- statuses 1, 2 and 3 tell that the folder is as it was
pub early_told : (outcome : Outcome) (status : ℕ) (mid now : Option (List ℕ)) → Tells outcome status mid now → (status ≡ 1) ⊎ (status ≡ 2) ⊎ (status ≡ 3) → IsEarly outcome
early_told outcome status mid now t h =
    let low : 1 ≤ status = elim h [ inl a ↦ omega arith | inr r ↦ elim r [ inl b ↦ omega arith | inr c ↦ omega arith ] ] in
    let high : status ≤ 3 = elim h [ inl a ↦ omega arith | inr r ↦ elim r [ inl b ↦ omega arith | inr c ↦ omega arith ] ] in
    early_of_status outcome status (told_of outcome status mid now t (λ f. omega arith) (λ f. omega arith)).0 low high

done_of_status : (outcome : Outcome) → (status_of outcome ≡ 1 → ⊥) → (status_of outcome ≡ 2 → ⊥) → (status_of outcome ≡ 3 → ⊥) → (status_of outcome ≡ 4 → ⊥) → (status_of outcome ≡ 5 → ⊥)
    → (status_of outcome ≡ 6 → ⊥) → (status_of outcome ≡ 8 → ⊥) → (status_of outcome ≡ 0) ⊎ (status_of outcome ≡ 7)
done_of_status (Ended Whole) one two three four five six eight = inl refl
done_of_status Words one two three four five six eight = absurd (one refl)
done_of_status TooLong one two three four five six eight = absurd (two refl)
done_of_status (BadLine number) one two three four five six eight = absurd (two refl)
done_of_status Input one two three four five six eight = absurd (three refl)
done_of_status (Ended Sink) one two three four five six eight = absurd (four refl)
done_of_status (Ended Disk) one two three four five six eight = absurd (five refl)
done_of_status (Ended (Load refusal)) one two three four five six eight = absurd (six refl)
done_of_status (Ended Memory) one two three four five six eight = inr refl
done_of_status (Ended (Spent next)) one two three four five six eight = absurd (eight refl)

-- what is refused for none of the seven causes is done, or lacked memory
pub all_done : (outcome : Outcome) (status : ℕ) (mid now : Option (List ℕ)) → Tells outcome status mid now
    → (status ≡ 1 → ⊥) → (status ≡ 2 → ⊥) → (status ≡ 3 → ⊥) → (status ≡ 4 → ⊥) → (status ≡ 5 → ⊥) → (status ≡ 6 → ⊥) → (status ≡ 8 → ⊥) → (status ≡ 0) ⊎ (status ≡ 7)
all_done outcome _ mid now (told t) one two three four five six eight = done_of_status outcome one two three four five six eight
all_done outcome _ mid now (no_memory t) one two three four five six eight = inr refl
all_done outcome _ mid now (not_taken t) one two three four five six eight = absurd (four refl)
all_done outcome _ mid now (nothing_taken t) one two three four five six eight = absurd (four refl)

wrong_of_status : (outcome : Outcome) → (status_of outcome ≡ 0 → ⊥) → (status_of outcome ≡ 1 → ⊥) → (status_of outcome ≡ 2 → ⊥) → (status_of outcome ≡ 8 → ⊥) → CanRefuseFolder (status_of outcome)
wrong_of_status (Ended Whole) zero one two eight = absurd (zero refl)
wrong_of_status Words zero one two eight = absurd (one refl)
wrong_of_status TooLong zero one two eight = absurd (two refl)
wrong_of_status (BadLine number) zero one two eight = absurd (two refl)
wrong_of_status Input zero one two eight = inl refl
wrong_of_status (Ended Sink) zero one two eight = inr (inl refl)
wrong_of_status (Ended Disk) zero one two eight = inr (inr (inl refl))
wrong_of_status (Ended (Load refusal)) zero one two eight = inr (inr (inr (inl refl)))
wrong_of_status (Ended Memory) zero one two eight = inr (inr (inr (inr refl)))
wrong_of_status (Ended (Spent next)) zero one two eight = absurd (eight refl)

-- a folder that does not restart
pub wrong_told : (outcome : Outcome) (status : ℕ) (mid now : Option (List ℕ)) → Tells outcome status mid now
    → (status ≡ 0 → ⊥) → (status ≡ 1 → ⊥) → (status ≡ 2 → ⊥) → (status ≡ 8 → ⊥) → CanRefuseFolder status
wrong_told outcome _ mid now (told t) zero one two eight = wrong_of_status outcome zero one two eight
wrong_told outcome _ mid now (no_memory t) zero one two eight = inr (inr (inr (inr refl)))
wrong_told outcome _ mid now (not_taken t) zero one two eight = inr (inl refl)
wrong_told outcome _ mid now (nothing_taken t) zero one two eight = inr (inl refl)

number_of_status : (outcome : Outcome) → (status_of outcome ≡ 0 → ⊥) → (status_of outcome ≡ 1 → ⊥) → (status_of outcome ≡ 2 → ⊥) → (status_of outcome ≡ 6 → ⊥) → CanRefuseNumber (status_of outcome)
number_of_status (Ended Whole) zero one two six = absurd (zero refl)
number_of_status Words zero one two six = absurd (one refl)
number_of_status TooLong zero one two six = absurd (two refl)
number_of_status (BadLine number) zero one two six = absurd (two refl)
number_of_status Input zero one two six = inl refl
number_of_status (Ended Sink) zero one two six = inr (inl refl)
number_of_status (Ended Disk) zero one two six = inr (inr (inl refl))
number_of_status (Ended (Load refusal)) zero one two six = absurd (six refl)
number_of_status (Ended Memory) zero one two six = inr (inr (inr (inl refl)))
number_of_status (Ended (Spent next)) zero one two six = inr (inr (inr (inr refl)))

-- a script with a line that needs a number which none can have
pub spends_told : (outcome : Outcome) (status : ℕ) (mid now : Option (List ℕ)) → Tells outcome status mid now
    → (status ≡ 0 → ⊥) → (status ≡ 1 → ⊥) → (status ≡ 2 → ⊥) → (status ≡ 6 → ⊥) → CanRefuseNumber status
spends_told outcome _ mid now (told t) zero one two six = number_of_status outcome zero one two six
spends_told outcome _ mid now (no_memory t) zero one two six = inr (inr (inr (inl refl)))
spends_told outcome _ mid now (not_taken t) zero one two six = inr (inl refl)
spends_told outcome _ mid now (nothing_taken t) zero one two six = inr (inl refl)

-- a script that has to be refused
pub unfit_of : (outcome : Outcome) (status : ℕ) (mid now : Option (List ℕ)) → Tells outcome status mid now → CanRefuse (status_of outcome) → CanRefuse status
unfit_of outcome _ mid now (told t) h = h
unfit_of outcome _ mid now (no_memory t) h = inr (inr (inr refl))
unfit_of outcome _ mid now (not_taken t) h = inr (inr (inl refl))
unfit_of outcome _ mid now (nothing_taken t) h = inr (inr (inl refl))

-- words that mean no command
pub wordless_told : (outcome : Outcome) (status : ℕ) (mid now : Option (List ℕ)) → Tells outcome status mid now → (outcome ≡ Words) ⊎ (outcome ≡ Ended Memory) → CanRefuseWords status
wordless_told outcome status mid now t h =
    elim (told_among outcome status mid now t) [
      | inl own ↦ elim h [ inl words ↦ inl (own ∙ of words) | inr memory ↦ inr (inr (own ∙ of memory)) ]
      | inr other ↦ inr other
    ] where
      of : {x : Outcome} → outcome ≡ x → status_of outcome ≡ status_of x
      of e = cc
