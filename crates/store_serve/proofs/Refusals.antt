-- What has to be refused, and what was told of it.
use Rattle.std.proofs.Common.{◌≡◌, ◌∙◌, ℕ, Bool, true, List, Option, refl, inl, inr, subst}
use Rattle.hr_base.specs.declared.limits.Limits.{Limits}
use Rattle.hr_edges.specs.Edges.{TakesAll}
use Rattle.dir_files.specs.Images.{read_of}
use Rattle.command_words.specs.Words.{IsCommand}
use Rattle.command_words.specs.declared.read.Command.{Command}
use Rattle.command_words.specs.declared.read.Command.TheVariants.{Play, Dump}
use Rattle.restart_load.specs.declared.ended.Ended.TheVariants.{Whole, Memory, Load}
use Rattle.restart_load.specs.declared.refusal.RestartRefusal.{RestartRefusal}
use Rattle.store_drill.specs.Sessions.{NotBegun, Outside}
use Rattle.store_serve.specs.declared.outcome.Outcome.{Outcome}
use Rattle.store_serve.specs.declared.outcome.Outcome.TheVariants.{Words, TooLong, BadLine, Input, Ended}
use Rattle.store_serve.specs.Outcome.{CanRefuse, last_line, status_of, Tells}
use Rattle.store_serve.specs.Scripts.{IsRefusedScript, IsUnfit, ReadsFew}
use Rattle.store_serve.specs.Served.{Because, CameTo, IsRefusedWords, Means, RanTo, ReadsNothingUnfit, WasRefused, WasUnloadable, World, partitions_of}
use Rattle.store_serve.proofs.Meanings.{means_also, means_this, obeyed}
use Rattle.store_serve.proofs.Outcomes.{input_told, load_told, told_of, unfit_of}
use Rattle.store_serve.proofs.ScriptLaws.{fit_not_bad, fit_not_long, unfit_script}

-- ---- status 2

refused_by : (tells : Bool) (command : Command) (before mid : World) (now : Option (List ℕ)) (outcome : Outcome)
    → status_of outcome ≡ 2 → CameTo tells command before mid outcome → TakesAll mid.outside.taken now (last_line outcome) → WasRefused command before.left mid.left before.outside.taken now
refused_by tells (Play limits) before mid now TooLong e came taken =
    elim came [
      | inl refused ↦ inl (refused.why, subst (λ (o : Outside). TakesAll o.taken now (last_line TooLong)) refused.same taken)
      | inr ran ↦ absurd ran
    ]
refused_by tells (Play limits) before mid now (BadLine number) e came taken =
    elim came [
      | inl refused ↦ inr (number, refused.why.0, refused.why.1, subst (λ (o : Outside). TakesAll o.taken now (last_line (BadLine number))) refused.same taken)
      | inr ran ↦ absurd ran
    ]
refused_by tells (Play limits) before mid now (Ended Whole) e came taken = cc
refused_by tells (Play limits) before mid now (Ended other) e came taken = cc
refused_by tells (Play limits) before mid now other e came taken = cc
refused_by tells (Dump limits) before mid now (Ended Whole) e came taken = cc
refused_by tells (Dump limits) before mid now (Ended other) e came taken = cc
refused_by tells (Dump limits) before mid now other e came taken = absurd came

-- the script was refused, and told so
pub refused_told : (tells : Bool) (words : List (List ℕ)) (before mid : World) (now : Option (List ℕ)) (outcome : Outcome) (status : ℕ)
    → Because tells words before mid outcome → Tells outcome status mid.outside.taken now → status ≡ 2 → Means words (λ command. WasRefused command before.left mid.left before.outside.taken now)
refused_told tells words before mid now outcome status because heard e =
    let own = told_of outcome status mid.outside.taken now heard (λ f. cc) (λ f. cc) in
    let two : status_of outcome ≡ 2 = own.0 ∙ e in
    means_also words (λ command. CameTo tells command before mid outcome) (λ command. WasRefused command before.left mid.left before.outside.taken now)
    (λ command did. refused_by tells command before mid now outcome two did own.1)
    (obeyed tells words before mid outcome because (λ f. cc) (λ f. cc))

-- a command that reads no such script is not refused for one
pub fit_refused : (command : Command) (left rest before now : Option (List ℕ)) → ReadsNothingUnfit command left → WasRefused command left rest before now → ⊥
fit_refused (Play limits) left rest before now fit refused =
    elim refused [ inl long ↦ fit_not_long limits.partitions left rest fit long.0 | inr bad ↦ fit_not_bad limits.partitions left bad.0 fit bad.1 ]
fit_refused (Dump limits) left rest before now fit refused = refused

unfit_why : (partitions : ℕ) (left rest : Option (List ℕ)) (outcome : Outcome) → IsRefusedScript partitions left rest outcome → CanRefuse (status_of outcome)
unfit_why partitions left rest TooLong why = inl refl
unfit_why partitions left rest (BadLine number) why = inl refl
unfit_why partitions left rest Input why = inr (inl refl)
unfit_why partitions left rest (Ended Memory) why = inr (inr (inr refl))
unfit_why partitions left rest (Ended other) why = absurd why
unfit_why partitions left rest other why = absurd why

unfit_ran : (tells : Bool) (limits : Limits) (before mid : World) (outcome : Outcome) → RanTo tells limits before mid outcome → IsUnfit limits.partitions before.left → ⊥
unfit_ran tells limits before mid (Ended ended) ran unfit = unfit_script limits.partitions before.left ran.lines unfit ran.script
unfit_ran tells limits before mid other ran unfit = ran

unfit_by : (tells : Bool) (words : List (List ℕ)) (before mid : World) (outcome : Outcome) (limits : Limits)
    → Because tells words before mid outcome → IsCommand words (Play limits) → IsUnfit limits.partitions before.left → CanRefuse (status_of outcome)
unfit_by tells words before mid outcome limits because meaning unfit =
    elim because [
      | inl none ↦ wordless outcome none.0
      | inr m ↦
          elim (means_this words (λ command. CameTo tells command before mid outcome) (Play limits) meaning m) [
            | inl refused ↦ unfit_why limits.partitions before.left mid.left outcome refused.why
            | inr ran ↦ absurd (unfit_ran tells limits before mid outcome ran unfit)
          ]
    ] where
      wordless : (x : Outcome) → IsRefusedWords words x → CanRefuse (status_of x)
      wordless Words h = absurd (h (Play limits) meaning)
      wordless (Ended Memory) h = inr (inr (inr refl))
      wordless (Ended other) h = absurd h
      wordless other h = absurd h

-- what is no script is refused
pub unfit_told : (tells : Bool) (words : List (List ℕ)) (before mid : World) (now : Option (List ℕ)) (outcome : Outcome) (status : ℕ) (limits : Limits)
    → Because tells words before mid outcome → Tells outcome status mid.outside.taken now → IsCommand words (Play limits) → IsUnfit limits.partitions before.left → CanRefuse status
unfit_told tells words before mid now outcome status limits because heard meaning unfit =
    unfit_of outcome status mid.outside.taken now heard (unfit_by tells words before mid outcome limits because meaning unfit)

-- ---- status 3

few_by : (tells : Bool) (command : Command) (before mid : World) → CameTo tells command before mid Input → ReadsFew before.left mid.left
few_by tells (Play limits) before mid came = elim came [ inl refused ↦ refused.why | inr ran ↦ absurd ran ]
few_by tells (Dump limits) before mid came = absurd came

-- the input failed before more was read than a script may have
pub few_told : (tells : Bool) (words : List (List ℕ)) (before mid : World) (now : Option (List ℕ)) (outcome : Outcome) (status : ℕ)
    → Because tells words before mid outcome → Tells outcome status mid.outside.taken now → status ≡ 3 → ReadsFew before.left mid.left
few_told tells words before mid now outcome status because heard e =
    let input = input_told outcome status mid.outside.taken now heard e in
    let came : Because tells words before mid Input = subst (λ (x : Outcome). Because tells words before mid x) input because in
    let did = obeyed tells words before mid Input came (λ f. cc) (λ f. cc) in
    few_by tells did.command before mid did.holds

-- ---- status 6

wrong_content : (tells : Bool) (partitions : ℕ) (old new : Outside) (now : Option (List ℕ)) (refusal : RestartRefusal)
    → tells ≡ true → NotBegun tells partitions old new (Load refusal) → TakesAll new.taken now (last_line (Ended (Load refusal))) → WasUnloadable partitions (read_of old.port) old.taken now
wrong_content tells partitions old new now refusal y none taken = record {
  refusal = refusal;
  content = none.refusal.0;
  first = none.content y refusal refl;
  text = subst (λ (t : Option (List ℕ)). TakesAll t now (last_line (Ended (Load refusal)))) none.silent taken;
}

wrong_by : (tells : Bool) (command : Command) (before mid : World) (now : Option (List ℕ)) (refusal : RestartRefusal)
    → tells ≡ true → CameTo tells command before mid (Ended (Load refusal)) → TakesAll mid.outside.taken now (last_line (Ended (Load refusal)))
    → WasUnloadable (partitions_of command) (read_of before.outside.port) before.outside.taken now
wrong_by tells (Play limits) before mid now refusal y came taken =
    elim came [
      | inl refused ↦ absurd refused.why
      | inr ran ↦
          elim ran.ran [
            | inl none ↦ wrong_content tells limits.partitions before.outside mid.outside now refusal y none taken
            | inr session ↦ absurd session.text
          ]
    ]
wrong_by tells (Dump limits) before mid now refusal y came taken =
    elim came.0 [
      | inl none ↦ wrong_content tells limits.partitions before.outside mid.outside now refusal y none taken
      | inr dumped ↦ absurd dumped.text
    ]

-- the first thing that is wrong with the folder was told
pub unloadable_told : (tells : Bool) (words : List (List ℕ)) (before mid : World) (now : Option (List ℕ)) (outcome : Outcome) (status : ℕ)
    → Because tells words before mid outcome → Tells outcome status mid.outside.taken now → tells ≡ true → status ≡ 6
    → Means words (λ command. WasUnloadable (partitions_of command) (read_of before.outside.port) before.outside.taken now)
unloadable_told tells words before mid now outcome status because heard y e =
    let wrong = load_told outcome status mid.outside.taken now heard e in
    let came : Because tells words before mid (Ended (Load wrong.0)) = subst (λ (x : Outcome). Because tells words before mid x) wrong.1 because in
    means_also words (λ command. CameTo tells command before mid (Ended (Load wrong.0)))
    (λ command. WasUnloadable (partitions_of command) (read_of before.outside.port) before.outside.taken now)
    (λ command did. wrong_by tells command before mid now wrong.0 y did wrong.2)
    (obeyed tells words before mid (Ended (Load wrong.0)) came (λ f. cc) (λ f. cc))
