-- What was done, and what was left alone.
use Rattle.std.proofs.Common.{◌≡◌, ◌⊎◌, ◌∙◌, ℕ, Bool, true, List, [], Option, refl, inl, inr, subst, sym, arith}
use Rattle.std.proofs.lemmas.List.{append-nil}
use Rattle.std.proofs.lemmas.Option.{slice_get_within}
use Rattle.hr_base.specs.declared.limits.Limits.{Limits}
use Rattle.hr_edges.specs.Edges.{IsRead, TakesAll}
use Rattle.hr_edges.proofs.Writings.{Takes-append}
use Rattle.dir_files.specs.Images.{Image, KeepsImages, read_of}
use Rattle.dir_files.specs.Ports.{Port}
use Rattle.crash_law.specs.Restarts.{IsRestartable}
use Rattle.script_text.specs.Dumps.{dump_lines}
use Rattle.script_text.specs.Replies.{replies}
use Rattle.command_words.specs.Words.{IsCommand}
use Rattle.command_words.specs.declared.read.Command.{Command}
use Rattle.command_words.specs.declared.read.Command.TheVariants.{Play, Dump}
use Rattle.restart_load.specs.declared.ended.Ended.TheVariants.{Whole, Memory, Spent}
use Rattle.restart_load.proofs.LoadLaws.{not_refused}
use Rattle.store_drill.specs.Dumping.{Wrote, flat}
use Rattle.store_drill.specs.Sessions.{Outside}
use Rattle.store_serve.specs.declared.outcome.Outcome.{Outcome}
use Rattle.store_serve.specs.declared.outcome.Outcome.TheVariants.{TooLong, BadLine, Input, Ended}
use Rattle.store_serve.specs.Outcome.{last_line, status_of, Tells}
use Rattle.store_serve.specs.Scripts.{IsRefusedScript}
use Rattle.store_serve.specs.Served.{Because, CameTo, CanBegin, DumpedTo, Means, RanScript, RanTo, ReadsNothingUnfit, WasDone, WasDumped, WasPlayed, WasSpent, WasSpentBy, WasUnloadable, World, partitions_of}
use Rattle.store_serve.proofs.Meanings.{means_also, means_this, obeyed}
use Rattle.store_serve.proofs.Outcomes.{spent_told, told_of, whole_told}

-- ---- status 0

-- nothing was written after it
then_nothing : (old mid now : Option (List ℕ)) (text : List ℕ) → TakesAll old mid text → TakesAll mid now [] → TakesAll old now text
then_nothing old mid now text first last =
    subst (λ (t : List ℕ). TakesAll old now t) (append-nil text) (Takes-append old mid now text [] first last)

played_by : (tells : Bool) (limits : Limits) (before mid : World) (now : Option (List ℕ)) → RanScript tells limits before mid Whole → TakesAll mid.outside.taken now []
    → WasPlayed tells limits (read_of before.outside.port) before.left before.outside.taken now
played_by tells limits before mid now ran taken =
    elim ran.ran [
      | inl none ↦ absurd none.refusal
      | inr session ↦ record {
        lines = ran.lines;
        script = ran.script;
        start = session.start;
        started = session.started;
        text = then_nothing before.outside.taken mid.outside.taken now (replies ran.lines session.start.maps) session.text taken;
        unspent = λ count next spent.
            session.spends.unspent count next (omega (arith, session.all refl, slice_get_within ran.lines count spent.line spent.there)) spent;
      }
    ]

dumped_by : (tells : Bool) (partitions : ℕ) (old new : Outside) (now : Option (List ℕ)) → Wrote tells partitions old new Whole → TakesAll new.taken now []
    → WasDumped tells partitions (read_of old.port) old.taken now
dumped_by tells partitions old new now wrote taken =
    elim wrote [
      | inl none ↦ absurd none.refusal
      | inr dumped ↦ record {
        maps = dumped.maps;
        restarted = dumped.restarted;
        text = then_nothing old.taken new.taken now (flat (dump_lines partitions dumped.maps)) dumped.text taken;
      }
    ]

done_by : (tells : Bool) (command : Command) (before mid : World) (now : Option (List ℕ)) → CameTo tells command before mid (Ended Whole) → TakesAll mid.outside.taken now []
    → WasDone tells command (read_of before.outside.port) before.left before.outside.taken now
done_by tells (Play limits) before mid now came taken =
    elim came [ inl refused ↦ absurd refused.why | inr ran ↦ played_by tells limits before mid now ran taken ]
done_by tells (Dump limits) before mid now came taken = dumped_by tells limits.partitions before.outside mid.outside now came.0 taken

-- the command was done to its end
pub done_told : (tells : Bool) (words : List (List ℕ)) (before mid : World) (now : Option (List ℕ)) (outcome : Outcome) (status : ℕ)
    → Because tells words before mid outcome → Tells outcome status mid.outside.taken now → status ≡ 0
    → Means words (λ command. WasDone tells command (read_of before.outside.port) before.left before.outside.taken now)
done_told tells words before mid now outcome status because heard e =
    let whole = whole_told outcome status mid.outside.taken now heard e in
    let came : Because tells words before mid (Ended Whole) = subst (λ (x : Outcome). Because tells words before mid x) whole.0 because in
    means_also words (λ command. CameTo tells command before mid (Ended Whole))
    (λ command. WasDone tells command (read_of before.outside.port) before.left before.outside.taken now)
    (λ command did. done_by tells command before mid now did whole.1)
    (obeyed tells words before mid (Ended Whole) came (λ f. cc) (λ f. cc))

-- and its folder restarts
pub done_restarts : (tells : Bool) (command : Command) (image : Image) (left before now : Option (List ℕ)) → tells ≡ true → WasDone tells command image left before now
    → IsRestartable image (partitions_of command)
done_restarts tells (Play limits) image left before now y done = (done.started y).maps.restartable
done_restarts tells (Dump limits) image left before now y done = (done.restarted y).restartable

-- ---- status 8

spent_in : (tells : Bool) (limits : Limits) (before mid : World) (now : Option (List ℕ)) (next : ℕ)
    → tells ≡ true → RanScript tells limits before mid (Spent next) → TakesAll mid.outside.taken now (last_line (Ended (Spent next)))
    → WasSpent limits (read_of before.outside.port) before.left before.outside.taken now
spent_in tells limits before mid now next y ran taken =
    elim ran.ran [
      | inl none ↦ absurd none.refusal
      | inr session ↦ record {
        lines = ran.lines;
        script = ran.script;
        start = session.start;
        started = session.started y;
        count = session.count;
        next = next;
        spent = session.spends.spent next refl;
        first = λ earlier other below. session.spends.unspent earlier other below;
        number = session.number y next refl;
        text = Takes-append before.outside.taken mid.outside.taken now _ (last_line (Ended (Spent next))) session.text.1 taken;
      }
    ]

spent_by : (tells : Bool) (command : Command) (before mid : World) (now : Option (List ℕ)) (next : ℕ)
    → tells ≡ true → CameTo tells command before mid (Ended (Spent next)) → TakesAll mid.outside.taken now (last_line (Ended (Spent next)))
    → WasSpentBy command (read_of before.outside.port) before.left before.outside.taken now
spent_by tells (Play limits) before mid now next y came taken =
    elim came [ inl refused ↦ absurd refused.why | inr ran ↦ spent_in tells limits before mid now next y ran taken ]
spent_by tells (Dump limits) before mid now next y came taken = elim came.0 [ inl none ↦ none.refusal | inr dumped ↦ dumped.text ]

-- the line after those that were answered would need a number that none can have
pub number_told : (tells : Bool) (words : List (List ℕ)) (before mid : World) (now : Option (List ℕ)) (outcome : Outcome) (status : ℕ)
    → Because tells words before mid outcome → Tells outcome status mid.outside.taken now → tells ≡ true → status ≡ 8
    → Means words (λ command. WasSpentBy command (read_of before.outside.port) before.left before.outside.taken now)
number_told tells words before mid now outcome status because heard y e =
    let spent = spent_told outcome status mid.outside.taken now heard e in
    let came : Because tells words before mid (Ended (Spent spent.0)) = subst (λ (x : Outcome). Because tells words before mid x) spent.1 because in
    means_also words (λ command. CameTo tells command before mid (Ended (Spent spent.0)))
    (λ command. WasSpentBy command (read_of before.outside.port) before.left before.outside.taken now)
    (λ command did. spent_by tells command before mid now spent.0 y did spent.2)
    (obeyed tells words before mid (Ended (Spent spent.0)) came (λ f. cc) (λ f. cc))

-- and the folder restarts
pub spent_restarts : (command : Command) (image : Image) (left before now : Option (List ℕ)) → WasSpentBy command image left before now → IsRestartable image (partitions_of command)
spent_restarts (Play limits) image left before now spent = spent.started.maps.restartable
spent_restarts (Dump limits) image left before now spent = absurd spent

-- ---- what nothing stands against

begins_restartable : (command : Command) (image : Image) (left : Option (List ℕ)) → CanBegin command image left → IsRestartable image (partitions_of command)
begins_restartable (Play limits) image left can = can.2
begins_restartable (Dump limits) image left can = can

pub begins_fit : (command : Command) (image : Image) (left : Option (List ℕ)) → CanBegin command image left → ReadsNothingUnfit command left
begins_fit (Play limits) image left can = can.0
begins_fit (Dump limits) image left can = tt

pub begins_loadable : (command : Command) (image : Image) (left before now : Option (List ℕ)) → CanBegin command image left → WasUnloadable (partitions_of command) image before now → ⊥
begins_loadable command image left before now can wrong =
    not_refused image (partitions_of command) (begins_restartable command image left can) wrong.refusal wrong.first wrong.content

pub begins_unspent : (command : Command) (image : Image) (left before now : Option (List ℕ)) → CanBegin command image left → WasSpentBy command image left before now → ⊥
begins_unspent (Play limits) image left before now can spent = can.1 spent.lines spent.start spent.count spent.next spent.script spent.started spent.spent
begins_unspent (Dump limits) image left before now can spent = spent

-- ---- how far the script was read

abbrev IsAfterScript : ℕ → Type 0
IsAfterScript status = (status ≡ 0) ⊎ (status ≡ 5) ⊎ (status ≡ 6) ⊎ (status ≡ 8)

not_after : (status n : ℕ) → IsAfterScript status → status ≡ n → (n ≡ 0 → ⊥) → (n ≡ 5 → ⊥) → (n ≡ 6 → ⊥) → (n ≡ 8 → ⊥) → ⊥
not_after status n after e zero five six eight =
    elim after [
      | inl a ↦ zero (sym e ∙ a)
      | inr r ↦ elim r [ inl b ↦ five (sym e ∙ b) | inr q ↦ elim q [ inl c ↦ six (sym e ∙ c) | inr d ↦ eight (sym e ∙ d) ] ]
    ]

read_refused : (partitions : ℕ) (left rest : Option (List ℕ)) (outcome : Outcome) → IsRefusedScript partitions left rest outcome → IsAfterScript (status_of outcome) → IsRead left rest
read_refused partitions left rest TooLong why after = absurd (not_after 2 2 after refl (λ f. cc) (λ f. cc) (λ f. cc) (λ f. cc))
read_refused partitions left rest (BadLine number) why after = why.1
read_refused partitions left rest Input why after = absurd (not_after 3 3 after refl (λ f. cc) (λ f. cc) (λ f. cc) (λ f. cc))
read_refused partitions left rest (Ended Memory) why after = absurd (not_after 7 7 after refl (λ f. cc) (λ f. cc) (λ f. cc) (λ f. cc))
read_refused partitions left rest (Ended other) why after = absurd why
read_refused partitions left rest other why after = absurd why

read_ran : (tells : Bool) (limits : Limits) (before mid : World) (outcome : Outcome) → RanTo tells limits before mid outcome → IsRead before.left mid.left
read_ran tells limits before mid (Ended ended) ran = ran.read
read_ran tells limits before mid other ran = absurd ran

read_by : (tells : Bool) (limits : Limits) (before mid : World) (outcome : Outcome) → CameTo tells (Play limits) before mid outcome → IsAfterScript (status_of outcome) → IsRead before.left mid.left
read_by tells limits before mid outcome came after =
    elim came [
      | inl refused ↦ read_refused limits.partitions before.left mid.left outcome refused.why after
      | inr ran ↦ read_ran tells limits before mid outcome ran
    ]

-- a script that was played, or refused by the folder, was read to its end
pub read_told : (tells : Bool) (words : List (List ℕ)) (before mid : World) (now : Option (List ℕ)) (outcome : Outcome) (status : ℕ) (limits : Limits)
    → Because tells words before mid outcome → Tells outcome status mid.outside.taken now → IsCommand words (Play limits) → IsAfterScript status → IsRead before.left mid.left
read_told tells words before mid now outcome status limits because heard meaning after =
    let own = told_of outcome status mid.outside.taken now heard
    (λ f. not_after status 4 after f (λ z. cc) (λ z. cc) (λ z. cc) (λ z. cc)) (λ f. not_after status 7 after f (λ z. cc) (λ z. cc) (λ z. cc) (λ z. cc)) in
    let own_after : IsAfterScript (status_of outcome) = subst IsAfterScript (sym own.0) after in
    let m = obeyed tells words before mid outcome because
    (λ f. not_after (status_of outcome) 1 own_after f (λ z. cc) (λ z. cc) (λ z. cc) (λ z. cc)) (λ f. not_after (status_of outcome) 7 own_after f (λ z. cc) (λ z. cc) (λ z. cc) (λ z. cc)) in
    read_by tells limits before mid outcome (means_this words (λ command. CameTo tells command before mid outcome) (Play limits) meaning m) own_after

-- ---- what a dump leaves

keeps_all : (port : Port) → KeepsImages port port
keeps_all port = record { read = λ name. refl; images = λ image left. left }

dump_keeps : (tells : Bool) (partitions : ℕ) (before mid : World) (outcome : Outcome) → tells ≡ true → DumpedTo tells partitions before mid outcome
    → KeepsImages before.outside.port mid.outside.port
dump_keeps tells partitions before mid (Ended ended) y came = elim came.0 [ inl none ↦ none.images y | inr dumped ↦ dumped.images y ]
dump_keeps tells partitions before mid other y came = absurd came

-- a dump changes no file, whatever it comes to
pub unwritten_by : (tells : Bool) (words : List (List ℕ)) (before mid : World) (outcome : Outcome) (limits : Limits)
    → Because tells words before mid outcome → tells ≡ true → IsCommand words (Dump limits) → KeepsImages before.outside.port mid.outside.port
unwritten_by tells words before mid outcome limits because y meaning =
    elim because [
      | inl none ↦ subst (λ (w : World). KeepsImages before.outside.port w.outside.port) (sym none.1) (keeps_all before.outside.port)
      | inr m ↦
          dump_keeps tells limits.partitions before mid outcome y (means_this words (λ command. CameTo tells command before mid outcome) (Dump limits) meaning m)
    ]
