use Rattle.std.proofs.Common.{◌≡◌, ◌<◌, ◌⊎◌, ℕ, nat_lt, true, None, Some, length, List, ◌++◌, refl, sym, subst, ap, inl, inr, ◌∙◌, codes, decimal, arith}
use Rattle.hr_base.specs.declared.name.Class.TheVariants.{Clear as Clears}
use Rattle.hr_base.specs.Entries.{count_under}
use Rattle.hr_base.specs.Records.{record_length}
use Rattle.script_text.specs.declared.line.Line.TheVariants.{Clear}
use Rattle.partition_writer.specs.Answers.{clear_record}
use Rattle.partition_writer.specs.Standing.{Standing, spent_by}
use Rattle.record_format.specs.Spelling.{spelling}
use Rattle.record_format.proofs.HeaderLaws.{spelling_length}
use Rattle.partition_writer.specs.WriterViews.{standing}
use Rattle.store_drill.specs.declared.step.Step.{Step}
use Rattle.store_drill.specs.Numbers.{piece_of}
use Rattle.store_drill.specs.Playing.{Plays}
use Rattle.store_drill.proofs.StepLaws.{Done, done_counts, done_goes, done_maps, done_needed, done_partition, more_unless, needed_spent, none_unless, piece_for, plays_answered, plays_refused}
use Rattle.store_drill.proofs.step.answer_clear.Goals as goal

none_or_some : (n : ℕ) → (n ≡ 0) ⊎ (0 < n)
none_or_some n = grind arith

some_less : (n : ℕ) → 0 < n → nat_lt 0 n ≡ true
some_less n some = grind arith

cleared_text : ℕ → ℕ → List ℕ
cleared_text p count = decimal p ++ codes " cleared " ++ decimal count ++ codes "\n"

pub returns-in-Ok : goal.returns-in-Ok
unfolding cleared_text
returns-in-Ok g c =
    let s : Standing = standing c.args.writer.now in
    let t : Standing = standing c.clear.new.self in
    let r = clear_record s.next c.args.prefix in
    let done : Done s t r = elim (none_or_some (count_under c.args.prefix s.maps)) [
      | inl none ↦ inr (ap (λ (n : ℕ). nat_lt 0 n) none, ap (λ writer. standing writer) (c.in-Ok.ensures.empty none c.requires.running).1)
      | inr some ↦
          let unspent : spent_by s Clears (length (spelling r)) ≡ None =
          subst (λ (len : ℕ). spent_by s Clears len ≡ None) (sym (spelling_length r)) (none_unless _ (λ next is. let spent = (c.in-Ok.ensures.spent next).1 (c.requires.running, some, is) in cc)) in
          inl (some_less (count_under c.args.prefix s.maps) some, unspent, c.in-Ok.ensures.written some)
    ] in
    let line = Clear c.args.p c.args.prefix in
    let gives : piece_of line ≡ Some (piece_for Clears (length (spelling r))) = ap (λ (len : ℕ). Some (piece_for Clears len)) (sym (spelling_length r)) in
    plays_answered g.F.Folder.tells line s t c.reply.new.text.items c.reply.result c.reply.ensures.only
    (λ e. c.reply.ensures.text e ∙ ap (λ (before : List ℕ). before ++ cleared_text c.args.p.0 c.in-Ok.count) c.requires.cleared ∙ ap (λ (n : ℕ). cleared_text c.args.p.0 n) c.in-Ok.ensures.count)
    (done_maps s t r done) (done_goes s t r c.in-Ok.ensures.disk.ok done) (done_counts s t r line refl gives done) (done_needed s t r line refl gives done) (done_partition s t r done) c.in-Ok.ensures.account

pub returns-in-Err : goal.returns-in-Err
returns-in-Err g c =
    let s : Standing = standing c.args.writer.now in
    let line = Clear c.args.p c.args.prefix in
    let some : 0 < count_under c.args.prefix s.maps =
    more_unless (count_under c.args.prefix s.maps) (λ none. let h = (c.in-Err.ensures.empty none c.requires.running).0 in cc) in
    let there : nat_lt 0 (count_under c.args.prefix s.maps) ≡ true = some_less (count_under c.args.prefix s.maps) some in
    subst (λ (step : Step). Plays g.F.Folder.tells step line s (standing c.clear.new.self) c.args.text.now.items) (sym c.refused.ensures)
    (plays_refused _ g.F.Folder.tells line s (standing c.clear.new.self) c.args.text.now.items (clear_record s.next c.args.prefix) c.in-Err.refusal
    (c.in-Err.ensures.written some)
    c.in-Err.ensures.disk.memory c.in-Err.ensures.disk.cause (λ at is. (c.in-Err.ensures.halted at).0 is) c.requires.running
    (λ next is. needed_spent line s Clears (record_length Clears 0 0) there refl ∙ ((c.in-Err.ensures.spent next).0 is).2)
    (λ next is. (c.in-Err.ensures.spent next).1 (c.requires.running, some, sym (needed_spent line s Clears (record_length Clears 0 0) there refl) ∙ is))
    (λ a. refl) c.in-Err.ensures.account)
