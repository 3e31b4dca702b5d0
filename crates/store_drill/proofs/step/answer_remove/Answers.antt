use Rattle.std.proofs.Common.{◌≡◌, ℕ, List, ◌++◌, length, None, Some, Option, IsSome, is_some, refl, sym, subst, ap, inl, inr, ◌∙◌}
use Rattle.std.specs.FinMap.{get}
use Rattle.std.proofs.lemmas.Option.{none-some}
use Rattle.hr_base.specs.declared.name.Class.TheVariants.{Tomb}
use Rattle.hr_base.specs.Entries.{Content, content_of, key_at}
use Rattle.hr_base.specs.Records.{record_length}
use Rattle.script_text.specs.declared.line.Line.TheVariants.{Remove}
use Rattle.script_text.specs.Replies.{old_text}
use Rattle.partition_writer.specs.Answers.{remove_record}
use Rattle.partition_writer.specs.Standing.{Standing, spent_by}
use Rattle.record_format.specs.Spelling.{spelling}
use Rattle.record_format.proofs.HeaderLaws.{spelling_length}
use Rattle.partition_writer.specs.WriterViews.{standing}
use Rattle.store_drill.specs.declared.step.Step.{Step}
use Rattle.store_drill.specs.Numbers.{piece_of}
use Rattle.store_drill.specs.Playing.{Plays}
use Rattle.store_drill.proofs.StepLaws.{Done, done_counts, done_goes, done_maps, done_needed, done_partition, needed_spent, none_unless, piece_for, plays_answered, plays_refused, some_unless}
use Rattle.store_drill.proofs.step.answer_remove.Goals as goal

-- of an absent key nothing was written
pub returns-in-Ok-None : goal.returns-in-Ok-None
returns-in-Ok-None g c =
    let s : Standing = standing c.args.writer.now in
    let t : Standing = standing c.remove.new.self in
    let key = key_at c.args.prefix c.args.key.now in
    let none : get s.maps key ≡ None = sym (rw c.in-Ok-None.field-0-is at c.in-Ok-None.ensures.before) in
    let r = remove_record s.next c.args.prefix c.args.key.now in
    let done : Done s t r = inr (ap is_some none, ap (λ writer. standing writer) (c.in-Ok-None.ensures.absent none c.requires.running).1) in
    let line = Remove c.args.p c.args.prefix c.args.key.now in
    let gives : piece_of line ≡ Some (piece_for Tomb (length (spelling r))) = ap (λ (len : ℕ). Some (piece_for Tomb len)) (sym (spelling_length r)) in
    plays_answered g.F.Folder.tells line s t c.reply.new.text.items c.reply.result c.reply.ensures.only
    (λ e. c.reply.ensures.text e ∙ ap (λ (before : List ℕ). before ++ old_text c.args.p.0 None) c.requires.cleared ∙ ap (λ (o : Option Content). old_text c.args.p.0 o) (sym none))
    (done_maps s t r done) (done_goes s t r c.in-Ok-None.ensures.disk.ok done) (done_counts s t r line refl gives done) (done_needed s t r line refl gives done) (done_partition s t r done) c.in-Ok-None.ensures.account

pub returns-in-Ok-Some : goal.returns-in-Ok-Some
returns-in-Ok-Some g c =
    let s : Standing = standing c.args.writer.now in
    let t : Standing = standing c.remove.new.self in
    let key = key_at c.args.prefix c.args.key.now in
    let r = remove_record s.next c.args.prefix c.args.key.now in
    let before : Some (content_of c.in-Ok-Some.before) ≡ get s.maps key = rw c.in-Ok-Some.field-0-is at c.in-Ok-Some.ensures.before in
    let there : IsSome (get s.maps key) = some_unless (get s.maps key) (λ none. none-some (content_of c.in-Ok-Some.before) (sym (before ∙ none))) in
    let unspent : spent_by s Tomb (length (spelling r)) ≡ None =
    subst (λ (len : ℕ). spent_by s Tomb len ≡ None) (sym (spelling_length r)) (none_unless _ (λ next is. let spent = (c.in-Ok-Some.ensures.spent next).1 (c.requires.running, there, is) in cc)) in
    let done : Done s t r = inl (there, unspent, c.in-Ok-Some.ensures.written there) in
    let line = Remove c.args.p c.args.prefix c.args.key.now in
    let gives : piece_of line ≡ Some (piece_for Tomb (length (spelling r))) = ap (λ (len : ℕ). Some (piece_for Tomb len)) (sym (spelling_length r)) in
    plays_answered g.F.Folder.tells line s t c.reply-in-Ok-Some.new.text.items c.reply-in-Ok-Some.result c.reply-in-Ok-Some.ensures.only
    (λ e. c.reply-in-Ok-Some.ensures.text e ∙ ap (λ (first : List ℕ). first ++ old_text c.args.p.0 (Some (content_of c.as_slice.result.now))) c.requires.cleared
    ∙ ap (λ (value : List ℕ). old_text c.args.p.0 (Some (content_of value))) c.as_slice.ensures ∙ ap (λ (o : Option Content). old_text c.args.p.0 o) before)
    (done_maps s t r done) (done_goes s t r c.in-Ok-Some.ensures.disk.ok done) (done_counts s t r line refl gives done) (done_needed s t r line refl gives done) (done_partition s t r done) c.in-Ok-Some.ensures.account

pub returns-in-Err : goal.returns-in-Err
returns-in-Err g c =
    let s : Standing = standing c.args.writer.now in
    let line = Remove c.args.p c.args.prefix c.args.key.now in
    let there : IsSome (get s.maps (key_at c.args.prefix c.args.key.now)) =
    some_unless (get s.maps (key_at c.args.prefix c.args.key.now)) (λ none. let h = (c.in-Err.ensures.absent none c.requires.running).0 in cc) in
    subst (λ (step : Step). Plays g.F.Folder.tells step line s (standing c.remove.new.self) c.args.text.now.items) (sym c.refused.ensures)
    (plays_refused _ g.F.Folder.tells line s (standing c.remove.new.self) c.args.text.now.items (remove_record s.next c.args.prefix c.args.key.now) c.in-Err.refusal
    (c.in-Err.ensures.written there)
    c.in-Err.ensures.disk.memory c.in-Err.ensures.disk.cause (λ at is. (c.in-Err.ensures.halted at).0 is) c.requires.running
    (λ next is. needed_spent line s Tomb (record_length Tomb (length c.args.key.now) 0) there refl ∙ ((c.in-Err.ensures.spent next).0 is).2)
    (λ next is. (c.in-Err.ensures.spent next).1 (c.requires.running, there, sym (needed_spent line s Tomb (record_length Tomb (length c.args.key.now) 0) there refl) ∙ is))
    (λ a. refl) c.in-Err.ensures.account)
