use Rattle.std.proofs.Common.{◌≡◌, ◌+◌, ◌<◌, ◌≤◌, ◌∷◌, [], ℕ, List, All, drop, get_or, length, suc, refl, sym, subst, ap, ◌∙◌, rules, arith, add-one, drop-cons, length-drop}
use Rattle.std.proofs.lemmas.List.Elements.{All-get_or}
use Rattle.script_text.specs.declared.line.Line.{Line}
use Rattle.script_text.specs.declared.line.Mode.TheVariants.{Play}
use Rattle.script_text.specs.Lines.{IsLine}
use Rattle.script_text.specs.Scripts.{left, line_of_view, shown}
use Rattle.store_drill.specs.declared.step.Step.TheVariants.{Answered, DiskFailed, NoMemory, NoReply, Spent}
use Rattle.store_drill.specs.Playing.{PlaysAmong}
use Rattle.restart_load.specs.Writers.{standings}
use Rattle.store_drill.proofs.SessionLaws.{SoFar-more, SoFar-none, faults_rose, played_no_reply, played_refused, played_spent, played_unanswered, played_untaken, played_whole}
use Rattle.store_drill.proofs.lines.play_lines.Goals as goal

-- ---- the line that comes next

record IsNext (all : List Line) (i : ℕ) (line : Line) (rest : List Line) : Type 0 where
  within : i < length all
  is : line ≡ get_or all i line
  others : drop (i + 1) all ≡ rest

next_line : (all : List Line) (i : ℕ) (line : Line) (rest : List Line) → drop i all ≡ line ∷ rest → IsNext all i line rest
next_line all i line rest e =
    let within : i < length all = omega (arith, ap length e, length-drop i all) in
    let first : line ∷ rest ≡ get_or all i line ∷ drop (suc i) all = sym e ∙ drop-cons all i line within in
    let others : rest ≡ drop (suc i) all = cc in
    record {
      within = within;
      is = cc;
      others = ap (λ (n : ℕ). drop n all) (add-one i) ∙ sym others;
    }

-- what is left after as many lines as there are
none_left : (all rest : List Line) (i : ℕ) → drop i all ≡ rest → rest ≡ [] → length all ≤ i
none_left all rest i e none = omega (arith, ap length e, ap length none, length-drop i all)

pub script-init : goal.script-init
script-init g c = (0, SoFar-none _ _ _ _ c.requires.running, refl, omega arith)

pub script-smaller : goal.script-smaller
script-smaller g c = omega (arith, ap length (c.advance.ensures.more c.script-test.true))

pub answer-requires-clause-valid : goal.answer-requires-clause-valid
answer-requires-clause-valid g c =
    let next = next_line (left c.args.lines.now) c.script.invariant.0 (line_of_view c.line.result) (left c.advance.new.self) (c.script.invariant.2 ∙ c.advance.ensures.more c.script-test.true ∙ ap (λ (x : Line). x ∷ left c.advance.new.self) (sym c.line.ensures)) in
    let same : length c.args.writers.now ≡ length c.script.writers = search rules in
    let valid : IsLine Play (length c.args.writers.now) (line_of_view c.line.result) =
    subst (λ (line : Line). IsLine Play (length c.args.writers.now) line) (sym next.is)
    (All-get_or (IsLine Play (length c.args.writers.now)) (left c.args.lines.now) c.script.invariant.0 (line_of_view c.line.result) next.within c.requires.valid) in
    subst (λ (partitions : ℕ). IsLine Play partitions (line_of_view c.line.result)) same valid

pub answer-requires-clause-running : goal.answer-requires-clause-running
answer-requires-clause-running g c = λ p s is. (c.script.invariant.1.going.runs p s is).running

pub returns-in-NoReply-clause-played : goal.returns-in-NoReply-clause-played
returns-in-NoReply-clause-played g c =
    let next = next_line (left c.args.lines.now) c.script.invariant.0 (line_of_view c.line.result) (left c.advance.new.self) (c.script.invariant.2 ∙ c.advance.ensures.more c.script-test.true ∙ ap (λ (x : Line). x ∷ left c.advance.new.self) (sym c.line.ensures)) in
    let plays : PlaysAmong g.F.Folder.tells NoReply (line_of_view c.line.result) (standings c.script.writers) (standings c.answer.new.writers) c.answer.new.text.items = c.in-NoReply.ensures in
    played_no_reply (left c.args.lines.now) c.script.invariant.0 (line_of_view c.line.result) next.within next.is g.F.Folder.tells NoReply _ _ _ _ _ _ c.script.invariant.1 plays (λ next e. cc)
    plays.plays.replies.0 plays.plays.replies.1 plays.plays.replies.2 plays.plays.account

pub returns-in-NoMemory-clause-played : goal.returns-in-NoMemory-clause-played
returns-in-NoMemory-clause-played g c =
    let next = next_line (left c.args.lines.now) c.script.invariant.0 (line_of_view c.line.result) (left c.advance.new.self) (c.script.invariant.2 ∙ c.advance.ensures.more c.script-test.true ∙ ap (λ (x : Line). x ∷ left c.advance.new.self) (sym c.line.ensures)) in
    let plays : PlaysAmong g.F.Folder.tells NoMemory (line_of_view c.line.result) (standings c.script.writers) (standings c.answer.new.writers) c.answer.new.text.items = c.in-NoMemory.ensures in
    played_unanswered (left c.args.lines.now) c.script.invariant.0 (line_of_view c.line.result) next.within next.is g.F.Folder.tells NoMemory _ _ _ _ _ _ c.script.invariant.1 plays (λ next e. cc)
    plays.plays.replies.1 plays.plays.account

pub returns-in-DiskFailed-clause-played : goal.returns-in-DiskFailed-clause-played
returns-in-DiskFailed-clause-played g c =
    let next = next_line (left c.args.lines.now) c.script.invariant.0 (line_of_view c.line.result) (left c.advance.new.self) (c.script.invariant.2 ∙ c.advance.ensures.more c.script-test.true ∙ ap (λ (x : Line). x ∷ left c.advance.new.self) (sym c.line.ensures)) in
    let plays : PlaysAmong g.F.Folder.tells DiskFailed (line_of_view c.line.result) (standings c.script.writers) (standings c.answer.new.writers) c.answer.new.text.items = c.in-DiskFailed.ensures in
    played_refused (left c.args.lines.now) c.script.invariant.0 (line_of_view c.line.result) next.within next.is g.F.Folder.tells DiskFailed _ _ _ _ _ _ c.script.invariant.1 plays (λ next e. cc)
    plays.plays.account

pub returns-in-DiskFailed-clause-disk : goal.returns-in-DiskFailed-clause-disk
returns-in-DiskFailed-clause-disk g c =
    let plays : PlaysAmong g.F.Folder.tells DiskFailed (line_of_view c.line.result) (standings c.script.writers) (standings c.answer.new.writers) c.answer.new.text.items = c.in-DiskFailed.ensures in
    λ _. faults_rose g.F.Folder.tells DiskFailed (line_of_view c.line.result) (standings c.script.writers) (standings c.answer.new.writers) c.answer.new.text.items plays plays.plays.replies.1

pub returns-in-Spent-clause-played : goal.returns-in-Spent-clause-played
returns-in-Spent-clause-played g c =
    let next = next_line (left c.args.lines.now) c.script.invariant.0 (line_of_view c.line.result) (left c.advance.new.self) (c.script.invariant.2 ∙ c.advance.ensures.more c.script-test.true ∙ ap (λ (x : Line). x ∷ left c.advance.new.self) (sym c.line.ensures)) in
    let plays : PlaysAmong g.F.Folder.tells (Spent c.in-Spent.next) (line_of_view c.line.result) (standings c.script.writers) (standings c.answer.new.writers) c.answer.new.text.items = c.in-Spent.ensures in
    played_spent (left c.args.lines.now) c.script.invariant.0 (line_of_view c.line.result) next.within next.is g.F.Folder.tells (Spent c.in-Spent.next) _ _ _ _ _ _ c.script.invariant.1 plays
    c.in-Spent.next plays.plays.replies.0 plays.plays.replies.1 plays.plays.account

pub returns-in-Err-clause-played : goal.returns-in-Err-clause-played
returns-in-Err-clause-played g c =
    let next = next_line (left c.args.lines.now) c.script.invariant.0 (line_of_view c.line.result) (left c.advance.new.self) (c.script.invariant.2 ∙ c.advance.ensures.more c.script-test.true ∙ ap (λ (x : Line). x ∷ left c.advance.new.self) (sym c.line.ensures)) in
    let plays : PlaysAmong g.F.Folder.tells Answered (line_of_view c.line.result) (standings c.script.writers) (standings c.answer.new.writers) c.answer.new.text.items = c.in-Answered.ensures in
    played_untaken (left c.args.lines.now) c.script.invariant.0 (line_of_view c.line.result) next.within next.is g.F.Folder.tells Answered _ _ _ _ _ _ c.script.invariant.1 plays _ (λ next e. cc)
    plays.plays.replies.0 plays.plays.replies.1 plays.plays.replies.2 plays.plays.replies.3 plays.plays.account (rw c.as_slice.ensures.value at c.in-Err.ensures.err)

pub script-preserved : goal.script-preserved
script-preserved g c =
    let next = next_line (left c.args.lines.now) c.script.invariant.0 (line_of_view c.line.result) (left c.advance.new.self) (c.script.invariant.2 ∙ c.advance.ensures.more c.script-test.true ∙ ap (λ (x : Line). x ∷ left c.advance.new.self) (sym c.line.ensures)) in
    let plays : PlaysAmong g.F.Folder.tells Answered (line_of_view c.line.result) (standings c.script.writers) (standings c.answer.new.writers) c.answer.new.text.items = c.in-Answered.ensures in (
      c.script.invariant.0 + 1,
      SoFar-more (left c.args.lines.now) c.script.invariant.0 (line_of_view c.line.result) next.within next.is g.F.Folder.tells Answered _ _ _ _ _ _ c.script.invariant.1 plays _ (λ next e. cc)
          plays.plays.replies.0 plays.plays.replies.1 plays.plays.replies.2 plays.plays.replies.3 plays.plays.account (rw c.as_slice.ensures.value at c.in-Ok.ensures.ok),
      next.others,
      omega (arith, c.script.invariant.3),
    )

pub returns-clause-played : goal.returns-clause-played
returns-clause-played g c =
    played_whole _ _ c.script.invariant.0 _ _ _ _ c.script.invariant.1
    (none_left (left c.args.lines.now) (left c.script.lines) c.script.invariant.0 c.script.invariant.2 (c.advance.ensures.end c.script-test.false))
