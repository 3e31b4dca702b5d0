use Rattle.std.proofs.Common.{◌≡◌, ℕ, List, [], ◌∷◌, ◌++◌, length, get_or, ap, sym, subst, ◌∙◌, rules, arith, append_assoc}
use Rattle.std.proofs.lemmas.List.{length_push}
use Rattle.std.specs.Vec.Iter.{into_iter_items}
use Rattle.record_replay.specs.declared.play.Replayed.{Replayed}
use Rattle.partition_writer.specs.Standing.{Standing}
use Rattle.partition_writer.specs.WriterViews.{standing}
use Rattle.restart_load.specs.Opening.{AreOpened}
use Rattle.restart_load.specs.Writers.{standings}
use Rattle.dir_files.proofs.JoinLaws.{same_after}
use Rattle.restart_load.proofs.OpeningLaws.{length_standings, opened_pushed, part_at, standings_pushed}
use Rattle.restart_load.proofs.opening.open_each.Goals as goal

pub open_one-requires-clause-open : goal.open_one-requires-clause-open
open_one-requires-clause-open g c =
    let at = c.loop-part in
    let here = part_at c.args.parts.items at.yielded (into_iter_items at.part-iterator) (into_iter_items c.next.new.self) c.args.chunks.now c.in-Some.part at.p
    at.invariant.split c.in-Some.ensures.steps.0 at.invariant.place (c.requires.chunks ∙ sym c.requires.parts) in
    c.requires.open at.p c.in-Some.part (get_or c.args.chunks.now at.p 0) here.0 here.1

pub loop-part-preserved : goal.loop-part-preserved
loop-part-preserved g c =
    let at = c.loop-part in
    let part : Replayed = c.in-Some.part in
    let chunk : ℕ = get_or c.args.chunks.now at.p 0 in
    let steps : into_iter_items at.part-iterator ≡ part ∷ into_iter_items c.next.new.self = c.in-Some.ensures.steps.0 in
    let here = part_at c.args.parts.items at.yielded (into_iter_items at.part-iterator) (into_iter_items c.next.new.self) c.args.chunks.now part at.p
    at.invariant.split steps at.invariant.place (c.requires.chunks ∙ sym c.requires.parts) in
    let before : List Standing = standings at.writers.items in
    let t : Standing = standing c.in_ok-open_one.field-0 in
    let pushed : standings c.push_reserved.new.self.items ≡ before ++ t ∷ [] =
    standings_pushed at.writers.items c.push_reserved.new.self.items c.in_ok-open_one.field-0 c.push_reserved.ensures.items in
    let place : length before ≡ at.p = length_standings at.writers.items ∙ at.invariant.length in
    record {
      split = append_assoc at.yielded (part ∷ []) (into_iter_items c.next.new.self) ∙ ap (λ (l : List Replayed). at.yielded ++ l) (sym steps) ∙ at.invariant.split;
      left =
          let was = at.invariant.left in
          let gone = c.in-Some.ensures.steps.1 in
          let short = ap length steps in
          omega arith;
      place = omega (arith, length_push at.yielded part, at.invariant.place);
      length = search rules;
      room = search rules;
      opened =
          subst (λ (writers : List Standing). AreOpened g.F.Folder.tells c.args.limits.now c.args.parts.items c.args.chunks.now writers) (sym pushed)
          (opened_pushed g.F.Folder.tells c.args.limits.now c.args.parts.items c.args.chunks.now before t part chunk at.p place at.invariant.opened here.0 here.1 c.in_ok-open_one.ensures.opened);
      same = λ y. same_after _ _ _ (at.invariant.same y) (c.open_one.ensures.same y);
      count = search rules;
    }
