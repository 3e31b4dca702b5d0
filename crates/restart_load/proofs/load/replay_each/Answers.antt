use Rattle.std.proofs.Common.{◌≡◌, ◌∷◌, List, All, ap, subst, sym, ◌∙◌, rules, drop}
use Rattle.std.specs.Vec.Iter.{into_iter_items}
use Rattle.std.proofs.lemmas.Result.{err_from_is_err_and}
use Rattle.record_format.specs.Spelling.{IsRecord}
use Rattle.crash_law.specs.Placed.{Placed, records_of}
use Rattle.restart_load.specs.Gathering.{found_of}
use Rattle.restart_load.proofs.GatherLaws.{next_is, next_left, refused_replay, replayed_more}
use Rattle.restart_load.proofs.load.replay_each.Goals as goal

pub replay_part-requires : goal.replay_part-requires
replay_part-requires c =
    let next : drop c.loop-one.p c.args.found.items ≡ c.in-Some.one ∷ into_iter_items c.next.new.self = sym c.loop-one.invariant.left ∙ (search rules) in
    subst (λ (xs : List Placed). All IsRecord (records_of xs)) (sym (next_is c.args.found.items c.loop-one.p c.in-Some.one (into_iter_items c.next.new.self) next))
    (c.requires.valid c.loop-one.p)

pub loop-one-preserved : goal.loop-one-preserved
loop-one-preserved c =
    let next : drop c.loop-one.p c.args.found.items ≡ c.in-Some.one ∷ into_iter_items c.next.new.self = sym c.loop-one.invariant.left ∙ (search rules) in
    let is = next_is c.args.found.items c.loop-one.p c.in-Some.one (into_iter_items c.next.new.self) next in
    record {
      can = tt;
      finite = tt;
      left = next_left c.args.found.items c.loop-one.p c.in-Some.one (into_iter_items c.next.new.self) next;
      count = search rules;
      room = search rules;
      replayed = replayed_more c.args.found.items c.loop-one.parts.items _ c.in_ok-replay_part.field-0 c.in-Some.one c.loop-one.invariant.replayed
          (is ∙ ap (found_of c.args.found.items) (sym c.loop-one.invariant.count)) c.in_ok-replay_part.ensures.replayed c.push_reserved.ensures.items;
    }

pub returns-in_err-replay_part-clause-refused : goal.returns-in_err-replay_part-clause-refused
returns-in_err-replay_part-clause-refused c =
    let next : drop c.loop-one.p c.args.found.items ≡ c.in-Some.one ∷ into_iter_items c.next.new.self = sym c.loop-one.invariant.left ∙ (search rules) in
    let is = next_is c.args.found.items c.loop-one.p c.in-Some.one (into_iter_items c.next.new.self) next in
    let p = err_from_is_err_and c.from_residual-in_err-replay_part.result c.from_residual-in_err-replay_part.ensures.1 in
    rw (p.1, p.2) (refused_replay c.args.found.items c.loop-one.parts.items c.loop-one.invariant.replayed c.loop-one.p c.in-Some.one (sym c.loop-one.invariant.count) is _ c.in_err-replay_part.ensures.refused)
