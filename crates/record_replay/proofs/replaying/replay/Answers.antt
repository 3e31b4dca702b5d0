use Rattle.std.proofs.Common.{◌≡◌, List, subst, rules}
use Rattle.hr_base.specs.declared.name.Seq.{Seq}
use Rattle.record_format.specs.Spelling.{IsRecord}
use Rattle.crash_law.specs.Placed.{Placed, records_of}
use Rattle.std.proofs.lemmas.List.Elements.{All-contains}
use Rattle.crash_law.proofs.NumberedLaws.{Contains-from_in}
use Rattle.record_replay.specs.Replays.{IsFirstClash, facts_in}
use Rattle.record_replay.proofs.LimitLaws.{KeepsLimits-restart}
use Rattle.record_replay.proofs.replaying.replay.Goals as goal

pub returns-in-Some-clause-clash : goal.returns-in-Some-clause-clash
returns-in-Some-clause-clash c = λ seq is.
    let same : c.in-Some.seq ≡ seq = cc in
    let list : c.deref-2.result.now ≡ c.args.found = search rules in
    let told = c.first_clash.ensures.some c.in-Some.seq c.in-Some.is in
    subst (λ (s : Seq). IsFirstClash (facts_in c.args.found) s.0) same (subst (λ (l : List Placed). IsFirstClash (facts_in l) c.in-Some.seq.0) list told)

pub returns-in_ok-play_all-in-None-clause-lengths : goal.returns-in_ok-play_all-in-None-clause-lengths
returns-in_ok-play_all-in-None-clause-lengths c =
    KeepsLimits-restart (facts_in c.args.found) (λ r i. All-contains IsRecord (records_of c.args.found) r c.requires (Contains-from_in r (records_of c.args.found) i))
    c.in_ok-play_all-in-None.field-0.map.entries (search rules)
