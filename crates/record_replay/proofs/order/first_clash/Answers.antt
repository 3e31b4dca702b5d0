use Rattle.std.proofs.Common.{◌≡◌, ◌-◌, ◌<◌, ℕ, length, sym, ap, ◌∙◌, subst, arith, true≢false, slice_index_or}
use Rattle.record_format.specs.Spelling.{seq_of}
use Rattle.crash_law.specs.Numbered.{IsIn}
use Rattle.crash_law.specs.Placed.{Placed, records_of}
use Rattle.record_replay.specs.Orders.{records_at}
use Rattle.record_replay.specs.Replays.{IsFirstClash, facts_in}
use Rattle.record_replay.proofs.ClashLaws.{agree_all, agree_more, at, clash_here}
use Rattle.record_replay.proofs.OrderLaws.{found_at, in_order, in_records, length-records_at, number_at, rising_at}
use Rattle.record_replay.proofs.SameFacts.{Agree-same, IsFirstClash-same}
use Rattle.record_replay.proofs.order.first_clash.Goals as goal
use Rattle.record_replay.proofs.order.first_clash.Goals.{else-number-next-via-then-number-next+else-not-is_same, else-number-next-via-else-number-next}

pub returns-clause-none : goal.returns-clause-none
returns-clause-none c = λ _.
    let rs = records_of c.args.list.now in
    Agree-same (λ r. IsIn r (records_at rs c.args.order.now)) (λ r. IsIn r rs) (in_records rs c.args.order.now c.requires) (in_order rs c.args.order.now c.requires)
    (agree_all (records_at rs c.args.order.now) c.loop-i.i (omega (arith, length-records_at rs c.args.order.now c.requires)) c.loop-i.invariant)

pub loop-i-preserved : goal.loop-i-preserved
loop-i-preserved c =
    let rs = records_of c.args.list.now in
    let order = c.args.order.now in
    let sorted = records_at rs order in
    let here : c.loop-i.i < length order = omega arith in
    let earlier : c.loop-i.i - 1 < length order = omega arith in
    let one = found_at c.args.list.now order c.requires (c.loop-i.i - 1) c.index-list-place.result earlier c.index-list-place.is ∙ sym (ap (λ (x : Placed). x.content) c.one.view_is) in
    let two = found_at c.args.list.now order c.requires c.loop-i.i c.index-list-other.result here c.index-list-other.is ∙ sym (ap (λ (x : Placed). x.content) c.two.view_is) in
    agree_more sorted (rising_at rs order c.requires) c.loop-i.i (omega arith) (omega (arith, length-records_at rs order c.requires)) c.loop-i.invariant
    (λ same. elim c.else-number-next.branch [
      | else-number-next-via-then-number-next+else-not-is_same w ↦ one ∙ w.is_same.ensures.0 w.if-not-is_same.false ∙ sym two
      | else-number-next-via-else-number-next w ↦
          absurd (w.if-number-next.false (sym (number_at rs order c.requires (c.loop-i.i - 1) earlier) ∙ same ∙ number_at rs order c.requires c.loop-i.i here))
    ])

pub returns-then-not-is_same-clause-some : goal.returns-then-not-is_same-clause-some
returns-then-not-is_same-clause-some c = λ seq is.
    let rs = records_of c.args.list.now in
    let order = c.args.order.now in
    let sorted = records_at rs order in
    let here : c.loop-i.i < length order = omega arith in
    let earlier : c.loop-i.i - 1 < length order = omega arith in
    let one = found_at c.args.list.now order c.requires (c.loop-i.i - 1) c.index-list-place.result earlier c.index-list-place.is ∙ sym (ap (λ (x : Placed). x.content) c.one.view_is) in
    let two = found_at c.args.list.now order c.requires c.loop-i.i c.index-list-other.result here c.index-list-other.is ∙ sym (ap (λ (x : Placed). x.content) c.two.view_is) in
    let low = number_at rs order c.requires (c.loop-i.i - 1) earlier in
    let high = number_at rs order c.requires c.loop-i.i here in
    let told : (slice_index_or order (c.loop-i.i - 1) (0, 0)).0 ≡ seq.0 = cc in
    let clash = clash_here sorted (rising_at rs order c.requires) c.loop-i.i (omega arith) (omega (arith, length-records_at rs order c.requires)) c.loop-i.invariant
    (low ∙ c.if-number-next.true ∙ sym high) (λ e. true≢false (sym (c.is_same.ensures.1 (sym one ∙ e ∙ two)) ∙ c.if-not-is_same.true)) in
    subst (λ (n : ℕ). IsFirstClash (facts_in c.args.list.now) n) (high ∙ sym c.if-number-next.true ∙ told)
    (IsFirstClash-same (λ r. IsIn r sorted) (λ r. IsIn r rs) (in_records rs order c.requires) (in_order rs order c.requires) (seq_of (at sorted c.loop-i.i)) clash)
