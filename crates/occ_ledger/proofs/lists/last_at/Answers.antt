use Rattle.std.proofs.Common.{◌∙◌, ap, sym, Some}
use Rattle.std.specs.Option.{option_map}
use Rattle.occ_ledger.specs.Lists.{entry_in}
use Rattle.gc_event.specs.Books.{is_at}
use Rattle.occ_ledger.proofs.ListLaws.{last_else, last_then}
use Rattle.occ_ledger.proofs.lists.last_at.Goals.{then-is_at, else-is_at}
use Rattle.occ_ledger.proofs.lists.last_at.Goals as goal

pub loop-spot-preserved : goal.loop-spot-preserved
loop-spot-preserved c =
    let here = ap (λ s. is_at c.args.seq c.args.chunk (entry_in s)) (sym c.spot-item.is) ∙ sym c.is_at.ensures in
    let there = last_then c.args.seq c.args.chunk c.args.present.now c.loop-spot.spot-index c.spot-item.result c.loop-spot-test.true in
    let other = last_else c.args.seq c.args.chunk c.args.present.now c.loop-spot.spot-index c.spot-item.result c.loop-spot-test.true in
    elim c.if-is_at.branch [
      | then-is_at w ↦ ap (option_map (λ s. entry_in s.now)) w.last-is ∙ ap (λ s. Some (entry_in s)) c.spot-item.is ∙ sym (there (here ∙ w.if-is_at.true))
      | else-is_at w ↦ ap (option_map (λ s. entry_in s.now)) w.last-is ∙ c.loop-spot.invariant ∙ sym (other (here ∙ w.if-is_at.false))
    ]
