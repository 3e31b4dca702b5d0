use Rattle.std.proofs.Common.{◌<◌, ◌+◌, ◌∙◌, ap, get_or, length, slice_set, take, arith}
use Rattle.occ_ledger.specs.Scans.{unplaced_spot, with_spot}
use Rattle.occ_ledger.proofs.ListLaws.{mapped_front, set_rest}
use Rattle.occ_ledger.proofs.lists.unplace.Goals as goal

pub loop-spot-preserved : goal.loop-spot-preserved
loop-spot-preserved c =
    let i = c.loop-spot.invariant in
    let a : c.loop-spot.spot-index < length c.loop-spot.present = omega arith in
    let b : c.loop-spot.spot-index < length c.args.present.now = omega arith in
    let s = get_or c.loop-spot.present c.loop-spot.spot-index c.spot-item.result in
    record {
      front = ap (λ place. take (c.loop-spot.spot-index + 1) (slice_set c.loop-spot.present c.loop-spot.spot-index (with_spot s.waiting place s))) c.keeps_place-spot.ensures
          ∙ mapped_front c.loop-spot.present c.args.present.now c.loop-spot.spot-index c.spot-item.result a b i.rest (unplaced_spot c.args.own c.args.seq) i.front;
      rest = set_rest c.loop-spot.present c.args.present.now c.loop-spot.spot-index c.spot-item.result a b i.rest _;
    }
