use Rattle.std.proofs.Common.{◌<◌, length, arith}
use Rattle.occ_ledger.specs.Scans.{ended_spot}
use Rattle.occ_ledger.proofs.ListLaws.{mapped_front, set_rest}
use Rattle.occ_ledger.proofs.lists.end_waiting.Goals as goal

pub loop-spot-preserved : goal.loop-spot-preserved
loop-spot-preserved c =
    let i = c.loop-spot.invariant in
    let a : c.loop-spot.spot-index < length c.loop-spot.present = omega arith in
    let b : c.loop-spot.spot-index < length c.args.present.now = omega arith in
    record {
      front = mapped_front c.loop-spot.present c.args.present.now c.loop-spot.spot-index c.spot-item.result a b i.rest ended_spot i.front;
      rest = set_rest c.loop-spot.present c.args.present.now c.loop-spot.spot-index c.spot-item.result a b i.rest _;
    }
