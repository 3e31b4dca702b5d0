use Rattle.std.proofs.Common.{◌<◌, length, arith}
use Rattle.occ_ledger.proofs.ListLaws.{placed_all, placed_front, set_rest}
use Rattle.occ_ledger.proofs.lists.move_places.Goals as goal

pub loop-i-preserved : goal.loop-i-preserved
loop-i-preserved c =
    let i = c.loop-i.invariant in
    let a : c.loop-i.i < length c.loop-i.present = omega arith in
    let b : c.loop-i.i < length c.args.present.now = omega arith in
    record {
      front = placed_front c.loop-i.present c.args.present.now c.loop-i.i c.index-present-i.result a b i.front i.rest c.place_after-place.result (c.place_after-place.ensures c.index-present-i.result);
      rest = set_rest c.loop-i.present c.args.present.now c.loop-i.i c.index-present-i.result a b i.rest _;
    }

pub returns : goal.returns
returns c =
    let i = c.loop-i.invariant in
    placed_all c.loop-i.present c.args.present.now c.loop-i.i (omega arith) (omega arith) i.front
