use Rattle.std.proofs.Common.{◌+◌, ◌-◌, ◌≡◌, length, ap, arith, length-drop}
use Rattle.chunk_read.proofs.Reading.{all_behind, ends_damaged, ends_torn, one_more_read}
use Rattle.chunk_read.proofs.found.read_records.Goals as goal

pub loop-view-preserved : goal.loop-view-preserved
loop-view-preserved c =
    let bytes = c.args.bytes.now in
    let left = c.loop-view.rest.now in
    let place : (length bytes - length left) + length left ≡ length bytes = omega (arith, c.loop-view.invariant.within) in
    let behind = all_behind c.in-Whole.count left in
    record {
      so_far = one_more_read c.args.class c.args.begin bytes c.loop-view.records.items _ left _ c.in-Whole.view c.in-Whole.count (length bytes - length left) c.in_ok-copied-in-Whole.field-0 c.loop-view.invariant.so_far c.in-Whole.ensures.step c.in_ok-copied-in-Whole.ensures place c.in_ok-push-in-Whole.ensures.items behind;
      within = omega (arith, ap length behind, length-drop c.in-Whole.count left, c.loop-view.invariant.within);
    }

pub returns-in-Torn : goal.returns-in-Torn
returns-in-Torn c = ends_torn c.args.class c.args.begin c.args.bytes.now c.loop-view.records.items c.loop-view.rest.now c.loop-view.invariant.so_far (c.decode.ensures.torn.0 c.in-Torn.is) c.in-Torn.ensures.step

pub returns-in-Damaged : goal.returns-in-Damaged
returns-in-Damaged c = ends_damaged c.args.class c.args.begin c.args.bytes.now c.loop-view.records.items c.loop-view.rest.now c.loop-view.invariant.so_far (c.in-Damaged.ensures.damaged.0 tt) c.loop-view.invariant.within
