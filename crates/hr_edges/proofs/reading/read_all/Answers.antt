use Rattle.std.proofs.Common.{◌≡◌, ◌<◌, ◌++◌, ℕ, List, Option, length, take, arith, ap, subst, sym, ◌∙◌}
use Rattle.hr_edges.proofs.Readings.{Fetched, fetched_all, fetched_behind, fetched_end, fetched_few, fetched_length, fetched_more, fetched_much, fetched_none}
use Rattle.hr_edges.proofs.reading.read_all.Goals as goal

pub loop-bytes-init : goal.loop-bytes-init
loop-bytes-init g c = record {
  buffer = c.in_ok-buffer.ensures.len;
  short = omega (arith, c.new-bytes.ensures.len);
  read = subst (λ (b : List ℕ). Fetched (g.S.Source.left c.args.input.now) (g.S.Source.left c.args.input.now) b) (sym c.new-bytes.ensures.items) (fetched_none (g.S.Source.left c.args.input.now));
  kept = omega arith;
}

pub returns-in_err-taken-clause-few : goal.returns-in_err-taken-clause-few
returns-in_err-taken-clause-few g c = λ _.
    fetched_few _ _ _ c.loop-bytes.bytes.items
    (subst (λ (left : Option (List ℕ)). Fetched (g.S.Source.left c.args.input.now) left c.loop-bytes.bytes.items) (sym c.in_err-taken.ensures.refused) c.loop-bytes.invariant.read)
    (omega (arith, c.loop-bytes.bytes.ok.0))

pub returns-then-taken-eq0-clause-found : goal.returns-then-taken-eq0-clause-found
returns-then-taken-eq0-clause-found g c =
    let room : 0 < length c.read.new.into = omega (arith, c.read.auto.into, c.as_mut_slice.ensures.len) in
    fetched_all _ _ _ _ _ c.loop-bytes.invariant.read c.in_ok-taken.ensures.end c.if-taken-eq0.true room

pub returns-then-taken-eq0-clause-ended : goal.returns-then-taken-eq0-clause-ended
returns-then-taken-eq0-clause-ended g c =
    let room : 0 < length c.read.new.into = omega (arith, c.read.auto.into, c.as_mut_slice.ensures.len) in
    fetched_end _ _ _ _ _ _ c.loop-bytes.invariant.read c.in_ok-taken.ensures.end c.in_ok-taken.ensures.given c.if-taken-eq0.true room

pub returns-then-taken-eq0-clause-few : goal.returns-then-taken-eq0-clause-few
returns-then-taken-eq0-clause-few g c = λ _.
    let long = fetched_length c.loop-bytes.bytes.items c.read.new.into c.in_ok-taken.taken c.in_ok-taken.ensures.bound in
    fetched_few _ _ _ _ (fetched_more _ _ _ _ _ _ c.loop-bytes.invariant.read c.in_ok-taken.ensures.given c.read.ensures.untold) (omega (arith, c.loop-bytes.bytes.ok.0, long))

pub returns-then-taken-most-clause-too_long : goal.returns-then-taken-most-clause-too_long
returns-then-taken-most-clause-too_long g c = λ _.
    let long = fetched_length c.loop-bytes.bytes.items c.read.new.into c.in_ok-taken.taken c.in_ok-taken.ensures.bound in
    fetched_much _ _ _ _ (fetched_more _ _ _ _ _ _ c.loop-bytes.invariant.read c.in_ok-taken.ensures.given c.read.ensures.untold)
    (omega (arith, c.loop-bytes.bytes.ok.0, long, c.len.ensures)) (omega (arith, c.loop-bytes.bytes.ok.0, long, c.in_ok-taken.ensures.bound, c.read.auto.into, c.as_mut_slice.ensures.len))

pub loop-bytes-preserved : goal.loop-bytes-preserved
loop-bytes-preserved g c =
    let more = fetched_more _ _ _ _ _ _ c.loop-bytes.invariant.read c.in_ok-taken.ensures.given c.read.ensures.untold in
    let size : c.loop-bytes.buffer.len ≡ length c.read.new.into = omega (arith, c.read.auto.into, c.as_mut_slice.ensures.len) in
    let same : c.extend_from_slice.new.self.items ≡ c.loop-bytes.bytes.items ++ take c.in_ok-taken.taken c.read.new.into =
    fetched_behind _ _ _ _ _ _ _ c.in_ok-extend_from_slice.ensures.items c.deref.ensures.value size in
    let long = ap length same ∙ fetched_length c.loop-bytes.bytes.items c.read.new.into c.in_ok-taken.taken c.in_ok-taken.ensures.bound in
    record {
      buffer = c.loop-bytes.invariant.buffer;
      short = omega (arith, long, c.loop-bytes.bytes.ok.0, c.extend_from_slice.new.self.ok.0, c.len.ensures);
      read = subst (λ (b : List ℕ). Fetched (g.S.Source.left c.args.input.now) (g.S.Source.left c.read.new.self) b) (sym same) more;
      kept = omega (arith, c.read.ensures.counted.kept);
    }

pub returns-in_err-extend_from_slice-clause-few : goal.returns-in_err-extend_from_slice-clause-few
returns-in_err-extend_from_slice-clause-few g c = λ _.
    let long = fetched_length c.loop-bytes.bytes.items c.read.new.into c.in_ok-taken.taken c.in_ok-taken.ensures.bound in
    fetched_few _ _ _ _ (fetched_more _ _ _ _ _ _ c.loop-bytes.invariant.read c.in_ok-taken.ensures.given c.read.ensures.untold) (omega (arith, c.loop-bytes.bytes.ok.0, long, c.len.ensures))
