use Rattle.std.proofs.Common.{◌≡◌, ap, arith}
use Rattle.chunk_read.specs.Walks.{WalkState, first_offset, whole_to}
use Rattle.chunk_read.proofs.WalkLaws.{pending_is, pending_within, seen}
use Rattle.chunk_read.proofs.walk.Walk.pending.Goals as goal

pub overflow_sub-result : goal.overflow_sub-result
overflow_sub-result c =
    let within = pending_within (seen c.self.inside) c.self.invariant in
    let same : first_offset (seen c.self.inside).waiting (whole_to (seen c.self.inside)) ≡ first_offset c.args.self.now.waiting (whole_to c.args.self.now) = ap (λ (w : WalkState). first_offset w.waiting (whole_to w)) c.self.view_is in
    omega (arith, within, same, c.first_pending.ensures)

pub returns-clause-exact : goal.returns-clause-exact
returns-clause-exact c = λ fed handed s.
    let fed_same : c.self.inside.fed ≡ c.args.self.now.fed = ap (λ (w : WalkState). w.fed) c.self.view_is in
    omega (arith, pending_is c.args.self.now fed handed s, fed_same, c.first_pending.ensures)
