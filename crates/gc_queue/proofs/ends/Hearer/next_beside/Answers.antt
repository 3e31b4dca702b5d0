use Rattle.std.proofs.Common.{◌∙◌, ◌++◌, sym, ap, arith}
use Rattle.gc_queue.specs.Queues.{told}
use Rattle.gc_queue.proofs.Moves.{all_heard, next_is_front, none_known}
use Rattle.gc_queue.proofs.ends.Hearer.next_beside.Goals as goal

pub returns-then-held-gt0-clause-front : goal.returns-then-held-gt0-clause-front
returns-then-held-gt0-clause-front g c =
    next_is_front {h = g.File.Named} c.held.new.teller c.held.new.self c.next_known.new.self c.next_known.result
    c.held.ensures.ring c.next_known.ensures.heard c.next_known.ensures.known

pub returns-then-held-eq0-clause-none : goal.returns-then-held-eq0-clause-none
returns-then-held-eq0-clause-none g c = (
  c.held-2.ensures.heard ∙ c.pass.ensures.heard ∙ c.held.ensures.heard,
  all_heard _ _ _ _ _ (c.held-2.ensures.teller.0 ∙ c.pass.ensures.told)
      (c.held-2.ensures.heard ∙ c.pass.ensures.heard ∙ none_known _ _ _ c.held.ensures.ring (omega (arith, c.held.ensures.value, c.if-held-gt0.false)))
      c.held-2.ensures.ring
      (omega (arith, c.held-2.ensures.value, c.if-held-eq0.true))
      ∙ ap (λ xs. told c.held-2.new.teller ++ xs) (sym (c.held-2.ensures.teller.1 ∙ c.pass.ensures.waiting)),
)
