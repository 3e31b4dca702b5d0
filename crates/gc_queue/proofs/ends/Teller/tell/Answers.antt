use Rattle.std.proofs.Common.{◌∙◌, arith, inl}
use Rattle.gc_queue.proofs.Moves.{tells_all, tells_noted, tells_then}
use Rattle.gc_queue.proofs.ends.Teller.tell.Goals as goal

pub returns-then-not-tell_first-clause-noted : goal.returns-then-not-tell_first-clause-noted
returns-then-not-tell_first-clause-noted g c =
    tells_noted _ _ _ c.if-not-tell_first.ensures.moved ∙ tells_noted _ _ _ c.loop-moved.invariant

pub loop-moved-preserved : goal.loop-moved-preserved
loop-moved-preserved g c = tells_then _ _ _ _ _ c.loop-moved.invariant c.if-not-tell_first.ensures.moved

pub returns-clause-noted : goal.returns-clause-noted
returns-clause-noted g c = tells_noted _ _ _ c.loop-moved.invariant

pub returns-clause-most : goal.returns-clause-most
returns-clause-most g c = inl (tells_all _ _ _ c.loop-moved.invariant (omega (arith, c.loop-moved-test.false, c.len-count.ensures)))
