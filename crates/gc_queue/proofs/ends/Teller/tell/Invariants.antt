use Rattle.gc_queue.specs.Queues.{Tells}
use Rattle.gc_queue.proofs.ends.Teller.tell.Given as goal

abbrev pub invariant-loop-moved : goal.invariant-loop-moved
invariant-loop-moved g l = Tells l.moved l.fn.self l.self
