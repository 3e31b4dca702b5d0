use Rattle.chunk_read.proofs.WalkLaws.{new_is_walk, new_stands}
use Rattle.chunk_read.proofs.walk.Walk.new.Goals as goal

pub invariant_of-result : goal.invariant_of-result
invariant_of-result c = rw (c.new.ensures.items, c.new-2.ensures.items) (new_is_walk c.args.class)

pub returns-clause-stands : goal.returns-clause-stands
returns-clause-stands c = rw (c.new.ensures.items, c.new-2.ensures.items) (new_stands c.args.class)
