use Rattle.gc_law.proofs.UnionLaws.{union_none, union_least}
use Rattle.gc_law.proofs.noting_laws.the_least_leaves_durable.Goals as goal

pub returns-clause-without : goal.returns-clause-without
returns-clause-without g w heard unheard a c image told kept apart is least has r i f = union_least w heard unheard a c told kept apart image is least has r i f

pub returns-clause-durable : goal.returns-clause-durable
returns-clause-durable g w heard unheard a c image told kept apart is least has =
    union_none w heard unheard a c told kept apart image is (union_least w heard unheard a c told kept apart image is least has)
