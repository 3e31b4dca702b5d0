use Rattle.std.proofs.Common.{◌≡◌, ℕ, List, [], ◌∷◌, ◌++◌, Option, None, Some, subst, sym}
use Rattle.std.specs.Option.{IfSome, option_to_list}
use Rattle.record_format.specs.declared.record.Record.{Record}
use Rattle.chunk_read.specs.Walks.{IsWalk, StandsFor, WalkState}
use Rattle.chunk_read.proofs.WalkLaws.{next_is_walk, next_stands, seen}
use Rattle.chunk_read.proofs.walk.Walk.next.Goals as goal

-- a walk of which one record more was handed out, or none
popped_is_walk : (w : WalkState) (o : Option (ℕ × Record)) (rest : List (ℕ × Record)) → w.waiting ≡ option_to_list o ++ rest → IsWalk w → IsWalk (record w { waiting = rest })
popped_is_walk w None rest e is = subst (λ (xs : List (ℕ × Record)). IsWalk (record w { waiting = xs })) e is
popped_is_walk w (Some r) rest e is = next_is_walk w r rest e is

popped_stands : (w u : WalkState) (o : Option (ℕ × Record)) (rest : List (ℕ × Record)) → w ≡ u → w.waiting ≡ option_to_list o ++ rest
    → IfSome o (λ r. (fed : List ℕ) (handed : List (ℕ × Record)) → StandsFor u fed handed → StandsFor (record w { waiting = rest }) fed (handed ++ r ∷ []))
popped_stands w u None rest same e = tt
popped_stands w u (Some r) rest same e = λ fed handed s. next_stands w r rest e fed handed (subst (λ (v : WalkState). StandsFor v fed handed) (sym same) s)

pub invariant_of-self : goal.invariant_of-self
invariant_of-self c = popped_is_walk (seen c.self.inside) c.pop_front.result c.pop_front.new.self.items c.pop_front.ensures.items c.self.invariant

pub returns-clause-some : goal.returns-clause-some
returns-clause-some c = popped_stands (seen c.self.inside) c.args.self.now c.pop_front.result c.pop_front.new.self.items c.self.view_is c.pop_front.ensures.items
