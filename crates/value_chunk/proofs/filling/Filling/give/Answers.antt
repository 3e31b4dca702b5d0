use Rattle.value_chunk.proofs.filling.Filling.give.Goals as goal

pub returns : goal.returns
returns g c = record {
  given = λ tells. rw (← c.self.view_is) (c.give.ensures.given tells c.self.inside.name (c.self.invariant.1 tells));
  counts = c.give.ensures.counts;
  stays_sound = c.give.ensures.stays_sound;
}
