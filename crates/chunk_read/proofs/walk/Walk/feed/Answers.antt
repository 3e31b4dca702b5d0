use Rattle.std.proofs.Common.{◌≡◌, ◌∙◌, ◌+◌, ◌++◌, ◌-◌, ℕ, List, Some, length, ap, arith, inl, refl, subst, sym}
use Rattle.record_format.specs.declared.record.Record.{Record}
use Rattle.chunk_read.specs.declared.refusal.ReadRefusal.TheVariants.{Damaged}
use Rattle.chunk_read.specs.Chunks.{IsDamagedAt}
use Rattle.chunk_read.specs.Walks.{StandsFor, WalkState}
use Rattle.chunk_read.specs.Readings.{damage_of}
use Rattle.chunk_read.proofs.Reading.{one_damage}
use Rattle.chunk_read.proofs.WalkLaws.{Accepts, Refuses, TakesPiece, accepts, refuses, seen, takes_damaged, takes_grown}
use Rattle.chunk_read.proofs.walk.Walk.feed.Goals as goal

-- the same for the walk as contracts see it
stands_seen : (w u v : WalkState) (piece : List ℕ) → w ≡ u → TakesPiece w v piece → (fed : List ℕ) (handed : List (ℕ × Record)) → StandsFor u fed handed → StandsFor v (fed ++ piece) handed
stands_seen w u v piece same takes fed handed s = takes.stands fed handed (subst (λ (x : WalkState). StandsFor x fed handed) (sym same) s)

refuses_seen : (w u : WalkState) (piece : List ℕ) (at : ℕ) → w ≡ u → Refuses w piece at → Refuses u piece at
refuses_seen w u piece at same r = subst (λ (x : WalkState). Refuses x piece at) same r

accepts_seen : (w u : WalkState) (piece : List ℕ) → w ≡ u → Accepts w piece → Accepts u piece
accepts_seen w u piece same a = subst (λ (x : WalkState). Accepts x piece) same a

-- ---- a walk that was damaged before

-- the walk behind the piece
further : (w : WalkState) (piece : List ℕ) (at : ℕ) → w.damage ≡ Some at → Refuses w piece at
further w piece at some = refuses w (record w { fed = w.fed + length piece }) piece at (takes_damaged w piece at some) refl some

pub invariant_of-self : goal.invariant_of-self
invariant_of-self c = (takes_damaged (seen c.self.inside) c.args.piece.now c.in-Some.at c.in-Some.is).is_walk c.self.invariant

pub returns-in-Some-clause-taken : goal.returns-in-Some-clause-taken
returns-in-Some-clause-taken c = λ _. stands_seen (seen c.self.inside) c.args.self.now _ c.args.piece.now c.self.view_is (takes_damaged (seen c.self.inside) c.args.piece.now c.in-Some.at c.in-Some.is)

pub returns-in-Some-clause-place : goal.returns-in-Some-clause-place
returns-in-Some-clause-place c = λ fed handed s at e.
    let same : c.in-Some.at ≡ at = cc in
    subst (λ (n : ℕ). IsDamagedAt c.args.self.now.class (fed ++ c.args.piece.now) n) same
    (refuses_seen (seen c.self.inside) c.args.self.now c.args.piece.now c.in-Some.at c.self.view_is (further (seen c.self.inside) c.args.piece.now c.in-Some.at c.in-Some.is) fed handed s)

pub returns-in-Some-clause-exact : goal.returns-in-Some-clause-exact
returns-in-Some-clause-exact c = λ fed handed s at is.
    inl (ap Damaged (one_damage c.args.self.now.class (fed ++ c.args.piece.now) c.in-Some.at at
    (refuses_seen (seen c.self.inside) c.args.self.now c.args.piece.now c.in-Some.at c.self.view_is (further (seen c.self.inside) c.args.piece.now c.in-Some.at c.in-Some.is) fed handed s) is))

-- ---- a walk that the piece leaves whole

torn : (c : goal.In-Torn) → TakesPiece (seen c.self.inside) (record {
  class = c.self.inside.class;
  fed = c.self.inside.fed + length c.args.piece.now;
  waiting = c.take_in.new.waiting.items;
  left = c.take_in.new.left.items;
  damage = c.self.inside.damage;
}) c.args.piece.now
torn c =
    let taken = c.in_ok-end.ensures.taken in
    let begin : c.self.inside.fed - c.len.result ≡ c.self.inside.fed - length c.self.inside.left.items = omega (arith, c.len.ensures) in
    takes_grown (seen c.self.inside) c.args.piece.now taken.0 c.take_in.new.waiting.items c.take_in.new.left.items c.in_ok-end.end c.self.inside.damage (c.self.inside.fed - c.len.result) c.in_default.is begin taken.2 taken.1 taken.3
    (c.in_default.is ∙ ap damage_of (sym c.in-Torn.is))

pub invariant_of-self-in-Torn : goal.invariant_of-self-in-Torn
invariant_of-self-in-Torn c = (torn c).is_walk c.self.invariant

pub returns-in-Torn-clause-taken : goal.returns-in-Torn-clause-taken
returns-in-Torn-clause-taken c = λ _. stands_seen (seen c.self.inside) c.args.self.now _ c.args.piece.now c.self.view_is (torn c)

pub returns-in-Torn-clause-exact : goal.returns-in-Torn-clause-exact
returns-in-Torn-clause-exact c = accepts_seen (seen c.self.inside) c.args.self.now c.args.piece.now c.self.view_is (accepts (seen c.self.inside) _ c.args.piece.now (torn c) refl c.in_default.is)

-- ---- a walk that the piece damages

found_damage : (c : goal.After-self-in-Damaged-1) → TakesPiece (seen c.self.inside) (record {
  class = c.self.inside.class;
  fed = c.self.inside.fed + length c.args.piece.now;
  waiting = c.take_in.new.waiting.items;
  left = c.take_in.new.left.items;
  damage = Some c.in-Damaged.at;
}) c.args.piece.now
found_damage c =
    let taken = c.in_ok-end.ensures.taken in
    let begin : c.self.inside.fed - c.len.result ≡ c.self.inside.fed - length c.self.inside.left.items = omega (arith, c.len.ensures) in
    takes_grown (seen c.self.inside) c.args.piece.now taken.0 c.take_in.new.waiting.items c.take_in.new.left.items c.in_ok-end.end (Some c.in-Damaged.at) (c.self.inside.fed - c.len.result) c.in_default.is begin taken.2 taken.1 taken.3
    (ap damage_of (sym c.in-Damaged.is))

says : (c : goal.After-self-in-Damaged-1) → Refuses c.args.self.now c.args.piece.now c.in-Damaged.at
says c = refuses_seen (seen c.self.inside) c.args.self.now c.args.piece.now c.in-Damaged.at c.self.view_is (refuses (seen c.self.inside) _ c.args.piece.now c.in-Damaged.at (found_damage c) refl refl)

pub invariant_of-self-in-Damaged : goal.invariant_of-self-in-Damaged
invariant_of-self-in-Damaged c = (found_damage c).is_walk c.self.invariant

pub returns-in-Damaged-clause-taken : goal.returns-in-Damaged-clause-taken
returns-in-Damaged-clause-taken c = λ _. stands_seen (seen c.self.inside) c.args.self.now _ c.args.piece.now c.self.view_is (found_damage c)

pub returns-in-Damaged-clause-place : goal.returns-in-Damaged-clause-place
returns-in-Damaged-clause-place c = λ fed handed s at e.
    let same : c.in-Damaged.at ≡ at = cc in
    subst (λ (n : ℕ). IsDamagedAt c.args.self.now.class (fed ++ c.args.piece.now) n) same (says c fed handed s)

pub returns-in-Damaged-clause-exact : goal.returns-in-Damaged-clause-exact
returns-in-Damaged-clause-exact c = λ fed handed s at is.
    inl (ap Damaged (one_damage c.args.self.now.class (fed ++ c.args.piece.now) c.in-Damaged.at at (says c fed handed s) is))
