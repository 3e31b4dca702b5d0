use Rattle.std.proofs.Common.{◌≡◌, ◌+◌, ◌++◌, ◌∙◌, ℕ, List, Err, length, take, arith, ap, sym, subst}
use Rattle.std.proofs.Math.Seq.{take-length}
use Rattle.std.proofs.lemmas.Result.{err_from_is_err_and}
use Rattle.hr_base.specs.declared.name.Class.{Class}
use Rattle.chunk_read.specs.declared.refusal.ReadRefusal.TheVariants.{Damaged}
use Rattle.chunk_read.specs.Chunks.{IsDamagedAt}
use Rattle.chunk_read.specs.Pieces.{joined}
use Rattle.chunk_read.specs.Walks.{StandsFor, WalkState}
use Rattle.chunk_read.proofs.PieceLaws.{joined_next, piece_damages, piece_within, refusal_of_damaged}
use Rattle.chunk_read.proofs.WalkLaws.{all_taken, says_undamaged}
use Rattle.chunk_read.proofs.pieces.read_pieces.Goals as goal

pub feed-requires : goal.feed-requires
feed-requires c =
    let within = piece_within c.args.pieces.now c.loop-piece.piece-index c.piece-item.result c.loop-piece-test.true c.piece-item.is in
    omega (arith, within, c.loop-piece.invariant.stands.count, ap length c.deref.ensures.value, c.requires)

-- what the walk says is damaged is so of all pieces
says : (c : goal.After-drop-walk-inside-in_err-feed) → (at : ℕ) → c.in_err-feed.field-0.0 ≡ Damaged at → IsDamagedAt c.args.class (joined c.args.pieces.now) at
says c at e =
    let so_far = joined (take c.loop-piece.piece-index c.args.pieces.now) in
    let here = c.in_err-feed.ensures.place so_far c.loop-piece.records.items c.loop-piece.invariant.stands at (ap Err e) in
    let of_class = subst (λ (class : Class). IsDamagedAt class (so_far ++ c.deref.result.now) at) c.loop-piece.invariant.class here in
    let with_piece = subst (λ (bytes : List ℕ). IsDamagedAt c.args.class (so_far ++ bytes) at) c.deref.ensures.value of_class in
    piece_damages c.args.class c.args.pieces.now c.loop-piece.piece-index c.piece-item.result at c.loop-piece-test.true c.piece-item.is with_piece

pub returns-in_err-feed-clause-damaged : goal.returns-in_err-feed-clause-damaged
returns-in_err-feed-clause-damaged c = λ at e.
    let p = err_from_is_err_and c.from_residual.result c.from_residual.ensures.1 in
    let same : c.in_err-feed.field-0.0 ≡ Damaged at = cc (p.1, p.2, e) in
    says c at same

pub returns-in_err-feed-clause-exact : goal.returns-in_err-feed-clause-exact
returns-in_err-feed-clause-exact c = λ at damaged.
    let p = err_from_is_err_and c.from_residual.result c.from_residual.ensures.1 in
    rw (p.1, p.2) (refusal_of_damaged c.in_err-feed.field-0.0 c.args.class (joined c.args.pieces.now) at (says c) damaged)

pub loop-piece-preserved : goal.loop-piece-preserved
loop-piece-preserved c =
    let so_far = joined (take c.loop-piece.piece-index c.args.pieces.now) in
    let left = c.in_ok-take_waiting.ensures in
    let fed = c.in_ok-feed.ensures.taken (λ e. cc) so_far c.loop-piece.records.items c.loop-piece.invariant.stands in
    let taken = all_taken c.feed.new.self (so_far ++ c.deref.result.now) c.loop-piece.records.items fed in
    let bytes : so_far ++ c.deref.result.now ≡ joined (take (c.loop-piece.piece-index + 1) c.args.pieces.now) =
    ap (λ (b : List ℕ). so_far ++ b) c.deref.ensures.value ∙ sym (joined_next c.args.pieces.now c.loop-piece.piece-index c.piece-item.result c.loop-piece-test.true c.piece-item.is) in
    record {
      stands = rw (left.walk, left.records, ← bytes) taken;
      class = ap (λ (w : WalkState). w.class) left.walk ∙ c.in_ok-feed.ensures.class ∙ c.loop-piece.invariant.class;
      empty = ap (λ (w : WalkState). w.waiting) left.walk;
      undamaged = ap (λ (w : WalkState). w.damage) left.walk ∙ c.in_ok-feed.ensures.ok;
    }

pub returns-clause-exact : goal.returns-clause-exact
returns-clause-exact c = λ at damaged.
    let all : take c.loop-piece.piece-index c.args.pieces.now ≡ c.args.pieces.now =
    ap (λ (n : ℕ). take n c.args.pieces.now) (let e : c.loop-piece.piece-index ≡ length c.args.pieces.now = omega arith in e) ∙ take-length c.args.pieces.now in
    let of_class = subst (λ (class : Class). IsDamagedAt class (joined c.args.pieces.now) at) (sym c.loop-piece.invariant.class) damaged in
    says_undamaged c.loop-piece.walk at c.loop-piece.invariant.undamaged (joined c.args.pieces.now) c.loop-piece.records.items
    (subst (λ (ps : List _). StandsFor c.loop-piece.walk (joined ps) c.loop-piece.records.items) all c.loop-piece.invariant.stands) of_class
