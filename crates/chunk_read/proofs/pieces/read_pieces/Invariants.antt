use Rattle.std.proofs.Common.{◌≡◌, [], None, take}
use Rattle.chunk_read.specs.Pieces.{joined}
use Rattle.chunk_read.specs.Walks.{StandsFor}
use Rattle.chunk_read.proofs.pieces.read_pieces.Given as goal

-- the pieces so far were fed, and all their records were taken
abbrev pub invariant-loop-piece : goal.invariant-loop-piece
invariant-loop-piece l = record {
  stands : StandsFor l.walk (joined (take l.piece-index l.pieces)) l.records.items;
  class : l.walk.class ≡ l.fn.class;
  empty : l.walk.waiting ≡ [];
  undamaged : l.walk.damage ≡ None;
}
