use Rattle.std.proofs.Common.{◌≤◌, length}
use Rattle.hr_edges.proofs.Writings.{Written}
use Rattle.hr_edges.proofs.writing.write_all.Given as goal

-- what was taken so far is a front of the piece, and the rest is to be written
abbrev pub invariant-loop-rest : goal.invariant-loop-rest
invariant-loop-rest g l = record {
  written : Written (g.K.Sink.taken l.fn.out) (g.K.Sink.taken l.out) l.piece l.rest;
  kept : g.K.Sink.count l.fn.out ≤ g.K.Sink.count l.out;
}

abbrev pub decreases-loop-rest : goal.decreases-loop-rest
decreases-loop-rest g l = length l.rest
