use Rattle.std.proofs.Common.{◌≡◌, ◌≤◌, ◌-◌, vec_len}
use Rattle.hr_edges.specs.declared.reading.TheConstants.{PIECE_LEN}
use Rattle.hr_edges.proofs.Readings.{Fetched}
use Rattle.hr_edges.proofs.reading.read_all.Given as goal

-- what was read so far is a front of all bytes, and no longer than it may be
abbrev pub invariant-loop-bytes : goal.invariant-loop-bytes
invariant-loop-bytes g l = record {
  buffer : vec_len l.buffer ≡ PIECE_LEN;
  short : vec_len l.bytes ≤ l.most;
  read : Fetched (g.S.Source.left l.fn.input) (g.S.Source.left l.input) l.bytes.items;
  kept : g.S.Source.count l.fn.input ≤ g.S.Source.count l.input;
}

abbrev pub decreases-loop-bytes : goal.decreases-loop-bytes
decreases-loop-bytes g l = l.most - vec_len l.bytes
