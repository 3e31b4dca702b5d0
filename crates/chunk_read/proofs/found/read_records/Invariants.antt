use Rattle.std.proofs.Common.{◌≤◌, length}
use Rattle.chunk_read.proofs.Reading.{IsReadTo}
use Rattle.chunk_read.proofs.found.read_records.Given as goal

-- the records so far were found in front of the rest
abbrev pub invariant-loop-view : goal.invariant-loop-view
invariant-loop-view l = record {
  so_far : IsReadTo l.class l.begin l.bytes l.records.items l.rest;
  within : length l.rest ≤ length l.bytes;
}

abbrev pub decreases-loop-view : goal.decreases-loop-view
decreases-loop-view l = length l.rest
