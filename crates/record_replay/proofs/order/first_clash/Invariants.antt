use Rattle.crash_law.specs.Placed.{records_of}
use Rattle.record_replay.specs.Orders.{records_at}
use Rattle.record_replay.proofs.ClashLaws.{AgreeBelow}
use Rattle.record_replay.proofs.order.first_clash.Given as goal

-- of the records before this place those with one number are one
abbrev pub invariant-loop-i : goal.invariant-loop-i
invariant-loop-i l = AgreeBelow (records_at (records_of l.list) l.order) l.i
