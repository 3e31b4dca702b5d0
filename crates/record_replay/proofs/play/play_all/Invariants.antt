use Rattle.crash_law.specs.Placed.{records_of}
use Rattle.record_replay.proofs.PlayLaws.{IsUnderway}
use Rattle.record_replay.proofs.play.play_all.Given as goal

abbrev pub invariant-loop-number : goal.invariant-loop-number
invariant-loop-number l = IsUnderway (records_of l.fn.list.items) (records_of l.list.items) l.order l.number-index l.map.entries l.next
