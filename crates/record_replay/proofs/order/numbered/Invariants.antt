use Rattle.std.proofs.Common.{◌≡◌, ◌<◌, ℕ, length, slice_index_or}
use Rattle.record_format.specs.Spelling.{seq_of}
use Rattle.crash_law.specs.Placed.{records_of}
use Rattle.record_replay.specs.Orders.{left_behind}
use Rattle.record_replay.proofs.order.numbered.Given as goal

-- those before this place are numbered
abbrev pub invariant-loop-place : goal.invariant-loop-place
invariant-loop-place l = record {
  count : length l.order.items ≡ l.place;
  each : (k : ℕ) (d : ℕ × ℕ) → k < l.place → slice_index_or l.order.items k d ≡ (seq_of (slice_index_or (records_of l.list) k left_behind), k);
}
