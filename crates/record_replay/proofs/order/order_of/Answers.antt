use Rattle.crash_law.specs.Placed.{records_of}
use Rattle.record_replay.proofs.OrderLaws.{order_from_sort}
use Rattle.record_replay.proofs.order.order_of.Goals as goal

pub returns : goal.returns
returns c =
    order_from_sort (records_of c.args.list.now) c.in_ok-order.order.items c.in_ok-order.ensures c.sort_unstable.new.self.items
    c.sort_unstable.ensures.permutation c.sort_unstable.ensures.sorted
