use Rattle.std.proofs.Common.{◌≡◌, ◌+◌, ◌<◌, List, length, ap, ◌∙◌, arith, rules, slice_index_or, slice_set, Vec, Global}
use Rattle.std.proofs.lemmas.List.{length-map, with_items_is}
use Rattle.crash_law.specs.Commands.{command_of, maps_after}
use Rattle.ram_map.specs.Maps.{Maps}
use Rattle.record_replay.specs.Orders.{left_behind}
use Rattle.record_replay.proofs.ClashLaws.{at}
use Rattle.crash_law.specs.Placed.{Placed, records_of}
use Rattle.record_replay.proofs.OrderLaws.{entry_at}
use Rattle.record_replay.proofs.PlayLaws.{next_underway, restart_underway, underway_again, underway_first, underway_more, underway_place, underway_same}
use Rattle.record_replay.proofs.play.play_all.Goals as goal
use Rattle.record_replay.proofs.play.play_all.Goals.{then-number-next+in_ok-play, else-number-next}

pub loop-number-init : goal.loop-number-init
loop-number-init c = underway_first (records_of c.args.list.items) c.args.order.now c.new-map.result.entries c.new-map.ensures.entries

pub take_record-requires : goal.take_record-requires
take_record-requires c =
    let e = slice_index_or c.args.order.now c.loop-number.number-index (0, 0) in
    let within : c.loop-number.number-index < length c.args.order.now = omega arith in
    omega (
      arith,
      underway_place (records_of c.args.list.items) c.args.order.now c.requires.order c.requires.records (records_of c.loop-number.list.items)
          c.loop-number.number-index c.loop-number.map.entries c.loop-number.next c.loop-number.invariant e within (entry_at c.args.order.now c.loop-number.number-index within),
      length-map c.loop-number.list.items (λ (x : Placed). x.content),
      ap (λ (l : _). length l) c.deref_mut.ensures.value,
    )

pub loop-number-preserved : goal.loop-number-preserved
loop-number-preserved c =
    let rs = records_of c.args.list.items in
    let now = records_of c.loop-number.list.items in
    let order = c.args.order.now in
    let n = c.loop-number.number-index in
    let e = slice_index_or order n (0, 0) in
    let within : n < length order = omega arith in
    let entry = entry_at order n within in
    elim c.if-number-next.branch [
      | then-number-next+in_ok-play w ↦
          let moved : w.take_record.result ≡ at now e.1 = w.take_record.ensures.moved ∙ ap (λ (l : List Placed). at (records_of l) e.1) w.deref_mut.ensures.value in
          let len : length w.take_record.new.list ≡ c.loop-number.list.len = search rules in
          let items : c.if-number-next.list.items ≡ w.take_record.new.list = ap (λ (v : Vec Placed Global). v.items) w.list-is ∙ with_items_is c.loop-number.list w.take_record.new.list len in
          let left = ap (λ (l : List Placed). records_of l) items ∙ w.take_record.ensures.left
          ∙ ap (λ (l : List Placed). slice_set (records_of l) e.1 left_behind) w.deref_mut.ensures.value in
          underway_same rs (slice_set now e.1 left_behind) _ order (n + 1) (maps_after (command_of w.take_record.result) c.loop-number.map.entries) _ (e.0 + 1) _
          (underway_more rs order c.requires.order c.requires.records now n c.loop-number.map.entries c.loop-number.next c.loop-number.invariant e within entry
          w.take_record.result moved w.if-number-next.true)
          left (ap (λ (m : Maps). m.entries) w.map-is ∙ w.in_ok-play.ensures) w.next-is
      | else-number-next w ↦
          underway_same rs now _ order (n + 1) c.loop-number.map.entries _ c.loop-number.next _
          (underway_again rs order c.requires.order c.requires.records now n c.loop-number.map.entries c.loop-number.next c.loop-number.invariant e within entry
          c.requires.agree w.if-number-next.false)
          (ap (λ (v : Vec Placed Global). records_of v.items) w.list-is) (ap (λ (m : Maps). m.entries) w.map-is) w.next-is
    ]

pub returns-clause-restart : goal.returns-clause-restart
returns-clause-restart c =
    restart_underway (records_of c.args.list.items) c.args.order.now c.requires.order c.requires.records (records_of c.loop-number.list.items)
    c.loop-number.number-index c.loop-number.map.entries c.loop-number.next c.loop-number.invariant (omega arith)

pub returns-clause-next : goal.returns-clause-next
returns-clause-next c =
    next_underway (records_of c.args.list.items) c.args.order.now c.requires.order c.requires.records (records_of c.loop-number.list.items)
    c.loop-number.number-index c.loop-number.map.entries c.loop-number.next c.loop-number.invariant (omega arith)
