use Rattle.std.proofs.Common.{ℕ, ◌∙◌, ◌++◌, ◌∷◌, [], Bor, ap, arith, is_some, length, map, List, false}
use Rattle.std.proofs.lemmas.List.{length-map, with_items_is}
use Rattle.record_format.specs.declared.record.Record.{Record}
use Rattle.occ_ledger.specs.Marks.{identity_in}
use Rattle.occ_ledger.specs.Scans.{unplaced_spot}
use Rattle.occ_ledger.specs.declared.lists.Notice.{Notice}
use Rattle.occ_ledger.specs.declared.lists.Spot.{Spot}
use Rattle.occ_ledger.specs.declared.mark.Mark.{Mark}
use Rattle.occ_ledger.proofs.ListLaws.{heard_is, some_map}
use Rattle.occ_ledger.proofs.lists.Lists.hear.Goals as goal

pub returns-clause-ok : goal.returns-clause-ok
returns-clause-ok c =
    let own = c.is_some-own.result in
    let spots = c.unplace.ensures ∙ ap (λ (ss : List Spot). map (unplaced_spot own c.seq.result) ss) (c.as_mut_slice.ensures.value ∙ c.in_ok-reserve-2.ensures.items)
    ∙ ap (λ (n : ℕ). map (unplaced_spot own n) c.args.self.now.present.items) c.seq.ensures in
    let long = length-map c.args.self.now.present.items (unplaced_spot own (identity_in c.args.mark).seq) in
    heard_is c.args.mark c.args.chunk own
    (c.is_some-own.ensures ∙ some_map (λ (r : Bor Record). r.now) c.record.result ∙ ap is_some c.record.ensures)
    c.args.self.now (record { told = c.push_reserved-2.new.self; present = c.push_reserved.new.self })
    (c.push_reserved-2.ensures.items ∙ ap (λ (ns : List Notice). ns ++ record { mark = c.args.mark; chunk = c.args.chunk } ∷ []) c.in_ok-reserve.ensures.items)
    (c.push_reserved.ensures.items
    ∙ ap (λ (ss : List Spot). ss ++ record { mark = c.in_ok-copied.field-0; chunk = c.args.chunk; waiting = false; place = own } ∷ [])
    (with_items_is c.reserve-2.new.self c.unplace.new.present
    (omega (arith, ap length spots, long, ap length c.as_mut_slice.ensures.value, ap length c.in_ok-reserve-2.ensures.items, c.as_mut_slice.ensures.len)) ∙ spots)
    ∙ ap (λ (m : Mark). map (unplaced_spot own (identity_in c.args.mark).seq) c.args.self.now.present.items ++ record { mark = m; chunk = c.args.chunk; waiting = false; place = own } ∷ []) c.in_ok-copied.ensures)
