use Rattle.std.proofs.Common.{◌∙◌, ◌+◌, min, ap, sym}
use Rattle.gc_event.specs.Live.{lapsed}
use Rattle.occ_ledger.specs.Ledgers.{book, lapsed_in}
use Rattle.occ_ledger.proofs.ScanLaws.{lapsed_is, seen_all, seen_without}
use Rattle.occ_ledger.proofs.ledger.Ledger.forget.Goals as goal

pub returns-clause-lapsed : goal.returns-clause-lapsed
returns-clause-lapsed c =
    let l = c.args.self.now.lists in
    let here = seen_all l c.seen.result c.seen.ensures.told c.seen.ensures.present c.seen.ensures.without in
    let left = seen_without l c.seen-2.result c.seen-2.ensures.told c.seen-2.ensures.present c.args.chunk c.seen-2.ensures.without in
    c.saturating_add-self.ensures
    ∙ ap (λ k. min (lapsed_in c.args.self.now + k) 18446744073709551615)
    (c.lapsed-lapsed.ensures ∙ lapsed_is c.seen.result c.seen-2.result ∙ (λ i. lapsed (here i) (left i)) ∙ ap (lapsed (book c.args.self.now)) (sym c.forget.ensures))
