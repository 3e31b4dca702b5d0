use Rattle.std.proofs.Common.{◌∙◌, ap}
use Rattle.hr_base.specs.Entries.{key_at}
use Rattle.gc_event.specs.Live.{stale}
use Rattle.occ_ledger.proofs.ScanLaws.{seen_all, stale_is}
use Rattle.occ_ledger.proofs.ledger.Ledger.stale.Goals as goal

pub returns : goal.returns
returns c =
    c.stale.ensures ∙ stale_is c.seen.result (key_at c.args.prefix c.args.key.now)
    ∙ ap (λ b. stale b (key_at c.args.prefix c.args.key.now)) (seen_all c.args.self.now.lists c.seen.result c.seen.ensures.told c.seen.ensures.present c.seen.ensures.without)
