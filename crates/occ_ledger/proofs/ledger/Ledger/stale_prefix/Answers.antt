use Rattle.std.proofs.Common.{◌∙◌, ap}
use Rattle.gc_event.specs.Live.{stale_prefix}
use Rattle.occ_ledger.proofs.ScanLaws.{seen_all, stale_under_is}
use Rattle.occ_ledger.proofs.ledger.Ledger.stale_prefix.Goals as goal

pub returns : goal.returns
returns c =
    c.stale_prefix.ensures ∙ stale_under_is c.seen.result c.args.prefix
    ∙ ap (λ b. stale_prefix b c.args.prefix) (seen_all c.args.self.now.lists c.seen.result c.seen.ensures.told c.seen.ensures.present c.seen.ensures.without)
