use Rattle.std.proofs.Common.{◌≡◌, subst, IfOk}
use Rattle.occ_ledger.proofs.ScanLaws.{all_live}
use Rattle.occ_ledger.proofs.ledger.Ledger.live.Goals as goal

pub returns : goal.returns
returns c =
    subst (λ rs. IfOk c.live.result (λ records. records.items ≡ rs))
    (all_live c.args.self.now.lists c.seen.result c.seen.ensures.told c.seen.ensures.present c.args.chunk c.seen.ensures.without) c.live.ensures
