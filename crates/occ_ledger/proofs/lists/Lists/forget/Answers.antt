use Rattle.std.proofs.Common.{refl}
use Rattle.occ_ledger.proofs.ListLaws.{forgotten_is}
use Rattle.occ_ledger.proofs.lists.Lists.forget.Goals as goal

pub returns : goal.returns
returns c = forgotten_is c.args.self.now (record { told = c.args.self.now.told; present = c.leave_out.new.present }) c.args.chunk refl c.leave_out.ensures
