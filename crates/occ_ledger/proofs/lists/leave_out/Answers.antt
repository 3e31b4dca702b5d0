use Rattle.std.proofs.Common.{not, rules}
use Rattle.std.proofs.lemmas.Fn.{filter_same}
use Rattle.hr_base.specs.NameTests.{is_name}
use Rattle.occ_ledger.proofs.lists.leave_out.Goals as goal

pub returns : goal.returns
returns c = filter_same _ (λ s. not (is_name s.chunk c.args.chunk)) _ (λ s b g r. search rules) _ _ c.retain.ensures.filtered
