use Rattle.std.proofs.Common.{◌∙◌}
use Rattle.hr_base.proofs.NameOrder.{name_cmp}
use Rattle.mem_folder.proofs.chain.order_of.Goals as goal

pub returns : goal.returns
returns c = c.cmp.ensures ∙ name_cmp c.args.first c.args.second c.requires.first c.requires.second
