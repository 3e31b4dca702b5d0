use Rattle.std.proofs.Common.{vec_len}
use Rattle.mem_folder.proofs.Lists.{Fills}
use Rattle.mem_folder.proofs.chain.Chain.of.Given as goal

abbrev pub invariant-loop-name : goal.invariant-loop-name
invariant-loop-name l = Fills l.initial.files.items l.files.items l.chain

abbrev pub decreases-loop-name : goal.decreases-loop-name
decreases-loop-name l = vec_len l.files
