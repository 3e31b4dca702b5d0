use Rattle.std.proofs.Common.{arith}
use Rattle.restart_load.proofs.NameLaws.{first_unknown}
use Rattle.restart_load.proofs.listing.first_stray.Goals as goal

pub returns-then-name-partitions-clause-first : goal.returns-then-name-partitions-clause-first
returns-then-name-partitions-clause-first c = first_unknown c.args.names.now c.args.partitions c.loop-name.name-index _ c.requires.sorted (omega arith) c.loop-name.invariant.known
