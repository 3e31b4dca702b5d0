use Rattle.std.proofs.Common.{◌<◌, All, take}
use Rattle.restart_load.proofs.listing.first_stray.Given as goal

abbrev pub invariant-loop-name : goal.invariant-loop-name
invariant-loop-name l = record { known : All (λ name. name.partition.0 < l.partitions) (take l.name-index l.names) }
