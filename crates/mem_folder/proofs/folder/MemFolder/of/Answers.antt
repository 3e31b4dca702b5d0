use Rattle.mem_folder.specs.Lists.{image_of}
use Rattle.mem_folder.proofs.Lists.{SamePort-holds, IsPort-holds}
use Rattle.mem_folder.proofs.folder.MemFolder.of.Goals as goal

pub returns-clause-holds : goal.returns-clause-holds
returns-clause-holds c = SamePort-holds c.in_ok-chain.chain (image_of c.args.files.items) c.in_ok-chain.ensures

pub invariant_of-result : goal.invariant_of-result
invariant_of-result c = record { lawful = IsPort-holds c.in_ok-chain.chain (image_of c.args.files.items) c.in_ok-chain.ensures }
