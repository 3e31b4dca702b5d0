use Rattle.mem_folder.specs.Memory.{memory_port}
use Rattle.mem_folder.proofs.MemPorts.{IsEmptyPort-empty}
use Rattle.dir_files.proofs.PortLaws.{IsPort-empty}
use Rattle.mem_folder.proofs.folder.MemFolderFolder.fork.Goals as goal

pub returns-clause-fresh : goal.returns-clause-fresh
returns-clause-fresh c = IsEmptyPort-empty c.empty.result c.empty.ensures

pub invariant_of-result : goal.invariant_of-result
invariant_of-result c = record { lawful = IsPort-empty (memory_port c.empty.result) (IsEmptyPort-empty c.empty.result c.empty.ensures) }
