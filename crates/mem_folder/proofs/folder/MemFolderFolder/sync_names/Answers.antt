use Rattle.std.proofs.Common.{ap, ◌∙◌}
use Rattle.dir_files.specs.Ports.{SyncsNames}
use Rattle.mem_folder.specs.Memory.{memory_port, synced_slots}
use Rattle.mem_folder.proofs.MemPorts.{SyncsNames-synced}
use Rattle.dir_files.proofs.PortLaws.{IsPort-syncs}
use Rattle.mem_folder.proofs.folder.MemFolderFolder.sync_names.Goals as goal

pub returns-clause-synced : goal.returns-clause-synced
returns-clause-synced c =
    SyncsNames-synced c.args.self.now.chain c.sync.new.self (c.sync.ensures ∙ ap synced_slots c.strike.ensures.same)

pub invariant_of-self : goal.invariant_of-self
invariant_of-self c =
    let syncs : SyncsNames (memory_port c.args.self.now.chain) (memory_port c.sync.new.self) = SyncsNames-synced c.args.self.now.chain c.sync.new.self (c.sync.ensures ∙ ap synced_slots c.strike.ensures.same) in
    record { lawful = IsPort-syncs (memory_port c.args.self.now.chain) (memory_port c.sync.new.self) c.args.self.now.lawful syncs }
