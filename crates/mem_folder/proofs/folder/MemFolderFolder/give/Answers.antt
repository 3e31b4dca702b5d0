use Rattle.std.proofs.Common.{refl}
use Rattle.dir_files.specs.Ports.{Gives}
use Rattle.mem_folder.specs.Memory.{memory_port, returned_entry}
use Rattle.mem_folder.proofs.MemPorts.{merged_changes, Gives-joined}
use Rattle.dir_files.proofs.PortLaws.{IsPort-gives}
use Rattle.mem_folder.proofs.folder.MemFolderFolder.give.Goals as goal

pub returns-clause-given : goal.returns-clause-given
returns-clause-given c =
    let slot = c.into_slot-slot.result.0 in
    Gives-joined c.args.self.now.chain c.merge.new.self c.args.file.name c.args.file.content (merged_changes c.args.self.now.chain c.merge.new.self slot c.args.file.name (returned_entry c.args.file.content) c.merge.ensures c.into_slot-slot.ensures.name c.into_slot-slot.ensures.entry)

pub invariant_of-self : goal.invariant_of-self
invariant_of-self c =
    let slot = c.into_slot-slot.result.0 in
    let gives : Gives (memory_port c.args.self.now.chain) (memory_port c.merge.new.self) slot.name c.args.file.content =
    Gives-joined c.args.self.now.chain c.merge.new.self slot.name c.args.file.content (merged_changes c.args.self.now.chain c.merge.new.self slot slot.name (returned_entry c.args.file.content) c.merge.ensures refl c.into_slot-slot.ensures.entry) in
    record { lawful = IsPort-gives (memory_port c.args.self.now.chain) (memory_port c.merge.new.self) c.args.self.now.lawful slot.name c.args.file.content c.args.file.fits gives }
