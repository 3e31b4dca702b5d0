use Rattle.std.proofs.Common.{List, subst}
use Rattle.mem_folder.specs.declared.chain.Slot.{Slot}
use Rattle.dir_files.specs.Ports.{Removes}
use Rattle.mem_folder.specs.Memory.{memory_port, removed_entry, Merges}
use Rattle.mem_folder.proofs.MemPorts.{merged_changes, Removes-joined}
use Rattle.dir_files.proofs.PortLaws.{IsPort-removes}
use Rattle.mem_folder.proofs.folder.MemFolderFolder.remove.Goals as goal

pub returns-in-Ok-clause-removed : goal.returns-in-Ok-clause-removed
returns-in-Ok-clause-removed c =
    let slot = c.into_removed_slot-slot.result.0 in
    let merges = subst (λ (s : List Slot). Merges s c.merge.new.self slot) c.strike-struck.ensures.same c.merge.ensures in
    Removes-joined c.args.self.now.chain c.merge.new.self c.args.file.name c.args.file.content (merged_changes c.args.self.now.chain c.merge.new.self slot c.args.file.name (removed_entry c.args.file.content) merges c.into_removed_slot-slot.ensures.name c.into_removed_slot-slot.ensures.entry)

pub returns-in-Err-clause-removed : goal.returns-in-Err-clause-removed
returns-in-Err-clause-removed c =
    let slot = c.into_removed_slot-slot.result.0 in
    let merges = subst (λ (s : List Slot). Merges s c.merge.new.self slot) c.strike-struck.ensures.same c.merge.ensures in
    Removes-joined c.args.self.now.chain c.merge.new.self c.args.file.name c.args.file.content (merged_changes c.args.self.now.chain c.merge.new.self slot c.args.file.name (removed_entry c.args.file.content) merges c.into_removed_slot-slot.ensures.name c.into_removed_slot-slot.ensures.entry)

pub invariant_of-self : goal.invariant_of-self
invariant_of-self c =
    let slot = c.into_removed_slot-slot.result.0 in
    let merges = subst (λ (s : List Slot). Merges s c.merge.new.self slot) c.strike-struck.ensures.same c.merge.ensures in
    let removes : Removes (memory_port c.args.self.now.chain) (memory_port c.merge.new.self) c.args.file.name c.args.file.content =
    Removes-joined c.args.self.now.chain c.merge.new.self c.args.file.name c.args.file.content (merged_changes c.args.self.now.chain c.merge.new.self slot c.args.file.name (removed_entry c.args.file.content) merges c.into_removed_slot-slot.ensures.name c.into_removed_slot-slot.ensures.entry) in
    record { lawful = IsPort-removes (memory_port c.args.self.now.chain) (memory_port c.merge.new.self) c.args.self.now.lawful c.args.file.name c.args.file.content c.args.file.fits removes }
