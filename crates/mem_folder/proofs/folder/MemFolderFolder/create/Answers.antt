use Rattle.std.proofs.Common.{List, refl, subst}
use Rattle.mem_folder.specs.declared.chain.Slot.{Slot}
use Rattle.dir_files.specs.Ports.{Creates}
use Rattle.mem_folder.specs.Memory.{memory_port, created_entry, Merges}
use Rattle.mem_folder.proofs.MemPorts.{merged_changes, Creates-joined}
use Rattle.dir_files.proofs.PortLaws.{IsPort-creates}
use Rattle.mem_folder.proofs.folder.MemFolderFolder.create.Goals as goal

pub returns-clause-created : goal.returns-clause-created
returns-clause-created c =
    let slot : Slot = record { name = c.args.name; entry = c.created-entry.result } in
    let merges = subst (λ (s : List Slot). Merges s c.merge.new.self slot) c.strike.ensures.same c.merge.ensures in
    Creates-joined c.args.self.now.chain c.merge.new.self c.args.name (merged_changes c.args.self.now.chain c.merge.new.self slot c.args.name created_entry merges refl c.created-entry.ensures) c.requires.free

pub invariant_of-self : goal.invariant_of-self
invariant_of-self c =
    let slot : Slot = record { name = c.args.name; entry = c.created-entry.result } in
    let merges = subst (λ (s : List Slot). Merges s c.merge.new.self slot) c.strike.ensures.same c.merge.ensures in
    let creates : Creates (memory_port c.args.self.now.chain) (memory_port c.merge.new.self) c.args.name =
    Creates-joined c.args.self.now.chain c.merge.new.self c.args.name (merged_changes c.args.self.now.chain c.merge.new.self slot c.args.name created_entry merges refl c.created-entry.ensures) c.requires.free in
    record { lawful = IsPort-creates (memory_port c.args.self.now.chain) (memory_port c.merge.new.self) c.args.self.now.lawful c.args.name creates }
