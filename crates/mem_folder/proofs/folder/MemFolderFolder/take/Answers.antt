use Rattle.std.proofs.Common.{List, IsSome, ap, sym, subst}
use Rattle.mem_folder.specs.declared.chain.Slot.{Slot}
use Rattle.dir_files.specs.Ports.{Takes}
use Rattle.mem_folder.specs.Memory.{memory_port, entry_at, lent_entry, ChangesEntry}
use Rattle.mem_folder.proofs.MemPorts.{Takes-lent}
use Rattle.dir_files.proofs.PortLaws.{IsPort-takes}
use Rattle.mem_folder.proofs.folder.MemFolderFolder.take.Goals as goal

pub lend-content-requires : goal.lend-content-requires
lend-content-requires c = subst (λ (s : List Slot). IsSome (entry_at s c.args.name).held) (sym c.strike.ensures.same) c.requires.held

pub returns-clause-taken : goal.returns-clause-taken
returns-clause-taken c =
    let changes = subst (λ (s : List Slot). ChangesEntry s c.lend-content.new.self c.args.name (lent_entry (entry_at s c.args.name))) c.strike.ensures.same c.lend-content.ensures.lent in
    Takes-lent c.args.self.now.chain c.lend-content.new.self c.args.name changes.entries

pub invariant_of-self : goal.invariant_of-self
invariant_of-self c =
    let changes = subst (λ (s : List Slot). ChangesEntry s c.lend-content.new.self c.args.name (lent_entry (entry_at s c.args.name))) c.strike.ensures.same c.lend-content.ensures.lent in
    let takes : Takes (memory_port c.args.self.now.chain) (memory_port c.lend-content.new.self) c.args.name = Takes-lent c.args.self.now.chain c.lend-content.new.self c.args.name changes.entries in
    record { lawful = IsPort-takes (memory_port c.args.self.now.chain) (memory_port c.lend-content.new.self) c.args.self.now.lawful c.args.name takes }
