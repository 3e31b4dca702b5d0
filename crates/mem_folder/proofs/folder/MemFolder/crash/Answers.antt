use Rattle.mem_folder.proofs.Crashes.{CrashesTo-leaves, IsPort-leaves, IsImage-leaves}
use Rattle.mem_folder.proofs.folder.MemFolder.crash.Goals as goal

pub returns-clause-left : goal.returns-clause-left
returns-clause-left c = CrashesTo-leaves c.args.pick c.args.self.chain c.crash.new.self c.crash.ensures

pub returns-clause-image : goal.returns-clause-image
returns-clause-image c = IsImage-leaves c.args.pick c.args.self.chain c.crash.new.self c.crash.ensures c.args.self.lawful

pub invariant_of-result : goal.invariant_of-result
invariant_of-result c = record { lawful = IsPort-leaves c.args.pick c.args.self.chain c.crash.new.self c.crash.ensures }
