use Rattle.std.proofs.Common.{All}
use Rattle.hr_base.specs.Names.{IsChunkName}
use Rattle.real_folder.proofs.folder.list.Given as goal

-- the names so far are names of chunks
abbrev pub invariant-loop-entry : goal.invariant-loop-entry
invariant-loop-entry g l = All IsChunkName l.names.items
