use Rattle.std.proofs.Common.{All}
use Rattle.hr_base.specs.Names.{IsChunkName}
use Rattle.test_rows.proofs.disks.copies.Given as goal

-- the names so far are names of chunks
abbrev pub invariant-loop-name : goal.invariant-loop-name
invariant-loop-name g l = All (λ file. IsChunkName file.0) l.files.items
