-- Files of which a crash keeps all.
use Rattle.std.specs.Prelude.{ℕ, true, List, length}
use Rattle.dir_files.specs.Files.{FileState}

-- a file of which a crash keeps all
abbrev pub durable_file : List ℕ → FileState
durable_file bytes = record { bytes = bytes; front = length bytes; named = true }
