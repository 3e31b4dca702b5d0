use Rattle.std.proofs.Common.{◌≡◌, ◌+◌, ◌-◌, true, length, take}
use Rattle.hr_base.specs.declared.limits.TheConstants.{MAX_FILE_LEN}
use Rattle.dir_files.specs.Ports.{SamePort}
use Rattle.restart_load.proofs.reading.read_file.Given as goal

-- each turn but the last reads a byte, and none begins behind the bytes that a file may have
abbrev pub decreases-loop-bytes : goal.decreases-loop-bytes
decreases-loop-bytes g l = MAX_FILE_LEN + 1 - length l.bytes.items

abbrev pub invariant-loop-bytes : goal.invariant-loop-bytes
invariant-loop-bytes g l = record {
  piece : length l.piece ≡ length l.initial.piece;
  read : g.F.Folder.tells ≡ true → l.bytes.items ≡ take (length l.bytes.items) l.initial.taken.file.bytes;
  name : l.taken.name ≡ l.initial.taken.name;
  same : g.F.Folder.tells ≡ true → l.taken ≡ l.initial.taken;
  port : g.F.Folder.tells ≡ true → SamePort (g.F.Folder.port l.initial.folder) (g.F.Folder.port l.folder);
  count : g.F.Folder.count l.folder ≡ g.F.Folder.count l.initial.folder;
}
