use Rattle.std.proofs.Common.{◌≡◌, ◌≤◌, ◌<◌, ℕ, true, All, length, map, take, Some, slice_get, vec_capacity}
use Rattle.hr_base.specs.declared.limits.TheConstants.{MAX_FILE_LEN}
use Rattle.dir_files.specs.Ports.{SamePort}
use Rattle.restart_load.specs.Reading.{IsLarge}
use Rattle.restart_load.specs.Taking.{TakenFile, read_bytes}
use Rattle.restart_load.proofs.reading.read_files.Given as goal

abbrev pub invariant-loop-taken : goal.invariant-loop-taken
invariant-loop-taken g l = record {
  same_names : map (λ taken. taken.name) l.files ≡ map (λ taken. taken.name) l.initial.files;
  same : g.F.Folder.tells ≡ true → l.files ≡ l.initial.files;
  read : g.F.Folder.tells ≡ true → l.contents.items ≡ map read_bytes (take l.taken-index l.initial.files);
  names : map (λ one. one.name) l.contents.items ≡ map (λ taken. taken.name) (take l.taken-index l.initial.files);
  small : All (λ one. length one.bytes ≤ MAX_FILE_LEN) l.contents.items;
  none : g.F.Folder.tells ≡ true → (i : ℕ) (other : TakenFile) → i < l.taken-index → slice_get l.initial.files i ≡ Some other → ¬ IsLarge other;
  piece : length l.piece ≡ length l.initial.piece;
  many : length l.contents.items ≡ l.taken-index;
  room : vec_capacity l.contents ≡ length l.initial.files;
  port : g.F.Folder.tells ≡ true → SamePort (g.F.Folder.port l.initial.folder) (g.F.Folder.port l.folder);
  count : g.F.Folder.count l.folder ≡ g.F.Folder.count l.initial.folder;
}
