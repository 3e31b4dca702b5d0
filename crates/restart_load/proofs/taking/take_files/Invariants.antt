use Rattle.std.proofs.Common.{◌≡◌, true, false, All, map, take, vec_capacity}
use Rattle.dir_files.specs.Faults.{CountsFault}
use Rattle.dir_files.specs.Files.{IsDurable}
use Rattle.restart_load.specs.Taking.{HasTaken}
use Rattle.restart_load.proofs.taking.take_files.Given as goal

abbrev pub invariant-loop-name : goal.invariant-loop-name
invariant-loop-name g l = record {
  taken : g.F.Folder.tells ≡ true → HasTaken (g.F.Folder.port l.initial.folder) (g.F.Folder.port l.folder) l.files.items;
  durable : g.F.Folder.tells ≡ true → All (λ taken. IsDurable taken.file) l.files.items;
  names : map (λ taken. taken.name) l.files.items ≡ take l.name-index l.names;
  room : vec_capacity l.files ≡ vec_capacity l.initial.files;
  counts : CountsFault false (g.F.Folder.count l.initial.folder) (g.F.Folder.count l.folder);
}
