-- How refusals are handed on.
use Rattle.dir_files.specs.declared.folder.FolderRefusal.{FolderRefusal}
use Rattle.dir_files.specs.declared.folder.FolderRefusal.TheVariants as folder
use Rattle.restart_load.specs.declared.refusal.RestartRefusal.{RestartRefusal}
use Rattle.restart_load.specs.declared.refusal.RestartRefusal.TheVariants.{Memory, DiskFault, Partition, TooLarge, Damaged, Clash}
use Rattle.restart_load.specs.declared.ended.Ended.{Ended}
use Rattle.restart_load.specs.declared.ended.Ended.TheVariants as ended

abbrev pub refusal_of_folder : FolderRefusal → RestartRefusal
refusal_of_folder folder.Memory = Memory
refusal_of_folder folder.Fault = DiskFault

-- how a session ends whose folder was not restarted
abbrev pub ended_of_restart : RestartRefusal → Ended
ended_of_restart Memory = ended.Memory
ended_of_restart DiskFault = ended.Disk
ended_of_restart (Partition name) = ended.Load (Partition name)
ended_of_restart (TooLarge name) = ended.Load (TooLarge name)
ended_of_restart (Damaged name at) = ended.Load (Damaged name at)
ended_of_restart (Clash p seq) = ended.Load (Clash p seq)
