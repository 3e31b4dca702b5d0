-- How a refusal of the folder is handed on.
use Rattle.dir_files.specs.declared.folder.FolderRefusal.{FolderRefusal}
use Rattle.dir_files.specs.declared.folder.FolderRefusal.TheVariants.{Memory, Fault}
use Rattle.partition_writer.specs.declared.refusal.WriteRefusal.{WriteRefusal}
use Rattle.partition_writer.specs.declared.refusal.WriteRefusal.TheVariants.{Memory as OutOfMemory, DiskFault}

abbrev pub write_refusal : FolderRefusal → WriteRefusal
write_refusal Memory = OutOfMemory
write_refusal Fault = DiskFault
