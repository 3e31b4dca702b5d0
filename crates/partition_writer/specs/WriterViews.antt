-- A writer as contracts see it.
use Rattle.dir_files.specs.declared.folder.Folder.{Ghosts as FolderGhosts}
use Rattle.hr_base.specs.declared.name.Named.{Ghosts as NamedGhosts}
use Rattle.writer_files.specs.StockViews.{stock_port as files_port, stock}
use Rattle.partition_writer.specs.declared.writer.Writer.{Writer}
use Rattle.partition_writer.specs.Standing.{Standing}

module _ {F File : Type 0} {g : FolderGhosts F File} {h : NamedGhosts File} where
  -- its port as it is
  abbrev pub port_of : Writer F File g h → F
  port_of writer = files_port writer.files

  abbrev pub standing : Writer F File g h → Standing
  standing writer = record {
    partition = writer.partition;
    limits = writer.limits;
    stock = stock writer.files;
    faults = g.count (files_port writer.files);
    sound = g.sound (files_port writer.files);
    halted = writer.halted;
    lost = writer.lost;
    maps = writer.map.entries;
    records = writer.records.items;
    next = writer.next;
    next_chunk = writer.next_chunk;
  }
