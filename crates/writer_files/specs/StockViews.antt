-- A writer's files as contracts see them.
use Rattle.dir_files.specs.declared.folder.Folder.{Ghosts as FolderGhosts}
use Rattle.hr_base.specs.declared.name.Named.{Ghosts as NamedGhosts}
use Rattle.writer_files.specs.declared.files.WriterFiles.{WriterFiles}
use Rattle.writer_files.specs.Stocks.{Stock}

module _ {F File : Type 0} {g : FolderGhosts F File} {h : NamedGhosts File} where
  -- the port as it is
  abbrev pub stock_port : WriterFiles F File g h → F
  stock_port files = files.port

  abbrev pub stock : WriterFiles F File g h → Stock
  stock files = record {
    port = g.port files.port;
    taking = files.taking;
    full = files.full.items;
    fresh = files.fresh;
  }
