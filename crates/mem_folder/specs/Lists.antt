-- A list of files, each a name and its bytes.
use Rattle.std.specs.Prelude.{◌≡◌, ℕ, List, Vec, find}
use Rattle.std.specs.Option.{option_map}
use Rattle.std.specs.declared.alloc.Global.{Global}
use Rattle.hr_base.specs.declared.name.ChunkName.{ChunkName}
use Rattle.hr_base.specs.NameTests.{is_name}
use Rattle.dir_files.specs.Images.{Image, durable_files}
use Rattle.mem_folder.specs.declared.chain.Slot.{Slot}
use Rattle.mem_folder.specs.Memory.{resting_entry, entry_at}

-- the bytes beside the first entry of each name
abbrev pub image_of : List (ChunkName × Vec ℕ Global) → Image
image_of files name = option_map (λ file. file.1.items) (find (λ file. is_name name file.0) files)

-- the slots hold this image, and nothing else is known
abbrev pub HoldsImage : List Slot → Image → Type 0
HoldsImage slots image = (name : ChunkName) → entry_at slots name ≡ resting_entry (durable_files image name)
