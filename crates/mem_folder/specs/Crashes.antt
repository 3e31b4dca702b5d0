-- What a crash leaves of a port.
use Rattle.std.specs.Prelude.{◌≡◌, ℕ, true, false, ◌↔◌, List, All, AllPairs, Contains, slice_get, Some, None}
use Rattle.std.specs.Option.{option_map}
use Rattle.hr_base.specs.declared.name.ChunkName.{ChunkName}
use Rattle.hr_base.specs.declared.limits.Pick.{Pick}
use Rattle.hr_base.specs.Names.{IsChunkName}
use Rattle.dir_files.specs.Ports.{Port, SamePort, is_present}
use Rattle.dir_files.specs.Images.{read_of, port_of_image}
use Rattle.mem_folder.specs.declared.chain.Slot.{Slot}
use Rattle.mem_folder.specs.Durables.{durable_file}
use Rattle.mem_folder.specs.Memory.{blank, resting_entry, entry_at, has_name, memory_port}
use Rattle.mem_folder.specs.Orders.{ComesBefore}
use Rattle.mem_folder.specs.Picks.{draw_at, left_of}

-- the names of the held and the removed files, in the order of their texts
pub record IsRoll (port : Port) (names : List ChunkName) : Type 0 where
  pub listed : (name : ChunkName) → Contains names name ↔ (is_present port name ≡ true)
  pub rising : AllPairs ComesBefore names
  pub valid : All IsChunkName names

-- what is left of each name on the roll goes by the draw at its place; nothing else is there, and all that is there is
-- durable
pub record CrashesTo (pick : Pick) (old new : Port) : Type 0 where
  pub names : List ChunkName
  pub roll : IsRoll old names
  pub left : (place : ℕ) (name : ChunkName) → slice_get names place ≡ Some name → read_of new name ≡ left_of pick (draw_at pick place) (old.held name) (old.gone name)
  pub others : (name : ChunkName) → is_present old name ≡ false → read_of new name ≡ None
  pub rest : SamePort (port_of_image (read_of new)) new

-- the same of slots
pub record LeavesSlots (pick : Pick) (old new : List Slot) : Type 0 where
  pub names : List ChunkName
  pub roll : IsRoll (memory_port old) names
  pub left : (place : ℕ) (name : ChunkName) → slice_get names place ≡ Some name → entry_at new name ≡ resting_entry (option_map durable_file (left_of pick (draw_at pick place) (entry_at old name).held (entry_at old name).gone))
  pub others : (name : ChunkName) → is_present (memory_port old) name ≡ false → entry_at new name ≡ blank
  pub kept : (other : ChunkName) → has_name new other ≡ has_name old other
