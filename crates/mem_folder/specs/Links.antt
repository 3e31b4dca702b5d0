-- How a chain of nodes is seen as a list, and what holds at each node.
use Rattle.std.specs.Prelude.{◌≡◌, true, List, [], ◌∷◌, ⊤}
use Rattle.hr_base.specs.declared.name.ChunkName.{ChunkName}
use Rattle.hr_base.specs.Names.{IsChunkName}
use Rattle.mem_folder.specs.declared.chain.Slot.{Slot}
use Rattle.mem_folder.specs.declared.chain.Link.{Link}
use Rattle.mem_folder.specs.declared.chain.Link.TheVariants.{End, More}
use Rattle.mem_folder.specs.Memory.{has_name}
use Rattle.mem_folder.specs.Orders.{ComesBefore}

-- the slots in order
abbrev pub slots_of : Link → List Slot
slots_of End = []
slots_of (More slot rest) = slot ∷ rest.value

-- the name is a chunk name, and comes before those of the nodes behind
abbrev pub IsTidy : Link → Type 0
IsTidy End = ⊤
IsTidy (More slot rest) =
    IsChunkName slot.name × ((other : ChunkName) → has_name rest.value other ≡ true → ComesBefore slot.name other)
