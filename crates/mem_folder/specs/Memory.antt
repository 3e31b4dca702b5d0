-- What a port in memory knows of each name, and how that is seen as a port.
use Rattle.std.specs.Prelude.{◌≡◌, Bool, true, false, ◌&&◌, ◌||◌, not, List, [], ◌∷◌, Option, Some, None, is_some, if◌then◌else◌}
use Rattle.std.specs.Option.{option_map}
use Rattle.hr_base.specs.declared.name.ChunkName.{ChunkName}
use Rattle.hr_base.specs.NameTests.{is_name}
use Rattle.dir_files.specs.Files.{FileState, named_file, ChangesAt}
use Rattle.dir_files.specs.Ports.{Port, either_file}
use Rattle.mem_folder.specs.declared.chain.Entry.{Entry}
use Rattle.mem_folder.specs.declared.chain.Slot.{Slot}

-- nothing is known
abbrev pub blank : Entry
blank = record { held = None; gone = None; lent = false; foreign = false; created = false; fixed = false }

-- a file is held, or none, and nothing else is known
abbrev pub resting_entry : Option FileState → Entry
resting_entry file = record { held = file; gone = None; lent = false; foreign = false; created = false; fixed = false }

-- a handle was given out for a new file
abbrev pub created_entry : Entry
created_entry = record { held = None; gone = None; lent = true; foreign = false; created = true; fixed = false }

-- a handle came back with this file
abbrev pub returned_entry : FileState → Entry
returned_entry file = record { held = Some file; gone = None; lent = false; foreign = true; created = false; fixed = false }

-- a handle came back, and its file was removed
abbrev pub removed_entry : FileState → Entry
removed_entry file = record { held = None; gone = Some file; lent = false; foreign = true; created = false; fixed = false }

-- the handle of the held file was given out
abbrev pub lent_entry : Entry → Entry
lent_entry entry = record { held = None; gone = entry.gone; lent = true; foreign = entry.foreign; created = entry.created; fixed = entry.fixed }

-- both are known: a file that came newly is the file of the name and no removed one can come back, one that was removed
-- newly may come back and none is held, and what is lent at one and foreign at the other is settled
abbrev pub joined : Entry → Entry → Entry
joined newer older = record {
  held = if is_some newer.gone then newer.held else either_file newer.held older.held;
  gone = if is_some newer.held then newer.gone else either_file newer.gone older.gone;
  lent = (newer.lent && not older.foreign) || (older.lent && not newer.foreign);
  foreign = (newer.foreign && not older.lent) || (older.foreign && not newer.lent);
  created = newer.created || older.created;
  fixed = (newer.fixed && not older.foreign) || (older.fixed && not newer.foreign);
}

-- after a directory sync
abbrev pub synced_entry : Entry → Entry
synced_entry entry = record {
  held = option_map named_file entry.held;
  gone = None;
  lent = entry.lent;
  foreign = entry.foreign;
  created = false;
  fixed = entry.fixed || (entry.created && entry.lent);
}

-- what is known of a name
unfoldable pub entry_at : List Slot → ChunkName → Entry
entry_at [] name = blank
entry_at (slot ∷ slots) name = if is_name name slot.name then slot.entry else entry_at slots name

-- the name is among these
unfoldable pub has_name : List Slot → ChunkName → Bool
has_name [] name = false
has_name (slot ∷ slots) name = is_name name slot.name || has_name slots name

-- what is known of one name changes, and the names stay
pub record ChangesEntry (old new : List Slot) (name : ChunkName) (entry : Entry) : Type 0 where
  pub entries : ChangesAt (entry_at old) (entry_at new) name entry
  pub names : (other : ChunkName) → has_name new other ≡ has_name old other

-- something has become known of one name, and all else stays
pub record Merges (old new : List Slot) (slot : Slot) : Type 0 where
  pub entries : ChangesAt (entry_at old) (entry_at new) slot.name (joined slot.entry (entry_at old slot.name))
  pub names : (other : ChunkName) → has_name new other ≡ (is_name other slot.name || has_name old other)

-- after a directory sync
unfoldable pub synced_slots : List Slot → List Slot
synced_slots [] = []
synced_slots (slot ∷ slots) = record { name = slot.name; entry = synced_entry slot.entry } ∷ synced_slots slots

-- the names of the held files
unfoldable pub held_names : List Slot → List ChunkName
held_names [] = []
held_names (slot ∷ slots) =
    if is_some slot.entry.held then slot.name ∷ held_names slots else held_names slots

-- what clauses see of all this
abbrev pub memory_port : List Slot → Port
memory_port slots = record {
  held = λ name. (entry_at slots name).held;
  gone = λ name. (entry_at slots name).gone;
  lent = λ name. (entry_at slots name).lent;
  foreign = λ name. (entry_at slots name).foreign;
  created = λ name. (entry_at slots name).created;
  fixed = λ name. (entry_at slots name).fixed;
}
