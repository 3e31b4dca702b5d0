-- The list that a collector's tables stand for: what was told, and the occurrences that are present. Every change of it is a
-- function of lists here.
use Rattle.std.specs.Prelude.{ℕ, ◌==◌, ◌&&◌, Bool, true, false, not, List, [], ◌∷◌, ◌++◌, map, filter, Option, Some, None, is_some, if◌then◌else◌}
use Rattle.std.specs.List.{list_any}
use Rattle.hr_base.specs.declared.name.ChunkName.{ChunkName}
use Rattle.hr_base.specs.NameTests.{is_name}
use Rattle.record_format.specs.declared.record.Record.{Record}
use Rattle.gc_event.specs.Notes.{Identity, identity_of, Note, Own, Dead, is_own, number_of}

-- An occurrence with what a table knows of it. What was told as dead, and each copy of that, has no content. A copy waits
-- until it is secured. Of the occurrences of a record one is its place.
pub record Entry : Type 0 where
  pub id : Identity
  pub content : Option Record
  pub chunk : ChunkName
  pub waiting : Bool
  pub place : Bool

-- the record events that were told, and the occurrences that are present, each in the order in which it was entered
pub record Book : Type 0 where
  pub told : List Note
  pub present : List Entry

abbrev pub new_book : Book
new_book = record { told = []; present = [] }

-- ---- what is told

abbrev pub with_place : Bool → Entry → Entry
with_place place e = record { id = e.id; content = e.content; chunk = e.chunk; waiting = e.waiting; place = place }

abbrev pub entry_of : Note → Entry
entry_of (Own content chunk) = record { id = identity_of content; content = Some content; chunk = chunk; waiting = false; place = true }
entry_of (Dead id chunk) = record { id = id; content = None; chunk = chunk; waiting = false; place = false }

-- an event is told; one of its own kind makes its chunk the record's place
abbrev pub heard_in : Book → Note → Book
heard_in b n = record {
  told = b.told ++ n ∷ [];
  present = map (λ e. if is_own n && (e.id.seq == number_of n) then with_place false e else e) b.present ++ entry_of n ∷ [];
}

-- a Seal is told: it speaks of no record
abbrev pub heard_by : Book → Option Note → Book
heard_by b None = b
heard_by b (Some n) = heard_in b n

-- ---- copies

-- it is an occurrence of the number in the chunk
abbrev pub is_at : ℕ → ChunkName → Entry → Bool
is_at seq chunk e = (e.id.seq == seq) && is_name e.chunk chunk

-- of these the one that was entered last
abbrev pub last_in : List Entry → ℕ → ChunkName → Option Entry
last_in [] seq chunk = None
last_in (e ∷ es) seq chunk = if list_any (is_at seq chunk) es then last_in es seq chunk else if is_at seq chunk e then Some e else None

abbrev pub copy_of : Option Entry → ChunkName → List Entry
copy_of None to = []
copy_of (Some e) to = record { id = e.id; content = e.content; chunk = to; waiting = true; place = false } ∷ []

-- a copy is entered, before its append
abbrev pub copied_in : Book → ℕ → ChunkName → ChunkName → Book
copied_in b seq source to = record { told = b.told; present = b.present ++ copy_of (last_in b.present seq source) to }

-- it is a copy of a record that waits
abbrev pub is_waiting : Entry → Bool
is_waiting e = e.waiting && is_some e.content

-- one of these is such a copy of the number
abbrev pub has_copy : List Entry → ℕ → Bool
has_copy es seq = list_any (λ e. (e.id.seq == seq) && is_waiting e) es

abbrev pub settled : List Entry → List Entry → List Entry
settled all [] = []
settled all (e ∷ es) =
    record {
      id = e.id;
      content = e.content;
      chunk = e.chunk;
      waiting = false;
      place = if is_waiting e then not (has_copy es e.id.seq) else e.place && not (has_copy all e.id.seq);
    } ∷ settled all es

-- the copies are secured: of each record the copy that was entered last becomes its place
abbrev pub moved_in : Book → Book
moved_in b = record { told = b.told; present = settled b.present b.present }

-- ---- removals

-- the removal of a chunk is made good: its occurrences are not present any more
abbrev pub forgotten_in : Book → ChunkName → Book
forgotten_in b chunk = record { told = b.told; present = filter (λ e. not (is_name e.chunk chunk)) b.present }
