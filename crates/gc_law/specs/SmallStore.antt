-- A small store, part by part. A put was synced and noted, and its chunk V 1 sealed; all of that was heard. The
-- collector copied the put to W 1, secured the copy, and removed V 1, which may come back. Since then the
-- writer answered another put, in V 2.
use Rattle.std.specs.Prelude.{[], ◌∷◌, List, length, true, false, Some, None, if◌then◌else◌}
use Rattle.std.specs.FinMap as map
use Rattle.hr_base.specs.declared.name.Kind.TheVariants.{V, W}
use Rattle.hr_base.specs.Entries.{Entries}
use Rattle.hr_base.specs.NameTests.{is_name}
use Rattle.dir_files.specs.Files.{FileState}
use Rattle.record_format.specs.Spelling.{spellings}
use Rattle.crash_law.specs.Accounts.{Account}
use Rattle.crash_law.specs.Commands.{command_of, maps_after}
use Rattle.crash_law.specs.Placed.{Placed}
use Rattle.crash_law.specs.Writers.{Written}
use Rattle.gc_event.specs.Notes.{Own, identity_of, occurrence}
use Rattle.gc_event.specs.Worked.{chunk, put_a, put_b}
use Rattle.gc_law.specs.CollectorFacts.{Gathered}
use Rattle.gc_law.specs.Events.{NotedEvent, RecordEvent, SealEvent}

-- the file of V 1 in its Seal, and that of W 1 after the securing
abbrev pub durable_file : FileState
durable_file = record {
  bytes = spellings (put_a 1 ∷ []);
  front = length (spellings (put_a 1 ∷ []));
  named = true;
}

-- the file of V 2, which no sync made durable
abbrev pub open_file : FileState
open_file = record { bytes = spellings (put_b 2 ∷ []); front = 0; named = false }

abbrev pub events : List NotedEvent
events =
    RecordEvent (Own (put_a 1) (chunk V 1)) ∷ SealEvent (chunk V 1) durable_file (length durable_file.bytes) ∷ []

abbrev pub record_since : Placed
record_since = record { content = put_b 2; chunk = chunk V 2 }

abbrev pub durable_maps : Entries
durable_maps = maps_after (command_of (put_a 1)) map.empty

abbrev pub account : Account
account = record {
  maps = maps_after (command_of (put_b 2)) durable_maps;
  durable = durable_maps;
  tail = command_of (put_b 2) ∷ [];
}

abbrev pub writer : Written
writer = record {
  partition = 0;
  files = λ name. if is_name name (chunk V 2) then Some open_file else None;
  gone = λ name. None;
  maps = account.maps;
  records = record_since ∷ [];
  next = 3;
  lost = false;
  taking = λ name. is_name name (chunk V 2);
}

abbrev pub collector : Gathered
collector = record {
  files = λ name. if is_name name (chunk W 1) then Some durable_file else None;
  gone = λ name. if is_name name (chunk V 1) then Some durable_file else None;
  present = occurrence (identity_of (put_a 1)) (chunk V 1) ∷ occurrence (identity_of (put_a 1)) (chunk W 1) ∷ [];
}
