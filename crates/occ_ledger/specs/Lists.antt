-- A ledger's lists, as the definitions of `gc_event` have them.
use Rattle.std.specs.Prelude.{Bool, true, not, map, filter, Option, Some, None}
use Rattle.hr_base.specs.declared.name.ChunkName.{ChunkName}
use Rattle.hr_base.specs.NameTests.{is_name}
use Rattle.gc_event.specs.Books.{Book, Entry}
use Rattle.gc_event.specs.Notes.{Note}
use Rattle.occ_ledger.specs.declared.lists.Notice.{Notice}
use Rattle.occ_ledger.specs.declared.lists.Spot.{Spot}
use Rattle.occ_ledger.specs.declared.lists.Lists.{Lists}
use Rattle.occ_ledger.specs.declared.seen.Seen.{Seen}
use Rattle.occ_ledger.specs.Marks.{content_in, identity_in, note_in}

abbrev pub told_in : Notice → Note
told_in n = note_in (n.mark, n.chunk)

abbrev pub entry_in : Spot → Entry
entry_in s = record { id = identity_in s.mark; content = content_in s.mark; chunk = s.chunk; waiting = s.waiting; place = s.place }

abbrev pub book_in : Lists → Book
book_in l = record { told = map told_in l.told.items; present = map entry_in l.present.items }

-- it is left once a chunk is forgotten
abbrev pub is_kept : Option ChunkName → Entry → Bool
is_kept None e = true
is_kept (Some chunk) e = not (is_name e.chunk chunk)

-- the lists, or what is left of them once a chunk is forgotten
abbrev pub book_seen : Seen → Book
book_seen v = record { told = map told_in v.told.now; present = filter (is_kept v.without) (map entry_in v.present.now) }
