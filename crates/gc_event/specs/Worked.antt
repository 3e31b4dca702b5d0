-- A worked cycle: two puts fill a chunk, the first key is put again, and the value that still counts is copied.
use Rattle.std.specs.Prelude.{ℕ, [], ◌∷◌}
use Rattle.hr_base.specs.declared.name.ChunkName.{ChunkName}
use Rattle.hr_base.specs.declared.name.Kind.{Kind}
use Rattle.hr_base.specs.declared.name.Kind.TheVariants.{V, T, X, W}
use Rattle.hr_base.specs.Entries.{Key, key_at}
use Rattle.record_format.specs.declared.record.Record.{Record}
use Rattle.record_format.specs.declared.record.Record.TheVariants as rec
use Rattle.gc_event.specs.Notes.{Own, Dead, identity_of}
use Rattle.gc_event.specs.Books.{Book, copied_in, forgotten_in, heard_in, moved_in, new_book}

abbrev pub chunk : Kind → ℕ → ChunkName
chunk kind number = record { partition = record { 0 = 0 }; kind = kind; number = record { 0 = number } }

-- the keys a and b of map 1
abbrev pub key_a : Key
key_a = key_at 1 (97 ∷ [])

abbrev pub key_b : Key
key_b = key_at 1 (98 ∷ [])

abbrev pub put_a : ℕ → Record
put_a seq = rec.Value (record { 0 = seq }) 1 (97 ∷ []) (120 ∷ [])

abbrev pub put_b : ℕ → Record
put_b seq = rec.Value (record { 0 = seq }) 1 (98 ∷ []) (120 ∷ [])

abbrev pub tomb_a : ℕ → Record
tomb_a seq = rec.Tomb (record { 0 = seq }) 1 (97 ∷ [])

abbrev pub told : Book
told = heard_in (heard_in (heard_in new_book (Own (put_a 1) (chunk V 1))) (Own (put_b 2) (chunk V 1))) (Own (put_a 3) (chunk V 2))

abbrev pub copied : Book
copied = copied_in told 2 (chunk V 1) (chunk W 1)

abbrev pub secured : Book
secured = moved_in copied

abbrev pub removed : Book
removed = forgotten_in secured (chunk V 1)

-- and at last the key is removed, and the chunk of its value goes too
abbrev pub hidden : Book
hidden = heard_in removed (Own (tomb_a 4) (chunk T 3))

abbrev pub cleaned : Book
cleaned = forgotten_in hidden (chunk V 2)

-- or the map is cleared, and once more, by a record that is told as dead
abbrev pub clear : ℕ → Record
clear seq = rec.Clear 1 (record { 0 = seq })

abbrev pub cleared : Book
cleared = heard_in told (Own (clear 4) (chunk X 3))

abbrev pub outlived : Book
outlived = heard_in cleared (Dead (identity_of (clear 5)) (chunk X 4))
