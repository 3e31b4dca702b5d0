-- What is stale, live and retired in a book. Everything here is a scan over its two lists.
use Rattle.std.specs.Prelude.{ℕ, ◌==◌, ◌&&◌, Bool, true, false, not, nat_lt, List, [], ◌∷◌, length, count_by, sum_by, Option, Some, None, if◌then◌else◌}
use Rattle.std.specs.List.{list_any}
use Rattle.hr_base.specs.declared.name.ChunkName.{ChunkName}
use Rattle.hr_base.specs.declared.name.Class.{Class}
use Rattle.hr_base.specs.declared.name.Class.TheVariants.{Value, Tomb, Clear}
use Rattle.hr_base.specs.Entries.{Key, is_key}
use Rattle.hr_base.specs.NameTests.{is_name}
use Rattle.record_format.specs.declared.record.Record.{Record}
use Rattle.record_format.specs.Spelling.{seq_of, spelling}
use Rattle.gc_event.specs.Notes.{Identity, Note, concerns, id_of, number_of}
use Rattle.gc_event.specs.Books.{Book, Entry}

abbrev pub is_value_class : Class → Bool
is_value_class Value = true
is_value_class Tomb = false
is_value_class Clear = false

abbrev pub is_clear_class : Class → Bool
is_clear_class Value = false
is_clear_class Tomb = false
is_clear_class Clear = true

abbrev pub is_value : Identity → Bool
is_value id = is_value_class id.class

abbrev pub is_clear : Identity → Bool
is_clear id = is_clear_class id.class

-- ---- what is stale

-- a present value or tombstone of the key has a greater number
abbrev pub is_passed : List Entry → Key → ℕ → Bool
is_passed present k seq = list_any (λ o. not (is_clear o.id) && is_key k o.id.key && nat_lt seq o.id.seq) present

-- the present values of a key with a number below that of a present value or tombstone of it
abbrev pub stale : Book → Key → ℕ
stale b k = count_by (λ e. is_value e.id && is_key k e.id.key && is_passed b.present k e.id.seq) b.present

-- a present prefix tombstone of the prefix has a greater number
abbrev pub is_passed_under : List Entry → ℕ → ℕ → Bool
is_passed_under present prefix seq = list_any (λ o. is_clear o.id && (o.id.key.prefix == prefix) && nat_lt seq o.id.seq) present

-- the present values of a prefix with a number below that of a present prefix tombstone of it
abbrev pub stale_prefix : Book → ℕ → ℕ
stale_prefix b prefix = count_by (λ e. is_value e.id && (e.id.key.prefix == prefix) && is_passed_under b.present prefix e.id.seq) b.present

-- ---- what is live

-- no event that touches the key has a greater number
abbrev pub is_greatest : List Note → Key → ℕ → Bool
is_greatest told k seq = not (list_any (λ n. concerns (id_of n) k && nat_lt seq (number_of n)) told)

-- no prefix tombstone of the prefix has a greater number, no dead one either
abbrev pub is_newest : List Note → ℕ → ℕ → Bool
is_newest told prefix seq = not (list_any (λ n. is_clear (id_of n) && ((id_of n).key.prefix == prefix) && nat_lt seq (number_of n)) told)

-- a value of the key with a smaller number is present
abbrev pub has_older : List Entry → Key → ℕ → Bool
has_older present k seq = list_any (λ o. is_value o.id && is_key k o.id.key && nat_lt o.id.seq seq) present

-- a value of the prefix with a smaller number is present
abbrev pub has_older_under : List Entry → ℕ → ℕ → Bool
has_older_under present prefix seq = list_any (λ o. is_value o.id && (o.id.key.prefix == prefix) && nat_lt o.id.seq seq) present

-- a value decides its key; a tombstone or prefix tombstone does, and has something older to hide
abbrev pub is_needed : Class → Book → Identity → Bool
is_needed Value b id = is_greatest b.told id.key id.seq
is_needed Tomb b id = is_greatest b.told id.key id.seq && has_older b.present id.key id.seq
is_needed Clear b id = is_newest b.told id.key.prefix id.seq && has_older_under b.present id.key.prefix id.seq

-- it is its record's place, and is needed
abbrev pub is_live : Book → Entry → Bool
is_live b e = e.place && is_needed e.id.class b e.id

-- how many bytes its record has; what was told as dead is never counted
abbrev pub content_length : Option Record → ℕ
content_length None = 0
content_length (Some r) = length (spelling r)

-- the bytes of a chunk's live occurrences
abbrev pub live_bytes : Book → ChunkName → ℕ
live_bytes b chunk = sum_by (λ e. if is_name e.chunk chunk && is_live b e then content_length e.content else 0) b.present

-- a record among others, by number
abbrev pub by_number : Record → List Record → List Record
by_number r [] = r ∷ []
by_number r (x ∷ xs) = if nat_lt (seq_of x) (seq_of r) then x ∷ by_number r xs else r ∷ x ∷ xs

abbrev pub with_content : Option Record → List Record → List Record
with_content None rs = rs
with_content (Some r) rs = by_number r rs

abbrev pub live_among : Book → ChunkName → List Entry → List Record
live_among b chunk [] = []
live_among b chunk (e ∷ es) = if is_name e.chunk chunk && is_live b e then with_content e.content (live_among b chunk es) else live_among b chunk es

-- the live records of a chunk, by number
abbrev pub live_records : Book → ChunkName → List Record
live_records b chunk = live_among b chunk b.present

-- ---- what is retired

-- the record of the number is live
abbrev pub lives : Book → ℕ → Bool
lives b seq = list_any (λ e. (e.id.seq == seq) && is_live b e) b.present

-- how many tombstones and prefix tombstones are live before, and not afterwards
abbrev pub lapsed : Book → Book → ℕ
lapsed before after = count_by (λ e. not (is_value e.id) && is_live before e && not (lives after e.id.seq)) before.present
