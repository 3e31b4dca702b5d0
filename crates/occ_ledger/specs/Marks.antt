-- What a ledger keeps of a record, as the definitions of `gc_event` have it.
use Rattle.std.specs.Prelude.{Option, Some, None}
use Rattle.hr_base.specs.declared.name.ChunkName.{ChunkName}
use Rattle.hr_base.specs.Entries.{key_at}
use Rattle.record_format.specs.declared.record.Record.{Record}
use Rattle.gc_event.specs.Notes.{Identity, Note, identity_of}
use Rattle.gc_event.specs.Notes as notes
use Rattle.occ_ledger.specs.declared.mark.Mark.{Mark}
use Rattle.occ_ledger.specs.declared.mark.Mark.TheVariants.{Own, Dead}

abbrev pub identity_in : Mark → Identity
identity_in (Own content) = identity_of content
identity_in (Dead seq prefix key class) = record { seq = seq.0; class = class; key = key_at prefix key }

-- the record, where it was told by an event of its own kind
abbrev pub content_in : Mark → Option Record
content_in (Own content) = Some content
content_in (Dead seq prefix key class) = None

abbrev pub note_in : Mark × ChunkName → Note
note_in (Own content, chunk) = notes.Own content chunk
note_in (Dead seq prefix key class, chunk) = notes.Dead (record { seq = seq.0; class = class; key = key_at prefix key }) chunk
