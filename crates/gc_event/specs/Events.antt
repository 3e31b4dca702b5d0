-- Events: their bounds, and what a list of them tells of records.
use Rattle.std.specs.Prelude.{◌≡◌, ◌≤◌, List, [], ◌∷◌, length, Option, Some, None}
use Rattle.hr_base.specs.declared.limits.TheConstants.{MAX_FILE_LEN, MAX_KEY_LEN}
use Rattle.hr_base.specs.declared.name.ChunkName.{ChunkName}
use Rattle.hr_base.specs.declared.name.Class.{Class}
use Rattle.hr_base.specs.declared.name.Class.TheVariants as class
use Rattle.hr_base.specs.Entries.{key_at}
use Rattle.hr_base.specs.Names.{IsChunkName, TellsNoOther, class_of_kind}
use Rattle.hr_base.specs.Records.{IsSeq}
use Rattle.record_format.specs.declared.record.Record.TheVariants as rec
use Rattle.record_format.specs.Spelling.{IsRecord}
use Rattle.gc_event.specs.declared.event.Event.{Event}
use Rattle.gc_event.specs.declared.event.Event.TheVariants as event
use Rattle.gc_event.specs.Notes.{Note, Own, Dead}

-- ---- bounds

-- a chunk that records of the class may stand in
pub record TakesClass (chunk : ChunkName) (class : Class) : Type 0 where
  pub name : IsChunkName chunk
  pub kind : class_of_kind chunk.kind ≡ class

-- An event that may be told, where a file tells its name, or none, by this: its record has a spelling and stands in a chunk
-- of its class; a sealed file has at most the greatest length, and no other name than the Seal's.
abbrev pub IsEvent : {File : Type 0} → (File → Option ChunkName) → Event File → Type 0
IsEvent told (event.Value seq prefix key value chunk) = IsRecord (rec.Value seq prefix key value) × TakesClass chunk class.Value
IsEvent told (event.Tomb seq prefix key chunk) = IsRecord (rec.Tomb seq prefix key) × TakesClass chunk class.Tomb
IsEvent told (event.Clear prefix seq chunk) = IsRecord (rec.Clear prefix seq) × TakesClass chunk class.Clear
IsEvent told (event.Dead seq prefix key class len chunk) = IsSeq seq.0 × (length key ≤ MAX_KEY_LEN) × TakesClass chunk class
IsEvent told (event.Seal name file size) = IsChunkName name × (size ≤ MAX_FILE_LEN) × TellsNoOther (told file) name

-- ---- what is told of records

-- what an event tells of a record; a Seal tells nothing of one
abbrev pub note_of : {File : Type 0} → Event File → Option Note
note_of (event.Value seq prefix key value chunk) = Some (Own (rec.Value seq prefix key value) chunk)
note_of (event.Tomb seq prefix key chunk) = Some (Own (rec.Tomb seq prefix key) chunk)
note_of (event.Clear prefix seq chunk) = Some (Own (rec.Clear prefix seq) chunk)
note_of (event.Dead seq prefix key class len chunk) = Some (Dead (record { seq = seq.0; class = class; key = key_at prefix key }) chunk)
note_of (event.Seal name file size) = None

abbrev pub with_note : Option Note → List Note → List Note
with_note None ns = ns
with_note (Some n) ns = n ∷ ns

-- the record events of a list, in order
abbrev pub notes_of : {File : Type 0} → List (Event File) → List Note
notes_of [] = []
notes_of (e ∷ es) = with_note (note_of e) (notes_of es)
