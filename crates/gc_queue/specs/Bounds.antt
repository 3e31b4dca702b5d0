-- That events keep their bounds is a fact, of which there is at most one proof, so an end of a queue can carry it.
use Rattle.std.specs.Prelude.{List, All, Option, Some, None, IfSome}
use Rattle.std.specs.Coded.{Coded-set, le_prop}
use Rattle.hr_base.specs.declared.name.ChunkName.{ChunkName}
use Rattle.hr_base.specs.declared.name.Class.{Class}
use Rattle.hr_base.specs.contracts.name.ChunkName.{the_row as name_row}
use Rattle.hr_base.specs.contracts.name.Class.{the_row as class_row}
use Rattle.hr_base.specs.Names.{TellsNoOther}
use Rattle.gc_event.specs.Events.{IsEvent}
use Rattle.gc_event.specs.declared.event.Event.{Event}
use Rattle.gc_event.specs.declared.event.Event.TheVariants.{Value, Tomb, Clear, Dead, Seal}

class_set : IsSet Class
class_set = Coded-set class_row.coded

name_set : IsSet ChunkName
name_set = Coded-set name_row.coded

tells_prop : (told : Option ChunkName) (name : ChunkName) → IsProp (TellsNoOther told name)
tells_prop None name = hlevel
tells_prop (Some own) name = hlevel name_set

module _ {File : Type 0} (told : File → Option ChunkName) where
  pub event_prop : (e : Event File) → IsProp (IsEvent told e)
  event_prop (Value seq prefix key value chunk) = hlevel (le_prop, class_set, name_set)
  event_prop (Tomb seq prefix key chunk) = hlevel (le_prop, class_set, name_set)
  event_prop (Clear prefix seq chunk) = hlevel (le_prop, class_set, name_set)
  event_prop (Dead seq prefix key class len chunk) = hlevel (le_prop, class_set, name_set)
  event_prop (Seal name file size) = hlevel (le_prop, tells_prop)

  -- of each in a list
  pub events_prop : (es : List (Event File)) → IsProp (All (IsEvent told) es)
  events_prop es = hlevel event_prop

  -- of one that may be there
  pub back_prop : (e : Option (Event File)) → IsProp (IfSome e (IsEvent told))
  back_prop None = hlevel
  back_prop (Some e) = hlevel event_prop
