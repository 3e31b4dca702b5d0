use Rattle.gc_event.proofs.NoteLaws.{top_none}
use Rattle.gc_event.proofs.event_laws.where_none_touches_there_is_no_top.Goals as goal

pub returns : goal.returns
returns c = top_none
