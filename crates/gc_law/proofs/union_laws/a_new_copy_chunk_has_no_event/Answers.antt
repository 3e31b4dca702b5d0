use Rattle.gc_law.proofs.ApartLaws.{new_closed}
use Rattle.gc_law.proofs.union_laws.a_new_copy_chunk_has_no_event.Goals as goal

pub returns : goal.returns
returns g = new_closed
