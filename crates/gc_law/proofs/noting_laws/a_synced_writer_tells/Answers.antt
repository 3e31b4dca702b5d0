use Rattle.gc_law.proofs.SyncingLaws.{tell_synced, tell_sealed}
use Rattle.gc_law.proofs.noting_laws.a_synced_writer_tells.Goals as goal

pub returns-clause-noted : goal.returns-clause-noted
returns-clause-noted g w t es a h whole syncs of_part = tell_synced w t es a h whole syncs of_part

pub returns-clause-sealed : goal.returns-clause-sealed
returns-clause-sealed g w t es a name file h none there durable seals = tell_sealed w t es a name file h none there durable seals
