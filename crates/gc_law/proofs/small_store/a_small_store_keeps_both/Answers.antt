use Rattle.gc_law.proofs.SmallStoreLaws.{small_telling, small_tells, small_kept, small_apart, small_named}
use Rattle.gc_law.proofs.small_store.a_small_store_keeps_both.Goals as goal

pub returns-clause-telling : goal.returns-clause-telling
returns-clause-telling g = small_telling

pub returns-clause-tells : goal.returns-clause-tells
returns-clause-tells g = small_tells

pub returns-clause-kept : goal.returns-clause-kept
returns-clause-kept g = small_kept

pub returns-clause-apart : goal.returns-clause-apart
returns-clause-apart g = small_apart

pub returns-clause-named : goal.returns-clause-named
returns-clause-named g = small_named
