use Rattle.std.proofs.Common.{ap, inl, subst}
use Rattle.chunk_read.specs.declared.refusal.ReadRefusal.TheVariants.{Damaged}
use Rattle.chunk_read.specs.Readings.{IsRead}
use Rattle.chunk_read.proofs.Reading.{damaged_here, torn_undamaged}
use Rattle.chunk_read.proofs.chunk.read_chunk.Goals as goal

pub returns-in-Torn-clause-exact : goal.returns-in-Torn-clause-exact
returns-in-Torn-clause-exact c = λ at damaged.
    let read = subst (IsRead c.args.class 0 c.args.bytes.now c.in_ok-found.found.records.items) c.in-Torn.is c.in_ok-found.ensures in
    torn_undamaged c.args.class c.args.bytes.now c.in_ok-found.found.records.items c.in-Torn.rest at read damaged

pub returns-in-Damaged-clause-exact : goal.returns-in-Damaged-clause-exact
returns-in-Damaged-clause-exact c = λ at damaged.
    let read = subst (IsRead c.args.class 0 c.args.bytes.now c.in_ok-found.found.records.items) c.in-Damaged.is c.in_ok-found.ensures in
    inl (ap Damaged (damaged_here c.args.class c.args.bytes.now c.in_ok-found.found.records.items c.in-Damaged.at at read damaged))
