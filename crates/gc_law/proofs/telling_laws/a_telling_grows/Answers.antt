use Rattle.gc_law.proofs.TellingLaws.{telling_noted, telling_sealed}
use Rattle.gc_law.proofs.telling_laws.a_telling_grows.Goals as goal

pub returns-clause-noted : goal.returns-clause-noted
returns-clause-noted g p es r chunk h above free = telling_noted p es h r chunk above free

pub returns-clause-sealed : goal.returns-clause-sealed
returns-clause-sealed g p es name file h free sealed own = telling_sealed p es h name file free sealed own
