use Rattle.gc_law.proofs.RestartingLaws.{found_opens, opened_tells}
use Rattle.gc_law.proofs.telling_laws.what_is_found_opens.Goals as goal

pub returns-clause-opens : goal.returns-clause-opens
returns-clause-opens g p es b base found = found_opens p es b base found

pub returns-clause-tells : goal.returns-clause-tells
returns-clause-tells g w es b base found nothing = opened_tells w es b (found_opens w.partition es b base found) nothing
