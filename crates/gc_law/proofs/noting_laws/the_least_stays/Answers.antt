use Rattle.gc_law.proofs.LeastLaws.{least_appended, least_lost, least_created, least_synced, least_sealed}
use Rattle.gc_law.proofs.noting_laws.the_least_stays.Goals as goal

pub returns-clause-appended : goal.returns-clause-appended
returns-clause-appended g w t es x piece h appends = least_appended w t es x piece h appends

pub returns-clause-lost : goal.returns-clause-lost
returns-clause-lost g w t es x h loses = least_lost w t es x h loses

pub returns-clause-created : goal.returns-clause-created
returns-clause-created g w t es name h creates = least_created w t es name h creates

pub returns-clause-synced : goal.returns-clause-synced
returns-clause-synced g w t es a h whole syncs of_part = least_synced w t es a h whole syncs of_part

pub returns-clause-sealed : goal.returns-clause-sealed
returns-clause-sealed g w t es name file size h seals = least_sealed w t es name file size h seals
