use Rattle.record_format.proofs.SplitLaws.{none_split, record_splits_off}
use Rattle.record_format.proofs.laws.first_record_splits_off.Goals as goal

pub returns-clause-more : goal.returns-clause-more
returns-clause-more c = λ class bytes more rest r rs. record_splits_off class bytes r more rs rest

pub returns-clause-none : goal.returns-clause-none
returns-clause-none c = none_split
