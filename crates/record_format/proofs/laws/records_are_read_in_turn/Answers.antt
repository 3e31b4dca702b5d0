use Rattle.record_format.proofs.SplitLaws.{begins_with_none, begins_with_more, begins_and_ends, begins_before}
use Rattle.record_format.proofs.laws.records_are_read_in_turn.Goals as goal

pub returns-clause-start : goal.returns-clause-start
returns-clause-start c = begins_with_none

pub returns-clause-more : goal.returns-clause-more
returns-clause-more c = λ class bytes rest more rs r. begins_with_more class bytes rs rest r more

pub returns-clause-end : goal.returns-clause-end
returns-clause-end c = λ class bytes rest rs. begins_and_ends class bytes rs rest

pub returns-clause-place : goal.returns-clause-place
returns-clause-place c = λ class bytes rest rs. begins_before class bytes rs rest
