use Rattle.record_format.proofs.StepLaws.{spelled_again, torn_exactly, damaged_exactly}
use Rattle.record_format.proofs.reading.decode.Goals as goal

pub returns-clause-again : goal.returns-clause-again
returns-clause-again c = spelled_again c.args.class c.args.bytes.now c.first_step.result c.first_step.ensures

pub returns-clause-torn : goal.returns-clause-torn
returns-clause-torn c = torn_exactly c.args.class c.args.bytes.now c.first_step.result c.first_step.ensures

pub returns-clause-damaged : goal.returns-clause-damaged
returns-clause-damaged c = damaged_exactly c.args.class c.args.bytes.now c.first_step.result c.first_step.ensures
