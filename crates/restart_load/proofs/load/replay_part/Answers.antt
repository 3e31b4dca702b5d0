use Rattle.std.proofs.Common.{refl, rules}
use Rattle.restart_load.proofs.load.replay_part.Goals as goal

pub returns-in-Err-Clash-clause-refused : goal.returns-in-Err-Clash-clause-refused
returns-in-Err-Clash-clause-refused c = (refl, c.in-Err-Clash.ensures.clash c.in-Err-Clash.seq (search rules))
