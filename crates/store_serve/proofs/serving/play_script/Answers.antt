use Rattle.store_serve.proofs.ScriptLaws.{unfit_script}
use Rattle.store_serve.proofs.serving.play_script.Goals as goal

pub returns-in-Ok-clause-spared : goal.returns-in-Ok-clause-spared
returns-in-Ok-clause-spared g c unfit = absurd (unfit_script _ _ _ unfit c.in-Ok.ensures.found)
