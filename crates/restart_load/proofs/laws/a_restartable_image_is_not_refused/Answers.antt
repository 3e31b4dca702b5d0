use Rattle.restart_load.proofs.LoadLaws.{not_refused}
use Rattle.restart_load.proofs.laws.a_restartable_image_is_not_refused.Goals as goal

pub returns : goal.returns
returns c = λ image partitions e taken refused speaks. not_refused image partitions taken e refused speaks
