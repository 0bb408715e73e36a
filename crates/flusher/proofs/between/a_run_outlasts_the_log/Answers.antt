use Rattle.flusher.proofs.Outlasting.{outlasts}
use Rattle.flusher.proofs.between.a_run_outlasts_the_log.Goals as goal

pub returns : goal.returns
returns c = outlasts
