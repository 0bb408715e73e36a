use Rattle.law_logged_pages.proofs.Placement.{batch_outlasts}
use Rattle.law_logged_pages.proofs.placing.a_batch_outlasts_the_log.Goals as goal

pub returns : goal.returns
returns c = batch_outlasts
