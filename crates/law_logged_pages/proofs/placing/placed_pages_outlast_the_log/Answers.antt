use Rattle.law_logged_pages.proofs.Placement.{outlast}
use Rattle.law_logged_pages.proofs.placing.placed_pages_outlast_the_log.Goals as goal

pub returns : goal.returns
returns c = outlast
