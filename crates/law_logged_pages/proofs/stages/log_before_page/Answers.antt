use Rattle.law_logged_pages.proofs.Leading.{flushed_once}
use Rattle.law_logged_pages.proofs.stages.log_before_page.Goals as goal

pub returns : goal.returns
returns c = flushed_once
