use Rattle.law_logged_pages.proofs.Leading.{stage_stays}
use Rattle.law_logged_pages.proofs.stages.a_stage_stays.Goals as goal

pub returns : goal.returns
returns c = stage_stays
