use Rattle.law_logged_pages.proofs.Leading.{stage_leads_on}
use Rattle.law_logged_pages.proofs.stages.a_stage_leads_on.Goals as goal

pub returns : goal.returns
returns c = stage_leads_on
