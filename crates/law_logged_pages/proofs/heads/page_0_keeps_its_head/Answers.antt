use Rattle.law_logged_pages.proofs.Spared.{stage_spares}
use Rattle.law_logged_pages.proofs.heads.page_0_keeps_its_head.Goals as goal

pub returns : goal.returns
returns c = stage_spares
