use Rattle.law_logged_pages.proofs.Staged.{staged_keeps}
use Rattle.law_logged_pages.proofs.placing.a_staged_batch_keeps.Goals as goal

pub returns : goal.returns
returns c = λ batch before s is done. staged_keeps before s batch is done
