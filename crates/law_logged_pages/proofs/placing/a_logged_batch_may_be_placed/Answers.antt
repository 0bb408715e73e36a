use Rattle.law_logged_pages.proofs.Placement.{may_be_placed}
use Rattle.law_logged_pages.proofs.placing.a_logged_batch_may_be_placed.Goals as goal

pub returns : goal.returns
returns c = λ first flushed groups base batch before is some placed logged. may_be_placed first flushed groups base is some batch logged before placed
