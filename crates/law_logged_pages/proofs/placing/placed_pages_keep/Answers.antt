use Rattle.law_logged_pages.proofs.Placement.{placed_keep}
use Rattle.law_logged_pages.proofs.placing.placed_pages_keep.Goals as goal

pub returns : goal.returns
returns c = λ run first flushed groups base s placed log. placed_keep first flushed groups base s placed run log
