use Rattle.law_logged_pages.proofs.Recovery.{image_recovers}
use Rattle.law_logged_pages.proofs.recovering.an_image_recovers.Goals as goal

pub returns : goal.returns
returns c = image_recovers
