use Rattle.law_logged_pages.proofs.Spared.{image_says, image_has}
use Rattle.law_logged_pages.proofs.heads.an_image_says_its_run.Goals as goal

pub returns-clause-says : goal.returns-clause-says
returns-clause-says c = image_says

pub returns-clause-found : goal.returns-clause-found
returns-clause-found c = image_has
