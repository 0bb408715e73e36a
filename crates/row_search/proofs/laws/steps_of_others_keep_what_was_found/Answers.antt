use Rattle.row_search.proofs.Others.{found_still, way_still, searching_still}
use Rattle.row_search.proofs.laws.steps_of_others_keep_what_was_found.Goals as goal

pub returns-clause-found : goal.returns-clause-found
returns-clause-found c = found_still

pub returns-clause-way : goal.returns-clause-way
returns-clause-way c = λ schema old new search more. way_still schema search.scan.sight old new search.phase more

pub returns-clause-searching : goal.returns-clause-searching
returns-clause-searching c = searching_still
