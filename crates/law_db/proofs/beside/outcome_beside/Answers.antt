use Rattle.law_db.proofs.Searching.{search_beside}
use Rattle.law_db.proofs.beside.outcome_beside.Goals as goal

pub returns : goal.returns
returns c statement db changes rows search beside = search_beside db changes rows statement search beside
