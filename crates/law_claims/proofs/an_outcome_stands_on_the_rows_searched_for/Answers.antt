use Rattle.law_claims.proofs.Outcomes.{search_stands}
use Rattle.law_claims.proofs.an_outcome_stands_on_the_rows_searched_for.Goals as goal

pub returns : goal.returns
returns c statement basis db others search writes is leaves = search_stands db others basis leaves statement search writes is
