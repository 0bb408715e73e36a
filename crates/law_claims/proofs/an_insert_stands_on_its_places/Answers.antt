use Rattle.law_claims.proofs.Outcomes.{counted_stands}
use Rattle.law_claims.proofs.an_insert_stands_on_its_places.Goals as goal

pub returns : goal.returns
returns c name columns tuples n basis db others counts among leaves = counted_stands db others basis leaves name columns tuples n counts among
