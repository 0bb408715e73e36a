use Rattle.law_claims.proofs.Outcomes.{refusal_stands}
use Rattle.law_claims.proofs.a_refusal_stands_on_the_row_that_is_there.Goals as goal

pub returns : goal.returns
returns c name columns tuple error basis db others keyed unrefused refused at leaves =
    refusal_stands db others basis leaves keyed name columns tuple error unrefused refused at
