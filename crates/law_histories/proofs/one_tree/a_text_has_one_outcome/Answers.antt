use Rattle.law_histories.proofs.Statements.{one_tree}
use Rattle.law_histories.proofs.OneOutcome.{outcome_same}
use Rattle.law_histories.proofs.one_tree.a_text_has_one_outcome.Goals as goal

pub returns : goal.returns
returns c = λ text a b db p q. outcome_same a b (one_tree text a b p q) db
