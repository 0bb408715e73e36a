use Rattle.law_histories.proofs.OneOutcome.{outcome_same}
use Rattle.law_histories.proofs.one_tree.one_tree_has_one_outcome.Goals as goal

pub returns : goal.returns
returns c = λ a b db e. outcome_same a b e db
