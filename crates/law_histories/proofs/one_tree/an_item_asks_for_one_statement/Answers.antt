use Rattle.law_histories.proofs.Settings.{asked_one}
use Rattle.law_histories.proofs.one_tree.an_item_asks_for_one_statement.Goals as goal

pub returns : goal.returns
returns c = λ s a b past p q. asked_one s a b past p q
