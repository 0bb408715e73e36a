use Rattle.law_histories.proofs.Statements.{one_tree}
use Rattle.law_histories.proofs.one_tree.a_text_spells_one_tree.Goals as goal

pub returns : goal.returns
returns c = λ text a b p q. one_tree text a b p q
