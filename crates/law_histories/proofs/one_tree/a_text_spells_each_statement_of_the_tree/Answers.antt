use Rattle.law_histories.proofs.Respelled.{spelled_again}
use Rattle.law_histories.proofs.one_tree.a_text_spells_each_statement_of_the_tree.Goals as goal

pub returns : goal.returns
returns c = λ text a b p e. spelled_again text a b p e
