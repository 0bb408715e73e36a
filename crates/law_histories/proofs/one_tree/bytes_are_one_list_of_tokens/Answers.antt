use Rattle.law_histories.proofs.Tokens.{tokens_one}
use Rattle.law_histories.proofs.one_tree.bytes_are_one_list_of_tokens.Goals as goal

pub returns : goal.returns
returns c = λ bytes a b p q. tokens_one p q
