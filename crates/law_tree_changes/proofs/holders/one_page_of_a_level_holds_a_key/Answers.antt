use Rattle.law_tree_changes.proofs.Held.{one_holder}
use Rattle.law_tree_changes.proofs.holders.one_page_of_a_level_holds_a_key.Goals as goal

pub returns : goal.returns
returns c = λ n pages root lows tops level under key p q tree at one other. one_holder n pages root lows tops level under key p q tree at one other
