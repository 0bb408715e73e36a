use Rattle.law_flat_tree.proofs.Raises.{raise_keeps}
use Rattle.law_flat_tree.proofs.Grown.{raise_all_inner, raise_leaf}
use Rattle.law_flat_tree.proofs.levels.a_raise_keeps_the_tree.Goals as goal

pub returns-clause-levels : goal.returns-clause-levels
returns-clause-levels c = raise_keeps

pub returns-clause-inner : goal.returns-clause-inner
returns-clause-inner c = raise_all_inner

pub returns-clause-pairs : goal.returns-clause-pairs
returns-clause-pairs c = raise_leaf
