use Rattle.btree_grow.proofs.Raising.{raised_placed, raised_pairs, raised_to, raised_held}
use Rattle.btree_grow.proofs.laws.a_placed_tree_is_raised.Goals as goal

pub returns-clause-placed : goal.returns-clause-placed
returns-clause-placed c = λ tree old new q placed taken raises. raised_placed tree old new q placed taken raises

pub returns-clause-same_pairs : goal.returns-clause-same_pairs
returns-clause-same_pairs c = λ tree old new q placed taken raises. raised_pairs tree old new q placed taken raises

pub returns-clause-levels : goal.returns-clause-levels
returns-clause-levels c = λ tree old new q placed taken raises. raised_to tree old new q placed taken raises

pub returns-clause-held : goal.returns-clause-held
returns-clause-held c = λ tree old new q sought placed taken raises. raised_held tree old new q placed taken raises sought
