use Rattle.law_flat_tree.proofs.Reading as reading
use Rattle.law_flat_tree.proofs.searches.a_leaf_tells_what_the_tree_has.Goals as goal

pub returns-clause-value_read : goal.returns-clause-value_read
returns-clause-value_read c = reading.value_read

pub returns-clause-seeking : goal.returns-clause-seeking
returns-clause-seeking c = reading.seeking

pub returns-clause-following : goal.returns-clause-following
returns-clause-following c = reading.following

pub returns-clause-right_neighbour : goal.returns-clause-right_neighbour
returns-clause-right_neighbour c = λ n pages root lows xs ys leaf tree at. reading.right_neighbour n pages root lows xs ys leaf tree at

pub returns-clause-rising : goal.returns-clause-rising
returns-clause-rising c = reading.pairs_rise
