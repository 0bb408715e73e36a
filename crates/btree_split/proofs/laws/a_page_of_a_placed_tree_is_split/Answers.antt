use Rattle.btree_split.proofs.Placing as placing
use Rattle.btree_split.proofs.laws.a_page_of_a_placed_tree_is_split.Goals as goal

pub returns-clause-placed : goal.returns-clause-placed
returns-clause-placed c = λ tree old new sought key i j u q placed parent inside taken splits.
    placing.placed_split tree old sought u placed parent j inside new key i q splits taken

pub returns-clause-same_pairs : goal.returns-clause-same_pairs
returns-clause-same_pairs c = λ tree old new sought key i j u q placed parent inside taken splits.
    (placing.done tree old sought u placed parent j inside new key i q splits taken).pairs

pub returns-clause-levels : goal.returns-clause-levels
returns-clause-levels c = λ tree old new sought key i j u q placed parent inside taken splits.
    placing.stands_split tree old sought u placed parent j inside new key i q splits taken

pub returns-clause-held : goal.returns-clause-held
returns-clause-held c = λ tree old new sought key i j u p q level other splits held xs ys whole.
    placing.half_holds tree old new sought key i j u p q level other splits held xs ys whole
