-- Whether a statement makes changes is said by its tree, so whatever an item's text is read as, it makes them or none.
use Rattle.std.proofs.Common.{◌≡◌, ℕ, List, true, sym, subst}
use Rattle.inno_types.specs.declared.stmt.Stmt.{Stmt}
use Rattle.inno_types.specs.declared.stmt.Stmt.TheVariants as stmt
use Rattle.inno_model.specs.declared.event.Event.{Event}
use Rattle.inno_model.specs.Past.{did, begins_txn}
use Rattle.sql_grammar.specs.Grammar.{Spells}
use Rattle.sql_history.specs.Items.{Asks}
use Rattle.sql_history.specs.Legal.{ChangesBy}
use Rattle.law_histories.specs.Trees.{StmtTree, tree_of}
use Rattle.law_histories.specs.Trees as tree
use Rattle.law_histories.proofs.Statements.{one_tree}

-- a statement of this tree makes changes
abbrev TreeChanges : ℕ → List Event → StmtTree → Type 0
TreeChanges s past (tree.Update table sets condition) = Unit {0}
TreeChanges s past (tree.Delete table condition) = Unit {0}
TreeChanges s past (tree.Other (stmt.Insert table columns tuples)) = Unit {0}
TreeChanges s past (tree.Other (stmt.CreateTable table if_not_exists definitions)) = did begins_txn s past ≡ true
TreeChanges s past other = ⊥

to_tree : (s : ℕ) (past : List Event) (a : Stmt) → ChangesBy s a past → TreeChanges s past (tree_of a)
to_tree s past (stmt.Insert table columns tuples) changes = tt
to_tree s past (stmt.Update table sets condition) changes = tt
to_tree s past (stmt.Delete table condition) changes = tt
to_tree s past (stmt.CreateTable table if_not_exists definitions) changes = changes
to_tree s past other changes = absurd changes

from_tree : (s : ℕ) (past : List Event) (a : Stmt) → TreeChanges s past (tree_of a) → ChangesBy s a past
from_tree s past (stmt.Insert table columns tuples) changes = tt
from_tree s past (stmt.Update table sets condition) changes = tt
from_tree s past (stmt.Delete table condition) changes = tt
from_tree s past (stmt.CreateTable table if_not_exists definitions) changes = changes
from_tree s past other changes = absurd changes

-- both are read from the text of one item
pub changes_same : (s : ℕ) (past : List Event) (a b : Stmt) → Asks Spells s a past → Asks Spells s b past → ChangesBy s b past → ChangesBy s a past
changes_same s past a b p q changes =
    let same_text : p.0 ≡ q.0 = cc in
    let same = one_tree p.0 a b p.2 (subst (λ (text : List ℕ). Spells text b) (sym same_text) q.2) in
    from_tree s past a (subst (TreeChanges s past) (sym same) (to_tree s past b changes))
