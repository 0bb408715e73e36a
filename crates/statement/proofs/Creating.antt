-- Whether a statement makes a table is said by its tree, so whatever an item's text is read as, it makes one or none.
use Rattle.std.proofs.Common.{◌≡◌, ℕ, List, true, sym, subst}
use Rattle.std.proofs.lemmas.Bool.{false≢true}
use Rattle.inno_types.specs.declared.stmt.Stmt.{Stmt}
use Rattle.inno_types.specs.declared.stmt.Stmt.TheVariants as stmt
use Rattle.inno_model.specs.declared.event.Event.{Event}
use Rattle.sql_grammar.specs.Grammar.{Spells}
use Rattle.sql_history.specs.Items.{Asks}
use Rattle.sql_history.specs.Legal.{IsCreation}
use Rattle.sql_history.specs.Statements.{is_on_rows}
use Rattle.transaction_statements.specs.declared.committer.Committer.{Committer}
use Rattle.transaction_statements.specs.declared.committer.Committer.TheVariants as committers
use Rattle.transaction_statements.specs.Committing.{stmt_of}
use Rattle.law_histories.specs.Trees.{StmtTree, tree_of}
use Rattle.law_histories.specs.Trees as tree
use Rattle.law_histories.proofs.Statements.{one_tree}

-- a statement of this tree makes a table
abbrev TreeCreates : StmtTree → Type 0
TreeCreates (tree.Other (stmt.CreateTable table if_not_exists definitions)) = Unit {0}
TreeCreates other = ⊥

to_tree : (a : Stmt) → IsCreation a → TreeCreates (tree_of a)
to_tree (stmt.CreateTable table if_not_exists definitions) kind = tt
to_tree other kind = absurd kind

from_tree : (a : Stmt) → TreeCreates (tree_of a) → IsCreation a
from_tree (stmt.CreateTable table if_not_exists definitions) creates = tt
from_tree other creates = absurd creates

-- both are read from the text of one item
pub creation_same : (s : ℕ) (past : List Event) (a b : Stmt) → Asks Spells s a past → Asks Spells s b past → IsCreation b → IsCreation a
creation_same s past a b p q kind =
    let same_text : p.0 ≡ q.0 = cc in
    let same = one_tree p.0 a b p.2 (subst (λ (text : List ℕ). Spells text b) (sym same_text) q.2) in
    from_tree a (subst TreeCreates (sym same) (to_tree b kind))

pub rows_make_none : (a : Stmt) → is_on_rows a ≡ true → IsCreation a → ⊥
rows_make_none (stmt.CreateTable table if_not_exists definitions) on-rows kind = false≢true on-rows
rows_make_none other on-rows kind = kind

pub committer_makes_none : (committer : Committer) → IsCreation (stmt_of committer) → ⊥
committer_makes_none committers.Commit kind = kind
committer_makes_none committers.TurnOn kind = kind
committer_makes_none (committers.Begin snapshot l) kind = kind
