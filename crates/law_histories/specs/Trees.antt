-- The tree of a statement without its boxes. Two statements with one tree are the same statement:
-- they differ at most in where their boxes lie in memory.
use Rattle.std.specs.Prelude.{◌≡◌, ℕ, List, map, Option, Some, None}
use Rattle.inno_types.specs.declared.lock.Mode.{Mode}
use Rattle.inno_types.specs.declared.stmt.Filter.{Filter}
use Rattle.inno_types.specs.declared.stmt.Filter.TheVariants as filter
use Rattle.inno_types.specs.declared.stmt.Expr.{Expr}
use Rattle.inno_types.specs.declared.stmt.Expr.TheVariants as expr
use Rattle.inno_types.specs.declared.stmt.Set.{Set}
use Rattle.inno_types.specs.declared.stmt.Selected.{Selected}
use Rattle.inno_types.specs.declared.stmt.Stmt.{Stmt}
use Rattle.inno_types.specs.declared.stmt.Stmt.TheVariants as stmt

-- a condition: its leaves, which have no boxes, are its comparisons and tests
pub data FilterTree : Type 0 where
  Leaf : Filter → FilterTree
  Not : FilterTree → FilterTree
  And : FilterTree → FilterTree → FilterTree
  Or : FilterTree → FilterTree → FilterTree

abbrev pub filter_tree : Filter → FilterTree
filter_tree (filter.Not' p f) = Not (filter_tree f)
filter_tree (filter.And' p f q g) = And (filter_tree f) (filter_tree g)
filter_tree (filter.Or' p f q g) = Or (filter_tree f) (filter_tree g)
filter_tree f = Leaf f

-- an expression: its leaves are its literals and columns
pub data ExprTree : Type 0 where
  Value : Expr → ExprTree
  Negate : ExprTree → ExprTree
  Add : ExprTree → ExprTree → ExprTree
  Subtract : ExprTree → ExprTree → ExprTree
  Multiply : ExprTree → ExprTree → ExprTree

abbrev pub expr_tree : Expr → ExprTree
expr_tree (expr.Negate' p e) = Negate (expr_tree e)
expr_tree (expr.Add' p e q f) = Add (expr_tree e) (expr_tree f)
expr_tree (expr.Subtract' p e q f) = Subtract (expr_tree e) (expr_tree f)
expr_tree (expr.Multiply' p e q f) = Multiply (expr_tree e) (expr_tree f)
expr_tree e = Value e

-- an assignment: its column and the tree of its right side
abbrev pub set_tree : Set → List ℕ × ExprTree
set_tree set = (set.column, expr_tree set.value)

-- [WHERE condition]
abbrev pub where_tree : Option Filter → Option FilterTree
where_tree None = None
where_tree (Some f) = Some (filter_tree f)

-- a statement; one that can have no condition and no expression has no boxes
pub data StmtTree : Type 0 where
  Select : Selected → List ℕ → Option FilterTree → Option Mode → StmtTree
  Update : List ℕ → List (List ℕ × ExprTree) → Option FilterTree → StmtTree
  Delete : List ℕ → Option FilterTree → StmtTree
  Other : Stmt → StmtTree

abbrev pub tree_of : Stmt → StmtTree
tree_of (stmt.Select selected table where' lock) = Select selected table (where_tree where') lock
tree_of (stmt.Update table sets where') = Update table (map set_tree sets) (where_tree where')
tree_of (stmt.Delete table where') = Delete table (where_tree where')
tree_of other = Other other

abbrev pub SameStatement : Stmt → Stmt → Type 0
SameStatement a b = tree_of a ≡ tree_of b
