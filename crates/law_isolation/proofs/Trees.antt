-- Statements of one tree lock alike, and changes are beside the one where they are beside the other: so what a machine keeps for the statement that it reads is
-- kept for every statement that its text may be read as.
use Rattle.std.proofs.Common.{◌≡◌, ◌∙◌, ap, sym, subst, refl, ℕ, Bool, false, List, Option, Some, None}
use Rattle.std.specs.Prelude.{if◌then◌else◌}
use Rattle.std.specs.FinMap.{get}
use Rattle.inno_types.specs.declared.lock.Level.{Level}
use Rattle.inno_types.specs.declared.lock.Mode.{Mode}
use Rattle.inno_types.specs.declared.value.Value.{Value}
use Rattle.inno_types.specs.declared.value.Column.{Column}
use Rattle.inno_types.specs.declared.stmt.Filter.{Filter}
use Rattle.inno_types.specs.declared.stmt.Filter.TheVariants as filters
use Rattle.inno_types.specs.declared.stmt.Stmt.{Stmt}
use Rattle.inno_types.specs.declared.stmt.Stmt.TheVariants as stmt
use Rattle.inno_db.specs.declared.change.Change.{Change}
use Rattle.inno_db.specs.declared.truth.Truth.{Truth}
use Rattle.inno_db.specs.Database.{Database}
use Rattle.inno_db.specs.Conditions.{truth_of, matches, not_of, and_of, or_of, is_true}
use Rattle.inno_model.specs.Past.{changed}
use Rattle.sql_history.specs.Statements.{sight_of}
use Rattle.law_db.specs.Beside.{passed, IsUnmet, IsBesideSearch, IsBesideStatement}
use Rattle.law_histories.specs.Trees.{FilterTree, filter_tree, where_tree, tree_of}
use Rattle.law_histories.specs.Trees as tree
use Rattle.law_histories.proofs.OneOutcome.{plain_same}

abbrev Test : Type 0
Test = List Column → List Value → Truth

folded : FilterTree → Test
folded (tree.Leaf f) = λ columns row. truth_of columns row f
folded (tree.Not t) = λ columns row. not_of (folded t columns row)
folded (tree.And t u) = λ columns row. and_of (folded t columns row) (folded u columns row)
folded (tree.Or t u) = λ columns row. or_of (folded t columns row) (folded u columns row)

through : (columns : List Column) (row : List Value) (f : Filter) → truth_of columns row f ≡ folded (filter_tree f) columns row
unfolding folded
through columns row (filters.Compare left how right) = refl
through columns row (filters.Between column turned low high) = refl
through columns row (filters.In column turned literals) = refl
through columns row (filters.IsNull column turned) = refl
through columns row (filters.Not' p f) = ap not_of (through columns row f)
through columns row (filters.And' p f q g) = let x = through columns row f in let y = through columns row g in cc
through columns row (filters.Or' p f q g) = let x = through columns row f in let y = through columns row g in cc

lock_same : (l : Level) (s v : _) (t u : List ℕ) (f g : Option Filter) (m n : Option Mode) → m ≡ n
    → sight_of l false (stmt.Select s t f m) ≡ sight_of l false (stmt.Select v u g n)
lock_same l s v t u f g None None e = refl
lock_same l s v t u f g None (Some n) e = absurd (cc)
lock_same l s v t u f g (Some m) None e = absurd (cc)
lock_same l s v t u f g (Some m) (Some n) e = refl

pub sight_same : (l : Level) (a b : Stmt) → tree_of a ≡ tree_of b → sight_of l false a ≡ sight_of l false b
sight_same l (stmt.Select s t f m) (stmt.Select v u g n) e = lock_same l s v t u f g m n (cc)
sight_same l (stmt.Select s t f m) b e = absurd (cc)
sight_same l (stmt.Update t xs f) (stmt.Update u ys g) e = refl
sight_same l (stmt.Update t xs f) b e = absurd (cc)
sight_same l (stmt.Delete t f) (stmt.Delete u g) e = refl
sight_same l (stmt.Delete t f) b e = absurd (cc)
sight_same l a b e = ap (sight_of l false) (plain_same a b e)
