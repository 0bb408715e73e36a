use Rattle.std.proofs.Common.{ℕ, suc, List}
use Rattle.tree_check.specs.Rows.{Comes, IsCheckedRow}
use Rattle.tree_check.proofs.Walking.{Walked}
use Rattle.tree_check.proofs.rows.check_level.Given as goal

abbrev pub invariant-loop : goal.invariant-loop
invariant-loop l = record {
  walked : (us : List ℕ) → IsCheckedRow l.tree l.pages (suc l.level) l.top us → Walked l.tree l.pages l.level l.first us l.walk l.counter;
  comes : Comes l.tree l.pages l.level l.top l.first l.walk;
}
