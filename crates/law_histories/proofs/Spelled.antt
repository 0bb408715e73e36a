-- The grammar reads a text as one statement.
use Rattle.std.proofs.Common.{◌≡◌, ap, refl}
use Rattle.inno_types.specs.declared.stmt.Stmt.{Stmt}
use Rattle.inno_types.specs.declared.stmt.Stmt.TheVariants as stmt
use Rattle.inno_db.specs.Outcome.{outcome}
use Rattle.sql_history.specs.Statements.{is_on_rows, is_select}
use Rattle.sql_grammar.specs.Grammar.{Spells}
use Rattle.law_histories.specs.Trees.{tree_of}
use Rattle.law_histories.proofs.Statements.{one_tree}
use Rattle.law_histories.proofs.OneOutcome.{plain_same, outcome_same}
use Rattle.law_histories.proofs.Alike.{Alike, ReadsOne}

alike_trees : (a b : Stmt) → tree_of a ≡ tree_of b → Alike a b
alike_trees (stmt.Select selected table condition lock) (stmt.Select selected' table' condition' lock') same =
    record {
      rows = refl;
      select = refl;
      answers = outcome_same (stmt.Select selected table condition lock) (stmt.Select selected' table' condition' lock')
          same;
      same = λ not. (cc);
    }
alike_trees (stmt.Select selected table condition lock) other same = absurd (cc)
alike_trees (stmt.Update table sets condition) (stmt.Update table' sets' condition') same =
    record {
      rows = refl;
      select = refl;
      answers = outcome_same (stmt.Update table sets condition) (stmt.Update table' sets' condition') same;
      same = λ not.
          (cc);
    }
alike_trees (stmt.Update table sets condition) other same = absurd (cc)
alike_trees (stmt.Delete table condition) (stmt.Delete table' condition') same =
    record { rows = refl; select = refl; answers = outcome_same (stmt.Delete table condition) (stmt.Delete table' condition') same; same = λ not. (cc) }
alike_trees (stmt.Delete table condition) other same = absurd (cc)
alike_trees a b same =
    let equal = plain_same a b same in
    record { rows = ap is_on_rows equal; select = ap is_select equal; answers = λ db. ap (λ (x : Stmt). outcome x db) equal; same = λ not. equal }

pub spells_one : ReadsOne Spells
spells_one text a b p q = alike_trees a b (one_tree text a b p q)
