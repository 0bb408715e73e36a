-- How much a statement has before it at most, as sixteen numbers that get smaller.
use Rattle.std.specs.Prelude.{ℕ, List, ◌∷◌}
use Rattle.shared_lists.specs.State.{State as Lists}
use Rattle.sql_lists.specs.Going.{left}
use Rattle.transaction_statements.specs.Going.{to_go as of_transaction}
use Rattle.create_statement.specs.Going.{to_go as of_create}
use Rattle.read_statement.specs.Going.{to_go as of_read}
use Rattle.write_statement.specs.Going.{to_go as of_write}
use Rattle.statement.specs.declared.under_way.Statement.{Statement}
use Rattle.statement.specs.declared.under_way.Statement.TheVariants as statements

-- what a statement has before it at most: it is yet to begin, and then what its kind has
abbrev pub statement_to_go : ℕ → Lists → Statement → List ℕ
statement_to_go s lists (statements.Asked stmt) = 1 ∷ left 0 0 0 0
statement_to_go s lists (statements.Transaction statement) = 0 ∷ of_transaction s lists statement
statement_to_go s lists (statements.Create statement) = 0 ∷ of_create s lists statement
statement_to_go s lists (statements.Read statement) = 0 ∷ of_read s lists statement
statement_to_go s lists (statements.Write statement) = 0 ∷ of_write s lists statement
statement_to_go s lists statements.Failed = 0 ∷ left 0 0 0 0
statement_to_go s lists statements.Ended = 0 ∷ left 0 0 0 0
