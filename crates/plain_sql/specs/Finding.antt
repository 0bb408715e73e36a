-- What is answered on a table that was found, or was not.
use Rattle.std.specs.Prelude.{◌≡◌, ℕ, List, Option, Some, None, slice_get}
use Rattle.inno_types.specs.declared.value.Value.{Value}
use Rattle.inno_types.specs.declared.value.Schema.{Schema}
use Rattle.inno_types.specs.declared.stmt.Stmt.{Stmt}
use Rattle.inno_types.specs.declared.stmt.Stmt.TheVariants.{CreateTable, Select, Insert, Update, Delete}
use Rattle.inno_types.specs.declared.reply.Reply.TheVariants.{Done}
use Rattle.inno_db.specs.declared.outcome.Outcome.{Outcome}
use Rattle.inno_db.specs.Database.{Database, rows_of}
use Rattle.inno_db.specs.Refusals.{refusal}
use Rattle.inno_db.specs.Outcome.{answered, select_answer, insert_answer, update_answer, delete_answer, table_read}
use Rattle.plain_sql.specs.declared.interpreter.Found.{Found}

abbrev pub on_found : Option Found → (ℕ → Schema → List (List Value) → Outcome) → Outcome
on_found None answer = answered Done
on_found (Some found) answer = answer found.number found.schema.now found.rows.now

-- what a statement does with the rows of the table that was found
abbrev pub answer_on : Option Found → Stmt → Outcome
answer_on found (Select selected table condition lock) = on_found found (select_answer selected condition)
answer_on found (Insert table names tuples) = on_found found (insert_answer names tuples)
answer_on found (Update table sets condition) = on_found found (update_answer sets condition)
answer_on found (Delete table condition) = on_found found (delete_answer condition)
answer_on found other = answered Done

-- the table that a statement names whose rows it reads
abbrev pub IsTableOf : Stmt → Option (List ℕ) → Type 0
IsTableOf (Select selected table condition lock) name = name ≡ Some table
IsTableOf (Insert table names tuples) name = name ≡ Some table
IsTableOf (Update table sets condition) name = name ≡ Some table
IsTableOf (Delete table condition) name = name ≡ Some table
IsTableOf other name = name ≡ None

abbrev pub IsOnRows : Stmt → Type 0
IsOnRows (CreateTable table if_not_exists definitions) = ⊥
IsOnRows other = Unit {0}

-- the database has these tables, and the one that the statement reads has these rows
pub record IsReadFrom (schemas : List Schema) (rows : List (List Value)) (stmt : Stmt) (db : Database) : Type 0 where
  pub tables : db.schemas ≡ schemas
  pub each : (n : ℕ) → table_read db.schemas stmt ≡ Some n → rows_of n db ≡ rows

-- In the database the statement reads the table of this number, which has this schema and these rows, and neither its text nor
-- the tables refuse it.
pub record IsOnTable (table : ℕ) (schema : Schema) (rows : List (List Value)) (stmt : Stmt) (db : Database) : Type 0 where
  pub unrefused : refusal db.schemas stmt ≡ None
  pub number : table_read db.schemas stmt ≡ Some table
  pub there : slice_get db.schemas table ≡ Some schema
  pub each : rows_of table db ≡ rows
