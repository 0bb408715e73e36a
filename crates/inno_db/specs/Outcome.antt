-- What a statement answers over a database, and what it changes there.
use Rattle.std.specs.Prelude.{ℕ, Bool, true, false, ◌&&◌, List, [], ◌∷◌, ◌++◌, map, filter, length, Option, Some, None, Result, Ok, Err, is_some, if◌then◌else◌, slice_get}
use Rattle.std.specs.List.{list_any}
use Rattle.std.specs.Ordering.{is_eq}
use Rattle.inno_types.specs.declared.value.Value.{Value}
use Rattle.inno_types.specs.declared.value.Column.{Column}
use Rattle.inno_types.specs.declared.value.Schema.{Schema}
use Rattle.inno_types.specs.declared.stmt.Literal.{Literal}
use Rattle.inno_types.specs.declared.stmt.Filter.{Filter}
use Rattle.inno_types.specs.declared.stmt.Set.{Set}
use Rattle.inno_types.specs.declared.stmt.Definition.{Definition}
use Rattle.inno_types.specs.declared.stmt.Selected.{Selected}
use Rattle.inno_types.specs.declared.stmt.Selected.TheVariants.{AllColumns, Columns}
use Rattle.inno_types.specs.declared.stmt.Stmt.{Stmt}
use Rattle.inno_types.specs.declared.stmt.Stmt.TheVariants.{CreateTable, Select, Insert, Update, Delete, Begin, Commit, Rollback, RollbackTo, Savepoint, SetAutocommit, SetLevel}
use Rattle.inno_types.specs.declared.reply.SqlError.{SqlError}
use Rattle.inno_types.specs.declared.reply.SqlError.TheVariants.{Duplicate}
use Rattle.inno_types.specs.declared.reply.Reply.{Reply}
use Rattle.inno_types.specs.declared.reply.Reply.TheVariants.{Done, Count, Rows, Fail}
use Rattle.inno_db.specs.declared.change.Change.{Change}
use Rattle.inno_db.specs.declared.change.Change.TheVariants.{Create, Put, Remove}
use Rattle.inno_db.specs.declared.outcome.Outcome.{Outcome}
use Rattle.inno_db.specs.declared.outcome.Written.{Written}
use Rattle.inno_db.specs.Database.{Database, key_of, rows_of, value_cmp}
use Rattle.inno_db.specs.Names.{table_place, column_value}
use Rattle.inno_db.specs.Conditions.{matches}
use Rattle.inno_db.specs.Expressions.{and_then}
use Rattle.inno_db.specs.Storing.{all_assigned, row_of_tuple}
use Rattle.inno_db.specs.Declarations.{schema_declared}
use Rattle.inno_db.specs.Refusals.{refusal}

-- the rows that match, in the order in which they stand
abbrev pub matching : List Column → Option Filter → List (List Value) → List (List Value)
matching columns condition rows = filter (matches columns condition) rows

-- the columns of a row that a SELECT gives
abbrev pub selected_of : List Column → Selected → List Value → List Value
selected_of columns AllColumns row = row
selected_of columns (Columns names) row = map (column_value columns row) names

abbrev pub is_same_value : Value → Value → Bool
is_same_value a b = is_eq (value_cmp a b)

abbrev pub is_same_row : List Value → List Value → Bool
is_same_row [] [] = true
is_same_row [] (b ∷ bs) = false
is_same_row (a ∷ as') [] = false
is_same_row (a ∷ as') (b ∷ bs) = is_same_value a b && is_same_row as' bs

-- one of the rows has this key
abbrev pub has_key : Schema → Value → List (List Value) → Bool
has_key schema key rows = list_any (λ row. is_same_value (key_of schema row) key) rows

-- nothing is written
abbrev pub nothing : Written
nothing = record { changes = []; refusal = None }

abbrev pub refused : SqlError → Written
refused error = record { changes = []; refusal = Some error }

-- a change, and then what is written after it
abbrev pub then_written : Change → Written → Written
then_written change rest = record { changes = change ∷ rest.changes; refusal = rest.refusal }

-- a row with a key that no row has yet is put
abbrev pub new_row : Schema → List (List Value) → List Value → Result (List Value) SqlError
new_row schema rows row = if has_key schema (key_of schema row) rows then Err (Duplicate (key_of schema row)) else Ok row

-- the row of a tuple that goes to these rows, or its refusal
abbrev pub row_for : Schema → Option (List (List ℕ)) → List (List Value) → List Literal → Result (List Value) SqlError
row_for schema names rows tuple = and_then (row_of_tuple schema.columns names tuple) (new_row schema rows)

abbrev pub put_then : ℕ → Result (List Value) SqlError → (List Value → Written) → Written
put_then table (Ok row) rest = then_written (Put table row) (rest row)
put_then table (Err error) rest = refused error

-- INSERT, tuple by tuple: each meets the rows of the table and of the earlier tuples, and the first refusal ends it
abbrev pub inserted : ℕ → Schema → Option (List (List ℕ)) → List (List Value) → List (List Literal) → Written
inserted table schema names rows [] = nothing
inserted table schema names rows (tuple ∷ tuples) =
    put_then table (row_for schema names rows tuple) (λ row. inserted table schema names (rows ++ row ∷ []) tuples)

-- the change that makes one row of another; none where they are the same
abbrev pub change_to : ℕ → List Value → List Value → Option Change
change_to table row after = if is_same_row row after then None else Some (Put table after)

abbrev pub row_update : ℕ → Schema → List Set → List Value → Result (Option Change) SqlError
row_update table schema sets row = and_then (all_assigned schema.columns row sets) (λ after. Ok (change_to table row after))

abbrev pub change_then : Result (Option Change) SqlError → Written → Written
change_then (Ok (Some change)) rest = then_written change rest
change_then (Ok None) rest = rest
change_then (Err error) rest = refused error

-- UPDATE of matching rows, row by row
abbrev pub updated : ℕ → Schema → List Set → List (List Value) → Written
updated table schema sets [] = nothing
updated table schema sets (row ∷ rows) = change_then (row_update table schema sets row) (updated table schema sets rows)

-- DELETE of matching rows
abbrev pub deleted : ℕ → Schema → List (List Value) → List Change
deleted table schema rows = map (λ row. Remove table (key_of schema row)) rows

abbrev pub count_unless : Option SqlError → ℕ → Reply
count_unless None count = Count count
count_unless (Some error) count = Fail error

-- the changes are counted, or refused
abbrev pub counted : Written → Outcome
counted written = record { reply = count_unless written.refusal (length written.changes); changes = written.changes }

abbrev pub answered : Reply → Outcome
answered reply = record { reply = reply; changes = [] }

-- the number of a table, its schema and its rows in the order of their keys, given on; no table, nothing done
abbrev pub on_schema : ℕ → Option Schema → List (List Value) → (ℕ → Schema → List (List Value) → Outcome) → Outcome
on_schema number None rows answer = answered Done
on_schema number (Some schema) rows answer = answer number schema rows

abbrev pub on_number : Database → Option ℕ → (ℕ → Schema → List (List Value) → Outcome) → Outcome
on_number db None answer = answered Done
on_number db (Some number) answer = on_schema number (slice_get db.schemas number) (rows_of number db) answer

-- the number of the table whose rows a statement reads
abbrev pub table_read : List Schema → Stmt → Option ℕ
table_read schemas (CreateTable table if_not_exists definitions) = None
table_read schemas (Select selected table condition lock) = table_place schemas table
table_read schemas (Insert table names tuples) = table_place schemas table
table_read schemas (Update table sets condition) = table_place schemas table
table_read schemas (Delete table condition) = table_place schemas table
table_read schemas (Begin snapshot) = None
table_read schemas Commit = None
table_read schemas Rollback = None
table_read schemas (RollbackTo savepoint) = None
table_read schemas (Savepoint name) = None
table_read schemas (SetAutocommit on) = None
table_read schemas (SetLevel scope level) = None

abbrev pub on_rows : Database → List ℕ → (ℕ → Schema → List (List Value) → Outcome) → Outcome
on_rows db table answer = on_number db (table_place db.schemas table) answer

abbrev pub creation : Option Schema → Outcome
creation None = answered Done
creation (Some schema) = record { reply = Done; changes = Create schema ∷ [] }

-- a table is made, unless it is there
abbrev pub created : Database → List ℕ → List Definition → Outcome
created db table definitions = if is_some (table_place db.schemas table) then answered Done else creation (schema_declared table definitions)

abbrev pub select_answer : Selected → Option Filter → ℕ → Schema → List (List Value) → Outcome
select_answer selected condition number schema rows =
    answered (Rows (map (selected_of schema.columns selected) (matching schema.columns condition rows)))

abbrev pub insert_answer : Option (List (List ℕ)) → List (List Literal) → ℕ → Schema → List (List Value) → Outcome
insert_answer names tuples number schema rows = counted (inserted number schema names rows tuples)

abbrev pub update_answer : List Set → Option Filter → ℕ → Schema → List (List Value) → Outcome
update_answer sets condition number schema rows = counted (updated number schema sets (matching schema.columns condition rows))

abbrev pub delete_answer : Option Filter → ℕ → Schema → List (List Value) → Outcome
delete_answer condition number schema rows =
    counted (record { changes = deleted number schema (matching schema.columns condition rows); refusal = None })

-- what a statement does that its text and the schemas do not refuse; one of a transaction or a setting does nothing here
abbrev pub answer_to : Stmt → Database → Outcome
answer_to (CreateTable table if_not_exists definitions) db = created db table definitions
answer_to (Select selected table condition lock) db = on_rows db table (select_answer selected condition)
answer_to (Insert table names tuples) db = on_rows db table (insert_answer names tuples)
answer_to (Update table sets condition) db = on_rows db table (update_answer sets condition)
answer_to (Delete table condition) db = on_rows db table (delete_answer condition)
answer_to (Begin snapshot) db = answered Done
answer_to Commit db = answered Done
answer_to Rollback db = answered Done
answer_to (RollbackTo savepoint) db = answered Done
answer_to (Savepoint name) db = answered Done
answer_to (SetAutocommit on) db = answered Done
answer_to (SetLevel scope level) db = answered Done

abbrev pub unless_refused : Option SqlError → Outcome → Outcome
unless_refused None answer = answer
unless_refused (Some error) answer = answered (Fail error)

-- the reply of a statement over a database and the changes that it makes there
abbrev pub outcome : Stmt → Database → Outcome
outcome stmt db = unless_refused (refusal db.schemas stmt) (answer_to stmt db)
