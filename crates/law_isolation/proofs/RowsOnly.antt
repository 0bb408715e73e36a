-- A statement on rows makes no table.
use Rattle.std.proofs.Common.{◌≡◌, refl, ℕ, ◌<◌, List, [], ◌∷◌, ◌++◌, length, true, false, Option, Some, None, Ok, Err}
use Rattle.std.specs.Prelude.{slice_get, if◌then◌else◌}
use Rattle.std.proofs.lemmas.Option.{slice_get_within}
use Rattle.inno_types.specs.declared.value.Value.{Value}
use Rattle.inno_types.specs.declared.value.Schema.{Schema}
use Rattle.inno_types.specs.declared.stmt.Literal.{Literal}
use Rattle.inno_types.specs.declared.stmt.Set.{Set}
use Rattle.inno_types.specs.declared.stmt.Stmt.{Stmt}
use Rattle.inno_types.specs.declared.stmt.Stmt.TheVariants.{Select, Insert, Update, Delete}
use Rattle.inno_db.specs.declared.change.Change.TheVariants.{Put}
use Rattle.inno_db.specs.declared.outcome.Outcome.{Outcome}
use Rattle.inno_db.specs.Database.{Database, rows_of}
use Rattle.inno_db.specs.Names.{table_place}
use Rattle.inno_db.specs.Expressions.{and_then}
use Rattle.inno_db.specs.Storing.{all_assigned}
use Rattle.inno_db.specs.Refusals.{refusal}
use Rattle.inno_db.specs.Outcome.{matching, is_same_row, row_for, put_then, inserted, change_to, change_then, updated, deleted, on_schema, on_number, on_rows, select_answer, insert_answer, update_answer, delete_answer, answer_to, unless_refused, outcome}
use Rattle.law_db.specs.RowChanges.{AreOfTables}
use Rattle.sql_history.specs.Statements.{is_on_rows}

inserted-of : (schemas : List Schema) (table : ℕ) (schema : Schema) (names : Option (List (List ℕ))) (rows : List (List Value))
    (tuples : List (List Literal)) → table < length schemas → AreOfTables schemas (inserted table schema names rows tuples).changes
inserted-of schemas table schema names rows [] there = tt
inserted-of schemas table schema names rows (tuple ∷ tuples) there =
    elim (row_for schema names rows tuple) as
    (λ r. AreOfTables schemas (put_then table r (λ row. inserted table schema names (rows ++ row ∷ []) tuples)).changes) [
      | Ok row ↦ (there, inserted-of schemas table schema names (rows ++ row ∷ []) tuples there)
      | Err error ↦ tt
    ]

updated-of : (schemas : List Schema) (table : ℕ) (schema : Schema) (sets : List Set) (rows : List (List Value)) → table < length schemas
    → AreOfTables schemas (updated table schema sets rows).changes
updated-of schemas table schema sets [] there = tt
updated-of schemas table schema sets (row ∷ rows) there =
    let rest = updated-of schemas table schema sets rows there in
    elim (all_assigned schema.columns row sets) as
    (λ r. AreOfTables schemas (change_then (and_then r (λ after. Ok (change_to table row after))) (updated table schema sets rows)).changes) [
      | Ok after ↦ elim (is_same_row row after) as
          (λ b. AreOfTables schemas (change_then (Ok (if b then None else Some (Put table after))) (updated table schema sets rows)).changes)
          [ true ↦ rest | false ↦ (there, rest) ]
      | Err error ↦ tt
    ]

deleted-of : (schemas : List Schema) (table : ℕ) (schema : Schema) (rows : List (List Value)) → table < length schemas
    → AreOfTables schemas (deleted table schema rows)
deleted-of schemas table schema [] there = tt
deleted-of schemas table schema (row ∷ rows) there = (there, deleted-of schemas table schema rows there)

-- what is answered on a table that is there
on_rows-of : (db : Database) (name : List ℕ) (answer : ℕ → Schema → List (List Value) → Outcome)
    → ((n : ℕ) (schema : Schema) (rows : List (List Value)) → n < length db.schemas → AreOfTables db.schemas (answer n schema rows).changes)
    → AreOfTables db.schemas (on_rows db name answer).changes
on_rows-of db name answer each =
    elim (table_place db.schemas name) as (λ p. AreOfTables db.schemas (on_number db p answer).changes) [
      | None ↦ tt
      | Some n ↦ elim (slice_get db.schemas n) as (λ o. slice_get db.schemas n ≡ o → AreOfTables db.schemas (on_schema n o (rows_of n db) answer).changes) [
        | None ↦ λ is. tt
        | Some schema ↦ λ is. each n schema (rows_of n db) (slice_get_within db.schemas n schema is)
      ] refl
    ]

made_to : (stmt : Stmt) (db : Database) → is_on_rows stmt ≡ true → AreOfTables db.schemas (answer_to stmt db).changes
made_to (Select selected table condition lock) db rows = on_rows-of db table (select_answer selected condition) (λ n schema rs there. tt)
made_to (Insert table names tuples) db rows =
    on_rows-of db table (insert_answer names tuples) (λ n schema rs there. inserted-of db.schemas n schema names rs tuples there)
made_to (Update table sets condition) db rows =
    on_rows-of db table (update_answer sets condition) (λ n schema rs there. updated-of db.schemas n schema sets (matching schema.columns condition rs) there)
made_to (Delete table condition) db rows =
    on_rows-of db table (delete_answer condition) (λ n schema rs there. deleted-of db.schemas n schema (matching schema.columns condition rs) there)
made_to other db rows = absurd (cc)

pub rows_make_no_table : (stmt : Stmt) (db : Database) → is_on_rows stmt ≡ true → AreOfTables db.schemas (outcome stmt db).changes
rows_make_no_table stmt db rows =
    elim (refusal db.schemas stmt) as (λ o. AreOfTables db.schemas (unless_refused o (answer_to stmt db)).changes)
    [ None ↦ made_to stmt db rows | Some error ↦ tt ]
