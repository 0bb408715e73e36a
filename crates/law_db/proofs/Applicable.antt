-- The changes of an outcome can be made to its database.
use Rattle.std.proofs.Common.{◌≡◌, refl, ℕ, ◌<◌, Bool, List, [], ◌∷◌, ◌++◌, length, true, false, Option, Some, None, is_some, Ok, Err, inl, inr, arith}
use Rattle.std.specs.Prelude.{slice_get, nat_le, is_none, if◌then◌else◌}
use Rattle.std.proofs.lemmas.Option.{slice_get_within}
use Rattle.std.proofs.lemmas.Bool.Decides.{nat_tests}
use Rattle.inno_types.specs.declared.value.Value.{Value}
use Rattle.inno_types.specs.declared.value.Schema.{Schema}
use Rattle.inno_types.specs.declared.stmt.Literal.{Literal}
use Rattle.inno_types.specs.declared.stmt.Set.{Set}
use Rattle.inno_types.specs.declared.stmt.Definition.{Definition}
use Rattle.inno_types.specs.declared.stmt.Stmt.{Stmt}
use Rattle.inno_types.specs.declared.stmt.Stmt.TheVariants.{CreateTable, Select, Insert, Update, Delete, Begin, Commit, Rollback, RollbackTo, Savepoint, SetAutocommit, SetLevel}
use Rattle.inno_types.specs.declared.reply.SqlError.{SqlError}
use Rattle.inno_types.specs.declared.reply.SqlError.TheVariants.{Syntax, CatalogFull}
use Rattle.inno_types.specs.declared.reply.Reply.TheVariants.{Done}
use Rattle.inno_db.specs.declared.change.Change.TheVariants.{Put}
use Rattle.inno_db.specs.declared.outcome.Outcome.{Outcome}
use Rattle.inno_db.specs.declared.limits.TheConstants.{MOST_TABLES}
use Rattle.inno_db.specs.Database.{Database, rows_of}
use Rattle.inno_db.specs.Names.{table_place}
use Rattle.inno_db.specs.Expressions.{and_then}
use Rattle.inno_db.specs.Storing.{all_assigned}
use Rattle.inno_db.specs.Declarations.{schema_declared}
use Rattle.inno_db.specs.Refusals.{refusal, refused_if, name_refusal, create_refusal}
use Rattle.inno_db.specs.Outcome.{matching, is_same_row, row_for, put_then, inserted, change_to, change_then, updated, deleted, on_schema, on_number, on_rows, creation, created, answered, select_answer, insert_answer, update_answer, delete_answer, answer_to, unless_refused, outcome}
use Rattle.law_db.specs.RowChanges.{AreOfTables, AreApplicable}

inserted-of : (schemas : List Schema) (table : ℕ) (schema : Schema) (names : Option (List (List ℕ))) (rows : List (List Value)) (tuples : List (List Literal)) → table < length schemas → AreOfTables schemas (inserted table schema names rows tuples).changes
inserted-of schemas table schema names rows [] there = tt
inserted-of schemas table schema names rows (tuple ∷ tuples) there =
    elim (row_for schema names rows tuple) as (λ r. AreOfTables schemas (put_then table r (λ row. inserted table schema names (rows ++ row ∷ []) tuples)).changes) [
      | Ok row ↦ (there, inserted-of schemas table schema names (rows ++ row ∷ []) tuples there)
      | Err error ↦ tt
    ]

updated-of : (schemas : List Schema) (table : ℕ) (schema : Schema) (sets : List Set) (rows : List (List Value)) → table < length schemas → AreOfTables schemas (updated table schema sets rows).changes
updated-of schemas table schema sets [] there = tt
updated-of schemas table schema sets (row ∷ rows) there =
    let rest = updated-of schemas table schema sets rows there in
    elim (all_assigned schema.columns row sets) as (λ r. AreOfTables schemas (change_then (and_then r (λ after. Ok (change_to table row after))) (updated table schema sets rows)).changes) [
      | Ok after ↦ elim (is_same_row row after) as (λ b. AreOfTables schemas (change_then (Ok (if b then None else Some (Put table after))) (updated table schema sets rows)).changes) [ true ↦ rest | false ↦ (there, rest) ]
      | Err error ↦ tt
    ]

deleted-of : (schemas : List Schema) (table : ℕ) (schema : Schema) (rows : List (List Value)) → table < length schemas → AreOfTables schemas (deleted table schema rows)
deleted-of schemas table schema [] there = tt
deleted-of schemas table schema (row ∷ rows) there = (there, deleted-of schemas table schema rows there)

-- what is answered on a table that is there
on_rows-of : (db : Database) (name : List ℕ) (answer : ℕ → Schema → List (List Value) → Outcome) → ((n : ℕ) (schema : Schema) (rows : List (List Value)) → n < length db.schemas → AreOfTables db.schemas (answer n schema rows).changes) → AreOfTables db.schemas (on_rows db name answer).changes
on_rows-of db name answer each =
    elim (table_place db.schemas name) as (λ p. AreOfTables db.schemas (on_number db p answer).changes) [
      | None ↦ tt
      | Some n ↦ elim (slice_get db.schemas n) as (λ o. slice_get db.schemas n ≡ o → AreOfTables db.schemas (on_schema n o (rows_of n db) answer).changes) [
        | None ↦ λ is. tt
        | Some schema ↦ λ is. each n schema (rows_of n db) (slice_get_within db.schemas n schema is)
      ] refl
    ]

some_is_none : {A : Type 0} {x : SqlError} → ◌≡◌ {A = Option SqlError} (Some x) None → A
some_is_none e = cc

few_tables : (schemas : List Schema) (if_not_exists : Bool) → name_refusal schemas false if_not_exists ≡ None → length schemas < MOST_TABLES
few_tables schemas if_not_exists h =
    elim (nat_le MOST_TABLES (length schemas)) as (λ b. nat_le MOST_TABLES (length schemas) ≡ b → refused_if b (CatalogFull MOST_TABLES) None ≡ None → length schemas < MOST_TABLES) [
      | true ↦ λ is e. some_is_none e
      | false ↦ λ is e. grind (arith, nat_tests)
    ] refl h

named : (schemas : List Schema) (declared if_not_exists there : Bool) → refused_if declared (Syntax 0) (name_refusal schemas there if_not_exists) ≡ None → name_refusal schemas there if_not_exists ≡ None
named schemas true if_not_exists there h = some_is_none h
named schemas false if_not_exists there h = h

created-of : (db : Database) (table : List ℕ) (if_not_exists : Bool) (definitions : List Definition) → create_refusal db.schemas table if_not_exists definitions ≡ None → AreApplicable db (created db table definitions).changes
created-of db table if_not_exists definitions h =
    elim (is_some (table_place db.schemas table)) as (λ b. name_refusal db.schemas b if_not_exists ≡ None → AreApplicable db (if b then answered Done else creation (schema_declared table definitions)).changes) [
      | true ↦ λ few. inl tt
      | false ↦ λ few. elim (schema_declared table definitions) as (λ o. AreApplicable db (creation o).changes) [ None ↦ inl tt | Some schema ↦ inr (schema, refl, few_tables db.schemas if_not_exists few) ]
    ] (named db.schemas (is_none (schema_declared table definitions)) if_not_exists (is_some (table_place db.schemas table)) h)

answer_to-of : (stmt : Stmt) (db : Database) → refusal db.schemas stmt ≡ None → AreApplicable db (answer_to stmt db).changes
answer_to-of (CreateTable table if_not_exists definitions) db h = created-of db table if_not_exists definitions h
answer_to-of (Select selected table condition lock) db h = inl (on_rows-of db table (select_answer selected condition) (λ n schema rows there. tt))
answer_to-of (Insert table names tuples) db h = inl (on_rows-of db table (insert_answer names tuples) (λ n schema rows there. inserted-of db.schemas n schema names rows tuples there))
answer_to-of (Update table sets condition) db h = inl (on_rows-of db table (update_answer sets condition) (λ n schema rows there. updated-of db.schemas n schema sets (matching schema.columns condition rows) there))
answer_to-of (Delete table condition) db h = inl (on_rows-of db table (delete_answer condition) (λ n schema rows there. deleted-of db.schemas n schema (matching schema.columns condition rows) there))
answer_to-of (Begin snapshot) db h = inl tt
answer_to-of Commit db h = inl tt
answer_to-of Rollback db h = inl tt
answer_to-of (RollbackTo savepoint) db h = inl tt
answer_to-of (Savepoint name) db h = inl tt
answer_to-of (SetAutocommit on) db h = inl tt
answer_to-of (SetLevel scope level) db h = inl tt

pub outcome-AreApplicable : (stmt : Stmt) (db : Database) → AreApplicable db (outcome stmt db).changes
outcome-AreApplicable stmt db =
    elim (refusal db.schemas stmt) as (λ o. refusal db.schemas stmt ≡ o → AreApplicable db (unless_refused o (answer_to stmt db)).changes) [
      | None ↦ λ is. answer_to-of stmt db is
      | Some error ↦ λ is. inl tt
    ] refl
