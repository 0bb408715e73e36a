-- What holds of each change of an outcome; these changes fit the tables of its database.
use Rattle.std.proofs.Common.{◌≡◌, ℕ, true, false, List, [], ◌∷◌, ◌++◌, Option, Some, None, Ok, Err, Result, is_some, refl, subst}
use Rattle.std.specs.Prelude.{slice_get, IsSomeAnd, All, if◌then◌else◌}
use Rattle.std.specs.List.{AllByRecursion}
use Rattle.std.proofs.lemmas.Bool.{cond_both}
use Rattle.std.proofs.lemmas.List.Elements.{All-from_recursion, recursion_from_All, All-weaker, All-filter, All-map}
use Rattle.inno_types.specs.{declared.value.Value.Value, declared.value.Schema.Schema, declared.stmt.Literal.Literal, declared.stmt.Set.Set}
use Rattle.inno_types.specs.{declared.stmt.Definition.Definition, declared.stmt.Stmt.Stmt, declared.reply.Reply.TheVariants.Done}
use Rattle.inno_types.specs.{declared.reply.SqlError.SqlError, declared.reply.SqlError.TheVariants.Duplicate}
use Rattle.inno_types.specs.declared.stmt.Stmt.TheVariants.{CreateTable, Select, Insert, Update, Delete}
use Rattle.inno_db.specs.{declared.change.Change.Change, declared.change.Change.TheVariants.Create, declared.change.Change.TheVariants.Put}
use Rattle.inno_db.specs.{declared.change.Change.TheVariants.Remove, declared.outcome.Outcome.Outcome}
use Rattle.inno_db.specs.{Database.Database, Database.rows_of, Database.key_of, Names.table_place, Conditions.matches, Expressions.and_then}
use Rattle.inno_db.specs.{Storing.all_assigned, Storing.row_of_tuple, Declarations.schema_declared, Refusals.refusal}
use Rattle.inno_db.specs.Outcome.{has_key, matching, is_same_row, new_row, row_for, put_then, inserted, change_to, change_then, updated, deleted, on_schema, on_number, on_rows, creation, created, answered, select_answer, insert_answer, update_answer, delete_answer, answer_to, unless_refused, outcome}
use Rattle.law_db.specs.{Fitting.AllFit}
use Rattle.law_db.proofs.{Values.ok_same, Values.never, Values.and_then-ok, Fits.outcome-AllFit}
use Rattle.law_stored_rows.specs.{Storable.IsStorable, Fitting.IsKeyFor, Fitting.FitsTable, Fitting.FitsTables, Fitting.AreFitting}
use Rattle.law_stored_rows.proofs.{Declared.declared-IsStorable, Rows.rows_of-FitsTable, Rows.rows_by_type, FittingValues.row_fits}
use Rattle.law_stored_rows.proofs.FittingValues.{FitsTable-from_row}

-- ---- what holds of each change

new_row-same : (schema : Schema) (rows : List (List Value)) (row made : List Value) → new_row schema rows row ≡ Ok made → row ≡ made
new_row-same schema rows row made h =
    cond_both (has_key schema (key_of schema row) rows) (Err (Duplicate (key_of schema row))) (Ok row)
    (λ (r : Result (List Value) SqlError). r ≡ Ok made → row ≡ made) (λ is e. never e) (λ is e. ok_same e) h

module _ (P : Change → Type 0) where
  abbrev Each : List Change → Type 0
  Each changes = AllByRecursion P changes

  -- it holds of the rows that are put for a tuple, and for a row that is updated
  abbrev pub OfTuple : ℕ → Schema → Option (List (List ℕ)) → List Literal → Type 0
  OfTuple table schema names tuple = (row : List Value) → row_of_tuple schema.columns names tuple ≡ Ok row → P (Put table row)

  abbrev pub OfUpdated : ℕ → Schema → List Set → List Value → Type 0
  OfUpdated table schema sets row = (after : List Value) → all_assigned schema.columns row sets ≡ Ok after → P (Put table after)

  -- it holds of each change that the statement may make there
  abbrev pub Makes : Database → Stmt → Type 0
  Makes db (CreateTable table if_not_exists definitions) = (schema : Schema) → schema_declared table definitions ≡ Some schema → P (Create schema)
  Makes db (Insert table names tuples) = (n : ℕ) (schema : Schema) → slice_get db.schemas n ≡ Some schema → All (OfTuple n schema names) tuples
  Makes db (Update table sets condition) = (n : ℕ) (schema : Schema) → slice_get db.schemas n ≡ Some schema → All (OfUpdated n schema sets) (rows_of n db)
  Makes db (Delete table condition) =
      (n : ℕ) (schema : Schema) → slice_get db.schemas n ≡ Some schema → All (λ row. P (Remove n (key_of schema row))) (rows_of n db)
  Makes db other = Unit {0}

  inserted-each : (table : ℕ) (schema : Schema) (names : Option (List (List ℕ))) (rows : List (List Value)) (tuples : List (List Literal))
      → AllByRecursion (OfTuple table schema names) tuples → Each (inserted table schema names rows tuples).changes
  inserted-each table schema names rows [] makes = tt
  inserted-each table schema names rows (tuple ∷ tuples) makes =
      elim (row_for schema names rows tuple) as (λ r. row_for schema names rows tuple ≡ r
      → Each (put_then table r (λ row. inserted table schema names (rows ++ row ∷ []) tuples)).changes) [
        | Ok row ↦ λ h.
            let a = and_then-ok (row_of_tuple schema.columns names tuple) (new_row schema rows) row h in
            let made = subst (λ (r : List Value). row_of_tuple schema.columns names tuple ≡ Ok r) (new_row-same schema rows a.0 row a.2) a.1 in
            (makes.0 row made, inserted-each table schema names (rows ++ row ∷ []) tuples makes.1)
        | Err error ↦ λ h. tt
      ] refl

  updated-each : (table : ℕ) (schema : Schema) (sets : List Set) (rows : List (List Value)) → AllByRecursion (OfUpdated table schema sets) rows
      → Each (updated table schema sets rows).changes
  updated-each table schema sets [] makes = tt
  updated-each table schema sets (row ∷ rows) makes =
      let later = updated table schema sets rows in
      let rest = updated-each table schema sets rows makes.1 in
      elim (all_assigned schema.columns row sets) as (λ r. all_assigned schema.columns row sets ≡ r
      → Each (change_then (and_then r (λ after. Ok (change_to table row after))) later).changes) [
        | Ok after ↦ λ h. elim (is_same_row row after) as (λ b. Each (change_then (Ok (if b then None else Some (Put table after))) later).changes)
            [ true ↦ rest | false ↦ (makes.0 after h, rest) ]
        | Err error ↦ λ h. tt
      ] refl

  on_rows-each : (db : Database) (name : List ℕ) (answer : ℕ → Schema → List (List Value) → Outcome)
      → ((n : ℕ) (schema : Schema) → slice_get db.schemas n ≡ Some schema → Each (answer n schema (rows_of n db)).changes)
      → Each (on_rows db name answer).changes
  on_rows-each db name answer each =
      elim (table_place db.schemas name) as (λ p. Each (on_number db p answer).changes) [
        | None ↦ tt
        | Some n ↦ elim (slice_get db.schemas n) as (λ o. slice_get db.schemas n ≡ o → Each (on_schema n o (rows_of n db) answer).changes)
            [ None ↦ λ is. tt | Some schema ↦ λ is. each n schema is ] refl
      ]

  created-each : (db : Database) (table : List ℕ) (definitions : List Definition)
      → ((schema : Schema) → schema_declared table definitions ≡ Some schema → P (Create schema)) → Each (created db table definitions).changes
  created-each db table definitions each =
      elim (is_some (table_place db.schemas table)) as (λ b. Each (if b then answered Done else creation (schema_declared table definitions)).changes) [
        | true ↦ tt
        | false ↦ elim (schema_declared table definitions) as (λ o. schema_declared table definitions ≡ o → Each (creation o).changes)
            [ None ↦ λ is. tt | Some schema ↦ λ is. (each schema is, tt) ] refl
      ]

  answer_to-each : (db : Database) (stmt : Stmt) → Makes db stmt → Each (answer_to stmt db).changes
  answer_to-each db (CreateTable table if_not_exists definitions) makes = created-each db table definitions makes
  answer_to-each db (Select selected table condition lock) makes = on_rows-each db table (select_answer selected condition) (λ n schema is. tt)
  answer_to-each db (Insert table names tuples) makes = on_rows-each db table (insert_answer names tuples) (λ n schema is.
      inserted-each n schema names (rows_of n db) tuples (recursion_from_All (OfTuple n schema names) tuples (makes n schema is)))
  answer_to-each db (Update table sets condition) makes = on_rows-each db table (update_answer sets condition) (λ n schema is.
      let rows = matching schema.columns condition (rows_of n db) in
      let each = All-filter (matches schema.columns condition) (OfUpdated n schema sets) (rows_of n db) (makes n schema is) in
      updated-each n schema sets rows (recursion_from_All (OfUpdated n schema sets) rows each))
  answer_to-each db (Delete table condition) makes = on_rows-each db table (delete_answer condition) (λ n schema is.
      let rows = matching schema.columns condition (rows_of n db) in
      let removed : List Value → Change = λ row. Remove n (key_of schema row) in
      let each = All-filter (matches schema.columns condition) (λ row. P (removed row)) (rows_of n db) (makes n schema is) in
      recursion_from_All P (deleted n schema rows) (All-map P removed rows each))
  answer_to-each db other makes = tt

  pub outcome-each : (db : Database) (stmt : Stmt) → Makes db stmt → All P (outcome stmt db).changes
  outcome-each db stmt makes = All-from_recursion P (outcome stmt db).changes (elim (refusal db.schemas stmt) as
      (λ o. Each (unless_refused o (answer_to stmt db)).changes) [ None ↦ answer_to-each db stmt makes | Some error ↦ tt ])

-- ---- they fit their tables

-- what the law on rows that are put doesn't say
abbrev FitsElse : List Schema → Change → Type 0
FitsElse schemas (Create schema) = IsStorable schema
FitsElse schemas (Put table row) = (schema : Schema) × (slice_get schemas table ≡ Some schema)
FitsElse schemas (Remove table key) = IsSomeAnd (slice_get schemas table) (λ schema. IsKeyFor schema key)

module _ (db : Database) (fitting : AreFitting db) where
  makes-else : (stmt : Stmt) → Makes (FitsElse db.schemas) db stmt
  makes-else (CreateTable table if_not_exists definitions) = λ schema is. declared-IsStorable table definitions schema is
  makes-else (Insert table names tuples) = λ n schema is k d below row made. (schema, is)
  makes-else (Update table sets condition) = λ n schema is k d below row made. (schema, is)
  makes-else (Delete table condition) = λ n schema is.
      All-weaker (FitsTable schema) (λ row. IsSomeAnd (slice_get db.schemas n) (λ s. IsKeyFor s (key_of schema row)))
      (λ row fits. rw is fits.key)
      (rows_of n db) (rows_of-FitsTable db fitting n schema is)
  makes-else other = tt

  together : (changes : List Change) → AllFit db.schemas changes → AllByRecursion (FitsElse db.schemas) changes
      → AllByRecursion (FitsTables db.schemas) changes
  together [] fit other = tt
  together (Create schema ∷ changes) fit other = (other.0, together changes fit other.1)
  together (Put table row ∷ changes) fit other =
      let there = other.0 in
      let row_is = row_fits there.0.columns row (fit.0 there.0 there.1) in
      (rw there.1 (FitsTable-from_row there.0 row (fitting.tables table there.0 there.1) row_is), together changes fit.1 other.1)
  together (Remove table key ∷ changes) fit other = (other.0, together changes fit other.1)

  pub outcome-FitsTables : (stmt : Stmt) → All (FitsTables db.schemas) (outcome stmt db).changes
  outcome-FitsTables stmt =
      let changes = (outcome stmt db).changes in
      let other = recursion_from_All (FitsElse db.schemas) changes (outcome-each (FitsElse db.schemas) db stmt (makes-else stmt)) in
      All-from_recursion (FitsTables db.schemas) changes (together changes (outcome-AllFit db (rows_by_type db fitting) stmt) other)
