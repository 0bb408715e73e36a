-- The rows that an outcome puts fit the columns of their tables.
use Rattle.std.proofs.Common.{◌≡◌, ◌∙◌, sym, subst, refl, ℕ, Bool, List, [], ◌∷◌, ◌++◌, true, false, cond, not, Option, Some, None, Result, Ok, Err, is_some}
use Rattle.std.specs.Prelude.{◌&&◌, ◌==◌, slice_get, slice_set, length, if◌then◌else◌}
use Rattle.std.specs.List.{list_all}
use Rattle.inno_types.specs.declared.value.Value.{Value}
use Rattle.inno_types.specs.declared.value.Column.{Column}
use Rattle.inno_types.specs.declared.value.Schema.{Schema}
use Rattle.inno_types.specs.declared.stmt.Literal.{Literal}
use Rattle.inno_types.specs.declared.stmt.Expr.{Expr}
use Rattle.inno_types.specs.declared.stmt.Set.{Set}
use Rattle.inno_types.specs.declared.stmt.Filter.{Filter}
use Rattle.inno_types.specs.declared.stmt.Definition.{Definition}
use Rattle.inno_types.specs.declared.stmt.Stmt.{Stmt}
use Rattle.inno_types.specs.declared.stmt.Stmt.TheVariants.{CreateTable, Select, Insert, Update, Delete, Begin, Commit, Rollback, RollbackTo, Savepoint, SetAutocommit, SetLevel}
use Rattle.inno_types.specs.declared.reply.Reply.TheVariants.{Done}
use Rattle.inno_types.specs.declared.reply.SqlError.{SqlError}
use Rattle.inno_types.specs.declared.reply.SqlError.TheVariants.{NoColumn, TwiceNamed, WrongCount, Syntax, NoDefault, Duplicate}
use Rattle.inno_db.specs.declared.change.Change.TheVariants.{Put}
use Rattle.inno_db.specs.declared.outcome.Outcome.{Outcome}
use Rattle.inno_db.specs.Database.{Database, rows_of, key_of}
use Rattle.inno_db.specs.Names.{table_place, column_place, column_at}
use Rattle.inno_db.specs.Conditions.{matches}
use Rattle.inno_db.specs.Expressions.{and_then, expr_value}
use Rattle.inno_db.specs.Storing.{stored, put_in, put_at, assigned, all_assigned, row_of_tuple}
use Rattle.inno_db.specs.Typing.{type_of, type_if, column_type, whole_fits, is_primary, set_known, set_fits, where_known, where_fits, tuple_fits}
use Rattle.inno_db.specs.Declarations.{schema_declared}
use Rattle.inno_db.specs.Refusals.{refusal, refused_if, on_table, schema_at, schema_named, names_known, names_twice, width_of, leaves_out, select_refusal, insert_refusal, update_refusal, delete_refusal}
use Rattle.inno_db.specs.Outcome.{matching, has_key, is_same_row, new_row, row_for, put_then, inserted, change_to, change_then, updated, deleted, on_schema, on_number, on_rows, creation, created, answered, select_answer, insert_answer, update_answer, delete_answer, answer_to, unless_refused, outcome}
use Rattle.law_db.specs.Fitting.{IsRowOf, AreRowsOf, IsRowIn, AllFit}
use Rattle.law_db.proofs.Values.{ok_same, never, and_then-ok, both_true, stored-fits, whole-type, slice_set-fits, values_from-fits}

assigned-at : (columns : List Column) (row after : List Value) (e : Expr) (value : Value) (place : Option ℕ) → IsRowOf columns row → whole_fits columns e (type_if (column_at columns place)) ≡ true → expr_value columns row e ≡ Ok value → put_at columns row place value ≡ Ok after → IsRowOf columns after
assigned-at columns row after e value None fits typed has h = subst (IsRowOf columns) (ok_same h) fits
assigned-at columns row after e value (Some place) fits typed has h =
    elim (slice_get columns place) as (λ o. slice_get columns place ≡ o → whole_fits columns e (type_if o) ≡ true → put_in o place row value ≡ Ok after → IsRowOf columns after) [
      | None ↦ λ is t p. subst (IsRowOf columns) (ok_same p) fits
      | Some column ↦ λ is t p.
          let a = and_then-ok (stored column value) (λ v. Ok (slice_set row place v)) after p in
          let one = stored-fits column value a.0 (whole-type columns row (type_of column.kind) e value fits t has) a.1 in
          subst (IsRowOf columns) (ok_same a.2) (slice_set-fits columns row place column a.0 is fits one)
    ] refl typed h

assigned-fits : (schema : Schema) (row after : List Value) (set : Set) → IsRowOf schema.columns row → set_fits schema set ≡ true → assigned schema.columns row set ≡ Ok after → IsRowOf schema.columns after
assigned-fits schema row after set fits typed h =
    let place = column_place schema.columns set.column in
    let a = and_then-ok (expr_value schema.columns row set.value) (put_at schema.columns row place) after h in
    let t = both_true (not (is_primary schema.primary place)) (whole_fits schema.columns set.value (column_type schema.columns set.column)) typed in
    assigned-at schema.columns row after set.value a.0 place fits t.1 a.1 a.2

-- a row after assignments that the types allow
all_assigned-fits : (schema : Schema) (row after : List Value) (sets : List Set) → IsRowOf schema.columns row → list_all (set_fits schema) sets ≡ true → all_assigned schema.columns row sets ≡ Ok after → IsRowOf schema.columns after
all_assigned-fits schema row after [] fits typed h = subst (IsRowOf schema.columns) (ok_same h) fits
all_assigned-fits schema row after (set ∷ sets) fits typed h =
    let t = both_true (set_fits schema set) (list_all (set_fits schema) sets) typed in
    let a = and_then-ok (assigned schema.columns row set) (λ r. all_assigned schema.columns r sets) after h in
    all_assigned-fits schema a.0 after sets (assigned-fits schema row a.0 set fits t.0 a.1) t.1 a.2

some_same : {A : Type 0} {x y : A} → Some x ≡ Some y → x ≡ y
some_same e = cc

-- a row of the table's columns is one by the schema at its number
row_in : (schemas : List Schema) (table : ℕ) (schema : Schema) (row : List Value) → slice_get schemas table ≡ Some schema → IsRowOf schema.columns row → IsRowIn schemas table row
row_in schemas table schema row is fits = λ other there. subst (λ (s : Schema). IsRowOf s.columns row) (some_same (sym is ∙ there)) fits

updated-fits : (schemas : List Schema) (table : ℕ) (schema : Schema) (sets : List Set) (rows : List (List Value)) → slice_get schemas table ≡ Some schema → list_all (set_fits schema) sets ≡ true → AreRowsOf schema.columns rows → AllFit schemas (updated table schema sets rows).changes
updated-fits schemas table schema sets [] is typed fit = tt
updated-fits schemas table schema sets (row ∷ rows) is typed fit =
    let rest = updated-fits schemas table schema sets rows is typed fit.1 in
    elim (all_assigned schema.columns row sets) as (λ r. all_assigned schema.columns row sets ≡ r → AllFit schemas (change_then (and_then r (λ after. Ok (change_to table row after))) (updated table schema sets rows)).changes) [
      | Ok after ↦ λ h.
          let made = row_in schemas table schema after is (all_assigned-fits schema row after sets fit.0 typed h) in
          elim (is_same_row row after) as (λ b. AllFit schemas (change_then (Ok (if b then None else Some (Put table after))) (updated table schema sets rows)).changes) [ true ↦ rest | false ↦ (made, rest) ]
      | Err error ↦ λ h. tt
    ] refl

new_row-same : (schema : Schema) (rows : List (List Value)) (row made : List Value) → new_row schema rows row ≡ Ok made → row ≡ made
new_row-same schema rows row made h =
    elim (has_key schema (key_of schema row) rows) as (λ b. ◌≡◌ {A = Result (List Value) SqlError} (if b then Err (Duplicate (key_of schema row)) else Ok row) (Ok made) → row ≡ made) [
      | true ↦ λ e. never e
      | false ↦ λ e. ok_same e
    ] h

inserted-fits : (schemas : List Schema) (table : ℕ) (schema : Schema) (names : Option (List (List ℕ))) (rows : List (List Value)) (tuples : List (List Literal)) → slice_get schemas table ≡ Some schema → list_all (λ t. tuple_fits names t 0 schema.columns) tuples ≡ true → AllFit schemas (inserted table schema names rows tuples).changes
inserted-fits schemas table schema names rows [] is typed = tt
inserted-fits schemas table schema names rows (tuple ∷ tuples) is typed =
    let t = both_true (tuple_fits names tuple 0 schema.columns) (list_all (λ t. tuple_fits names t 0 schema.columns) tuples) typed in
    elim (row_for schema names rows tuple) as (λ r. row_for schema names rows tuple ≡ r → AllFit schemas (put_then table r (λ row. inserted table schema names (rows ++ row ∷ []) tuples)).changes) [
      | Ok row ↦ λ h.
          let a = and_then-ok (row_of_tuple schema.columns names tuple) (new_row schema rows) row h in
          let fits = values_from-fits names tuple 0 schema.columns a.0 t.0 a.1 in (
            row_in schemas table schema row is (subst (IsRowOf schema.columns) (new_row-same schema rows a.0 row a.2) fits),
            inserted-fits schemas table schema names (rows ++ row ∷ []) tuples is t.1,
          )
      | Err error ↦ λ h. tt
    ] refl

matching-fits : (columns : List Column) (condition : Option Filter) (rows : List (List Value)) → AreRowsOf columns rows → AreRowsOf columns (matching columns condition rows)
matching-fits columns condition [] fit = tt
matching-fits columns condition (row ∷ rows) fit =
    let rest = matching-fits columns condition rows fit.1 in
    elim (matches columns condition row) as (λ b. AreRowsOf columns (cond b (row ∷ matching columns condition rows) (matching columns condition rows))) [ true ↦ (fit.0, rest) | false ↦ rest ]

deleted-fits : (schemas : List Schema) (table : ℕ) (schema : Schema) (rows : List (List Value)) → AllFit schemas (deleted table schema rows)
deleted-fits schemas table schema [] = tt
deleted-fits schemas table schema (row ∷ rows) = deleted-fits schemas table schema rows

refused_none : (b : Bool) (e : SqlError) (rest : Option SqlError) → refused_if b e rest ≡ None → (b ≡ false) × (rest ≡ None)
refused_none true e rest h = cc
refused_none false e rest h = (refl, h)

not_false : (b : Bool) → not b ≡ false → b ≡ true
not_false true h = refl
not_false false h = cc

insert_typed : (names : Option (List (List ℕ))) (tuples : List (List Literal)) (schema : Schema) → insert_refusal names tuples schema ≡ None → list_all (λ t. tuple_fits names t 0 schema.columns) tuples ≡ true
insert_typed names tuples schema h =
    let columns = schema.columns in
    let last = refused_if (leaves_out columns names) NoDefault None in
    let typed = refused_if (not (list_all (λ t. tuple_fits names t 0 columns) tuples)) (Syntax 0) last in
    let counted = refused_if (not (list_all (λ t. length t == width_of columns names) tuples)) WrongCount typed in
    let once = refused_if (names_twice names) TwiceNamed counted in
    let a = refused_none (not (names_known columns names)) NoColumn once h in
    let b = refused_none (names_twice names) TwiceNamed counted a.1 in
    let d = refused_none (not (list_all (λ t. length t == width_of columns names) tuples)) WrongCount typed b.1 in
    let e = refused_none (not (list_all (λ t. tuple_fits names t 0 columns) tuples)) (Syntax 0) last d.1 in
    not_false (list_all (λ t. tuple_fits names t 0 columns) tuples) e.0

update_typed : (sets : List Set) (condition : Option Filter) (schema : Schema) → update_refusal sets condition schema ≡ None → list_all (set_fits schema) sets ≡ true
update_typed sets condition schema h =
    let tests = list_all (set_fits schema) sets && where_fits schema.columns condition in
    let a = refused_none (not (list_all (set_known schema.columns) sets && where_known schema.columns condition)) NoColumn (refused_if (not tests) (Syntax 0) None) h in
    let b = refused_none (not tests) (Syntax 0) None a.1 in
    (both_true (list_all (set_fits schema) sets) (where_fits schema.columns condition) (not_false tests b.0)).0

on_rows-fits : (db : Database) (name : List ℕ) (refuses : Schema → Option SqlError) (answer : ℕ → Schema → List (List Value) → Outcome) → on_table (schema_named db.schemas name) refuses ≡ None
    → ((n : ℕ) (schema : Schema) → slice_get db.schemas n ≡ Some schema → refuses schema ≡ None → AllFit db.schemas (answer n schema (rows_of n db)).changes) → AllFit db.schemas (on_rows db name answer).changes
on_rows-fits db name refuses answer h each =
    elim (table_place db.schemas name) as (λ p. on_table (schema_at db.schemas p) refuses ≡ None → AllFit db.schemas (on_number db p answer).changes) [
      | None ↦ λ e. tt
      | Some n ↦ λ e. elim (slice_get db.schemas n) as (λ o. slice_get db.schemas n ≡ o → on_table o refuses ≡ None → AllFit db.schemas (on_schema n o (rows_of n db) answer).changes) [
        | None ↦ λ is f. tt
        | Some schema ↦ λ is f. each n schema is f
      ] refl e
    ] h

created-fits : (db : Database) (table : List ℕ) (definitions : List Definition) → AllFit db.schemas (created db table definitions).changes
created-fits db table definitions =
    elim (is_some (table_place db.schemas table)) as (λ b. AllFit db.schemas (if b then answered Done else creation (schema_declared table definitions)).changes) [
      | true ↦ tt
      | false ↦ elim (schema_declared table definitions) as (λ o. AllFit db.schemas (creation o).changes) [ None ↦ tt | Some schema ↦ tt ]
    ]

module _ (db : Database) (rows_fit : (n : ℕ) (schema : Schema) → slice_get db.schemas n ≡ Some schema → AreRowsOf schema.columns (rows_of n db)) where
  answer_to-fits : (stmt : Stmt) → refusal db.schemas stmt ≡ None → AllFit db.schemas (answer_to stmt db).changes
  answer_to-fits (CreateTable table if_not_exists definitions) h = created-fits db table definitions
  answer_to-fits (Select selected table condition lock) h = on_rows-fits db table (select_refusal selected condition) (select_answer selected condition) h (λ n schema is f. tt)
  answer_to-fits (Insert table names tuples) h = on_rows-fits db table (insert_refusal names tuples) (insert_answer names tuples) h (λ n schema is f. inserted-fits db.schemas n schema names (rows_of n db) tuples is (insert_typed names tuples schema f))
  answer_to-fits (Update table sets condition) h = on_rows-fits db table (update_refusal sets condition) (update_answer sets condition) h (λ n schema is f. updated-fits db.schemas n schema sets (matching schema.columns condition (rows_of n db)) is (update_typed sets condition schema f) (matching-fits schema.columns condition (rows_of n db) (rows_fit n schema is)))
  answer_to-fits (Delete table condition) h = on_rows-fits db table (delete_refusal condition) (delete_answer condition) h (λ n schema is f. deleted-fits db.schemas n schema (matching schema.columns condition (rows_of n db)))
  answer_to-fits (Begin snapshot) h = tt
  answer_to-fits Commit h = tt
  answer_to-fits Rollback h = tt
  answer_to-fits (RollbackTo savepoint) h = tt
  answer_to-fits (Savepoint name) h = tt
  answer_to-fits (SetAutocommit on) h = tt
  answer_to-fits (SetLevel scope level) h = tt

  pub outcome-AllFit : (stmt : Stmt) → AllFit db.schemas (outcome stmt db).changes
  outcome-AllFit stmt =
      elim (refusal db.schemas stmt) as (λ o. refusal db.schemas stmt ≡ o → AllFit db.schemas (unless_refused o (answer_to stmt db)).changes) [
        | None ↦ λ is. answer_to-fits stmt is
        | Some error ↦ λ is. tt
      ] refl
