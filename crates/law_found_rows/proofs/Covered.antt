-- What a statement reads by its plan.
use Rattle.std.proofs.Common.{◌≡◌, ◌∙◌, sym, ap, refl, ℕ, Bool, true, List, [], ◌∷◌, map, Some, None, arith}
use Rattle.std.proofs.lemmas.List.Elements.{recursion_from_All}
use Rattle.std.specs.{Prelude.filter, Prelude.All, Prelude.slice_get, List.AllByRecursion}
use Rattle.inno_types.specs.declared.stmt.Stmt.TheVariants.{Select, Update, Delete}
use Rattle.inno_types.specs.{declared.value.Value.Value, declared.value.Schema.Schema, declared.stmt.Filter.Filter, declared.stmt.Range.Range}
use Rattle.inno_types.specs.{declared.reply.Reply.TheVariants.Rows, declared.stmt.Selected.Selected, declared.stmt.Set.Set, declared.stmt.Stmt.Stmt}
use Rattle.inno_types.specs.{Ranges.is_within}
use Rattle.inno_db.specs.Outcome.{outcome, matching, unless_refused, on_rows, select_answer, update_answer, delete_answer, answered, counted, updated, deleted, selected_of}
use Rattle.inno_db.specs.{declared.truth.Truth.Truth, declared.truth.Truth.TheVariants.True, declared.truth.Truth.TheVariants.False}
use Rattle.inno_db.specs.{declared.truth.Truth.TheVariants.Unknown, Conditions.matches, Conditions.truth_of, Conditions.is_true, Database.Database}
use Rattle.inno_db.specs.{Database.RowMap, Database.rows_of, Names.table_place, declared.outcome.Outcome.Outcome, Refusals.refusal}
use Rattle.law_found_rows.specs.Plans.{SearchesFor, IsOpenRange}
use Rattle.law_found_rows.proofs.Passing.{passing_map, rows_of-passing}
use Rattle.sql_plan.specs.{declared.choice.Plan.Plan, Covers.CoversMatches, Visits.index_key, Visits.IsRowOf}

-- a test that lets no more through may come before
filter_twice : (p q : List Value → Bool) (rows : List (List Value)) → AllByRecursion (λ row. p row ≡ true → q row ≡ true) rows
    → filter p rows ≡ filter p (filter q rows)
filter_twice p q [] within = refl
filter_twice p q (row ∷ rows) within = grind (arith, within.0, filter_twice p q rows within.1)

true_is : (t : Truth) → is_true t ≡ true → t ≡ True
true_is True is = refl
true_is False is = cc
true_is Unknown is = cc

module _ (db : Database) (table : List ℕ) (filter_by : Filter) (n : ℕ) (schema : Schema) (plan : Plan) (at : table_place db.schemas table ≡ Some n)
    (there : slice_get db.schemas n ≡ Some schema) (fit : All (IsRowOf schema.columns) (rows_of n db)) (covers : CoversMatches schema filter_by plan) where
  abbrev in_range : List Value → Bool
  in_range row = is_within plan.range (index_key schema plan.which row)

  within : (rows : List (List Value)) → AllByRecursion (IsRowOf schema.columns) rows
      → AllByRecursion (λ row. matches schema.columns (Some filter_by) row ≡ true → in_range row ≡ true) rows
  within [] all = tt
  within (row ∷ rows) all = (λ met. covers row all.0 (true_is (truth_of schema.columns row filter_by) met), within rows all.1)

  module _ (rows : RowMap) (are : rows_of n (record db { rows = rows }) ≡ filter in_range (rows_of n db)) where
    abbrev with_rows : Database
    with_rows = record db { rows = rows }

    same_matching : matching schema.columns (Some filter_by) (rows_of n with_rows) ≡ matching schema.columns (Some filter_by) (rows_of n db)
    same_matching =
        ap (matching schema.columns (Some filter_by)) are
        ∙ sym (filter_twice (matches schema.columns (Some filter_by)) in_range (rows_of n db)
        (within (rows_of n db) (recursion_from_All (IsRowOf schema.columns) (rows_of n db) fit)))

    on_rows_same : (answer : ℕ → Schema → List (List Value) → Outcome) → answer n schema (rows_of n with_rows) ≡ answer n schema (rows_of n db)
        → on_rows with_rows table answer ≡ on_rows db table answer
    on_rows_same answer same = grind (arith, at, there, same)

    selects : (selected : Selected) (lock : _)
        → outcome (Select selected table (Some filter_by) lock) with_rows ≡ outcome (Select selected table (Some filter_by) lock) db
    selects selected lock =
        ap (unless_refused (refusal db.schemas (Select selected table (Some filter_by) lock)))
        (on_rows_same (select_answer selected (Some filter_by))
        (ap (λ (found : List (List Value)). answered (Rows (map (selected_of schema.columns selected) found))) same_matching))

    updates : (sets : List Set) → outcome (Update table sets (Some filter_by)) with_rows ≡ outcome (Update table sets (Some filter_by)) db
    updates sets =
        ap (unless_refused (refusal db.schemas (Update table sets (Some filter_by))))
        (on_rows_same (update_answer sets (Some filter_by)) (ap (λ (found : List (List Value)). counted (updated n schema sets found)) same_matching))

    deletes : outcome (Delete table (Some filter_by)) with_rows ≡ outcome (Delete table (Some filter_by)) db
    deletes =
        ap (unless_refused (refusal db.schemas (Delete table (Some filter_by))))
        (on_rows_same (delete_answer (Some filter_by))
        (ap (λ (found : List (List Value)). counted (record { changes = deleted n schema found; refusal = None })) same_matching))

    same_outcome : (stmt : Stmt) → SearchesFor stmt table filter_by → outcome stmt with_rows ≡ outcome stmt db
    same_outcome (Select selected name condition lock) is = rw (is.0, is.1) (selects selected lock)
    same_outcome (Update name sets condition) is = rw (is.0, is.1) (updates sets)
    same_outcome (Delete name condition) is = rw (is.0, is.1) deletes
    same_outcome other is = absurd is

  pub reads_enough : (stmt : Stmt) → SearchesFor stmt table filter_by
      → (rows : RowMap) × (rows_of n (record db { rows = rows }) ≡ filter (λ row. is_within plan.range (index_key schema plan.which row)) (rows_of n db)) ×
      (outcome stmt (record db { rows = rows }) ≡ outcome stmt db)
  reads_enough stmt is =
      let rows = passing_map in_range db.rows in
      let are = rows_of-passing in_range n db in
      (rows, are, same_outcome rows are stmt is)

-- ---- all of a table

all_within : (range : Range) (key : List ℕ) → IsOpenRange range → is_within range key ≡ true
all_within range key is = grind (arith, is)

pub all_kept : (p : List Value → Bool) (rows : List (List Value)) → ((row : List Value) → p row ≡ true) → filter p rows ≡ rows
all_kept p [] all = refl
all_kept p (row ∷ rows) all = grind (arith, all row, all_kept p rows all)

pub open_range : (schema : Schema) (plan : Plan) (rows : List (List Value)) → IsOpenRange plan.range
    → filter (λ (row : List Value). is_within plan.range (index_key schema plan.which row)) rows ≡ rows
open_range schema plan rows is =
    all_kept (λ row. is_within plan.range (index_key schema plan.which row)) rows (λ row. all_within plan.range (index_key schema plan.which row) is)
