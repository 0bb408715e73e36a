-- The plan of a SELECT: its index is there, and the rows in its range are enough to answer by.
use Rattle.std.proofs.Common.{◌≡◌, ℕ, Bool, true, false, Option, Some, None, List, refl, sym, ap, ◌∙◌}
use Rattle.std.specs.Prelude.{All, ◌&&◌, not, slice_get}
use Rattle.inno_types.specs.declared.value.Value.{Value}
use Rattle.inno_types.specs.declared.value.Schema.{Schema}
use Rattle.inno_types.specs.declared.reply.SqlError.{SqlError}
use Rattle.inno_types.specs.declared.stmt.Filter.{Filter}
use Rattle.inno_types.specs.declared.stmt.Selected.{Selected}
use Rattle.inno_types.specs.declared.stmt.Stmt.{Stmt}
use Rattle.inno_types.specs.declared.stmt.Stmt.TheVariants as stmt
use Rattle.inno_db.specs.declared.outcome.Outcome.{Outcome}
use Rattle.inno_db.specs.Database.{Database, RowMap, rows_of}
use Rattle.inno_db.specs.Names.{table_place}
use Rattle.inno_db.specs.Typing.{filter_fits, where_known}
use Rattle.inno_db.specs.Refusals.{refused_if, on_table, schema_at, selected_known, select_refusal, refusal}
use Rattle.inno_db.specs.Outcome.{outcome, answer_to, unless_refused, table_read}
use Rattle.sql_plan.specs.declared.choice.Plan.{Plan}
use Rattle.sql_plan.specs.Plans.{whole_index}
use Rattle.inno_types.specs.Ranges.{is_within}
use Rattle.sql_plan.specs.Visits.{index_key, are_indexable, IsRowOf}
use Rattle.sql_plan.specs.Covers.{CoversMatches}
use Rattle.sql_history.specs.Readings.{is_plain_select}
use Rattle.plain_sql.specs.Finding.{IsReadFrom}
use Rattle.shared_lists.specs.Steps.{rows_in_range}
use Rattle.law_found_rows.proofs.Passing.{passing_map, rows_of-passing}
use Rattle.law_found_rows.proofs.Covered.{reads_enough, open_range}
use Rattle.read_statement.specs.Planning.{IsChosen}
use Rattle.read_statement.proofs.Selects.{of_plain}

some_same : {X : Type 0} {x y : X} → Some x ≡ Some y → x ≡ y
some_same is = cc

-- ---- the rows in its range

refused_none : (a b : Bool) (e f : SqlError) → refused_if a e (refused_if (not b) f None) ≡ None → b ≡ true
refused_none true b e f is = (let x = is in cc)
refused_none false true e f is = refl
refused_none false false e f is = (let x = is in cc)

module _ (db : Database) (n : ℕ) (schema : Schema) (there : slice_get db.schemas n ≡ Some schema) (indexable : are_indexable schema ≡ true)
    (fit : All (IsRowOf schema.columns) (rows_of n db)) (plan : Plan) where
  -- so little that a SELECT with a condition answers the same
  abbrev ReadsEnough : Stmt → Type 0
  ReadsEnough st =
      (rows : RowMap) × (rows_of n (record db { rows = rows }) ≡ rows_in_range plan schema (rows_of n db)) ×
      (outcome st (record db { rows = rows }) ≡ outcome st db)

  module _ (selected : Selected) (table : List ℕ) (condition : Filter) (at : table_place db.schemas table ≡ Some n)
      (covers : are_indexable schema ≡ true → filter_fits schema.columns condition ≡ true → CoversMatches schema condition plan) where
    abbrev statement : Stmt
    statement = stmt.Select selected table (Some condition) None

    refusal_is : refusal db.schemas statement ≡ select_refusal selected (Some condition) schema
    refusal_is =
        ap (λ place. on_table (schema_at db.schemas place) (select_refusal selected (Some condition))) at ∙ ap
        (λ (found : Option Schema). on_table found (select_refusal selected (Some condition))) there

    fits_when : refusal db.schemas statement ≡ None → filter_fits schema.columns condition ≡ true
    fits_when none =
        refused_none (not (selected_known schema.columns selected && where_known schema.columns (Some condition))) (filter_fits schema.columns condition) _ _
        (sym refusal_is ∙ none)

    by_refusal : (refused : Option SqlError) → refusal db.schemas statement ≡ refused → ReadsEnough statement
    by_refusal None is = reads_enough db table condition n schema plan at there fit (covers indexable (fits_when is)) statement (refl, refl)
    by_refusal (Some error) is =
        let rows = passing_map (λ row. is_within plan.range (index_key schema plan.which row)) db.rows in (
          rows,
          rows_of-passing (λ row. is_within plan.range (index_key schema plan.which row)) n db,
          ap (λ r. unless_refused r (answer_to statement (record db { rows = rows }))) is ∙ sym (ap (λ r. unless_refused r (answer_to statement db)) is),
        )

  module _ (answer : Outcome) where
    abbrev Answers : List (List Value) → Stmt → Type 0
    Answers rows st = (other : Database) → IsReadFrom db.schemas rows st other → answer ≡ outcome st other

    -- by all of the table's rows
    pub by_all : (st : Stmt) (rows : List (List Value)) → table_read db.schemas st ≡ Some n → rows ≡ rows_of n db → Answers rows st → answer ≡ outcome st db
    by_all st rows is are answers = answers db (record { tables = refl; each = λ m found. ap (λ k. rows_of k db) (some_same (sym found ∙ is)) ∙ sym are })

    by_range : (st : Stmt) (rows : List (List Value)) → table_read db.schemas st ≡ Some n → rows ≡ rows_in_range plan schema (rows_of n db)
        → ReadsEnough st → Answers rows st → answer ≡ outcome st db
    by_range st rows is are enough answers =
        answers (record db { rows = enough.0 }) (record
        { tables = refl; each = λ m found. ap (λ k. rows_of k (record db { rows = enough.0 })) (some_same (sym found ∙ is)) ∙ (enough.1 ∙ sym are) }) ∙
        enough.2

    whole_rows : plan ≡ whole_index → rows_in_range plan schema (rows_of n db) ≡ rows_of n db
    whole_rows is =
        ap (λ (p : Plan). rows_in_range p schema (rows_of n db)) is ∙ open_range schema whole_index (rows_of n db)
        (record { holds_some = refl; low = refl; high = refl })

    by_chosen : (rows : List (List Value)) → rows ≡ rows_in_range plan schema (rows_of n db)
        → (selected : Selected) (table : List ℕ) (condition : Option Filter) → table_place db.schemas table ≡ Some n
        → IsChosen schema (stmt.Select selected table condition None) plan
        → Answers rows (stmt.Select selected table condition None) → answer ≡ outcome (stmt.Select selected table condition None) db
    by_chosen rows are selected table None is chosen answers = by_all (stmt.Select selected table None None) rows is (are ∙ whole_rows chosen) answers
    by_chosen rows are selected table (Some condition) is chosen answers =
        by_range (stmt.Select selected table (Some condition) None) rows is are
        (by_refusal selected table condition is chosen.1 (refusal db.schemas (stmt.Select selected table (Some condition) None)) refl) answers

    -- by those rows in the plan's range
    pub by_plan : (rows : List (List Value)) → rows ≡ rows_in_range plan schema (rows_of n db) → (st : Stmt) → is_plain_select st ≡ true
        → table_read db.schemas st ≡ Some n → IsChosen schema st plan → Answers rows st → answer ≡ outcome st db
    by_plan rows are =
        of_plain (λ st. table_read db.schemas st ≡ Some n → IsChosen schema st plan → Answers rows st → answer ≡ outcome st db) (by_chosen rows are)

-- where they are those of all of the clustered index
pub whole_range : (schema : Schema) (rows : List (List Value)) → rows_in_range whole_index schema rows ≡ rows
whole_range schema rows = open_range schema whole_index rows (record { holds_some = refl; low = refl; high = refl })
