-- What a plan's range holds of a table's rows.
use Rattle.std.specs.Prelude.{◌≡◌, ◌==◌, true, false, List}
use Rattle.inno_types.specs.declared.value.Value.{Value}
use Rattle.inno_types.specs.declared.value.Value.TheVariants.{Null}
use Rattle.inno_types.specs.declared.value.Schema.{Schema}
use Rattle.inno_types.specs.declared.stmt.Filter.{Filter}
use Rattle.inno_db.specs.declared.truth.Truth.TheVariants.{True}
use Rattle.inno_db.specs.Conditions.{truth_of}
use Rattle.sql_plan.specs.declared.choice.Plan.{Plan}
use Rattle.inno_types.specs.Ranges.{is_within}
use Rattle.sql_plan.specs.Visits.{index_key, leading_value, IsRowOf}

-- each row that meets the condition has its key in the range
abbrev pub CoversMatches : Schema → Filter → Plan → Type 0
CoversMatches schema filter plan =
    (row : List Value) → IsRowOf schema.columns row → truth_of schema.columns row filter ≡ True → is_within plan.range (index_key schema plan.which row) ≡ true

-- in a secondary index no row with NULL in the index's column has its entry in the range
abbrev pub PassesNulls : Schema → Plan → Type 0
PassesNulls schema plan =
    (row : List Value) → (plan.which == 0) ≡ false → leading_value schema plan.which row ≡ Null → is_within plan.range (index_key schema plan.which row) ≡ false
