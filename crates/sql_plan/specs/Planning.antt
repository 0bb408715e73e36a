-- By which index and range INSERT, UPDATE and DELETE search their table.
use Rattle.std.specs.Prelude.{◌≡◌, ℕ, ◌≤◌, true, if◌then◌else◌, List, length, Option, None, Some, slice_get}
use Rattle.std.specs.List.{list_all}
use Rattle.inno_types.specs.declared.value.Value.{Value}
use Rattle.inno_types.specs.declared.value.Column.{Column}
use Rattle.inno_types.specs.declared.value.Schema.{Schema}
use Rattle.inno_types.specs.declared.stmt.Filter.{Filter}
use Rattle.inno_types.specs.declared.stmt.Literal.{Literal}
use Rattle.inno_types.specs.declared.stmt.Stmt.{Stmt}
use Rattle.inno_types.specs.declared.stmt.Stmt.TheVariants as stmt
use Rattle.inno_db.specs.Database.{key_of}
use Rattle.inno_db.specs.Outcome.{is_same_value}
use Rattle.inno_db.specs.Typing.{filter_fits, tuple_fits}
use Rattle.sql_plan.specs.declared.choice.Plan.{Plan}
use Rattle.sql_plan.specs.Covers.{CoversMatches}
use Rattle.sql_plan.specs.Plans.{plan_of, whole_index}
use Rattle.inno_types.specs.Ranges.{is_within}
use Rattle.sql_plan.specs.Visits.{are_indexable, index_key, IsRowOf}
use Rattle.sql_plan.specs.Keys.{is_plain_key, has_given_key, IsMade}

-- the plan that is chosen for a condition; all of the table, where a column that leads an index is long
abbrev pub plan_by_keys : Schema → Filter → Plan
plan_by_keys schema filter = if are_indexable schema then plan_of schema filter else whole_index

-- the search of an INSERT: for the rows between the least and the greatest key that its tuples give
abbrev pub plan_by_tuples : Schema → Option (List (List ℕ)) → List (List Literal) → Option Column → Plan
plan_by_tuples schema names tuples None = whole_index
plan_by_tuples schema names tuples (Some column) =
    if is_plain_key schema.columns schema.primary column then plan_by_keys schema (has_given_key names tuples schema.primary column) else whole_index

abbrev pub plan_for : Schema → Stmt → Plan
plan_for schema (stmt.Insert table names tuples) = plan_by_tuples schema names tuples (slice_get schema.columns schema.primary)
plan_for schema (stmt.Update table sets (Some filter)) = plan_by_keys schema filter
plan_for schema (stmt.Delete table (Some filter)) = plan_by_keys schema filter
plan_for schema other = whole_index

-- each row that meets the condition has its key in the range, unless the types of the condition are refused
abbrev pub Covers : Schema → Filter → Plan → Type 0
Covers schema filter plan = filter_fits schema.columns filter ≡ true → CoversMatches schema filter plan

-- each row with the key of a row that the tuples make has its key in the range, unless the types of the tuples are refused
abbrev pub HoldsKeys : Schema → Option (List (List ℕ)) → List (List Literal) → Plan → Type 0
HoldsKeys schema names tuples plan =
    list_all (λ t. tuple_fits names t 0 schema.columns) tuples ≡ true
    → (row new : List Value) → IsRowOf schema.columns row → IsMade schema.columns names tuples new
    → is_same_value (key_of schema row) (key_of schema new) ≡ true → is_within plan.range (index_key schema plan.which row) ≡ true

-- the plan leaves out no row that the statement's outcome depends on
abbrev pub HoldsMatches : Schema → Stmt → Plan → Type 0
HoldsMatches schema (stmt.Insert table names tuples) plan = HoldsKeys schema names tuples plan
HoldsMatches schema (stmt.Update table sets (Some filter)) plan = Covers schema filter plan
HoldsMatches schema (stmt.Delete table (Some filter)) plan = Covers schema filter plan
HoldsMatches schema other plan = plan ≡ whole_index

-- the plan is the statement's for the table of this number
pub record IsPlanFor (schemas : List Schema) (table : ℕ) (statement : Stmt) (plan : Plan) : Type 0 where
  pub schema : Schema
  pub there : slice_get schemas table ≡ Some schema
  pub chosen : plan ≡ plan_for schema statement
  pub which : plan.which ≤ length schema.keys
  pub enough : HoldsMatches schema statement plan
