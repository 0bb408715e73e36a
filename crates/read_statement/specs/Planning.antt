-- Where a SELECT searches.
use Rattle.std.specs.Prelude.{◌≡◌, ℕ, ◌≤◌, true, List, length, Some, slice_get}
use Rattle.inno_types.specs.declared.value.Schema.{Schema}
use Rattle.inno_types.specs.declared.stmt.Stmt.{Stmt}
use Rattle.inno_types.specs.declared.stmt.Stmt.TheVariants.{Select}
use Rattle.inno_db.specs.Typing.{filter_fits}
use Rattle.inno_db.specs.Outcome.{table_read}
use Rattle.sql_plan.specs.declared.choice.Plan.{Plan}
use Rattle.sql_plan.specs.Plans.{plan_of, whole_index}
use Rattle.sql_plan.specs.Visits.{are_indexable}
use Rattle.sql_plan.specs.Covers.{CoversMatches}

-- The plan is the one that the condition bounds, as `choose` gives it, and leaves out no row that meets a condition of the
-- right types. Without a condition it is all of the clustered index.
abbrev pub IsChosen : Schema → Stmt → Plan → Type 0
IsChosen schema (Select selected table (Some condition) lock) plan =
    (plan ≡ plan_of schema condition) × (are_indexable schema ≡ true → filter_fits schema.columns condition ≡ true → CoversMatches schema condition plan)
IsChosen schema other plan = plan ≡ whole_index

-- The statement reads this table of these, whose indexed columns are short, and the plan is chosen for it there.
pub record IsPlanned (schemas : List Schema) (stmt : Stmt) (table : ℕ) (plan : Plan) : Type 0 where
  pub table_is : table_read schemas stmt ≡ Some table
  pub schema : Schema
  pub there : slice_get schemas table ≡ Some schema
  pub indexable : are_indexable schema ≡ true
  pub has_index : plan.which ≤ length schema.keys
  pub chosen : IsChosen schema stmt plan
