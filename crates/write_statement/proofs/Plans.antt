-- The plan of a statement walks an index that its table has.
use Rattle.std.proofs.Common.{◌≡◌, ℕ, ◌<◌, ◌≤◌, ◌+◌, ◌==◌, Bool, true, false, Option, Some, None, List, [], length, get_or, Result, Ok, Err, refl, sym, ap}
use Rattle.std.proofs.Common.{subst, ◌∙◌, arith}
use Rattle.std.specs.Prelude.{IfOk, slice_get, if◌then◌else◌}
use Rattle.std.proofs.lemmas.Option.{same_Some, slice_get-get_or}
use Rattle.std.proofs.lemmas.List.Quantifiers.{position-Some}
use Rattle.inno_types.specs.declared.value.Value.{Value}
use Rattle.inno_types.specs.declared.value.Column.{Column}
use Rattle.inno_types.specs.declared.value.Key.{Key}
use Rattle.inno_types.specs.declared.value.Schema.{Schema}
use Rattle.inno_types.specs.declared.stmt.Filter.{Filter}
use Rattle.inno_types.specs.declared.stmt.Literal.{Literal}
use Rattle.inno_types.specs.declared.stmt.Stmt.{Stmt}
use Rattle.inno_types.specs.declared.stmt.Stmt.TheVariants as stmt
use Rattle.sql_plan.specs.declared.interval.Interval.{Interval}
use Rattle.sql_plan.specs.declared.choice.Plan.{Plan}
use Rattle.sql_plan.specs.declared.part.Bounding.{Bounding}
use Rattle.sql_plan.specs.Parts.{ranges_of}
use Rattle.sql_plan.specs.Plans.{places_of, key_on, after_clustered, index_on, chosen_column, allowed, plan_if, plan_by, plan_of, whole_index}
use Rattle.sql_plan.specs.Visits.{are_indexable}
use Rattle.sql_plan.specs.Keys.{is_plain_key, has_given_key}
use Rattle.sql_plan.specs.Planning.{plan_for, plan_by_tuples, plan_by_keys, HoldsMatches, IsPlanFor}

key_within : (keys : List Key) (place k : ℕ) → key_on keys place ≡ Some k → k < length keys
key_within keys place k is = (position-Some (λ (key : Key). key.column == place) keys k (record { name = []; column = 0 }) is).0

key_index : (keys : List Key) (place which : ℕ) (o : Option ℕ) → key_on keys place ≡ o → after_clustered o ≡ Some which → which ≤ length keys
key_index keys place which None found is = cc
key_index keys place which (Some k) found is = subst (λ n. n ≤ length keys) (same_Some (k + 1) which is) (omega (arith, key_within keys place k found))

index_if : (schema : Schema) (place which : ℕ) (b : Bool) → (if b then Some 0 else after_clustered (key_on schema.keys place)) ≡ Some which
    → which ≤ length schema.keys
index_if schema place which true is = subst (λ n. n ≤ length schema.keys) (same_Some 0 which is) (omega arith)
index_if schema place which false is = key_index schema.keys place which (key_on schema.keys place) refl is

planned : (schema : Schema) (place : ℕ) (column : Option Column) (which : Option ℕ) (values : Interval Value) → index_on schema place ≡ which
    → (plan_if column which values).which ≤ length schema.keys
planned schema place None which values is = omega arith
planned schema place (Some column) None values is = omega arith
planned schema place (Some column) (Some which) values is = index_if schema place which (place == schema.primary) is

planned_by : (schema : Schema) (parts : List (Bounding Value)) (o : Option ℕ) → (plan_by schema parts o).which ≤ length schema.keys
planned_by schema parts None = omega arith
planned_by schema parts (Some place) = planned schema place (slice_get schema.columns place) (index_on schema place) (allowed parts place) refl

by_keys : (schema : Schema) (filter_by : Filter) (b : Bool) → (if b then plan_of schema filter_by else whole_index).which ≤ length schema.keys
by_keys schema filter_by true = planned_by schema (ranges_of schema.columns filter_by) (chosen_column schema (places_of (ranges_of schema.columns filter_by)))
by_keys schema filter_by false = omega arith

by_tuples : (schema : Schema) (names : Option (List (List ℕ))) (tuples : List (List Literal)) (o : Option Column)
    → (plan_by_tuples schema names tuples o).which ≤ length schema.keys
by_tuples schema names tuples None = omega arith
by_tuples schema names tuples (Some column) = go (is_plain_key schema.columns schema.primary column) where
  go : (b : Bool) → (if b then plan_by_keys schema (has_given_key names tuples schema.primary column) else whole_index).which ≤ length schema.keys
  go true = by_keys schema (has_given_key names tuples schema.primary column) (are_indexable schema)
  go false = omega arith

within_keys : (schema : Schema) (statement : Stmt) → (plan_for schema statement).which ≤ length schema.keys
within_keys schema (stmt.Insert table names tuples) = by_tuples schema names tuples (slice_get schema.columns schema.primary)
within_keys schema (stmt.Update table sets (Some filter_by)) = by_keys schema filter_by (are_indexable schema)
within_keys schema (stmt.Delete table (Some filter_by)) = by_keys schema filter_by (are_indexable schema)
within_keys schema (stmt.Update table sets None) = omega arith
within_keys schema (stmt.Delete table None) = omega arith
within_keys schema other = omega arith

pub which_is : (schema : Schema) (statement : Stmt) (plan : Plan) → plan ≡ plan_for schema statement → plan.which ≤ length schema.keys
which_is schema statement plan is = subst (λ (p : Plan). p.which ≤ length schema.keys) (sym is) (within_keys schema statement)

-- the schema of a table, and what is known of its plan
pub named_schema : (schemas found : List Schema) (place table : ℕ) (schema : Schema) → found ≡ schemas → place ≡ table → place < length found
    → schema ≡ get_or found place schema → slice_get schemas table ≡ Some schema
named_schema schemas found place table schema same number within is =
    ap (slice_get schemas) (sym number) ∙ (ap (λ (l : List Schema). slice_get l place) (sym same) ∙
    (slice_get-get_or found place schema within ∙ ap Some (sym is)))

pub plan_known : {E : Type 0} (r : Result Plan E) (schemas : List Schema) (table : ℕ) (statement : Stmt) (schema : Schema)
    → slice_get schemas table ≡ Some schema → IfOk r (λ plan. plan ≡ plan_for schema statement) → IfOk r (HoldsMatches schema statement)
    → IfOk r (IsPlanFor schemas table statement)
plan_known (Ok plan) schemas table statement schema there chosen enough =
    record { schema = schema; there = there; chosen = chosen; which = which_is schema statement plan chosen; enough = enough }
plan_known (Err e) schemas table statement schema there chosen enough = tt
