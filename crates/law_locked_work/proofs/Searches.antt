-- What a session commits is beside each search that another one keeps by a plan.
-- It is `Unmet` said of whole pieces of work, as `Working` asks it.
use Rattle.std.proofs.Common.{◌≡◌, ◌≢◌, ℕ, true, List, Option, Some, ◌⊎◌}
use Rattle.std.specs.Prelude.{slice_get}
use Rattle.std.specs.FinMap.{get}
use Rattle.inno_types.specs.declared.lock.Lock.{Lock}
use Rattle.inno_types.specs.declared.value.Value.{Value}
use Rattle.inno_types.specs.declared.value.Schema.{Schema}
use Rattle.inno_types.specs.declared.stmt.Filter.{Filter}
use Rattle.store_api.specs.declared.answers.Undo.{Undo}
use Rattle.inno_db.specs.Conditions.{matches}
use Rattle.inno_db.specs.Database.{key_of}
use Rattle.inno_db.specs.Names.{table_place}
use Rattle.inno_db.specs.Indexes.{index_of}
use Rattle.inno_model.specs.declared.event.Event.{Event}
use Rattle.inno_model.specs.Past.{own, changed, IsOpen}
use Rattle.lock_table.specs.Queue.{AreApart}
use Rattle.sql_plan.specs.declared.choice.Plan.{Plan}
use Rattle.sql_plan.specs.Visits.{IsRowOf, kind_at}
use Rattle.key_codec.specs.Keys.{IsOfKind}
use Rattle.row_versions.specs.{declared.place.Place.Place, Chains.Chains, Chains.versions_at}
use Rattle.law_past_agreement.specs.{Order.created, Order.IsOrdered, Rows.is_at, Rows.row_opened}
use Rattle.law_past_agreement.specs.Agreement.{AreVersions}
use Rattle.sql_lists.specs.Kept.{AreStanding, IsInOrder}
use Rattle.law_db.specs.Beside.{touches, IsBesideSearch}
use Rattle.law_histories.specs.Work.{committed_db}
use Rattle.law_locked_work.specs.Owned.{OwnsAt, lies_in, KeepsPlan}
use Rattle.law_locked_work.proofs.Unmet.{own_changes_are_owned, unmet_narrower}

module _ (h : List Event) (ordered : IsOrdered h) (stands : AreStanding h) (in_order : IsInOrder h) (s t : ℕ) (differ : s ≢ t) (other_open : IsOpen s h)
    (is_open : IsOpen t h) (chains : Chains)
    (rows : (place : Place) → AreVersions h (row_opened h place) (is_at (created h) place) (versions_at place chains))
    (records : ℕ → List (List ℕ)) (granted : List Lock) (log : List Undo) (apart : AreApart granted)
    -- in each index it owns what it has changed
    (owned : (table which : ℕ) (schema : Schema) → slice_get (committed_db h).schemas table ≡ Some schema → (key : Value)
    → touches (committed_db h).schemas (own t h) (table, key) ≡ true → OwnsAt schema table which (records (index_of table which)) granted chains h t key)
    -- the rows have the types of their columns
    (fit : (table : ℕ) (schema : Schema) → slice_get (committed_db h).schemas table ≡ Some schema → (key : Value) (row : List Value)
    → (get (committed_db h).rows (table, key) ≡ Some row) ⊎ (get (changed (committed_db h) (own t h)).rows (table, key) ≡ Some row)
    → IsRowOf schema.columns row)
    -- and those that it leaves have keys
    (keyed : (table : ℕ) (schema : Schema) → slice_get (committed_db h).schemas table ≡ Some schema → (key : Value) (row : List Value)
    → get (changed (committed_db h) (own t h)).rows (table, key) ≡ Some row → IsOfKind (kind_at schema.columns schema.primary) (key_of schema row)) where
  -- the other has searched by a plan that leaves out no row that meets the condition, and keeps it
  pub record KeepsSearch (name : List ℕ) (condition : Option Filter) (made : ℕ) : Type 0 where
    pub plan : Plan
    pub keeps : (table : ℕ) (schema : Schema) → table_place (committed_db h).schemas name ≡ Some table → slice_get (committed_db h).schemas table ≡ Some schema
        → KeepsPlan schema table plan (records (index_of table plan.which)) granted made log h s
    pub enough : (table : ℕ) (schema : Schema) → table_place (committed_db h).schemas name ≡ Some table → slice_get (committed_db h).schemas table ≡ Some schema
        → (row : List Value) → IsRowOf schema.columns row → matches schema.columns condition row ≡ true → lies_in schema plan row ≡ true

  pub beside_search : (name : List ℕ) (condition : Option Filter) (made : ℕ) → KeepsSearch name condition made
      → IsBesideSearch name condition (committed_db h) (own t h)
  beside_search name condition made kept table schema named is =
      unmet_narrower table (lies_in schema kept.plan) (matches schema.columns condition) (committed_db h) (own t h)
      (λ key row stands met. kept.enough table schema named is row (fit table schema is key row stands) met)
      (own_changes_are_owned h ordered stands in_order s t differ other_open is_open chains rows schema table kept.plan
      (records (index_of table kept.plan.which)) granted made log apart (λ key touched. owned table kept.plan.which schema is key touched)
      (keyed table schema is) (kept.keeps table schema named is))
