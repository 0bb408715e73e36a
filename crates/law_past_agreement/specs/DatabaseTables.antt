-- The database of what a session sees, and the rows of a table as they are found by their keys.
use Rattle.std.specs.Prelude.{◌≡◌, ℕ, IsTrue, List, map}
use Rattle.std.specs.FinMap.{get, find, is_sorted}
use Rattle.inno_types.specs.declared.value.Value.{Value}
use Rattle.inno_db.specs.Database.{Database, Place, RowMap, place_cmp}
use Rattle.inno_model.specs.{declared.event.Event.Event, Past.opening}
use Rattle.law_past_agreement.specs.Order.{created}

-- the opening with all tables that have been made
abbrev pub with_all_tables : List Event → Database
with_all_tables h = record (opening h) { schemas = created h }

-- rows with their keys, at their places in a table
abbrev pub at_places : ℕ → List (Value × List Value) → List (Place × List Value)
at_places table rows = map (λ r. ((table, r.0), r.1)) rows

abbrev pub rows_in : List (Value × List Value) → List (List Value)
rows_in rows = map (λ r. r.1) rows

-- the rows rise by their keys, and each key of the table has the row that stands there
pub record AreRowsOfTable (table : ℕ) (map : RowMap) (rows : List (Value × List Value)) : Type 0 where
  pub rising : IsTrue (is_sorted place_cmp (at_places table rows))
  pub each : (key : Value) → find place_cmp (table, key) (at_places table rows) ≡ get map (table, key)
