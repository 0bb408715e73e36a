-- What a world tells of a table's rows.
use Rattle.std.specs.Prelude.{◌≡◌, ℕ, ◌+◌, ◌^◌, ◌≤◌, true, IsTrue, List, length, Option, Some, is_some}
use Rattle.inno_types.specs.{declared.value.Value.Value, declared.value.Schema.Schema}
use Rattle.entries.specs.Pairs.{Pair, AreRising, value_of}
use Rattle.row_versions.specs.declared.version.Version.{Version}
use Rattle.law_stored_rows.specs.{Records.IsClustered, Tables.HasItsColumns}
use Rattle.sql_plan.specs.Visits.{index_key}
use Rattle.world.specs.State.{WorldState}
use Rattle.inno_db.specs.Indexes.{index_of}
use Rattle.row_search.specs.{declared.scan.Scan.Scan, Sights.rows_seen}

-- no row has more versions than this
abbrev pub most_versions : ℕ
most_versions = 2 ^ 63 + 2 ^ 62

-- The pairs of the table's clustered index are told, and are these versions of its rows.
pub record ShowsTable (schema : Schema) (table : ℕ) (state : WorldState) (versions_at : Value → List Version) : Type 0 where
  pub pairs : List Pair
  pub pairs_are : (state.indexes (index_of table 0)).pairs ≡ Some pairs
  pub clustered : IsClustered table schema state.versions.kept_at pairs versions_at

-- Where it is told what is kept for roll pointers, the table's rows are told, too, and each has few versions.
abbrev pub HoldsTable : Schema → ℕ → WorldState → Type 0
HoldsTable schema table state =
    IsTrue state.versions.told
    → (versions_at : Value → List Version) × ShowsTable schema table state versions_at × ((value : Value) → length (versions_at value) ≤ most_versions)

-- each of these rows has its key in the index of this number
abbrev pub HaveKeys : Schema → ℕ → List Pair → (Value → Option (List Value)) → Type 0
HaveKeys schema which pairs row_at = (value : Value) (row : List Value) → row_at value ≡ Some row → is_some (value_of (index_key schema which row) pairs) ≡ true

-- The world tells these versions of the table's rows, and each row that the reader sees has its key in the searched index.
pub record ShowsRows (schema : Schema) (scan : Scan) (state : WorldState) (versions_at : Value → List Version) : Type 0 where
  pub told : IsTrue state.versions.told
  pub columns : HasItsColumns schema
  pub table : ShowsTable schema scan.table state versions_at
  pub searched : List Pair
  pub searched_are : (state.indexes (index_of scan.table scan.which)).pairs ≡ Some searched
  pub rising : AreRising searched
  pub keys : HaveKeys schema scan.which searched (rows_seen scan.sight versions_at)
