-- How far a search has come in a world with certain rows, and what steps of others leave to it.
use Rattle.std.specs.Prelude.{◌≡◌, ℕ, IsTrue, Some, slice_get}
use Rattle.inno_types.specs.{declared.value.Value.Value, declared.value.Schema.Schema}
use Rattle.row_versions.specs.Chains.{Chains}
use Rattle.law_stored_rows.specs.Tables.{in_table}
use Rattle.world.specs.State.{WorldState}
use Rattle.row_search.specs.{declared.scan.Scan.Scan, declared.search.RowSearch.RowSearch, Sights.rows_seen, Searches.IsSearching, Searches.Finds}
use Rattle.row_search.specs.{Searches.place_in, Others.KeepsFound, Others.KeepsSearching, Others.NeedsNoVersion}

-- The session's search may go on, and has found what it came past of these rows.
pub record IsFinding (s : ℕ) (schema : Schema) (state : WorldState) (chains : Chains) (search : RowSearch) : Type 0 where
  pub searching : IsSearching s schema state search
  pub finds : Finds schema state.versions.kept_at (place_in s search.scan state) (in_table search.scan.table chains) search

-- The same of the search as it comes to its pair anew: of whatever goes along no versions, with all that this one has.
abbrev pub IsFindingAnew : ℕ → Schema → WorldState → Chains → RowSearch → Type 0
IsFindingAnew s schema state chains search =
    (other : RowSearch) → other.scan ≡ search.scan → KeepsFound search other → NeedsNoVersion other → KeepsSearching search other
    → IsFinding s schema state chains other

-- It was told what is kept; the session's scan has its table and its place still, and its reader sees the same rows of the table.
pub record LeavesScan (s : ℕ) (schema : Schema) (scan : Scan) (old new : WorldState) (before after : Chains) : Type 0 where
  pub told : IsTrue old.versions.told
  pub there : slice_get new.schemas scan.table ≡ Some schema
  pub place : place_in s scan new ≡ place_in s scan old
  pub seen : (value : Value) → rows_seen scan.sight (in_table scan.table after) value ≡ rows_seen scan.sight (in_table scan.table before) value
