-- Searches that begin, the views by which they read, and the search of which a session's next step is one.
use Rattle.std.specs.Prelude.{◌≡◌, ℕ, Some, ◌≢◌, ◌⊎◌, ◌+◌, ◌*◌, ◌^◌, ◌≤◌, Bool, if◌then◌else◌, List, length, slice_get}
use Rattle.world.specs.{State.WorldState, State.Session, State.Work, State.Seen, State.HasWork, State.IsIndex, Told.pairs_of}
use Rattle.inno_db.specs.Indexes.{index_of}
use Rattle.row_search.specs.Searches.{BeginsWithNothing, MayBegin, IsSearching, place_in}
use Rattle.row_search.specs.{Others.KeepsFound, Others.KeepsSearching, Others.NeedsNoVersion, declared.sight.Sight.Sight, declared.scan.Scan.Scan}
use Rattle.row_search.specs.{declared.search.RowSearch.RowSearch, Tables.HoldsTable, Tables.most_versions, Visits.phase_anew, declared.found.FoundRow.FoundRow}
use Rattle.row_search.specs.{declared.sight.Sight.TheVariants.Newest, Sights.rows_seen, FoundRows.AreFound, FoundRows.RiseByKey}
use Rattle.law_stored_rows.specs.Tables.{Said, what_is_there, HasItsColumns, in_table}
use Rattle.inno_types.specs.{declared.value.Schema.Schema, Ranges.is_within}
use Rattle.sql_plan.specs.{declared.choice.Plan.Plan, Plans.whole_index, Visits.index_key}
use Rattle.desks.specs.Searching.{keys_left, visit_left}
use Rattle.desks.specs.{declared.desk.TableSearch.TableSearch, declared.desk.Doing.Doing, declared.desk.Doing.TheVariants.Searching, Shown.reading_of}
use Rattle.shared_lists.specs.declared.answers.Reading.{Reading}
use Rattle.row_versions.specs.{declared.place.Place.Place, Chains.Chains, Chains.versions_at}
use Rattle.row_changes.specs.Told.{AreRowsAs}
use Rattle.law_found_rows.specs.Finding.{IsFinding}
use Rattle.law_held_steps.specs.Leaving.{MovesPlaces}

-- the scan of a plan's range, with this reader
pub record IsScanOf (table : ℕ) (plan : Plan) (sight : Sight) (scan : Scan) : Type 0 where
  pub table_is : scan.table ≡ table
  pub which_is : scan.which ≡ plan.which
  pub range_is : scan.range ≡ plan.range
  pub sight_is : scan.sight ≡ sight

-- a new search, which has found what there is to find so far
pub record IsNewSearch (table : ℕ) (plan : Plan) (sight : Sight) (search : RowSearch) : Type 0 where
  pub scan : IsScanOf table plan sight search.scan
  pub nothing : BeginsWithNothing search
  pub may : MayBegin search

-- the same, as a session keeps it
pub record IsBegun (table : ℕ) (plan : Plan) (sight : Sight) (schema : Schema) (cuts : ℕ) (on : TableSearch) : Type 0 where
  pub search : IsNewSearch table plan sight on.search
  pub schema_is : on.schema ≡ schema
  pub unique_is : on.unique ≡ plan.unique
  pub cuts_is : on.cuts ≡ cuts

-- the session's open transaction has a view
pub record HasView (s : ℕ) (state : WorldState) : Type 0 where
  pub session : Session
  pub work : Work
  pub has_work : HasWork s session work state
  pub seen : Seen
  pub view_is : work.view ≡ Some seen

-- ---- The search of which a session's next step is one.

-- the search as it comes to its pair anew
pub record ComesAnew (search anew : RowSearch) : Type 0 where
  pub scan : anew.scan ≡ search.scan
  pub phase : anew.phase ≡ phase_anew search.phase
  pub finds : KeepsFound search anew
  pub way : NeedsNoVersion anew
  pub holds : KeepsSearching search anew

-- The search itself, where no older version was dropped since its last step; or else as it comes to its pair anew.
abbrev pub IsTakenUp : ℕ → TableSearch → RowSearch → Type 0
IsTakenUp cuts on search = ((on.cuts ≡ cuts) × (search ≡ on.search)) ⊎ ((on.cuts ≢ cuts) × ComesAnew on.search search)

-- what a step of the search asks for, and what it takes to give it up
pub record MayStep (s : ℕ) (schema : Schema) (state : WorldState) (search : RowSearch) : Type 0 where
  pub searching : IsSearching s schema state search
  pub table : HoldsTable schema search.scan.table state
  pub index : IsIndex state.schemas (index_of search.scan.table search.scan.which)

-- the plan by which the session searches
abbrev pub plan_of : TableSearch → Plan
plan_of on = record { which = on.search.scan.which; range = on.search.scan.range; unique = on.unique }

-- the session is at a search of this table, by this plan
abbrev pub IsSearchOf : Doing → ℕ → Plan → Reading → Type 0
IsSearchOf doing table plan reading =
    (on : TableSearch) × (doing ≡ Searching on) × (table ≡ on.search.scan.table) × (plan ≡ plan_of on) × (reading ≡ reading_of on.search.scan.sight)

-- ---- A whole search of the newest rows, within one call: how far it has come.

-- the plan that is searched by: all of the table while keys may lag
abbrev pub plan_read : Bool → Plan → Plan
plan_read quiet plan = if quiet then plan else whole_index

-- The table is there, and so are its rows, each with few versions, of which the searched index tells: each key does, or the
-- clustered index is searched.
pub record TellsTable (chains : Chains) (table : ℕ) (plan : Plan) (schema : Schema) (state : WorldState) : Type 0 where
  pub there : slice_get state.schemas table ≡ Some schema
  pub columns : HasItsColumns schema
  pub which : plan.which ≤ length schema.keys
  pub said : Said
  pub coded : AreRowsAs chains said state
  pub tells : (said ≡ what_is_there chains) ⊎ (plan.which ≡ 0)
  pub short : (place : Place) → length (versions_at place chains) ≤ most_versions

-- Since it began only the session's places have moved, and of the rows that were there then it has found what it came past.
pub record IsReadingNewest (chains : Chains) (s table : ℕ) (plan : Plan) (schema : Schema) (first state : WorldState) (search : RowSearch) : Type 0 where
  pub readable : TellsTable chains table plan schema first
  pub moves : MovesPlaces s first state
  pub scan : IsScanOf table plan Newest search.scan
  pub finds : IsFinding s schema state chains search

-- The newest rows of the table in the plan's range, each once, in the order of their keys.
pub record AreRead (chains : Chains) (table : ℕ) (plan : Plan) (schema : Schema) (first : WorldState) (rows : List FoundRow) : Type 0 where
  pub readable : TellsTable chains table plan schema first
  pub found : AreFound schema plan.which (rows_seen Newest (in_table table chains)) (λ row. is_within plan.range (index_key schema plan.which row)) rows
  pub rise : RiseByKey rows

-- what the search has before it, as one number: a key is more than any visit
abbrev pub left_in : ℕ → WorldState → RowSearch → ℕ
left_in s state search =
    keys_left (place_in s search.scan state) (pairs_of state (index_of search.scan.table search.scan.which)) search.phase * 2 ^ 67
    + visit_left state.versions.kept_at search.phase
