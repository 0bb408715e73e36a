-- What a step of a search does, and what may keep it from going on.
use Rattle.std.specs.Prelude.{◌≡◌, ◌≢◌}
use Rattle.std.specs.Prelude.{ℕ, List, IsTrue}
use Rattle.inno_types.specs.{declared.value.Value.Value, declared.value.Schema.Schema, Order.IsBelow}
use Rattle.store_api.specs.{declared.moves.Move.Move, declared.moves.Move.TheVariants.Failed, declared.moves.Move.TheVariants.Again}
use Rattle.store_api.specs.{declared.moves.Move.TheVariants.Bad, declared.moves.Move.TheVariants.NoMemory}
use Rattle.entries.specs.{Index.Index, Index.AreKept, Calls.Delays, Calls.Leaves}
use Rattle.row_versions.specs.{Versions.Versions, Versions.Stays, Calls.IsUnseen, declared.version.Version.Version}
use Rattle.world.specs.{State.WorldState, Stores.StoreGoes, Indexes.Calls, Undoing.IsUnchanged}
use Rattle.inno_db.specs.Indexes.{index_of}
use Rattle.store_api.specs.declared.stepped.Stepped.{Stepped}
use Rattle.store_api.specs.declared.stepped.Stepped.TheVariants.{Went, Done, Hindered}
use Rattle.row_search.specs.declared.search.Hindrance.{Hindrance}
use Rattle.row_search.specs.declared.search.Hindrance.TheVariants.{Call, Malformed}
use Rattle.row_search.specs.declared.found.FoundRow.{FoundRow}
use Rattle.std.specs.{declared.vec.Vec.Vec, declared.alloc.Global.Global}
use Rattle.row_search.specs.{declared.scan.Scan.Scan, declared.phase.Phase.Phase, declared.phase.Phase.TheVariants.Seek}
use Rattle.row_search.specs.{declared.phase.Phase.TheVariants.Follow, declared.phase.Phase.TheVariants.Fetch, declared.phase.Phase.TheVariants.Walk}
use Rattle.row_search.specs.{declared.search.RowSearch.RowSearch, Sights.rows_seen, FoundRows.AreFound, FoundRows.RiseByKey}
use Rattle.row_search.specs.{Ranges.lies_in, Tables.ShowsRows, Searches.IsSearching, Searches.Finds, Searches.HasToGo, Searches.place_in}
use Rattle.store_api.specs.declared.visits.Visit.TheVariants as unseen

-- Nothing has changed but the actor's place in one index.
pub record OnlyMoves (actor index : ℕ) (old new : WorldState) : Type 0 where
  pub pairs : (other : ℕ) → AreKept (old.indexes other).pairs (new.indexes other).pairs
  pub places : (other : ℕ) → other ≢ index → (new.indexes other).place ≡ (old.indexes other).place
  pub others : (other : ℕ) → other ≢ actor → (new.indexes index).place other ≡ (old.indexes index).place other
  pub awaited : (other : ℕ) → (new.indexes other).awaited ≡ (old.indexes other).awaited
  pub versions : Stays old.versions new.versions
  pub rest : new ≡ record old { indexes = new.indexes; versions = new.versions; paged = new.paged }
  pub later : StoreGoes old.paged new.paged

-- the same index, range and reader
pub record IsSameScan (scan other : Scan) : Type 0 where
  pub table : other.table ≡ scan.table
  pub which : other.which ≡ scan.which
  pub range : other.range ≡ scan.range
  pub sight : other.sight ≡ scan.sight

-- ---- what may keep a step from going on

abbrev pub MayWait : ℕ → Index → Index → Move → Type 0
MayWait actor old new NoMemory = Unit {0}
MayWait actor old new other = Delays actor old new other

abbrev pub MayBeUnseen : Versions → Versions → Move → Type 0
MayBeUnseen old new NoMemory = Unit {0}
MayBeUnseen old new Failed = IsUnseen old new unseen.Failed
MayBeUnseen old new Again = IsUnseen old new unseen.Again
MayBeUnseen old new (Bad page rule) = IsUnseen old new (unseen.Bad page rule)
MayBeUnseen old new other = ⊥

abbrev pub PhaseWaits : ℕ → WorldState → WorldState → Scan → Phase → Move → Type 0
PhaseWaits actor old new scan Seek why = MayWait actor (old.indexes (index_of scan.table scan.which)) (new.indexes (index_of scan.table scan.which)) why
PhaseWaits actor old new scan Follow why = MayWait actor (old.indexes (index_of scan.table scan.which)) (new.indexes (index_of scan.table scan.which)) why
PhaseWaits actor old new scan (Fetch entry) why = MayWait actor (old.indexes (index_of scan.table 0)) (new.indexes (index_of scan.table 0)) why
PhaseWaits actor old new scan (Walk entry pointer) why = MayBeUnseen old.versions new.versions why
PhaseWaits actor old new scan other why = why ≡ NoMemory

-- ---- a step

-- The step went.
pub record GoesOn (actor : ℕ) (schema : Schema) (old new : WorldState) (search next : RowSearch) : Type 0 where
  pub moves : OnlyMoves actor (index_of search.scan.table search.scan.which) old new
  pub same : IsSameScan search.scan next.scan
  pub holds : IsSearching actor schema new next
  pub finds : (versions_at : Value → List Version) → ShowsRows schema search.scan old versions_at
      → Finds schema old.versions.kept_at (place_in actor search.scan old) versions_at search → Finds schema old.versions.kept_at
      (place_in actor next.scan new) versions_at next
  pub nears : (versions_at : Value → List Version) (shows : ShowsRows schema search.scan old versions_at) (n : List ℕ)
      → Finds schema old.versions.kept_at (place_in actor search.scan old) versions_at search
      → HasToGo schema old.versions.kept_at (place_in actor search.scan old) shows.searched search.phase n
      → (m : List ℕ) × HasToGo schema old.versions.kept_at (place_in actor next.scan new) shows.searched next.phase m × IsBelow m n

-- What came next was not done, and nothing has changed.
pub record Waits (actor : ℕ) (schema : Schema) (old new : WorldState) (search same : RowSearch) (why : Move) : Type 0 where
  pub unchanged : IsUnchanged old new
  pub scan_is : IsSameScan search.scan same.scan
  pub rows_are : same.scan.rows.items ≡ search.scan.rows.items
  pub phase_is : same.phase ≡ search.phase
  pub holds : IsSearching actor schema new same
  pub finds : (versions_at : Value → List Version) → Finds schema old.versions.kept_at (place_in actor search.scan old) versions_at search
      → Finds schema old.versions.kept_at (place_in actor same.scan new) versions_at same
  pub cause : PhaseWaits actor old new search.scan search.phase why

-- The search is over: the rows that the reader sees whose key in the index lies in the range, each once, in the order of
-- their primary keys. The actor has no place in the index any more.
pub record Ends (actor : ℕ) (schema : Schema) (old new : WorldState) (search : RowSearch) (rows : List _) : Type 0 where
  pub leaves : Calls (index_of search.scan.table search.scan.which) (Leaves actor) old new
  pub found : (versions_at : Value → List Version) → Finds schema old.versions.kept_at (place_in actor search.scan old) versions_at search
      → AreFound schema search.scan.which (rows_seen search.scan.sight versions_at) (lies_in schema search.scan) rows × RiseByKey rows

-- how far a step came
abbrev pub Came : Type 0
Came = Stepped (Vec FoundRow Global) Hindrance

-- a step of the search, which is the next one behind it; once it is over nothing is said of it
abbrev pub Searches : ℕ → Schema → WorldState → WorldState → RowSearch → RowSearch → Came → Type 0
Searches actor schema old new search next Went = GoesOn actor schema old new search next
Searches actor schema old new search next (Done rows) = Ends actor schema old new search rows.items
Searches actor schema old new search next (Hindered (Call why)) = Waits actor schema old new search next why
Searches actor schema old new search next (Hindered Malformed) = (next ≡ search) × IsUnchanged old new × (IsTrue old.versions.told → ⊥)

-- the scan comes from this phase to the next
abbrev pub Comes : ℕ → Schema → WorldState → WorldState → Scan → Phase → Scan → Phase × Came → Type 0
Comes actor schema old new scan phase now came =
    Searches actor schema old new (record { scan = scan; phase = phase }) (record { scan = now; phase = came.0 }) came.1
