-- What steps of one session leave as it was.
use Rattle.std.specs.Prelude.{◌≡◌, ◌≢◌, ℕ, Bool, true, false, Some, slice_get}
use Rattle.entries.specs.Index.{AreKept}
use Rattle.row_versions.specs.Versions.{Stays}
use Rattle.world.specs.{State.WorldState, Stores.StoreGoes}
use Rattle.row_changes.specs.Awaited.{IsOfTable}
use Rattle.desks.specs.{declared.desk.Desk.Desk, declared.desk.Doing.Doing, declared.desk.Doing.TheVariants.Searching, Desks.Store}
use Rattle.desks.specs.Desks.{desk_at, doing_at, HasRooms}

-- ---- its places in indexes

-- Nothing has changed but the session's places in indexes, and what is known of pages. Nobody is awaited who wasn't before.
pub record MovesPlaces (s : ℕ) (old new : WorldState) : Type 0 where
  pub pairs : (index : ℕ) → AreKept (old.indexes index).pairs (new.indexes index).pairs
  pub places : (other index : ℕ) → other ≢ s → (new.indexes index).place other ≡ (old.indexes index).place other
  pub fewer : (index by : ℕ) → (new.indexes index).awaited ≡ Some by → (old.indexes index).awaited ≡ Some by
  pub versions : Stays old.versions new.versions
  pub rest : new ≡ record old { indexes = new.indexes; versions = new.versions; paged = new.paged }
  pub later : StoreGoes old.paged new.paged

-- The session is awaited no longer at the indexes of a table.
pub record LeavesTable (s table : ℕ) (old new : WorldState) : Type 0 where
  pub gone : (index by : ℕ) → IsOfTable table old.schemas index → (new.indexes index).awaited ≡ Some by → by ≢ s

abbrev pub is_searching : Doing → Bool
is_searching (Searching on) = true
is_searching other = false

-- ---- an entry that changes no row

-- no pair, no version and no table has changed
pub record HasSameRows (old new : WorldState) : Type 0 where
  pub indexes : new.indexes ≡ old.indexes
  pub versions : new.versions ≡ old.versions
  pub schemas : new.schemas ≡ old.schemas

-- The others' sessions, desks and rights to write are as they were, and what this one does.
pub record LeavesDesks (t : ℕ) (old new : Store) : Type 0 where
  pub sessions : (s : ℕ) → s ≢ t → slice_get new.world.sessions s ≡ slice_get old.world.sessions s
  pub same : (s : ℕ) → s ≢ t → desk_at s new.desks ≡ desk_at s old.desks
  pub doing : doing_at t new.desks ≡ doing_at t old.desks
  pub rooms : (desk : Desk) → desk_at t new.desks ≡ Some desk → HasRooms desk
  pub rights : (s : ℕ) → s ≢ t → old.writer ≡ Some s → new.writer ≡ Some s
  pub back : (s : ℕ) → s ≢ t → new.writer ≡ Some s → old.writer ≡ Some s
  pub cuts : new.cuts ≡ old.cuts
