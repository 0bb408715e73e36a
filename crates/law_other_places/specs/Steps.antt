-- A step of one session at one place, as all other sessions see it.
-- The laws of changes and of taking back give it; searches and others' rows go on by it.
use Rattle.std.specs.Prelude.{◌≡◌, ◌≢◌, ℕ, true, false, List, Option, Some, slice_get}
use Rattle.inno_types.specs.declared.value.Schema.{Schema}
use Rattle.row_versions.specs.{declared.place.Place.Place}
use Rattle.row_versions.specs.Chains.{Chains, versions_at}
use Rattle.law_past_agreement.specs.Rows.{is_place}
use Rattle.law_stored_rows.specs.{Tables.Said, Tables.TellsOfOlder}
use Rattle.world.specs.{State.WorldState, Told.IsTold}
use Rattle.row_changes.specs.Told.{AreRowsAs, SaysAt}
use Rattle.row_changes.specs.{Rows.place_of, declared.row_change.RowChange.RowChange, Reached.Reached, Reached.Went}
use Rattle.row_changes.specs.declared.row_change.RowChange.TheVariants.{Record, Keys}
use Rattle.law_logged_changes.specs.Logs.{IsAloneAt}
use Rattle.desks.specs.declared.desk.Doing.TheVariants.{Nothing, Lagging}
use Rattle.desks.specs.{declared.desk.Desk.Desk, declared.desk.Doing.Doing, Desks.desk_at, Desks.doing_at, Holding.lags_at, Holding.said_beside}
use Rattle.law_other_places.specs.Beside.{IsKeyOf, LeavesRow, LeavesEntries, LeavesSession}
use Rattle.desks.specs.Holding.{works_in, RowHeldAt}

-- Rows, versions and what keys say are the same of all places but this one, if there is one, and so is what the other
-- sessions have.
pub record StepsAt (t : ℕ) (at : Option Place) (chains after : Chains) (said now : Said) (old new : WorldState) : Type 0 where
  pub told : IsTold old
  pub tells : IsTold new
  pub schemas : new.schemas ≡ old.schemas
  pub coded : AreRowsAs after now new
  pub versions : (other : Place) → is_place other at ≡ false → versions_at other after ≡ versions_at other chains
  pub says : (other : Place) (which : ℕ) → is_place other at ≡ false → now other.table which other.key ≡ said other.table which other.key
  pub rows : (other : Place) (key : List ℕ) → is_place other at ≡ false → IsKeyOf other old.schemas key → LeavesRow other.table key old new
  pub entries : (other : Place) → is_place other at ≡ false → LeavesEntries other old new
  pub sessions : (s : ℕ) → s ≢ t → LeavesSession s old new

-- The other sessions' desks are as they were, and none is at work at the place.
pub record LeavesWork (t : ℕ) (at : Option Place) (old : WorldState) (desks now : List Desk) : Type 0 where
  pub same : (s : ℕ) → s ≢ t → desk_at s now ≡ desk_at s desks
  pub apart : (s : ℕ) (other : Place) → s ≢ t → works_in old s (doing_at s desks) ≡ Some other → is_place other at ≡ false

-- What the session itself knows behind its step, and what keys say then of its place. Where its keys lagged elsewhere they lag yet.
pub record KnowsItsOwn (t : ℕ) (at : Option Place) (after : Chains) (said : Said) (old new : WorldState) (desks now : List Desk) : Type 0 where
  pub row : RowHeldAt after (said_beside after said new now t) new t (desk_at t now)
  pub lagging : (other : Place) → lags_at other new now t ≡ true → TellsOfOlder other after said
  pub settled : (place : Place) → is_place place at ≡ true → lags_at place new now t ≡ false → SaysAt place after said
  pub lagged : (other : Place) → lags_at other old desks t ≡ true → is_place other at ≡ false → lags_at other new now t ≡ true

-- No other session is at work at the place, or has changed it: the session may put a record there.
pub record MayPut (t : ℕ) (place : Place) (state : WorldState) (desks : List Desk) : Type 0 where
  pub apart : (s : ℕ) (other : Place) → s ≢ t → works_in state s (doing_at s desks) ≡ Some other → is_place other (Some place) ≡ false
  pub alone : IsAloneAt place t state

-- What a session's step has to know of the others: where it puts a record, that nobody else is at work there. Before, it needs nothing of them.
abbrev pub MayReach : ℕ → WorldState → List Desk → RowChange → Reached RowChange → Type 0
MayReach t state desks (Record change key after) (Went (Keys next)) =
    (schema : Schema) → slice_get state.schemas change.table ≡ Some schema → MayPut t (place_of schema change) state desks
MayReach t state desks change reached = Unit {0}

-- it has nothing under way, or a change that was given up
abbrev pub IsReady : Doing → Type 0
IsReady Nothing = Unit {0}
IsReady Lagging = Unit {0}
IsReady other = ⊥
