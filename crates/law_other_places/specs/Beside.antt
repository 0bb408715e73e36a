-- What a step of one session leaves of the row at another place.
-- Each law of a step asks no more of it than this: how the step is made does not matter here.
use Rattle.std.specs.Prelude.{◌≡◌, ℕ, List, Option, None, Some, slice_get}
use Rattle.inno_types.specs.declared.value.Schema.{Schema}
use Rattle.inno_model.specs.Past.{own}
use Rattle.entries.specs.Pairs.{value_of}
use Rattle.row_versions.specs.{declared.place.Place.Place, Chains.Chains, Chains.versions_at}
use Rattle.law_stored_rows.specs.{Edits.key_index, Records.KeepsMore, Records.kept_of, Tables.Said, Tables.SayTheSameBut}
use Rattle.world.specs.{State.WorldState, Told.IsTold, Told.pairs_of}
use Rattle.row_changes.specs.{Edits.IsKeyAt, Keys.IsEntryAt, Told.AreRowsAs}
use Rattle.law_logged_changes.specs.Logs.{records_of}

-- these bytes are the key of the place's record
pub record IsKeyOf (place : Place) (schemas : List Schema) (key : List ℕ) : Type 0 where
  pub schema : Schema
  pub there : slice_get schemas place.table ≡ Some schema
  pub at : IsKeyAt schema place.key key

-- The row's record has its bytes, and what was kept of the row is kept.
pub record LeavesRow (table : ℕ) (key : List ℕ) (old new : WorldState) : Type 0 where
  pub same : records_of new table key ≡ records_of old table key
  pub kept : KeepsMore (kept_of old.versions.kept_at table key) (kept_of new.versions.kept_at table key)

-- Each entry of the row, of whatever value, is in each key what it was. What keys say of the row doesn't tell as much: an entry of
-- which they say nothing may be absent, or stand marked.
abbrev pub LeavesEntries : Place → WorldState → WorldState → Type 0
LeavesEntries place old new =
    (key : List ℕ) (is : IsKeyOf place old.schemas key) (which : ℕ) (entry : List ℕ) → IsEntryAt is.schema which key entry
    → value_of entry (pairs_of new (key_index place.table which)) ≡ value_of entry (pairs_of old (key_index place.table which))

-- The rows are these, as keys say now; the place has the versions that it had, and its record and its entries are as they were.
pub record LeavesPlace (place : Place) (chains after : Chains) (now : Said) (old new : WorldState) : Type 0 where
  pub told : IsTold old
  pub tells : IsTold new
  pub schemas : new.schemas ≡ old.schemas
  pub coded_now : AreRowsAs after now new
  pub versions : versions_at place after ≡ versions_at place chains
  pub row : (key : List ℕ) → IsKeyOf place old.schemas key → LeavesRow place.table key old new
  pub entries : LeavesEntries place old new

-- a step leaves the place, and of all others keys say beside it what they say now
abbrev pub LeavesIt : Chains → Chains → Said → WorldState → WorldState → Said → Option Place → Type 0
LeavesIt chains after now old new beside None = Unit {0}
LeavesIt chains after now old new beside (Some place) = LeavesPlace place chains after now old new × SayTheSameBut place now beside

-- what the session has of its own is as it was
pub record LeavesSession (s : ℕ) (old new : WorldState) : Type 0 where
  pub session : slice_get new.sessions s ≡ slice_get old.sessions s
  pub own_is : own s new.past ≡ own s old.past
