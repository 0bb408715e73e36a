-- What a held world shows of rows: of each the first version along its pointers whose writer has no open slot.
-- How pages show versions and slots is left aside here; `law_read_pages` tells it of their bytes.
use Rattle.std.specs.Prelude.{◌≡◌, ℕ, ◌<◌, Bool, true, false, if◌then◌else◌, Option, List}
use Rattle.std.specs.FinMap.{get}
use Rattle.inno_types.specs.declared.value.Value.{Value}
use Rattle.inno_model.specs.declared.event.Event.{Event}
use Rattle.inno_model.specs.Past.{changed, committed, commits, IsOpen}
use Rattle.row_versions.specs.declared.place.Place.{Place}
use Rattle.row_versions.specs.declared.version.Version.{Version}
use Rattle.row_versions.specs.Chains.{in_model, first_seen}
use Rattle.law_past_agreement.specs.Order.{created, IsOrdered}
use Rattle.law_past_agreement.specs.Ids.{id_of}
use Rattle.law_past_agreement.specs.Rows.{is_at, row_opened}
use Rattle.law_past_agreement.specs.Agreement.{AreVersions}
use Rattle.law_past_agreement.specs.DatabaseTables.{with_all_tables}

-- of each row the versions to which its pointers lead, the newest first, and which ids stand in open slots
pub record Shown : Type 0 where
  pub versions : Place → List Version
  pub is_open : ℕ → Bool

abbrev pub Rows : Type 0
Rows = Place → Option (List Value)

-- of each row the first version whose writer has no open slot
abbrev pub rows_read : Shown → Rows
rows_read shown place = first_seen (λ id. if shown.is_open id then false else true) (shown.versions place)

-- in each slot that is open stands an open transaction that has an id, and each of these has one
pub record AreSlots (past : List Event) (is_open : ℕ → Bool) : Type 0 where
  pub there : (s : ℕ) → IsOpen s past → 0 < id_of past s → is_open (id_of past s) ≡ true
  pub back : (id : ℕ) → is_open id ≡ true → (s : ℕ) × IsOpen s past × (id_of past s ≡ id) × (0 < id)

-- a world by its past, and what its pages are to show
pub record HeldRows : Type 0 where
  pub past : List Event
  pub shown : Shown

-- the rows after the first so many commits
abbrev pub rows_after : List Event → ℕ → Rows
rows_after past n place = get (changed (with_all_tables past) (committed n past)).rows (in_model place)

-- The versions agree with the past, and the slots do.
pub record AreHeld (world : HeldRows) (after : ℕ → Rows) (count : ℕ) : Type 0 where
  pub ordered : IsOrdered world.past
  pub slots : AreSlots world.past world.shown.is_open
  pub versions : (place : Place) → AreVersions world.past (row_opened world.past place) (is_at (created world.past) place) (world.shown.versions place)
  pub rows_are : after ≡ rows_after world.past
  pub count_is : count ≡ commits world.past

-- a way from pages to what they show
abbrev pub read_by : ((ℕ → List ℕ) → Shown) → (ℕ → List ℕ) → Rows → Type 0
read_by show pages rows = rows_read (show pages) ≡ rows
