-- What a change of a record asks of the rows is known where nobody's keys lag at its place.
-- Each step of a record asks it. What is known of the change that lies at a desk is told here, too.
use Rattle.std.proofs.Common.{◌≡◌, ◌∙◌, ⊎_elim, refl, sym, ap, subst, ℕ, false, List, Option, None, Some}
use Rattle.std.proofs.lemmas.Bool.{cases_Bool, cond-false, true≢false}
use Rattle.law_stored_rows.proofs.Values.{place_itself}
use Rattle.row_versions.specs.{declared.place.Place.Place, Chains.Chains, Chains.versions_at}
use Rattle.law_stored_rows.specs.Tables.{Said, SayTheSameBut}
use Rattle.law_past_agreement.specs.Rows.{is_place}
use Rattle.store_api.specs.declared.answers.Undo.{Undo}
use Rattle.world.specs.{State.WorldState, Undoing.read_into}
use Rattle.row_changes.specs.{Told.HasRowsBeside, Rows.place_of, Rows.primary_of, Rows.IsChangingRow, Rows.IsAtRow, Rows.row_after}
use Rattle.row_changes.specs.Records.{IsChangingRecord}
use Rattle.row_changes.specs.{declared.record_change.RecordChange.RecordChange, declared.row_change.RowChange.RowChange}
use Rattle.row_changes.specs.declared.row_change.RowChange.TheVariants.{Record, Keys}
use Rattle.undo_apply.specs.declared.work_room.WorkRoom.{WorkRoom}
use Rattle.row_changes.proofs.{Pushed.key_at, Telling.rows_at}
use Rattle.desks.specs.declared.desk.Doing.TheVariants.{Nothing, Changing}
use Rattle.desks.specs.{declared.desk.Desk.Desk, Desks.desk_at, Desks.doing_in, Desks.doing_at}
use Rattle.desks.specs.Holding.{RowHeld, RowHeldAt, RowsHeld, lags_in, lags_at, said_beside}
use Rattle.law_other_places.specs.Steps.{MayPut}
use Rattle.law_other_places.proofs.{Gluing.at, Sessions.each, Sessions.works_there}

-- nobody's keys lag at a place that is free to the session, whose own lag nowhere
pub nobody_lags : {state : WorldState} {desks : List Desk} (t : ℕ) (place : Place) → MayPut t place state desks → lags_in state t (doing_at t desks) ≡ None
    → (s : ℕ) → lags_at place state desks s ≡ false
nobody_lags {state} {desks} t place may none = each t (λ s. lags_at place state desks s ≡ false) (ap (is_place place) none)
    (λ s differs. ⊎_elim (λ lags. absurd (itself (may.apart s place differs (works_there state desks s place lags)))) (λ not. not)
    (cases_Bool (lags_at place state desks s)))
  where
    itself : is_place place (Some place) ≡ false → ⊥
    itself is = true≢false (sym (place_itself place) ∙ is)

module _ {chains : Chains} {state : WorldState} {desks : List Desk} (rows : RowsHeld chains state desks) (s : ℕ)
    (sought : lags_in state s (doing_at s desks) ≡ None) where
  -- whose keys lag nowhere finds beside it what is said
  says_all : (place : Place) → SayTheSameBut place (said_beside chains rows.said state desks s) rows.said
  says_all place table which value apart =
      sym (cond-false (lags_at (at table value) state desks s) (versions_at (at table value) chains) (rows.said table which value)
      (ap (is_place (at table value)) sought))

  pub rows_beside_of : (place : Place) → ((u : ℕ) → lags_at place state desks u ≡ false)
      → HasRowsBeside chains (said_beside chains rows.said state desks s) place state
  rows_beside_of place none told = (rows.said, rows.coded, says_all place, rows.settled place none)

  -- so the next step of its change may be made
  pub may_change : (change : RecordChange) (p : IsChangingRecord s state change) → ((u : ℕ) → lags_at (place_of p.schema change) state desks u ≡ false)
      → IsChangingRow s chains (said_beside chains rows.said state desks s) state (Record change change.key (row_after change.edit))
  may_change change p none = (
    p,
    rows_at chains (said_beside chains rows.said state desks s) change.table p.schema (primary_of p.schema change.edit) change.key state p.table.there
        (key_at p.schema change.edit change.key p.fits) (rows_beside_of (place_of p.schema change) none),
    refl,
    refl,
  )

-- ---- what is known of what lies at the desk

row_of : (chains : Chains) (beside : Said) (state : WorldState) (s : ℕ) (found : Option Desk) (change : RowChange) → doing_in found ≡ Changing change
    → RowHeldAt chains beside state s found → (undo : Undo) × (room : WorkRoom) × RowHeld chains beside state s undo room (Changing change)
row_of chains beside state s None change is row = absurd (let e : Nothing ≡ Changing change = is in cc)
row_of chains beside state s (Some desk) change is row =
    (read_into desk.undo, desk.room, subst (RowHeld chains beside state s (read_into desk.undo) desk.room) is row)

module _ {chains : Chains} {state : WorldState} {desks : List Desk} (rows : RowsHeld chains state desks) (s : ℕ) where
  abbrev beside : Said
  beside = said_beside chains rows.said state desks s

  pub its_row : (change : RowChange) → doing_at s desks ≡ Changing change → (undo : Undo) × (room : WorkRoom)
      × RowHeld chains beside state s undo room (Changing change)
  its_row change doing = row_of chains beside state s (desk_at s desks) change doing (rows.each s)

  -- who has a change at its desk may make its next step, whatever others do
  pub may_advance : (change : RowChange) → doing_at s desks ≡ Changing change → IsAtRow s chains beside state change
  may_advance (Record change key after) doing = (its_row (Record change key after) doing).2
  may_advance (Keys change) doing = (its_row (Keys change) doing).2.0
