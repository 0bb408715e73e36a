-- A change begins to be taken back: its undo record is read, whether the row's keys are as the change left them or lag.
-- What all sessions know stays; a store that reads the record ends with it.
use Rattle.std.proofs.Common.{◌≡◌, ◌≢◌, ◌∙◌, refl, sym, ap, subst, ℕ, true, List, Some}
use Rattle.std.proofs.lemmas.Bool.{true≢false}
use Rattle.std.specs.{Prelude.◌||◌, List.list_any}
use Rattle.inno_model.specs.Past.{own}
use Rattle.row_versions.specs.{declared.place.Place.Place, declared.version.Version.Version}
use Rattle.row_versions.specs.Chains.{Chains, versions_at}
use Rattle.law_stored_rows.specs.{Tables.Said, Tables.TellsOfOlder, Entries.has_value}
use Rattle.law_stored_rows.proofs.Values.{same_place, place_itself}
use Rattle.law_past_agreement.specs.Rows.{is_place, is_at}
use Rattle.world.specs.State.{WorldState, Logged}
use Rattle.world.specs.{Told.IsTold, Told.LeavesRows, Undoing.read_into, declared.undo_room.UndoRoom.UndoRoom}
use Rattle.law_world_agreement.specs.Agreement.{Agrees}
use Rattle.undo_apply.specs.{Stages.IsPuttingBack, Rooms.IsWhole, declared.work_room.Stage.TheVariants.Find}
use Rattle.law_logged_changes.specs.Logs.{LogsAgree}
use Rattle.law_logged_changes.proofs.Leaving.{rows_leave}
use Rattle.law_logged_changes.proofs.Beginning.{tells_of_it, begins_settled, begins_lagging}
use Rattle.desks.specs.declared.desk.Doing.TheVariants.{Nothing, Lagging, Undoing}
use Rattle.desks.specs.{declared.desk.Desk.Desk, declared.desk.Doing.Doing, Desks.desk_at, Desks.doing_in, Desks.doing_at}
use Rattle.desks.specs.Holding.{IsLast, IsGoingBack, RowHeld, RowHeldAt, RowsHeld, lags_in, lags_at, works_in, said_beside, newest_place}
use Rattle.law_other_places.specs.{Beside.LeavesSession, Steps.MayPut, Steps.IsReady}
use Rattle.law_other_places.proofs.{Frames.records_leave, Frames.all_entries, Asked.nobody_lags, Asked.rows_beside_of, Rows.last_left, Rows.last_log}
use Rattle.law_other_places.proofs.{Rows.last_place, Sessions.rows_after, Quiet.steps_nowhere, Steps.says_beside, BackSteps.any_older, GoingBack.putting_left}

-- the change is at the place
pub last_at : {state : WorldState} {t : ℕ} {logged : Logged} {place : Place} → IsLast state t logged place
    → list_any (is_at state.schemas place) (own t state.past) ≡ true
last_at {state} {place = place} last =
    ap (list_any (is_at state.schemas place)) last.own_is
    ∙ ap (λ b. b || list_any (is_at state.schemas place) last.before) (ap (is_place place) last.place_is ∙ place_itself place)

some_place : (a b : Place) → Some a ≡ Some b → a ≡ b
some_place a b same = cc

module _ (t : ℕ) {chains : Chains} {old : WorldState} {desks : List Desk} (rows : RowsHeld chains old desks) (logs : LogsAgree old)
    (may : (place : Place) → list_any (is_at old.schemas place) (own t old.past) ≡ true → MayPut t place old desks) (desk : Desk)
    (at_desk : desk_at t desks ≡ Some desk) (whole : IsWhole desk.room) (anew : desk.room.stage ≡ Find) {logged : Logged} {place : Place}
    (last : IsLast old t logged place) where
  abbrev beside : Said
  beside = said_beside chains rows.said old desks t

  abbrev IsBegun : Type 0
  IsBegun = (found : Logged) × (at_place : Place) × IsLast old t found at_place × IsPuttingBack chains beside at_place found.undo desk.room old

  lags_was : {doing : Doing} → desk.doing ≡ doing → lags_in old t (doing_at t desks) ≡ lags_in old t doing
  lags_was is = ap (λ d. lags_in old t (doing_in d)) at_desk ∙ ap (lags_in old t) is

  begins : (doing : Doing) → desk.doing ≡ doing → IsReady doing → IsBegun
  begins Nothing is ready = (
    logged,
    place,
    last,
    begins_settled old logged last.log last.change last.before place (last_log logs last) last.place_is chains desk.room
        (rows_beside_of rows t (lags_was is) place (nobody_lags t place (may place (last_at last)) (lags_was is))) whole anew,
  )
  begins Lagging is ready =
      let lag = subst (RowHeld chains beside old t (read_into desk.undo) desk.room) is (subst (RowHeldAt chains beside old t) at_desk (rows.each t)) in
      let its = lag.newest.last in
      let log = last_log logs its in
      let tells = tells_of_it old lag.newest.logged its.log its.change its.before lag.newest.place log its.place_is in (
        lag.newest.logged,
        lag.newest.place,
        its,
        begins_lagging old lag.newest.logged its.log its.change its.before lag.newest.place log its.place_is chains desk.room lag.change lag.changing
            (sym lag.newest.table_is ∙ tells.table_is) (sym lag.newest.key_is) whole anew,
      )
  begins other is ready = absurd ready

  module _ {new : WorldState} (told : IsTold old) (tells : IsTold new) (leaves : LeavesRows old new) (agrees : Agrees chains new)
      (left : (s : ℕ) → LeavesSession s old new) (read : UndoRoom)
      (is_read : (found : Logged) (at_place : Place) → IsLast old t found at_place → read_into read ≡ found.undo) (ready : IsReady desk.doing)
      (now : List Desk) (here : desk_at t now ≡ Some (record desk { undo = read; doing = Undoing }))
      (same : (s : ℕ) → s ≢ t → desk_at s now ≡ desk_at s desks) where
    begun : IsBegun
    begun = begins desk.doing refl ready

    abbrev at_place : Place
    at_place = begun.1

    abbrev beside_now : Said
    beside_now = said_beside chains rows.said new now t

    newest_same : newest_place new.schemas (own t new.past) ≡ Some at_place
    newest_same = (λ i. newest_place (leaves.schemas i) ((left t).own_is i)) ∙ last_place begun.2

    -- it is one of its own changes that is taken back
    pub begun_own : (other : Place) → works_in new t Undoing ≡ Some other → list_any (is_at old.schemas other) (own t old.past) ≡ true
    begun_own other works =
        subst (λ (p : Place). list_any (is_at old.schemas p) (own t old.past) ≡ true) (some_place at_place other (sym newest_same ∙ works)) (last_at begun.2)

    lags_now : lags_in new t (doing_at t now) ≡ Some at_place
    lags_now = ap (λ d. lags_in new t (doing_in d)) here ∙ newest_same

    begun_going : IsGoingBack chains (said_beside chains rows.said new now t) new t (read_into read) desk.room
    begun_going =
        let is = is_read begun.0 begun.1 begun.2 in
        record {
          logged = begun.0;
          place = at_place;
          last = last_left t leaves.schemas (left t) begun.2;
          undo_is = is;
          putting = subst (λ u. IsPuttingBack chains beside_now at_place u desk.room new) (sym is)
              (putting_left (record {
                told = told;
                tells = tells;
                schemas = leaves.schemas;
                coded_now = (steps_nowhere rows logs told tells leaves agrees t (λ s differs. left s)).coded;
                versions = refl;
                row = λ key is. records_leave (rows_leave old new leaves) tells at_place.table key;
                entries = all_entries old new leaves.pairs tells at_place;
              }) beside beside_now
              (says_beside chains rows.said new now t at_place (ap (λ d. works_in new t (doing_in d)) here ∙ newest_same)) begun.0.undo desk.room begun.3);
        }

    -- what keys say of its place
    tells_older : (doing : Doing) → desk.doing ≡ doing → IsReady doing → TellsOfOlder at_place chains rows.said
    tells_older Nothing is ok = λ which column value has.
        ap (list_any (λ (version : Version). has_value column value version.row))
        (rows.settled at_place (nobody_lags t at_place (may at_place (last_at begun.2)) (lags_was is)) which)
        ∙ any_older column value (versions_at at_place chains) has
    tells_older Lagging is ok =
        rows.lagging t at_place (ap (is_place at_place) (lags_was is ∙ last_place begun.2) ∙ place_itself at_place)
    tells_older other is ok = absurd ok

    lagged : (doing : Doing) → desk.doing ≡ doing → IsReady doing → (other : Place) → lags_at other old desks t ≡ true → lags_at other new now t ≡ true
    lagged Nothing is ok other lags = absurd (true≢false (sym lags ∙ ap (is_place other) (lags_was is)))
    lagged Lagging is ok other lags = ap (is_place other) (lags_now ∙ sym (last_place begun.2) ∙ sym (lags_was is)) ∙ lags
    lagged doing is ok other lags = absurd ok

    begun_rows : RowsHeld chains new now
    begun_rows =
        rows_after t rows (steps_nowhere rows logs told tells leaves agrees t (λ s differs. left s))
        (record { same = same; apart = λ s other differs works. refl }) logs agrees
        (subst (RowHeldAt chains beside_now new t) (sym here) begun_going)
        (λ other is. subst (λ (p : Place). TellsOfOlder p chains rows.said)
        (same_place at_place other (sym (ap (is_place other) lags_now) ∙ is)) (tells_older desk.doing refl ready))
        (λ other is not. absurd (true≢false (sym is))) (λ other is apart. lagged desk.doing refl ready other is)

    pub taking_begins : IsGoingBack chains (said_beside chains rows.said new now t) new t (read_into read) desk.room × RowsHeld chains new now
    taking_begins = (begun_going, begun_rows)
