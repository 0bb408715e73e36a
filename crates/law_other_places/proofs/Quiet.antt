-- A session that changes no row knows nothing of one, and a step of it that leaves rows as they are leaves what all know.
-- Items, commits, views, waits and searches are such steps.
use Rattle.std.proofs.Common.{◌≡◌, ◌≢◌, ◌∙◌, refl, sym, ap, subst, ℕ, arith, true, false, List, Option, None, Some}
use Rattle.std.proofs.lemmas.Bool.{true≢false}
use Rattle.row_versions.specs.{declared.place.Place.Place, Chains.Chains}
use Rattle.law_past_agreement.specs.Rows.{is_place}
use Rattle.world.specs.{State.WorldState, Told.IsTold, Told.LeavesRows, Undoing.read_into}
use Rattle.store_api.specs.declared.answers.Undo.{Undo}
use Rattle.law_stored_rows.specs.Tables.{Said, what_is_there}
use Rattle.row_changes.specs.Told.{HasRows, AreRowsAs}
use Rattle.undo_apply.specs.declared.work_room.WorkRoom.{WorkRoom}
use Rattle.law_world_agreement.specs.Agreement.{Agrees}
use Rattle.law_logged_changes.specs.Logs.{LogsAgree}
use Rattle.law_logged_changes.proofs.Leaving.{rows_leave, rows_left}
use Rattle.desks.specs.declared.desk.Doing.TheVariants.{Nothing, Searching}
use Rattle.desks.specs.{declared.desk.Desk.Desk, declared.desk.Doing.Doing}
use Rattle.desks.specs.Desks.{desk_at, doing_in, doing_at, is_quiet_doing}
use Rattle.desks.specs.Holding.{RowHeld, RowHeldAt, RowsHeld, lags_in, lags_at, works_in, said_beside}
use Rattle.law_other_places.specs.{Beside.LeavesSession, Steps.StepsAt, Steps.LeavesWork}
use Rattle.law_other_places.proofs.{Frames.records_leave, Frames.all_entries, Sessions.rows_after, Sessions.lags_still, Sessions.other_left}

lags_nowhere : (state : WorldState) (s : ℕ) (doing : Doing) → is_quiet_doing doing ≡ true → lags_in state s doing ≡ None
lags_nowhere state s Nothing is = refl
lags_nowhere state s (Searching on) is = refl
lags_nowhere state s other is = absurd (cc)

pub quiet_lags : (state : WorldState) (s : ℕ) (desks : List Desk) (place : Place) → is_quiet_doing (doing_at s desks) ≡ true
    → lags_at place state desks s ≡ false
quiet_lags state s desks place is = ap (is_place place) (lags_nowhere state s (doing_at s desks) is)

pub quiet_works : (state : WorldState) (s : ℕ) (doing : Doing) → is_quiet_doing doing ≡ true → works_in state s doing ≡ None
quiet_works state s Nothing is = refl
quiet_works state s (Searching on) is = refl
quiet_works state s other is = absurd (cc)

knows_nothing : (chains : Chains) (beside : Said) (state : WorldState) (s : ℕ) (undo : Undo) (room : WorkRoom) (doing : Doing) → is_quiet_doing doing ≡ true
    → RowHeld chains beside state s undo room doing
knows_nothing chains beside state s undo room Nothing is = record {}
knows_nothing chains beside state s undo room (Searching on) is = record {}
knows_nothing chains beside state s undo room other is = absurd (cc)

pub quiet_row : (chains : Chains) (beside : Said) (state : WorldState) (s : ℕ) (found : Option Desk) → is_quiet_doing (doing_in found) ≡ true
    → RowHeldAt chains beside state s found
quiet_row chains beside state s None is = record {}
quiet_row chains beside state s (Some desk) is = knows_nothing chains beside state s (read_into desk.undo) desk.room desk.doing is

-- ---- a step that leaves all rows

module _ {chains : Chains} {old new : WorldState} {desks : List Desk} (rows : RowsHeld chains old desks) (logs : LogsAgree old)
    (told : IsTold old) (tells : IsTold new) (leaves : LeavesRows old new) (agrees : Agrees chains new) where
  pub steps_nowhere : (t : ℕ) → ((s : ℕ) → s ≢ t → LeavesSession s old new) → StepsAt t None chains chains rows.said rows.said old new
  steps_nowhere t sessions = record {
    told = told;
    tells = tells;
    schemas = leaves.schemas;
    coded = rows_left old new leaves chains rows.said tells rows.coded;
    versions = λ other apart. refl;
    says = λ other which apart. refl;
    rows = λ other also apart is. records_leave (rows_leave old new leaves) tells other.table also;
    entries = λ other apart. all_entries old new leaves.pairs tells other;
    sessions = sessions;
  }

  -- of a session whose keys lag nowhere, before and behind
  pub sought_kept : (t : ℕ) (now : List Desk) → ((s : ℕ) → s ≢ t → LeavesSession s old new) → ((s : ℕ) → s ≢ t → desk_at s now ≡ desk_at s desks)
      → lags_in old t (doing_at t desks) ≡ None → lags_in new t (doing_at t now) ≡ None
      → RowHeldAt chains (said_beside chains rows.said new now t) new t (desk_at t now) → RowsHeld chains new now
  sought_kept t now sessions same was none mine =
      rows_after t rows (steps_nowhere t sessions) (record { same = same; apart = λ s other differs works. refl }) logs agrees mine
      (λ other is. absurd (true≢false (sym is ∙ ap (is_place other) none)))
      (λ other is not. absurd (true≢false (sym is)))
      (λ other is apart. absurd (true≢false (sym is ∙ ap (is_place other) was)))

  -- of one that changes no row
  pub quiet_kept : (t : ℕ) (now : List Desk) → ((s : ℕ) → s ≢ t → LeavesSession s old new) → ((s : ℕ) → s ≢ t → desk_at s now ≡ desk_at s desks)
      → is_quiet_doing (doing_at t desks) ≡ true → is_quiet_doing (doing_at t now) ≡ true → RowsHeld chains new now
  quiet_kept t now sessions same quiet quiet_now =
      sought_kept t now sessions same (lags_nowhere old t (doing_at t desks) quiet) (lags_nowhere new t (doing_at t now) quiet_now)
      (quiet_row chains (said_beside chains rows.said new now t) new t (desk_at t now) quiet_now)

  -- or of nobody, as it were: all sessions and desks are as they were
  pub still_kept : ((s : ℕ) → LeavesSession s old new) → RowsHeld chains new desks
  still_kept left =
      rows_after 0 rows (steps_nowhere 0 (λ s differs. left s)) nowhere logs agrees
      (other_left 1 rows (steps_nowhere 1 (λ s differs. left s)) nowhere logs agrees 0 (λ same. omega (arith, same))) (λ other is. rows.lagging 0 other (sym (same other) ∙ is)) (λ other is not. absurd (true≢false (sym is)))
      (λ other is apart. same other ∙ is)
    where
      nowhere : {t : ℕ} → LeavesWork t None old desks desks
      nowhere = record { same = λ s differs. refl; apart = λ s other differs works. refl }

      same : (other : Place) → lags_at other new desks 0 ≡ lags_at other old desks 0
      same other = lags_still 1 rows (steps_nowhere 1 (λ s differs. left s)) nowhere 0 other (λ same. omega (arith, same))

-- ---- nobody changes a row

module _ (chains : Chains) (state : WorldState) (desks : List Desk) (quiet : (s : ℕ) → is_quiet_doing (doing_at s desks) ≡ true) where
  pub quiet_coded : RowsHeld chains state desks → HasRows chains state
  quiet_coded rows told = subst (λ said. AreRowsAs chains said state) there rows.coded
    where
      there : rows.said ≡ what_is_there chains
      there = λ i table which key. let place : Place = record { table = table; key = key } in
          rows.settled place (λ s. quiet_lags state s desks place (quiet s)) which i

  pub quiet_rows : IsTold state → HasRows chains state → RowsHeld chains state desks
  quiet_rows told rows = record {
    said = what_is_there chains;
    coded = rows told;
    each = λ s. quiet_row chains (said_beside chains (what_is_there chains) state desks s) state s (desk_at s desks) (quiet s);
    lagging = λ s place is. absurd (true≢false (sym is ∙ quiet_lags state s desks place (quiet s)));
    settled = λ place none which. refl;
  }
