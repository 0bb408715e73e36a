-- What a session knows of the row that it is at work on stays while another makes a step at another place.
-- `Sessions` says it of all sessions at once; records, keys and taking back each have a file below.
use Rattle.std.proofs.Common.{◌≡◌, ◌∙◌, refl, sym, ap, subst, ℕ, Bool, true, false, cond, List, ◌∷◌, Option, None, Some, slice_get}
use Rattle.inno_types.specs.{declared.value.Schema.Schema}
use Rattle.inno_model.specs.Past.{own}
use Rattle.store_api.specs.declared.answers.Undo.{Undo}
use Rattle.row_versions.specs.{declared.place.Place.Place}
use Rattle.row_versions.specs.Chains.{Chains}
use Rattle.law_stored_rows.specs.{Tables.Said}
use Rattle.law_past_agreement.specs.Rows.{place_in}
use Rattle.world.specs.{State.WorldState, State.Logged, Undoing.read_into}
use Rattle.law_world_agreement.specs.Agreement.{Agrees}
use Rattle.row_changes.specs.declared.row_change.RowChange.TheVariants.{Record, Keys}
use Rattle.row_changes.specs.{declared.record_change.RecordChange.RecordChange}
use Rattle.row_changes.specs.{declared.keys_change.KeysChange.KeysChange, Keys.IsChangingKeys}
use Rattle.undo_apply.specs.{declared.work_room.WorkRoom.WorkRoom}
use Rattle.law_logged_changes.specs.Logs.{IsLogOf, LogsAgree}
use Rattle.law_logged_changes.proofs.Beginning.{tells_of_it, keys_place}
use Rattle.desks.specs.declared.desk.Doing.TheVariants.{Nothing, Searching, Changing, Lagging, Undoing}
use Rattle.desks.specs.{declared.desk.Desk.Desk, declared.desk.Doing.Doing}
use Rattle.desks.specs.Holding.{IsLast, IsLastOf, newest_place}
use Rattle.law_other_places.specs.Beside.{LeavesIt, LeavesSession}
use Rattle.row_changes.specs.Records.{IsChangingRecord}
use Rattle.desks.specs.Holding.{RowHeld, RowHeldAt, is_found, changed_place, works_in}
use Rattle.law_other_places.proofs.Gluing.{at}
use Rattle.law_other_places.proofs.Keys.{keys_left}
use Rattle.law_other_places.proofs.Records.{record_left, record_sought}
use Rattle.law_other_places.proofs.GoingBack.{putting_left}

-- ---- the newest change

pub last_left : (s : ℕ) {old new : WorldState} {logged : Logged} {place : Place} → new.schemas ≡ old.schemas → LeavesSession s old new
    → IsLast old s logged place → IsLast new s logged place
last_left s schemas mine last = record {
  session = last.session;
  work = last.work;
  has_work = record { session_is = mine.session ∙ last.has_work.session_is; work_is = last.has_work.work_is };
  log = last.log;
  log_is = last.log_is;
  change = last.change;
  before = last.before;
  own_is = mine.own_is ∙ last.own_is;
  place_is = ap (λ (tables : List Schema). place_in tables last.change) schemas ∙ last.place_is;
}

pub last_of_left : (s : ℕ) {old new : WorldState} → new.schemas ≡ old.schemas → LeavesSession s old new → (change : KeysChange) → IsLastOf old s change
    → IsLastOf new s change
last_of_left s schemas mine change is = record {
  logged = is.logged;
  place = is.place;
  last = last_left s schemas mine is.last;
  table_is = is.table_is;
  key_is = is.key_is;
}

pub last_place : {state : WorldState} {s : ℕ} {logged : Logged} {place : Place} → IsLast state s logged place
    → newest_place state.schemas (own s state.past) ≡ Some place
last_place {state} last = ap (newest_place state.schemas) last.own_is ∙ last.place_is

-- the log that it is the newest change of
pub last_log : {s : ℕ} {state : WorldState} {logged : Logged} {place : Place} → LogsAgree state → (last : IsLast state s logged place)
    → IsLogOf state (logged ∷ last.log) (last.change ∷ last.before)
last_log {s} {state} logs last =
    subst (λ (log : List Logged). IsLogOf state log (last.change ∷ last.before)) last.log_is
    (subst (IsLogOf state last.work.log) last.own_is (logs.each s last.session last.work last.has_work))

-- keys take over the newest change
pub keys_at : {chains : Chains} {beside : Said} {state : WorldState} {s : ℕ} → LogsAgree state → (change : KeysChange)
    → (p : IsChangingKeys chains beside state change) → IsLastOf state s change
    → newest_place state.schemas (own s state.past) ≡ Some (at change.table p.value)
keys_at {chains} {beside} {state} {s} logs change p newest =
    let last = newest.last in
    let tells = tells_of_it state newest.logged last.log last.change last.before newest.place (last_log logs last) last.place_is in
    last_place last ∙ ap Some (sym (keys_place chains state tells change p (sym newest.table_is ∙ tells.table_is) (sym newest.key_is)))

-- ---- the row

module _ (s : ℕ) (chains : Chains) {after : Chains} (now : Said) {old new : WorldState} (logs : LogsAgree old) (agrees : Agrees after new)
    (mine : LeavesSession s old new) (beside beside_now : Said) where
  -- of the place of the row, if there is one
  abbrev Leaves : Option Place → Type 0
  Leaves found = LeavesIt chains after now old new beside_now found

  keys_held : (change : KeysChange) → Leaves (newest_place old.schemas (own s old.past)) → IsChangingKeys chains beside old change
      → IsLastOf old s change → IsChangingKeys after beside_now new change × IsLastOf new s change
  keys_held change leaves p newest =
      let there = subst Leaves (keys_at logs change p newest) leaves in
      (keys_left beside beside_now change p there.0 there.1, last_of_left s there.0.schemas mine change newest)

  record_kept : (change : RecordChange) (b : Bool) → is_found change.stage ≡ b
      → Leaves (cond b (changed_place change (slice_get old.schemas change.table)) None) → new.schemas ≡ old.schemas → IsChangingRecord s old change
      → IsChangingRecord s new change
  record_kept change true is leaves schemas p =
      let there = subst Leaves (ap (changed_place change) p.table.there) leaves in record_left s change p schemas mine.session agrees there.0
  record_kept change false is leaves schemas p = record_sought s change p schemas mine.session agrees is

  pub row_left : (undo : Undo) (room : WorkRoom) (doing : Doing) → new.schemas ≡ old.schemas → Leaves (works_in old s doing)
      → RowHeld chains beside old s undo room doing → RowHeld after beside_now new s undo room doing
  row_left undo room Nothing schemas leaves row = row
  row_left undo room (Searching on) schemas leaves row = row
  row_left undo room (Changing (Record change key after_it)) schemas leaves row =
      (record_kept change (is_found change.stage) refl leaves schemas row.0, row.1, row.2)
  row_left undo room (Changing (Keys change)) schemas leaves row = keys_held change leaves row.0 row.1
  row_left undo room Lagging schemas leaves row = let is = keys_held row.change leaves row.changing row.newest in record {
    change = row.change;
    changing = is.0;
    newest = is.1;
  }
  row_left undo room Undoing schemas leaves row =
      let there = subst Leaves (last_place row.last) leaves in
      record {
        logged = row.logged;
        place = row.place;
        last = last_left s schemas mine row.last;
        undo_is = row.undo_is;
        putting = putting_left there.0 beside beside_now there.1 undo room row.putting;
      }

  pub row_left_at : (desk : Option Desk) → new.schemas ≡ old.schemas
      → ((d : Desk) → desk ≡ Some d → Leaves (works_in old s d.doing)) → RowHeldAt chains beside old s desk → RowHeldAt after beside_now new s desk
  row_left_at None schemas leaves row = row
  row_left_at (Some desk) schemas leaves row =
      row_left (read_into desk.undo) desk.room desk.doing schemas (leaves desk refl) row
