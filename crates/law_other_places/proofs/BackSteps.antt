-- The steps of a change that is taken back, as all other sessions see them, and what all sessions know behind each.
-- `TakingBack` makes of them steps of the store; the last one, with the undo record cut, stands in `DoneSteps`.
use Rattle.std.proofs.Common.{◌≡◌, ◌∙◌, inl, inr, ⊎_elim, refl, sym, ap, subst, ℕ, ◌||◌, Bool, true, false, List, [], ◌∷◌, Some}
use Rattle.std.proofs.Common.{slice_get, arith}
use Rattle.std.specs.List.{list_any}
use Rattle.inno_types.specs.{declared.value.Schema.Schema, declared.value.Value.Value}
use Rattle.inno_model.specs.Past.{own}
use Rattle.store_api.specs.declared.answers.Undo.{Undo}
use Rattle.row_versions.specs.{declared.place.Place.Place, declared.version.Version.Version}
use Rattle.row_versions.specs.Chains.{Chains, versions_at, older}
use Rattle.law_stored_rows.specs.{Tables.Said, Tables.SayTheSameBut, Entries.has_value}
use Rattle.world.specs.{State.WorldState, Told.IsTold, Undoing.read_into}
use Rattle.law_world_agreement.specs.Agreement.{Agrees}
use Rattle.row_changes.specs.Told.{AreRowsAs}
use Rattle.row_changes.specs.Keys.{ChangesItsEntry}
use Rattle.undo_apply.specs.Stages.{IsPuttingBack, GoesOn, ChangesOneEntry}
use Rattle.undo_apply.specs.{Standing.TellsOf, Standing.said_but, declared.work_room.WorkRoom.WorkRoom}
use Rattle.undo_apply.proofs.{Taken.lags_there, Taken.says_place, Columns.few_keys}
use Rattle.law_logged_changes.specs.{Logs.LogsAgree, Steps.LeavesRecords, Steps.ChangesPairsAlone, Lagging.LagsAt}
use Rattle.law_logged_changes.proofs.{Lags.lags_while, Leaving.stay_leaves, Leaving.entry_leaves}
use Rattle.desks.specs.declared.desk.Doing.TheVariants.{Undoing}
use Rattle.desks.specs.{declared.desk.Desk.Desk, declared.desk.Doing.Doing, Desks.desk_at, Desks.doing_in, Desks.doing_at}
use Rattle.desks.specs.Holding.{IsGoingBack, newest_place, lags_in, said_beside}
use Rattle.law_logged_changes.proofs.Logs.{key_told}
use Rattle.law_other_places.specs.Beside.{IsKeyOf, LeavesSession}
use Rattle.desks.specs.Holding.{RowHeldAt, RowsHeld, works_in}
use Rattle.law_other_places.specs.Steps.{StepsAt, LeavesWork}
use Rattle.law_other_places.proofs.GoingBack.{putting_left}
use Rattle.law_other_places.proofs.Frames.{records_leave, other_entries}
use Rattle.law_other_places.proofs.Rows.{last_left, last_place}
use Rattle.law_other_places.proofs.Steps.{says_beside, kept_lagging}

-- of older versions tells whoever tells of all
pub any_older : (column : ℕ) (value : Value) (versions : List Version)
    → list_any (λ (version : Version). has_value column value version.row) (older versions) ≡ true
    → list_any (λ (version : Version). has_value column value version.row) versions ≡ true
any_older column value [] has = has
any_older column value (version ∷ versions) has = more (has_value column value version.row) has
  where
    more : (b : Bool) {c : Bool} → c ≡ true → b || c ≡ true
    more true is = refl
    more false is = is

-- what keys say meanwhile
pub back_lags : {chains : Chains} {beside : Said} {undo : Undo} {room : WorkRoom} {place : Place} {state : WorldState} → IsTold state
    → IsPuttingBack chains beside place undo room state → LagsAt place chains beside state
back_lags {chains} {beside} {undo} {room} {place} {state} told putting = elim (lags_while chains beside place undo room state putting told) [
  | inl lag ↦ lag
  | inr back ↦ let there : ℕ → List Version = λ which. versions_at place chains in record {
    said = said_but beside place there;
    coded = back.all;
    lag = lags_there beside place there;
    older = λ which column value has.
        ap (list_any (λ (version : Version). has_value column value version.row)) (says_place beside place there which)
        ∙ any_older column value (versions_at place chains) has;
  }
]

-- what is said beside the place may be said otherwise at it
pub back_beside : {chains : Chains} {beside said : Said} {undo : Undo} {room : WorkRoom} {place : Place} {state : WorldState} (now : Said) → IsTold state
    → AreRowsAs chains said state → SayTheSameBut place said now → IsPuttingBack chains beside place undo room state
    → IsPuttingBack chains now place undo room state
back_beside {chains} {beside} {said} {undo} {room} {place} {state} now told coded same putting =
    putting_left {place = place} {chains = chains} {after = chains} {now = said} {old = state} {new = state} (record {
      told = told;
      tells = told;
      schemas = refl;
      coded_now = coded;
      versions = refl;
      row = λ key is. record { same = refl; kept = λ pointer found is. is };
      entries = λ key is which entry at. refl;
    }) beside now same undo room putting

-- entries of keys alone change until the record is put back
pub goes_leaves : {chains : Chains} {beside : Said} {undo : Undo} {room next : WorkRoom} {place : Place} {old new : WorldState}
    → GoesOn chains beside place undo room next old new → LeavesRecords old new × ChangesPairsAlone old new
goes_leaves {undo = undo} {old = old} {new = new} goes =
    let tells = goes.holds.tells in
    let few = few_keys goes.holds.schema tells.storable in
    ⊎_elim (λ stays. (stay_leaves old new stays, stays.rest))
    (λ one. (entry_leaves undo.table one.0 one.2 one.3 old new (let within = one.1 in omega arith) one.4, one.4.rest))
    (goes.changes goes.holds.schema tells.there)

module _ (t : ℕ) {chains : Chains} {old new : WorldState} {desks : List Desk} (now : List Desk) (rows : RowsHeld chains old desks) (logs : LogsAgree old)
    (told : IsTold old) (tells : IsTold new) (agrees : Agrees chains new) (desk later : Desk) (there : desk_at t desks ≡ Some desk)
    (there_now : desk_at t now ≡ Some later) (doing : desk.doing ≡ Undoing) (doing_now : later.doing ≡ Undoing)
    (undo_is : read_into later.undo ≡ read_into desk.undo)
    (going : IsGoingBack chains (said_beside chains rows.said old desks t) old t (read_into desk.undo) desk.room)
    (leaves : LeavesRecords old new × ChangesPairsAlone old new)
    (its : (schema : Schema) → slice_get new.schemas (read_into desk.undo).table ≡ Some schema → ChangesOneEntry schema (read_into desk.undo) old new)
    (holds : IsPuttingBack chains (said_beside chains rows.said old desks t) going.place (read_into desk.undo) later.room new)
    (work : LeavesWork t (Some going.place) old desks now) where
  abbrev place : Place
  place = going.place

  abbrev beside : Said
  beside = said_beside chains rows.said old desks t

  left : (s : ℕ) → LeavesSession s old new
  left s = record {
    session = ap (λ (state : WorldState). slice_get state.sessions s) leaves.1;
    own_is = ap (λ (state : WorldState). own s state.past) leaves.1;
  }

  doing_at_t : doing_at t desks ≡ Undoing
  doing_at_t = ap doing_in there ∙ doing

  doing_at_t_now : doing_at t now ≡ Undoing
  doing_at_t_now = ap doing_in there_now ∙ doing_now

  works : lags_in old t (doing_at t desks) ≡ Some place
  works = ap (lags_in old t) doing_at_t ∙ last_place going.last

  works_old : works_in old t (doing_at t desks) ≡ Some place
  works_old = ap (works_in old t) doing_at_t ∙ last_place going.last

  newest_same : newest_place new.schemas (own t new.past) ≡ newest_place old.schemas (own t old.past)
  newest_same = λ i. newest_place (leaves.0.schemas i) ((left t).own_is i)

  lags_now : lags_in new t (doing_at t now) ≡ Some place
  lags_now = ap (lags_in new t) doing_at_t_now ∙ newest_same ∙ last_place going.last

  works_now : works_in new t (doing_at t now) ≡ Some place
  works_now = ap (works_in new t) doing_at_t_now ∙ newest_same ∙ last_place going.last

  pub lag : LagsAt place chains beside new
  lag = back_lags tells holds

  abbrev said : Said
  said = lag.said

  says : SayTheSameBut place rows.said said
  says table which value apart = lag.lag table which value apart ∙ says_beside chains rows.said old desks t place works_old table which value apart

  -- the row that is taken back
  abbrev undo_tells : TellsOf (read_into desk.undo) going.putting.schema place old.schemas
  undo_tells = going.putting.tells

  abbrev place_key : IsKeyOf place old.schemas (read_into desk.undo).key
  place_key = record {
    schema = going.putting.schema;
    there = ap (slice_get old.schemas) undo_tells.table_is ∙ undo_tells.there;
    at = key_told undo_tells;
  }

  changed : ChangesItsEntry going.putting.schema place.table (read_into desk.undo).key old new
  changed = subst (λ (table : ℕ). ChangesItsEntry going.putting.schema table (read_into desk.undo).key old new) (sym undo_tells.table_is)
      (its going.putting.schema (ap (λ (s : List Schema). slice_get s (read_into desk.undo).table) leaves.0.schemas ∙ undo_tells.there))

  pub back_steps : StepsAt t (Some place) chains chains rows.said said old new
  back_steps = record {
    told = told;
    tells = tells;
    schemas = leaves.0.schemas;
    coded = lag.coded;
    versions = λ other apart. refl;
    says = λ other which apart. says other.table which other.key apart;
    rows = λ other key apart is. records_leave leaves.0 tells other.table key;
    entries = λ other apart. other_entries place other old new (read_into desk.undo).key place_key rows.coded.keyed.few told tells apart changed;
    sessions = λ s differs. left s;
  }

  mine : RowHeldAt chains (said_beside chains said new now t) new t (desk_at t now)
  mine = subst (RowHeldAt chains (said_beside chains said new now t) new t) (sym there_now)
      (subst (λ (doing : Doing). RowHeldAt chains (said_beside chains said new now t) new t (Some (record later { doing = doing }))) (sym doing_now)
      (record {
        logged = going.logged;
        place = place;
        last = last_left t leaves.0.schemas (left t) going.last;
        undo_is = undo_is ∙ going.undo_is;
        putting = subst (λ (u : Undo). IsPuttingBack chains (said_beside chains said new now t) place u later.room new) (sym undo_is)
            (back_beside (said_beside chains said new now t) tells lag.coded (says_beside chains said new now t place works_now) holds);
      }))

  pub back_kept : RowsHeld chains new now
  back_kept = kept_lagging t rows back_steps work logs agrees (inr works) mine lags_now lag.older
