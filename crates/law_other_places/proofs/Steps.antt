-- The steps of a change, as all other sessions see them, and what all sessions know behind each.
-- The steps of keys stand here; `RecordSteps`, `BackSteps` and `DoneSteps` go on with the others.
use Rattle.std.proofs.Common.{◌≡◌, ◌≢◌, ◌∙◌, ◌⊎◌, inl, inr, refl, sym, ap, subst, ℕ, true, false, cond, List, Option, None, Some, slice_get}
use Rattle.std.proofs.lemmas.Bool.{cond-false, true≢false}
use Rattle.inno_types.specs.{declared.value.Schema.Schema, declared.value.Value.Value}
use Rattle.inno_model.specs.Past.{own}
use Rattle.store_api.specs.declared.answers.Undo.{Undo}
use Rattle.row_versions.specs.{declared.place.Place.Place}
use Rattle.row_versions.specs.Chains.{Chains, versions_at, is_same_place}
use Rattle.law_stored_rows.specs.{Tables.Said, Tables.SayTheSameBut, Tables.TellsOfOlder}
use Rattle.law_stored_rows.proofs.{Values.same_place}
use Rattle.law_past_agreement.specs.Rows.{is_place}
use Rattle.world.specs.{State.WorldState, Told.IsTold, Undoing.read_into}
use Rattle.law_world_agreement.specs.Agreement.{Agrees}
use Rattle.row_changes.specs.Told.{AreRowsAs, SaysAt}
use Rattle.row_changes.specs.{declared.keys_change.KeysChange.KeysChange, Keys.IsChangingKeys, Keys.GoesOnWithKeys, Told.HasRowsAt, Pairs.RowsStay}
use Rattle.row_changes.specs.declared.row_change.RowChange.TheVariants.{Keys}
use Rattle.row_changes.proofs.{Alone.keys_beside, Telling.one_value, Sessions.one_found, Keying.beside_stay}
use Rattle.undo_apply.specs.declared.work_room.WorkRoom.{WorkRoom}
use Rattle.law_logged_changes.specs.{Logs.LogsAgree}
use Rattle.law_logged_changes.proofs.{Lags.lags, Logging.beside_leaves}
use Rattle.undo_apply.proofs.Telling.{rows_left as stays_leave}
use Rattle.desks.specs.declared.desk.Doing.TheVariants.{Nothing, Changing, Lagging}
use Rattle.desks.specs.{declared.desk.Desk.Desk, declared.desk.Doing.Doing, Desks.desk_at, Desks.doing_in, Desks.doing_at}
use Rattle.desks.specs.Holding.{IsLastOf, newest_place, lags_in, lags_at, said_beside}
use Rattle.law_other_places.specs.Beside.{LeavesSession}
use Rattle.desks.specs.Holding.{RowHeld, RowHeldAt, RowsHeld, works_in}
use Rattle.law_other_places.specs.Steps.{StepsAt, LeavesWork}
use Rattle.law_other_places.proofs.Gluing.{at}
use Rattle.law_other_places.proofs.Frames.{records_leave, all_entries, other_entries}
use Rattle.law_other_places.proofs.Rows.{keys_at, last_left, last_of_left}
use Rattle.law_other_places.proofs.{Sessions.lags_there, Sessions.rows_after, Quiet.steps_nowhere}

some_place : {a b : Place} → Some a ≡ Some b → a ≡ b
some_place same = cc

-- beside its own place a session finds what is said
pub says_beside : (chains : Chains) (said : Said) (state : WorldState) (desks : List Desk) (t : ℕ) (place : Place)
    → works_in state t (doing_at t desks) ≡ Some place → SayTheSameBut place said (said_beside chains said state desks t)
says_beside chains said state desks t place works table which value apart =
    cond-false (lags_at (at table value) state desks t) (versions_at (at table value) chains) (said table which value)
    (lags_there state desks t place (at table value) works apart)

-- what is known of whatever lies at the desk is known there
pub kept_at : (chains : Chains) (beside : Said) (state : WorldState) (s : ℕ) (found : Option Desk) (doing : Doing) → doing_in found ≡ doing
    → ((undo : Undo) (room : WorkRoom) → RowHeld chains beside state s undo room doing) → RowHeldAt chains beside state s found
kept_at chains beside state s None doing is row = record {}
kept_at chains beside state s (Some desk) doing is row =
    subst (RowHeld chains beside state s (read_into desk.undo) desk.room) (sym is) (row (read_into desk.undo) desk.room)

-- ---- a step of a session that works at one place, behind which it lags there, or its keys say what is there

module _ (t : ℕ) {place : Place} {chains after : Chains} {old new : WorldState} {desks now : List Desk} (rows : RowsHeld chains old desks)
    {said : Said} (step : StepsAt t (Some place) chains after rows.said said old new) (work : LeavesWork t (Some place) old desks now)
    (logs : LogsAgree old) (agrees : Agrees after new)
    (was : (lags_in old t (doing_at t desks) ≡ None) ⊎ (lags_in old t (doing_at t desks) ≡ Some place))
    (mine : RowHeldAt after (said_beside after said new now t) new t (desk_at t now)) where
  was_there : (other : Place) → lags_at other old desks t ≡ true → is_same_place place other ≡ false → ⊥
  was_there other lags apart = elim was [
    | inl none ↦ true≢false (sym lags ∙ ap (is_place other) none)
    | inr there ↦ true≢false (sym lags ∙ ap (is_place other) there ∙ apart)
  ]

  module _ (lags : lags_in new t (doing_at t now) ≡ Some place) (older : TellsOfOlder place after said) where
    pub kept_lagging : RowsHeld after new now
    kept_lagging = rows_after t rows step work logs agrees mine
        (λ other is. subst (λ (p : Place). TellsOfOlder p after said) (same_place place other (sym (ap (is_place other) lags) ∙ is)) older)
        (λ other same not. absurd (true≢false (sym same ∙ sym (ap (is_place other) lags) ∙ not)))
        (λ other is apart. absurd (was_there other is apart))

  module _ (lags : lags_in new t (doing_at t now) ≡ None) (says : SaysAt place after said) where
    pub kept_settled : RowsHeld after new now
    kept_settled = rows_after t rows step work logs agrees mine
        (λ other is. absurd (true≢false (sym is ∙ ap (is_place other) lags)))
        (λ other same not. subst (λ (p : Place). SaysAt p after said) (same_place place other same) says)
        (λ other is apart. absurd (was_there other is apart))

-- ---- a step of a key

module _ (t : ℕ) {chains : Chains} {old new : WorldState} {desks : List Desk} (rows : RowsHeld chains old desks) (logs : LogsAgree old)
    (told : IsTold old) (tells : IsTold new) (change : KeysChange) (doing : doing_at t desks ≡ Changing (Keys change))
    (p : IsChangingKeys chains (said_beside chains rows.said old desks t) old change) (last : IsLastOf old t change) where
  abbrev place : Place
  place = at change.table p.value

  abbrev beside : Said
  beside = said_beside chains rows.said old desks t

  lags_was : lags_in old t (doing_at t desks) ≡ Some place
  lags_was = ap (lags_in old t) doing ∙ keys_at logs change p last

  works : works_in old t (doing_at t desks) ≡ Some place
  works = ap (works_in old t) doing ∙ keys_at logs change p last

  -- ---- it goes on

  module _ (next : KeysChange) (goes : GoesOnWithKeys chains (said_beside chains rows.said old desks t) old new change next) where
    schemas_same : new.schemas ≡ old.schemas
    schemas_same = ap (λ (state : WorldState). state.schemas) goes.stays.rest

    left : (s : ℕ) → LeavesSession s old new
    left s = record {
      session = ap (λ (state : WorldState). slice_get state.sessions s) goes.stays.rest;
      own_is = ap (λ (state : WorldState). own s state.past) goes.stays.rest;
    }

    one_place : at next.table goes.holds.value ≡ place
    one_place =
        let there : slice_get old.schemas change.table ≡ Some goes.holds.schema =
        ap (slice_get old.schemas) (sym goes.table_is) ∙ ap (λ (x : List Schema). slice_get x next.table) (sym schemas_same) ∙ goes.holds.table.there in
        let schema : goes.holds.schema ≡ p.schema = one_found goes.holds.schema p.schema there p.table.there in
        let value = one_value p.schema goes.holds.value p.value change.key (rw (schema, goes.key_is) at goes.holds.at) p.at in
        λ i. record { table = goes.table_is i; key = value i }

    abbrev said : Said
    said = (goes.holds.rows tells).0

    says : SayTheSameBut place rows.said said
    says table which value apart =
        (goes.holds.rows tells).2.lag table which value (ap (λ (q : Place). is_same_place q (at table value)) one_place ∙ apart)
        ∙ says_beside chains rows.said old desks t place works table which value apart

    pub key_steps : StepsAt t (Some place) chains chains rows.said said old new
    key_steps = record {
      told = told;
      tells = tells;
      schemas = schemas_same;
      coded = (goes.holds.rows tells).1;
      versions = λ other apart. refl;
      says = λ other which apart. says other.table which other.key apart;
      rows = λ other key apart is. records_leave (beside_leaves old new goes.stays) tells other.table key;
      entries = λ other apart. other_entries place other old new change.key (record { schema = p.schema; there = p.table.there; at = p.at })
          rows.coded.keyed.few told tells apart (goes.entry p.schema p.table.there);
      sessions = λ s differs. left s;
    }

    module _ {now : List Desk} (doing_now : doing_at t now ≡ Changing (Keys next)) (work : LeavesWork t (Some place) old desks now)
        (agrees : Agrees chains new) where
      newest_same : newest_place new.schemas (own t new.past) ≡ newest_place old.schemas (own t old.past)
      newest_same = λ i. newest_place (schemas_same i) ((left t).own_is i)

      lags_now : lags_in new t (doing_at t now) ≡ Some place
      lags_now = ap (lags_in new t) doing_now ∙ newest_same ∙ keys_at logs change p last

      works_now : works_in new t (doing_at t now) ≡ Some place
      works_now = ap (works_in new t) doing_now ∙ newest_same ∙ keys_at logs change p last

      mine : RowHeldAt chains (said_beside chains said new now t) new t (desk_at t now)
      mine = kept_at chains (said_beside chains said new now t) new t (desk_at t now) (Changing (Keys next)) doing_now (λ undo room. (
        keys_beside chains beside (said_beside chains said new now t) new next goes.holds (λ table which value apart.
            let other = ap (λ (q : Place). is_same_place q (at table value)) (sym one_place) ∙ apart in
            says_beside chains said new now t place works_now table which value other ∙ says table which value other
            ∙ sym (says_beside chains rows.said old desks t place works table which value other)),
        record {
          logged = last.logged;
          place = last.place;
          last = last_left t schemas_same (left t) last.last;
          table_is = last.table_is ∙ sym goes.table_is;
          key_is = last.key_is ∙ sym goes.key_is;
        },
      ))

      -- behind a step of a key all sessions know what they knew, and this one its row
      pub key_kept : RowsHeld chains new now
      key_kept = kept_lagging t rows key_steps work logs agrees (inr lags_was) mine lags_now
          (subst (λ (q : Place). TellsOfOlder q chains said) one_place
          (lags next.put next.before goes.holds.pushed.version goes.holds.pushed.versions (goes.holds.rows tells).2))

  -- ---- it is over

  module _ (stays : RowsStay old new) (over : HasRowsAt chains (said_beside chains rows.said old desks t) change.table change.key new)
      {now : List Desk} (doing_now : doing_at t now ≡ Nothing) (work : LeavesWork t (Some (at change.table p.value)) old desks now)
      (agrees : Agrees chains new) where
    ends : (found : Said) × AreRowsAs chains found new × SayTheSameBut place beside found × SaysAt place chains found
    ends = over p.schema p.value (ap (λ (state : WorldState). slice_get state.schemas change.table) stays.rest ∙ p.table.there) p.at tells

    end_steps : StepsAt t (Some place) chains chains rows.said ends.0 old new
    end_steps = record {
      told = told;
      tells = tells;
      schemas = ap (λ (state : WorldState). state.schemas) stays.rest;
      coded = ends.1;
      versions = λ other apart. refl;
      says = λ other which apart. ends.2 other.table which other.key apart
          ∙ says_beside chains rows.said old desks t place works other.table which other.key apart;
      rows = λ other key apart is. records_leave (beside_leaves old new (beside_stay old new stays)) tells other.table key;
      entries = λ other apart. all_entries old new stays.pairs tells other;
      sessions = λ s differs. record {
        session = ap (λ (state : WorldState). slice_get state.sessions s) stays.rest;
        own_is = ap (λ (state : WorldState). own s state.past) stays.rest;
      };
    }

    pub end_kept : RowsHeld chains new now
    end_kept = kept_settled t rows end_steps work logs agrees (inr lags_was)
        (kept_at chains (said_beside chains ends.0 new now t) new t (desk_at t now) Nothing doing_now (λ undo room. record {}))
        (ap (lags_in new t) doing_now) ends.3

  -- ---- it is hindered, and given up: it is to be taken back

  module _ (stays : RowsStay old new) (holds : IsChangingKeys chains (said_beside chains rows.said old desks t) new change)
      (now : List Desk) (doing_now : doing_at t now ≡ Lagging) (same : (s : ℕ) → s ≢ t → desk_at s now ≡ desk_at s desks) (agrees : Agrees chains new) where
    stays_left : (s : ℕ) → LeavesSession s old new
    stays_left s = record {
      session = ap (λ (state : WorldState). slice_get state.sessions s) stays.rest;
      own_is = ap (λ (state : WorldState). own s state.past) stays.rest;
    }

    stays_schemas : new.schemas ≡ old.schemas
    stays_schemas = ap (λ (state : WorldState). state.schemas) stays.rest

    stay_steps : StepsAt t None chains chains rows.said rows.said old new
    stay_steps = steps_nowhere rows logs told tells (stays_leave stays) agrees t (λ s differs. stays_left s)

    stays_newest : newest_place new.schemas (own t new.past) ≡ newest_place old.schemas (own t old.past)
    stays_newest = λ i. newest_place (stays_schemas i) ((stays_left t).own_is i)

    stays_lags : (other : Place) → lags_at other new now t ≡ lags_at other old desks t
    stays_lags other =
        ap (λ d. is_place other (lags_in new t d)) doing_now ∙ ap (is_place other) stays_newest ∙ sym (ap (λ d. is_place other (lags_in old t d)) doing)

    -- of each place keys say beside it what they said
    beside_still : (table which : ℕ) (value : Value) → said_beside chains rows.said new now t table which value ≡ beside table which value
    beside_still table which value =
        ap (λ b. cond b (versions_at (at table value) chains) (rows.said table which value)) (stays_lags (at table value))

    pub given_up_kept : RowsHeld chains new now
    given_up_kept = rows_after t rows stay_steps (record { same = same; apart = λ s other differs works. refl }) logs agrees
        (kept_at chains (said_beside chains rows.said new now t) new t (desk_at t now) Lagging doing_now (λ undo room. record {
          change = change;
          changing = keys_beside chains beside (said_beside chains rows.said new now t) new change holds
              (λ table which value apart. beside_still table which value);
          newest = last_of_left t stays_schemas (stays_left t) change last;
        }))
        (λ other is. rows.lagging t other (sym (stays_lags other) ∙ is)) (λ other same not. absurd (true≢false (sym same)))
        (λ other is apart. stays_lags other ∙ is)
