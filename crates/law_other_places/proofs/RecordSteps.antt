-- The steps of a record that is changed, as all other sessions see them, and what all sessions know behind each.
-- `Making` makes of them steps of the store; the steps of keys stand in `Steps`.
use Rattle.row_changes.specs.RecordReached as records
use Rattle.std.proofs.Common.{◌≡◌, ◌≢◌, ◌∙◌, inl, refl, sym, ap, subst, ℕ, false, cond, List, ◌∷◌, Option, None, Some, slice_get}
use Rattle.std.proofs.lemmas.Bool.{cond-false, eq-eqb, ne_eqb}
use Rattle.inno_types.specs.{declared.value.Schema.Schema, declared.value.Value.Value}
use Rattle.inno_model.specs.{Past.own}
use Rattle.store_api.specs.declared.answers.Undo.{Undo}
use Rattle.store_api.specs.declared.answers.Version.{Version as Coded}
use Rattle.row_versions.specs.{declared.place.Place.Place}
use Rattle.row_versions.specs.Chains.{Chains, versions_at, is_same_place}
use Rattle.row_codec.specs.Rows.{version_code}
use Rattle.law_stored_rows.specs.{Edits.clustered_index, Tables.Said, Tables.SayTheSameBut, Tables.TellsOfOlder}
use Rattle.law_stored_rows.proofs.KeptRows.{more_of}
use Rattle.law_past_agreement.specs.Rows.{place_in, is_place}
use Rattle.world.specs.{State.WorldState, Told.IsTold, Told.LeavesRows, Told.pairs_of}
use Rattle.law_world_agreement.specs.Agreement.{Agrees}
use Rattle.row_changes.specs.{declared.record_change.RecordChange.RecordChange}
use Rattle.row_changes.specs.{declared.keys_change.KeysChange.KeysChange, Keys.IsChangingKeys, Edits.change_of, Edits.IsKeyAt, Records.IsChangingRecord}
use Rattle.row_changes.specs.{Records.ChangesRecord, Rows.IsChangingRow, Rows.place_of, Rows.primary_of, Asides.StepsAside}
use Rattle.undo_apply.specs.declared.work_room.WorkRoom.{WorkRoom}
use Rattle.row_changes.specs.{declared.row_change.RowChange.TheVariants.Record, declared.row_change.RowChange.TheVariants.Keys}
use Rattle.row_changes.proofs.{Alone.keys_beside, Telling.one_value, Telling.puts_pairs, Sessions.one_found, Pushed.key_at}
use Rattle.law_logged_changes.specs.{Logs.LogsAgree, GoingOn.EntersAgreed, Steps.LeavesOtherRows, Steps.HasLogged}
use Rattle.law_logged_changes.proofs.{Lags.lags, Logging.IsLogging, Logging.logging, Logging.change_logged, Logs.put_elsewhere, Entering.place_there}
use Rattle.desks.specs.declared.desk.Doing.TheVariants.{Changing}
use Rattle.desks.specs.{declared.desk.Desk.Desk, declared.desk.Doing.Doing, Desks.desk_at, Desks.doing_at}
use Rattle.desks.specs.Holding.{IsLastOf, newest_place, lags_in, lags_at, said_beside}
use Rattle.law_other_places.specs.Beside.{IsKeyOf}
use Rattle.desks.specs.Holding.{RowHeld, RowHeldAt, RowsHeld, works_in}
use Rattle.law_other_places.specs.Steps.{StepsAt, LeavesWork}
use Rattle.law_other_places.proofs.Gluing.{at}
use Rattle.law_other_places.proofs.Frames.{other_rows_leave, other_key, records_apart}
use Rattle.law_other_places.proofs.Quiet.{sought_kept}
use Rattle.law_other_places.proofs.Steps.{says_beside, kept_at, kept_lagging}

-- ---- the version stands, and the keys come next

-- no other record has changed, and what was kept is kept
recorded_leaves : (s : ℕ) (old new : WorldState) (change : RecordChange) (schema : Schema) (kind : ℕ) (value : List ℕ) (coded : Coded)
    → IsTold old → IsTold new → IsLogging s old new change schema kind value coded → LeavesOtherRows change.table change.key old new
recorded_leaves s old new change schema kind value coded told tells is =
    let undo : Undo = record { kind = kind; table = change.table; key = change.key; value = value } in
    let bytes = version_code schema coded in
    record {
      schemas = ap (λ (state : WorldState). state.schemas) is.rows.rest;
      told = λ any. told;
      records = λ any. put_elsewhere undo (Some bytes) (pairs_of old) (pairs_of new)
          (puts_pairs (clustered_index change.table) change.key (Some bytes) old new (is.rows.here, is.rows.elsewhere) tells);
      kept = λ any other also apart. more_of old.versions.kept_at new.versions.kept_at other also (is.more any);
    }

module _ (t : ℕ) {chains : Chains} {old new : WorldState} {desks : List Desk} (rows : RowsHeld chains old desks) (logs : LogsAgree old)
    (told : IsTold old) (tells : IsTold new) (change : RecordChange) (key : List ℕ) (row : Option (List Value))
    (doing : doing_at t desks ≡ Changing (Record change key row))
    (q : IsChangingRow t chains (said_beside chains rows.said old desks t) old (Record change key row)) (next : KeysChange)
    (c : ChangesRecord t old new change (records.Recorded next.before))
    (e : EntersAgreed t chains (said_beside chains rows.said old desks t) old new change next) (table_is : next.table ≡ change.table)
    (key_is : next.key ≡ change.key) where
  abbrev p : IsChangingRecord t old change
  p = q.0

  abbrev place : Place
  place = place_of p.schema change

  abbrev beside : Said
  beside = said_beside chains rows.said old desks t

  abbrev changing : IsChangingKeys e.after beside new next
  changing = e.changing

  lags_was : lags_in old t (doing_at t desks) ≡ None
  lags_was = ap (lags_in old t) doing

  -- its keys lag nowhere yet
  beside_is : (table which : ℕ) (value : Value) → beside table which value ≡ rows.said table which value
  beside_is table which value = cond-false (lags_at (at table value) old desks t) (versions_at (at table value) chains) (rows.said table which value)
      (ap (is_place (at table value)) lags_was)

  logging_is : (kind : ℕ) × (value : List ℕ) × (coded : Coded) × IsLogging t old new change p.schema kind value coded
  logging_is = logging t old new change p next.before c

  leaves_rows : LeavesOtherRows change.table change.key old new
  leaves_rows = recorded_leaves t old new change p.schema logging_is.0 logging_is.1 logging_is.2 told tells logging_is.3

  schemas_same : new.schemas ≡ old.schemas
  schemas_same = leaves_rows.schemas

  place_key : IsKeyOf place old.schemas change.key
  place_key = record { schema = p.schema; there = p.table.there; at = key_at p.schema change.edit change.key p.fits }

  one_place : at next.table changing.value ≡ place
  one_place =
      let there : slice_get old.schemas change.table ≡ Some changing.schema =
      ap (slice_get old.schemas) (sym table_is) ∙ ap (λ (x : List Schema). slice_get x next.table) (sym schemas_same) ∙ changing.table.there in
      let schema : changing.schema ≡ p.schema = one_found changing.schema p.schema there p.table.there in
      let value = one_value p.schema changing.value (primary_of p.schema change.edit) change.key
      (subst (λ (k : List ℕ). IsKeyAt p.schema changing.value k) key_is (subst (λ (s : Schema). IsKeyAt s changing.value next.key) schema changing.at))
      (key_at p.schema change.edit change.key p.fits) in
      λ i. record { table = table_is i; key = value i }

  abbrev said : Said
  said = (changing.rows tells).0

  elsewhere : (other : Place) → is_same_place place other ≡ false → versions_at other e.after ≡ versions_at other chains
  elsewhere other apart =
      let schema = one_found e.pushes.schema p.schema e.pushes.there p.table.there in
      e.pushes.pushes other ∙ cond-false (is_same_place (place_of e.pushes.schema change) other) _ (versions_at other chains)
      (ap (λ (s : Schema). is_same_place (place_of s change) other) schema ∙ apart)

  own_others : (s : ℕ) → s ≢ t → own s new.past ≡ own s old.past
  own_others s differs = ap (own s) e.past ∙ ap (λ b. cond b (change_of change.table change.edit ∷ own s old.past) (own s old.past))
      (ne_eqb t s (λ same. differs (sym same)))

  own_mine : own t new.past ≡ change_of change.table change.edit ∷ own t old.past
  own_mine = ap (own t) e.past ∙ ap (λ b. cond b (change_of change.table change.edit ∷ own t old.past) (own t old.past)) (eq-eqb t t refl)

  says : SayTheSameBut place rows.said said
  says table which value apart =
      (changing.rows tells).2.lag table which value (ap (λ (x : Place). is_same_place x (at table value)) one_place ∙ apart)
      ∙ beside_is table which value

  pub record_steps : StepsAt t (Some place) chains e.after rows.said said old new
  record_steps = record {
    told = told;
    tells = tells;
    schemas = schemas_same;
    coded = (changing.rows tells).1;
    versions = elsewhere;
    says = λ other which apart. says other.table which other.key apart;
    rows = λ other also apart is. other_rows_leave leaves_rows tells other.table also (other_key place other old.schemas change.key also place_key is apart);
    entries = λ other apart. records_apart old new change.table rows.coded.keyed.few logging_is.3.rows.elsewhere tells other;
    sessions = λ s differs. record { session = e.beside.others s differs; own_is = own_others s differs };
  }

  placed : place_in new.schemas (change_of change.table change.edit) ≡ Some place
  placed = ap (λ (x : List Schema). place_in x (change_of change.table change.edit)) schemas_same
      ∙ place_there old.schemas change.table change.edit p.schema p.table.there

  newest_is : newest_place new.schemas (own t new.past) ≡ Some place
  newest_is = ap (newest_place new.schemas) own_mine ∙ placed

  has_logged : HasLogged t change p.work.log old new
  has_logged = change_logged t chains beside old new change key next.before row q c p.session p.work p.has_work (logs.each t p.session p.work p.has_work)

  last : IsLastOf new t next
  last = record {
    logged = has_logged.logged;
    place = place;
    last = record {
      session = has_logged.session;
      work = has_logged.work;
      has_work = has_logged.has_work;
      log = p.work.log;
      log_is = has_logged.log_is;
      change = change_of change.table change.edit;
      before = own t old.past;
      own_is = own_mine;
      place_is = placed;
    };
    table_is = sym table_is;
    key_is = has_logged.key_is ∙ sym key_is;
  }

  module _ {now : List Desk} (doing_now : doing_at t now ≡ Changing (Keys next)) (work : LeavesWork t (Some place) old desks now) where
    works_now : works_in new t (doing_at t now) ≡ Some place
    works_now = ap (works_in new t) doing_now ∙ newest_is

    mine : RowHeldAt e.after (said_beside e.after said new now t) new t (desk_at t now)
    mine = kept_at e.after (said_beside e.after said new now t) new t (desk_at t now) (Changing (Keys next)) doing_now (λ undo room. (
      keys_beside e.after beside (said_beside e.after said new now t) new next changing (λ table which value apart.
          let other = ap (λ (x : Place). is_same_place x (at table value)) (sym one_place) ∙ apart in
          says_beside e.after said new now t place works_now table which value other ∙ says table which value other ∙ sym (beside_is table which value)),
      last,
    ))

    pub record_kept : RowsHeld e.after new now
    record_kept = kept_lagging t rows record_steps work logs e.agrees (inl lags_was) mine
        (ap (lags_in new t) doing_now ∙ newest_is)
        (subst (λ (x : Place). TellsOfOlder x e.after said) one_place
        (lags next.put next.before changing.pushed.version changing.pushed.versions (changing.rows tells).2))

-- ---- a step before that

module _ (t : ℕ) {chains : Chains} {old new : WorldState} {desks : List Desk} (rows : RowsHeld chains old desks) (logs : LogsAgree old)
    (told : IsTold old) (tells : IsTold new) (aside : StepsAside t old new) (agrees : Agrees chains new)
    (change : RecordChange) (key : List ℕ) (row : Option (List Value)) (doing : doing_at t desks ≡ Changing (Record change key row)) where
  leaves : LeavesRows old new
  leaves = record { schemas = ap (λ (state : WorldState). state.schemas) aside.rest; pairs = aside.pairs; versions = aside.versions }

  -- behind it the session's keys lag nowhere still
  module _ (now : List Desk) (later : Doing) (doing_now : doing_at t now ≡ later) (none : lags_in new t later ≡ None)
      (same : (s : ℕ) → s ≢ t → desk_at s now ≡ desk_at s desks)
      (mine : (undo : Undo) (room : WorkRoom) → RowHeld chains (said_beside chains rows.said new now t) new t undo room later) where
    pub aside_kept : RowsHeld chains new now
    aside_kept =
        sought_kept rows logs told tells leaves agrees t now
        (λ s differs. record { session = aside.others s differs; own_is = ap (λ (state : WorldState). own s state.past) aside.rest }) same
        (ap (lags_in old t) doing) (ap (lags_in new t) doing_now ∙ none)
        (kept_at chains (said_beside chains rows.said new now t) new t (desk_at t now) later doing_now mine)
