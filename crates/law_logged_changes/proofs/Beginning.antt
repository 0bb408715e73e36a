-- The newest record of a log tells of the newest version of its place, so a taking back may begin.
use Rattle.row_changes.proofs.{Sessions.one_found, Telling.one_value}
use Rattle.std.proofs.Common.{◌≡◌, inl, inr, ⊎_elim, ℕ, List, ◌∷◌, Option, Some, None, refl, sym, ap, subst, ◌∙◌, arith}
use Rattle.std.proofs.lemmas.Bool.{cases_order}
use Rattle.inno_types.specs.{declared.value.Value.Value, declared.value.Schema.Schema}
use Rattle.inno_db.specs.declared.change.Change.{Change}
use Rattle.row_versions.specs.Chains.{Chains, versions_at, older}
use Rattle.row_versions.specs.{declared.place.Place.Place, declared.version.Version.Version, declared.kept.Kept.Kept}
use Rattle.law_stored_rows.specs.{Records.shown, Records.kept_of, Tables.Said, Tables.AreCodedAs, Tables.SayTheSameBut}
use Rattle.law_stored_rows.proofs.KeptRows.{found_of}
use Rattle.law_past_agreement.specs.Rows.{place_in}
use Rattle.world.specs.{State.WorldState, State.Logged, Told.IsTold, Told.pairs_of}
use Rattle.row_changes.specs.Keys.{IsChangingKeys, IsPushed, HasRowsSoFar, SaySoFar, gone, said_next}
use Rattle.row_changes.specs.{declared.entry_put.EntryPut.EntryPut, declared.keys_change.KeysChange.KeysChange, Told.HasRowsBeside}
use Rattle.undo_apply.specs.Standing.{TellsOf, IsNewest, LeadsBack, versions_before, IsLagging, IsUnderWay}
use Rattle.undo_apply.specs.Stages.{StageHolds, IsPuttingBack}
use Rattle.undo_apply.specs.{declared.work_room.WorkRoom.WorkRoom, declared.work_room.Stage.TheVariants.Find, Rooms.IsWhole, Told.rows_of}
use Rattle.store_api.specs.declared.answers.Undo.{Undo}
use Rattle.undo_apply.proofs.{Columns.newest_read, Taken.as_but}
use Rattle.law_logged_changes.specs.Logs.{records_of, HasRecord, Stands, IsLogOf}
use Rattle.law_logged_changes.proofs.Logs.{newest_stands, key_told}

-- ---- the place and its newest version

abbrev at : ℕ → Value → Place
at table value = record { table = table; key = value }

-- ---- the newest record

-- the keys of the undo record's row are changed at its place
module _ (chains : Chains) (state : WorldState) {beside : Said} {undo : Undo} {schema : Schema} {place : Place}
    (tells : TellsOf undo schema place state.schemas)
    (keys : KeysChange) (is : IsChangingKeys chains beside state keys) (table_is : keys.table ≡ undo.table) (key_is : keys.key ≡ undo.key) where
  pub keys_place : at keys.table is.value ≡ place
  keys_place =
      let here : is.schema ≡ schema = let there = is.table.there in let also = tells.there in cc in
      let key = one_value schema is.value place.key undo.key (rw (here, key_is) at is.at) (key_told tells) in
      let table = table_is ∙ sym tells.table_is in
      λ i. record { table = table i; key = key i }

-- what is kept of the row is kept
led_back : (undo : Undo) (kept : ℕ → Option Kept) (pointer : ℕ) → LeadsBack undo (kept_of kept undo.table undo.key) pointer → LeadsBack undo kept pointer
led_back undo kept pointer (inl new) = inl new
led_back undo kept pointer (inr (kind, leads, former, there, bytes)) =
    inr (kind, leads, former, found_of kept undo.table undo.key pointer former there, bytes)

module _ (chains : Chains) (state : WorldState) (logged : Logged) (place : Place) (schema : Schema) (tells : TellsOf logged.undo schema place state.schemas)
    (has : HasRecord state (records_of state) schema logged) where
  pub newest_is : IsNewest logged.undo schema (pairs_of state) state.versions.kept_at has.bytes has.coded
  newest_is = record { there = has.there; code_is = has.code_is; before = led_back logged.undo state.versions.kept_at has.coded.pointer has.before }

  versions_are : (said : Said) → AreCodedAs state.schemas (pairs_of state) state.versions.kept_at chains said
      → versions_at place chains ≡ shown has.coded ∷ versions_before chains place
  versions_are said are =
      (newest_read logged.undo schema place state.schemas tells (pairs_of state) state.versions.kept_at chains has.bytes has.coded are.clustered newest_is).0

  -- the change is under way, and no key is done
  abbrev Way : Said → Type 0
  Way beside =
      IsUnderWay chains beside place logged.undo schema (rows_of state) has.bytes has.coded 0 (IsLagging (shown has.coded) (versions_before chains place))

  pub way_from : (beside said : Said) → AreCodedAs state.schemas (pairs_of state) state.versions.kept_at chains said → SayTheSameBut place beside said
      → ((which : ℕ) → IsLagging (shown has.coded) (versions_before chains place) (said place.table which place.key)) → Way beside
  way_from beside said are same lags = record {
    newest = newest_is;
    said = λ which. said place.table which place.key;
    coded_but = as_but state.schemas (pairs_of state) state.versions.kept_at chains beside place said are same;
    says = record { first = λ which less. absurd (omega (arith, less)); here = lags 0; others = λ which more. lags which };
  }

  pub way_settled : {beside : Said} → HasRowsBeside chains beside place state → IsTold state → Way beside
  way_settled {beside} rows told =
      let are = rows told in way_from beside are.0 are.1 are.2 (λ which. inr (are.3 which ∙ versions_are are.0 are.1))

  next_lags : (newest : Version) (put : Option EntryPut) (row : Option (List Value)) (before : List Version)
      → IsLagging newest before (said_next put row before)
  next_lags newest None row before = inl (inl refl)
  next_lags newest (Some put) None before = inl (inl refl)
  next_lags newest (Some put) (Some row) before = inl (inr (gone, refl, refl))

  -- where a change of the place hasn't come to its end, its keys lag too
  so_far : {beside : Said} (said : Said) (done : ℕ) (put : Option EntryPut) (row : Option (List Value)) (before : List Version)
      → versions_before chains place ≡ before
      → SaySoFar chains beside place done (said_next put row before) before said
      → versions_at place chains ≡ shown has.coded ∷ versions_before chains place
      → (which : ℕ) → IsLagging (shown has.coded) (versions_before chains place) (said place.table which place.key)
  so_far said done put row before same says is which =
      ⊎_elim (λ here. rw here (rw (says.here, same) (next_lags (shown has.coded) put row before)))
      (λ rest. ⊎_elim (λ less. inr (says.first which less ∙ is)) (λ more. inl (inl (says.later which more ∙ sym same))) rest) (cases_order which done)

  pub way_lagging : {beside : Said} (keys : KeysChange) → IsChangingKeys chains beside state keys → keys.table ≡ logged.undo.table
      → keys.key ≡ logged.undo.key → IsTold state → Way beside
  way_lagging {beside} keys is table_is key_is told =
      let here = keys_place chains state tells keys is table_is key_is in
      let rows = subst (λ (p : Place). HasRowsSoFar chains beside p keys.which (said_next keys.put keys.before is.older) is.older state)
      here is.rows told in
      let pushed = subst (λ (p : Place). IsPushed chains p is.older keys.after) here is.pushed in
      way_from beside rows.0 rows.1 rows.2.lag
      (so_far rows.0 keys.which keys.put keys.before is.older (ap older pushed.versions) rows.2 (versions_are rows.0 rows.1))

-- ---- a taking back begins

begins : (chains : Chains) (beside : Said) (place : Place) (room : WorkRoom) (state : WorldState) (logged : Logged) (schema : Schema)
    → TellsOf logged.undo schema place state.schemas → IsWhole room → room.stage ≡ Find
    → (IsTold state → StageHolds chains beside place logged.undo schema (rows_of state) room.newest.items Find)
    → IsPuttingBack chains beside place logged.undo room state
begins chains beside place room state logged schema tells whole stage holds = record {
  schema = schema;
  tells = tells;
  whole = whole;
  fits = rw stage (record {});
  holds = λ told. rw stage (holds told);
}

module _ (state : WorldState) (logged : Logged) (log : List Logged) (change : Change) (own : List Change) (place : Place)
    (log_is : IsLogOf state (logged ∷ log) (change ∷ own)) (place_is : place_in state.schemas change ≡ Some place) where
  pub top : Stands state (records_of state) logged log change
  top = (newest_stands change own place_is log_is).0

  pub tells_of_it : TellsOf logged.undo top.schema place state.schemas
  tells_of_it = rw (one_found top.place place top.place_is place_is) at top.tells

  module _ (chains : Chains) (room : WorkRoom) where
    pub begins_settled : {beside : Said} → HasRowsBeside chains beside place state → IsWhole room → room.stage ≡ Find
        → IsPuttingBack chains beside place logged.undo room state
    begins_settled {beside} rows whole stage =
        begins chains beside place room state logged top.schema tells_of_it whole stage
        (λ told. let has = top.record_is told in inl (has.bytes, has.coded, way_settled chains state logged place top.schema tells_of_it has rows told))

    pub begins_lagging : {beside : Said} (keys : KeysChange) → IsChangingKeys chains beside state keys → keys.table ≡ logged.undo.table
        → keys.key ≡ logged.undo.key → IsWhole room → room.stage ≡ Find → IsPuttingBack chains beside place logged.undo room state
    begins_lagging {beside} keys is table_is key_is whole stage =
        begins chains beside place room state logged top.schema tells_of_it whole stage (λ told. let has = top.record_is told in inl
        (has.bytes, has.coded, way_lagging chains state logged place top.schema tells_of_it has keys is table_is key_is told))
