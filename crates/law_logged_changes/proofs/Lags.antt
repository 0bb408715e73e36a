-- What is known of rows and keys at each stage of a taking back.
use Rattle.std.proofs.Common.{◌≡◌, ◌⊎◌, inl, inr, ⊎_elim, ℕ, Bool, true, List, length, ◌∷◌, Option, Some, None}
use Rattle.std.proofs.{lemmas.Bool.cases_order, Math.Bool.or-true}
use Rattle.row_versions.specs.{Chains.Chains, Chains.versions_at, declared.place.Place.Place, declared.version.Version.Version}
use Rattle.law_stored_rows.specs.{Tables.AreClustered, Tables.Said, Tables.TellsOfOlder, Entries.has_value, Records.shown}
use Rattle.undo_apply.specs.declared.work_room.Stage.TheVariants.{Find, Key, Walk, Mark, Remove, Unmark, Record}
use Rattle.undo_apply.specs.Standing.{versions_before, said_but, IsLagging, SayBefore, IsUnderWay, IsTakenBack}
use Rattle.undo_apply.specs.{declared.work_room.WorkRoom.WorkRoom, declared.work_room.Stage.Stage, Told.Rows, Told.rows_of, Stages.StageHolds}
use Rattle.undo_apply.specs.{Stages.IsPuttingBack}
use Rattle.undo_apply.proofs.{Taken.says_place, Taken.lags_there, Columns.lagging_any}
use Rattle.row_changes.specs.{Keys.gone, Keys.said_next, Keys.SaySoFar, declared.entry_put.EntryPut.EntryPut, declared.row_change.RowChange.TheVariants.Record}
use Rattle.std.specs.List.{list_any}
use Rattle.inno_types.specs.{declared.value.Value.Value, declared.value.Schema.Schema}
use Rattle.store_api.specs.{declared.answers.Undo.Undo, declared.answers.Version.Version as Coded}
use Rattle.world.specs.{State.WorldState, Told.IsTold, Told.pairs_of}
use Rattle.law_logged_changes.specs.Lagging.{LagsAt}

-- ---- at whatever stage

-- The change is being taken back, and some keys are done.
pub record IsLagged (chains : Chains) (beside : Said) (place : Place) (undo : Undo) (schema : Schema) (rows : Rows) : Type 0 where
  pub bytes : List ℕ
  pub coded : Coded
  pub done : ℕ
  pub way : IsUnderWay chains beside place undo schema rows bytes coded done (IsLagging (shown coded) (versions_before chains place))

module _ (chains : Chains) {beside : Said} (place : Place) (undo : Undo) (schema : Schema) (rows : Rows) where
  lagged : (bytes : List ℕ) (coded : Coded) (done : ℕ)
      → IsUnderWay chains beside place undo schema rows bytes coded done (IsLagging (shown coded) (versions_before chains place))
      → IsLagged chains beside place undo schema rows ⊎ IsTakenBack chains beside place undo rows
  lagged bytes coded done way = inl (record { bytes = bytes; coded = coded; done = done; way = way })

  pub at_stage : (bytes : List ℕ) (stage : Stage) → StageHolds chains beside place undo schema rows bytes stage
      → IsLagged chains beside place undo schema rows ⊎ IsTakenBack chains beside place undo rows
  at_stage bytes Find (inl (read, coded, way)) = lagged read coded 0 way
  at_stage bytes Find (inr back) = inr back
  at_stage bytes (Key which) (coded, way) = lagged bytes coded which way
  at_stage bytes (Walk which pointer) (coded, way, plain, rest) = lagged bytes coded which way
  at_stage bytes (Mark which) (coded, way, rest) = lagged bytes coded which way
  at_stage bytes (Remove which) (coded, way, rest) = lagged bytes coded which way
  at_stage bytes (Unmark which) (coded, way) = lagged bytes coded which (record {
    newest = way.newest;
    said = way.said;
    coded_but = way.coded_but;
    says = record { first = way.says.first; here = inl way.says.here; others = way.says.others };
  })
  at_stage bytes Record (coded, way) = lagged bytes coded (length schema.keys) way

pub clustered_while : (chains : Chains) {beside : Said} (place : Place) (undo : Undo) (room : WorkRoom) (state : WorldState)
    → IsPuttingBack chains beside place undo room state → IsTold state → AreClustered state.schemas (pairs_of state) state.versions.kept_at chains
clustered_while chains {beside} place undo room state is told =
    ⊎_elim (λ lag. lag.way.coded_but.clustered) (λ back. back.all.clustered)
    (at_stage chains place undo is.schema (rows_of state) room.newest.items room.stage (is.holds told))

-- ---- what readers meet

abbrev any_of : ℕ → Value → List Version → Bool
any_of column value versions = list_any (λ (version : Version). has_value column value version.row) versions

said_any : (newest : Version) (before : List Version) (said : ℕ → List Version) (done : ℕ) → SayBefore done (IsLagging newest before) newest before said
    → (which column : ℕ) (value : Value) → any_of column value before ≡ true → any_of column value (said which) ≡ true
said_any newest before said done says which column value some =
    ⊎_elim (λ same. rw same (lagging_any column value newest before (said done) some says.here))
    (λ rest. ⊎_elim (λ less. rw (says.first which less) some)
    (λ more. lagging_any column value newest before (said which) some (says.others which more)) rest) (cases_order which done)

pub lags_while : (chains : Chains) (beside : Said) (place : Place) (undo : Undo) (room : WorkRoom) (state : WorldState)
    → IsPuttingBack chains beside place undo room state → IsTold state → LagsAt place chains beside state ⊎ IsTakenBack chains beside place undo (rows_of state)
lags_while chains beside place undo room state is told =
    ⊎_elim (λ lag. inl (record {
      said = said_but beside place lag.way.said;
      coded = lag.way.coded_but;
      lag = lags_there beside place lag.way.said;
      older = λ which column value some. rw (says_place beside place lag.way.said which)
          (said_any (shown lag.coded) (versions_before chains place) lag.way.said lag.done lag.way.says which column value some);
    })) (λ back. inr back) (at_stage chains place undo is.schema (rows_of state) room.newest.items room.stage (is.holds told))

-- ---- What keys tell while a change is under way.

-- a version more has the values of those before it
more_has : (column : ℕ) (value : Value) (version : Version) (versions : List Version) → any_of column value versions ≡ true
    → any_of column value (version ∷ versions) ≡ true
more_has column value version versions has = rw has (or-true (has_value column value version.row))

next_has : (column : ℕ) (value : Value) (put : Option EntryPut) (before : Option (List Value)) (versions : List Version)
    → any_of column value versions ≡ true → any_of column value (said_next put before versions) ≡ true
next_has column value (Some put) (Some row) versions has = more_has column value gone versions has
next_has column value (Some put) None versions has = has
next_has column value None before versions has = has

module _ {chains : Chains} {beside : Said} {place : Place} {done : ℕ} (put : Option EntryPut) (before : Option (List Value)) {others : List Version}
    {said : Said} (version : Version) (versions : versions_at place chains ≡ version ∷ others)
    (so : SaySoFar chains beside place done (said_next put before others) others said)
  where
    tells_others : (which column : ℕ) (value : Value) → any_of column value others ≡ true → any_of column value (said place.table which place.key) ≡ true
    tells_others which column value has =
        ⊎_elim (λ here. rw here (rw so.here (next_has column value put before others has)))
        (λ rest. ⊎_elim (λ below. rw (so.first which below, versions) (more_has column value version others has)) (λ above. rw (so.later which above) has)
        rest) (cases_order which done)

    -- each key tells of all versions but the newest
    pub lags : TellsOfOlder place chains said
    lags which column value has = tells_others which column value (rw versions at has)
