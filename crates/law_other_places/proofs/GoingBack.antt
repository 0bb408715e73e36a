-- A change that is being taken back stays what it is while another session makes a step at another place.
-- `Rows` has it of whatever lies at the desk, and `BackSteps` and `TakingBack` of the step that reads the undo record.
use Rattle.std.proofs.Common.{◌≡◌, ◌∙◌, sym, ap, subst, ℕ, ◌≤◌, Bool, true, false, List, slice_get, inl, inr, length}
use Rattle.std.proofs.lemmas.Bool.{cases_Bool, cond-true, cond-false}
use Rattle.inno_types.specs.declared.value.Schema.{Schema}
use Rattle.inno_types.specs.declared.value.Value.{Value}
use Rattle.store_api.specs.declared.answers.Undo.{Undo}
use Rattle.store_api.specs.declared.answers.Version.{Version as Coded}
use Rattle.row_versions.specs.{declared.place.Place.Place, declared.version.Version.Version}
use Rattle.row_versions.specs.Chains.{Chains, versions_at, older, is_same_place}
use Rattle.law_stored_rows.specs.{Records.shown, Records.LeadTo, Records.kept_of, Tables.Said, Tables.SayTheSameBut, Tables.AreClustered}
use Rattle.law_stored_rows.proofs.{KeptRows.kept_along, KeptRows.found_of, FromTables.decoded, RowRecords.leads_still}
use Rattle.world.specs.{State.WorldState, Told.pairs_of}
use Rattle.row_changes.specs.Told.{AreRowsAs}
use Rattle.undo_apply.specs.Standing.{TellsOf, LeadsBack, versions_before, said_but, AreCodedBut, IsNewest, IsCleared, IsLagging}
use Rattle.undo_apply.specs.Standing.{IsUnderWay, IsTakenBack, some_has}
use Rattle.undo_apply.specs.Stages.{IsFound, StageHolds, IsPuttingBack}
use Rattle.undo_apply.specs.{Told.rows_of, declared.work_room.WorkRoom.WorkRoom, declared.work_room.Stage.Stage}
use Rattle.undo_apply.specs.declared.work_room.Stage.TheVariants.{Find, Key, Walk, Mark, Remove, Unmark, Record}
use Rattle.law_logged_changes.proofs.Logs.{key_told}
use Rattle.law_other_places.specs.Beside.{LeavesPlace, LeavesRow}
use Rattle.law_other_places.proofs.Gluing.{at, glued, glued_coded}

module _ {place : Place} {chains after : Chains} {now : Said} {old new : WorldState} (leaves : LeavesPlace place chains after now old new)
    (beside beside_now : Said) (same : SayTheSameBut place now beside_now) where
  before_same : versions_before after place ≡ versions_before chains place
  before_same = ap older leaves.versions

  -- ---- what keys say

  but_is : (here : ℕ → List Version) → glued place (said_but beside place here) now ≡ said_but beside_now place here
  but_is here = λ i table which value. by table which value i
    where
      by : (table which : ℕ) (value : Value) → glued place (said_but beside place here) now table which value ≡ said_but beside_now place here table which value
      by table which value = elim (cases_Bool (is_same_place place (at table value))) [
        | inl is ↦
            cond-true (is_same_place place (at table value)) (said_but beside place here table which value) (now table which value) is
            ∙ cond-true (is_same_place place (at table value)) (here which) (beside table which value) is
            ∙ sym (cond-true (is_same_place place (at table value)) (here which) (beside_now table which value) is)
        | inr apart ↦
            cond-false (is_same_place place (at table value)) (said_but beside place here table which value) (now table which value) apart
            ∙ sym (same table which value apart)
            ∙ sym (cond-false (is_same_place place (at table value)) (here which) (beside_now table which value) apart)
      ]

  but_left : (here : ℕ → List Version) → AreCodedBut old.schemas (pairs_of old) old.versions.kept_at chains beside place here
      → AreCodedBut new.schemas (pairs_of new) new.versions.kept_at after beside_now place here
  but_left here are = subst (λ (f : Said). AreRowsAs after f new) (but_is here) (glued_coded leaves (said_but beside place here) are)

  -- ---- the record

  module _ {undo : Undo} {schema : Schema} (tells : TellsOf undo schema place old.schemas) where
    row : LeavesRow undo.table undo.key old new
    row = subst (λ (table : ℕ). LeavesRow table undo.key old new) tells.table_is (leaves.row undo.key (record {
      schema = schema;
      there = ap (slice_get old.schemas) tells.table_is ∙ tells.there;
      at = key_told tells;
    }))

    leads_left : (pointer : ℕ) (versions : List Version) → LeadTo schema undo.key (kept_of old.versions.kept_at undo.table undo.key) pointer versions
        → LeadsBack undo old.versions.kept_at pointer → LeadsBack undo new.versions.kept_at pointer
    leads_left pointer versions leads (inl first) = inl first
    leads_left pointer versions leads (inr (kind, some, former, there, bytes)) = inr (
      kind,
      some,
      former,
      found_of new.versions.kept_at undo.table undo.key pointer former
          (row.kept pointer former (kept_along old.versions.kept_at undo.table undo.key schema pointer versions former leads some there)),
      bytes,
    )

    newest_left : (bytes : List ℕ) (coded : Coded) → AreClustered old.schemas (pairs_of old) old.versions.kept_at chains
        → IsNewest undo schema (pairs_of old) old.versions.kept_at bytes coded → IsNewest undo schema (pairs_of new) new.versions.kept_at bytes coded
    newest_left bytes coded clustered is = record {
      there = row.same ∙ is.there;
      code_is = is.code_is;
      before = leads_left coded.pointer _
          (decoded old.schemas (pairs_of old) old.versions.kept_at chains undo.table schema undo.key bytes coded clustered tells.there is.there is.code_is).1
          is.before;
    }

    -- ---- the stages

    lagging_left : (coded : Coded) (versions : List Version) → IsLagging (shown coded) (versions_before chains place) versions
        → IsLagging (shown coded) (versions_before after place) versions
    lagging_left coded versions = subst (λ (b : List Version). IsLagging (shown coded) b versions) (sym before_same)

    cleared_left : (versions : List Version) → IsCleared (versions_before chains place) versions → IsCleared (versions_before after place) versions
    cleared_left versions = subst (λ (b : List Version). IsCleared b versions) (sym before_same)

    way_left : (Was Now : List Version → Type 0) (bytes : List ℕ) (coded : Coded) (done : ℕ) → ((versions : List Version) → Was versions → Now versions)
        → IsUnderWay chains beside place undo schema (rows_of old) bytes coded done Was
        → IsUnderWay after beside_now place undo schema (rows_of new) bytes coded done Now
    way_left Was Now bytes coded done follows way = record {
      newest = newest_left bytes coded way.coded_but.clustered way.newest;
      said = way.said;
      coded_but = but_left way.said way.coded_but;
      says = record {
        first = λ which below. way.says.first which below ∙ sym before_same;
        here = follows (way.said done) way.says.here;
        others = λ which above. lagging_left coded (way.said which) (way.says.others which above);
      };
    }

    abbrev Lags : ℕ → List ℕ → Coded → Type 0
    Lags done bytes coded =
        IsUnderWay after beside_now place undo schema (rows_of new) bytes coded done (IsLagging (shown coded) (versions_before after place))

    lags_left : (bytes : List ℕ) (coded : Coded) (done : ℕ)
        → IsUnderWay chains beside place undo schema (rows_of old) bytes coded done (IsLagging (shown coded) (versions_before chains place))
        → Lags done bytes coded
    lags_left bytes coded done =
        way_left (IsLagging (shown coded) (versions_before chains place)) (IsLagging (shown coded) (versions_before after place)) bytes coded done
        (lagging_left coded)

    found_left : (which : ℕ) (coded : Coded) (found : Bool) → IsFound schema which coded (versions_before chains place) found
        → IsFound schema which coded (versions_before after place) found
    found_left which coded found = subst (λ (b : List Version). IsFound schema which coded b found) (sym before_same)

    back_left : IsTakenBack chains beside place undo (rows_of old) → IsTakenBack after beside_now place undo (rows_of new)
    back_left back = record {
      all = subst (λ (versions : List Version). AreCodedBut new.schemas (pairs_of new) new.versions.kept_at after beside_now place (λ which. versions))
          (sym leaves.versions) (but_left (λ which. versions_at place chains) back.all);
      there = row.same ∙ back.there;
    }

    stage_left : (bytes : List ℕ) (stage : Stage) → StageHolds chains beside place undo schema (rows_of old) bytes stage
        → StageHolds after beside_now place undo schema (rows_of new) bytes stage
    stage_left bytes Find (inl (read, coded, way)) = inl (read, coded, lags_left read coded 0 way)
    stage_left bytes Find (inr back) = inr (back_left back)
    stage_left bytes (Key which) (coded, way) = (coded, lags_left bytes coded which way)
    stage_left bytes (Walk which pointer) (coded, way, plain, walked) = (
      coded,
      lags_left bytes coded which way,
      plain,
      record {
        left = walked.left;
        leads = leads_still schema undo.key (kept_of old.versions.kept_at undo.table undo.key) (kept_of new.versions.kept_at undo.table undo.key) pointer
            walked.left row.kept walked.leads;
        fewer = subst (λ (b : List Version). length walked.left ≤ length b) (sym before_same) walked.fewer;
        passed = ap (some_has schema which coded) before_same ∙ walked.passed;
      },
    )
    stage_left bytes (Mark which) (coded, way, found) = (coded, lags_left bytes coded which way, found_left which coded true found)
    stage_left bytes (Remove which) (coded, way, found) = (coded, lags_left bytes coded which way, found_left which coded false found)
    stage_left bytes (Unmark which) (coded, way) =
        (coded, way_left (IsCleared (versions_before chains place)) (IsCleared (versions_before after place)) bytes coded which cleared_left way)
    stage_left bytes Record (coded, way) = (coded, lags_left bytes coded (length schema.keys) way)

  pub putting_left : (undo : Undo) (room : WorkRoom) → IsPuttingBack chains beside place undo room old → IsPuttingBack after beside_now place undo room new
  putting_left undo room is = record {
    schema = is.schema;
    tells = rw leaves.schemas is.tells;
    whole = is.whole;
    fits = is.fits;
    holds = λ told. stage_left is.tells room.newest.items room.stage (is.holds leaves.told);
  }
