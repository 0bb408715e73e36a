-- A record that is being changed stays what it is while another session makes a step at another place.
-- `Rows` has it of whatever lies at the desk. Of what the step does only what it leaves is asked.
use Rattle.std.proofs.Common.{◌≡◌, ◌∙◌, ℕ, false, Some, slice_get}
use Rattle.entries.specs.Pairs.{value_of}
use Rattle.row_versions.specs.Chains.{Chains}
use Rattle.law_stored_rows.specs.{Edits.clustered_index, Tables.Said}
use Rattle.world.specs.State.{WorldState, HasWork}
use Rattle.law_world_agreement.specs.Agreement.{Agrees}
use Rattle.row_changes.specs.Rows.{place_of}
use Rattle.row_changes.specs.Records.{IsChangingRecord, StageHolds}
use Rattle.row_changes.specs.{declared.record_change.RecordChange.RecordChange, declared.record_change.RecordStage.RecordStage}
use Rattle.row_changes.specs.declared.record_change.RecordStage.TheVariants.{Replace}
use Rattle.row_changes.proofs.{Pushed.table_kept, Pushed.key_at}
use Rattle.law_logged_changes.proofs.Listed.{listed_of}
use Rattle.law_logged_changes.specs.Logs.{records_of}
use Rattle.law_other_places.specs.Beside.{LeavesPlace}
use Rattle.desks.specs.Holding.{is_found}
use Rattle.law_other_places.proofs.Keys.{told_again}

module _ {after : Chains} {old new : WorldState} (s : ℕ) (change : RecordChange) (p : IsChangingRecord s old change) (schemas : new.schemas ≡ old.schemas)
    (session : slice_get new.sessions s ≡ slice_get old.sessions s) (agrees : Agrees after new) where
  abbrev Stage : RecordStage → WorldState → Type 0
  Stage stage state = StageHolds stage p.schema change.edit change.key p.session (state.indexes (clustered_index change.table))

  at_stage : Stage change.stage new → IsChangingRecord s new change
  at_stage stage =
      let has : HasWork s p.session p.work new = record { session_is = session ∙ p.has_work.session_is; work_is = p.has_work.work_is } in
      record {
        schema = p.schema;
        table = table_kept change.table p.schema old new schemas p.table;
        fits = p.fits;
        session = p.session;
        work = p.work;
        has_work = has;
        listed = listed_of after new s p.session p.work agrees has;
        small = p.small;
        stage = stage;
      }

  -- before it is found nothing is known of it
  any_stage : (stage : RecordStage) → is_found stage ≡ false → Stage stage old → Stage stage new
  any_stage (Replace before bytes) is holds = absurd (cc)
  any_stage other is holds = holds

  pub record_sought : is_found change.stage ≡ false → IsChangingRecord s new change
  record_sought is = at_stage (any_stage change.stage is p.stage)

  module _ {chains : Chains} {now : Said} (leaves : LeavesPlace (place_of p.schema change) chains after now old new) where
    same_record : records_of new change.table change.key ≡ records_of old change.table change.key
    same_record = (leaves.row change.key
        (record { schema = p.schema; there = p.table.there; at = key_at p.schema change.edit change.key p.fits })).same

    stage_left : (stage : RecordStage) → Stage stage old → Stage stage new
    stage_left (Replace before bytes) holds = (
      holds.0,
      holds.1,
      record {
        there = told_again (λ pairs. value_of change.key pairs ≡ Some bytes) (λ pairs. value_of change.key pairs ≡ Some bytes) old new
            (clustered_index change.table) leaves.told leaves.tells (λ is. same_record ∙ is) holds.2.there;
        code_is = holds.2.code_is;
      },
    )
    stage_left other holds = holds

    pub record_left : IsChangingRecord s new change
    record_left = at_stage (stage_left change.stage p.stage)
