-- A change that is taken back leaves the log of the older changes.
use Rattle.law_logged_changes.proofs.Leaving.{log_over, log_beside, work_beside, work_again, own_beside, done_beside}
use Rattle.law_logged_changes.proofs.Logs.{newest_stands, taken_as, taken_elsewhere, put_elsewhere, log_elsewhere}
use Rattle.std.specs.List.{AllByRecursion}
use Rattle.law_logged_changes.proofs.{Lags.at_stage, Lags.clustered_while, Beginning.top, Beginning.tells_of_it, Beginning.way_settled}
use Rattle.std.proofs.Common.{◌≡◌, ◌≢◌, ◌⊎◌, inl, inr, ⊎_elim, ℕ, List, ◌∷◌, Option, Some, sym, ap, subst, ◌∙◌, arith}
use Rattle.inno_db.specs.{declared.change.Change.Change, Database.key_of}
use Rattle.inno_model.specs.Past.{own}
use Rattle.store_api.specs.declared.answers.Undo.{Undo}
use Rattle.entries.specs.Pairs.{Pair, value_of}
use Rattle.row_versions.specs.Chains.{Chains, Pops, versions_at, older as behind}
use Rattle.row_versions.specs.{declared.kept.Kept.Kept, declared.place.Place.Place, declared.version.Version.Version}
use Rattle.law_stored_rows.specs.Records.{shown, kept_of, LeadTo, IsRecordWith}
use Rattle.law_stored_rows.specs.{Edits.clustered_index, Edits.Puts, Tables.in_table, Tables.Said}
use Rattle.law_stored_rows.proofs.{FromTables.decoded, RowRecords.pointer_followed, RowRecords.record_back}
use Rattle.law_past_agreement.specs.Rows.{place_in}
use Rattle.world.specs.{State.WorldState, State.Session, State.Work, State.Logged, State.HasWork, Told.IsTold, Told.pairs_of}
use Rattle.row_changes.specs.Told.{HasRowsBeside}
use Rattle.row_changes.proofs.Telling.{stays_told, same_pairs_of, put_told, put_pairs}
use Rattle.undo_apply.specs.Standing.{TellsOf, LeadsBack, was_before, said_but, versions_before, IsLagging, IsTakenBack}
use Rattle.undo_apply.specs.{declared.work_room.WorkRoom.WorkRoom, Told.rows_of, Stages.IsPuttingBack, Stages.IsDone}
use Rattle.undo_apply.proofs.{Taken.stands, Taken.says_place, Taken.lags_there, Columns.before_kept}
use Rattle.law_logged_changes.specs.Steps.{ChangesPairsAlone, LeavesOtherRows, IsToCut, IsRowAgain}
use Rattle.law_logged_changes.specs.Logs.{records_of, taken_back, kept_in, HasRecord, Stands, IsLogOf, LogsAgree, IsAloneAt, IsElsewhere}

module _ (chains after : Chains) (said : Said) (old new : WorldState) (logged : Logged) (older : List Logged) (change : Change) (before : List Change)
    (place : Place) (room next : WorkRoom) (log_is : IsLogOf old (logged ∷ older) (change ∷ before)) (place_is : place_in old.schemas change ≡ Some place)
    (back : IsPuttingBack chains said place logged.undo room old) (done : IsDone chains said place logged.undo room next old new)
    (pops : Pops chains after place) where
  abbrev undo : Undo
  undo = logged.undo

  abbrev newest : Stands old (records_of old) logged older change
  newest = top old logged older change before place log_is place_is

  tells : TellsOf undo newest.schema place old.schemas
  tells = tells_of_it old logged older change before place log_is place_is

  told_before : IsTold new → IsTold old
  told_before told =
      ⊎_elim (λ stays. stays_told old new stays told) (λ puts. put_told (clustered_index undo.table) undo.key (was_before undo) old new puts told) done.changes

  same_schemas : new.schemas ≡ old.schemas
  same_schemas = ⊎_elim (λ stays. ap (λ (s : WorldState). s.schemas) stays.rest) (λ puts. ap (λ (s : WorldState). s.schemas) puts.rest) done.changes

  same_kept : IsTold new → new.versions.kept_at ≡ old.versions.kept_at
  same_kept told = ⊎_elim (λ stays. stays.versions.kept told.versions) (λ puts. puts.versions.kept told.versions) done.changes

  -- where it is taken back already, the keys say of the place what is there
  taken_rows : IsTakenBack chains said place undo (rows_of old) → HasRowsBeside chains said place old
  taken_rows gone told =
      let there : ℕ → List Version = λ which. versions_at place chains in
      (said_but said place there, gone.all, lags_there said place there, says_place said place there)

  not_before : IsTold old → value_of undo.key (pairs_of old (clustered_index undo.table)) ≢ was_before undo
  not_before told =
      ⊎_elim
      (λ lag. stands chains said place undo back.schema (rows_of old) lag.bytes lag.coded lag.done (IsLagging _ (versions_before chains place)) back.tells
      lag.way) (λ gone. let has = newest.record_is told in
      stands chains said place undo newest.schema (rows_of old) has.bytes has.coded 0 (IsLagging _ (versions_before chains place)) tells
      (way_settled chains old logged place newest.schema tells has (taken_rows gone) told))
      (at_stage chains place undo back.schema (rows_of old) room.newest.items room.stage (back.holds told))

  pub taken : IsTold new → IsTakenBack after said place undo (rows_of new)
  taken told = done.popped told (not_before (told_before told)) after pops

  puts_then : IsTold new → Puts (pairs_of old) (pairs_of new) (clustered_index undo.table) undo.key (was_before undo)
  puts_then told =
      ⊎_elim (λ stays. absurd (not_before (told_before told)
      (ap (λ (pairs : ℕ → List Pair). value_of undo.key (pairs (clustered_index undo.table))) (sym (same_pairs_of old new stays told)) ∙ (taken told).there)))
      (λ puts. put_pairs (clustered_index undo.table) undo.key (was_before undo) old new puts told) done.changes

  records_then : IsTold new → (table : ℕ) (key : List ℕ) → records_of new table key ≡ taken_back undo (records_of old) table key
  records_then told =
      taken_as undo (records_of old) (records_of new) (taken told).there
      (put_elsewhere undo (was_before undo) (pairs_of old) (pairs_of new) (puts_then told))

  pub log_then : IsLogOf new older before
  log_then =
      log_over (taken_back undo (records_of old)) (records_of new) older before told_before same_schemas records_then
      (λ told pointer found is. rw (same_kept told) is) (newest_stands change before place_is log_is).1

  -- ---- what the undo record keeps, the row has again

  module _ (told : IsTold new) where
    has : HasRecord old (records_of old) newest.schema logged
    has = newest.record_is (told_before told)

    abbrev former_ones : List Version
    former_ones = behind (in_table undo.table chains (key_of newest.schema has.coded.row))

    leads : LeadTo newest.schema undo.key (kept_in old undo) has.coded.pointer former_ones
    leads =
        (decoded old.schemas (pairs_of old) old.versions.kept_at chains undo.table newest.schema undo.key has.bytes has.coded
        (clustered_while chains place undo room old back (told_before told)) tells.there has.there has.code_is).1

    again_from : undo.kind ≡ 2 → LeadsBack undo (kept_in old undo) has.coded.pointer → IsRowAgain logged new
    again_from kind (inl new_row) = absurd (omega (arith, kind, new_row.0))
    again_from kind (inr (k, some, former, there, bytes)) =
        let read = pointer_followed newest.schema undo.key (kept_in old undo) has.coded.pointer former_ones former leads some there in
        let found : records_of new undo.table undo.key ≡ Some former.bytes = (taken told).there ∙ before_kept undo kind ∙ ap Some (sym bytes) in
        let all = shown former.version ∷ behind former_ones in
        let again = record_back newest.schema undo.key (kept_in old undo) has.coded.pointer former former_ones leads some there in
        record {
          schema = newest.schema;
          there = rw same_schemas tells.there;
          version = shown former.version;
          older = behind former_ones;
          leads = subst (λ (p : ℕ). LeadTo newest.schema undo.key (kept_in new undo) p all) (has.pointer_is kind)
              (subst (λ (k : ℕ → Option Kept). LeadTo newest.schema undo.key (kept_of k undo.table undo.key) has.coded.pointer all) (sym (same_kept told))
              (subst (LeadTo newest.schema undo.key (kept_in old undo) has.coded.pointer) read.1 leads));
          record_is =
              subst (λ (k : ℕ → Option Kept). IsRecordWith newest.schema undo.key (kept_of k undo.table undo.key) (records_of new undo.table undo.key) all)
              (sym (same_kept told)) (subst (λ (o : Option (List ℕ)). IsRecordWith newest.schema undo.key (kept_in old undo) o all) (sym found)
              (subst (IsRecordWith newest.schema undo.key (kept_in old undo) (Some former.bytes)) read.1 again));
        }

  kinds : (undo.kind ≡ 1) ⊎ (undo.kind ≡ 2)
  kinds = ⊎_elim (λ first. inl first.0) (λ second. inr second.0) tells.undo_is.kept

  others_left : LeavesOtherRows undo.table undo.key old new
  others_left = record {
    schemas = same_schemas;
    told = told_before;
    records = λ told other also apart. records_then told other also ∙ taken_elsewhere undo (records_of old) other also apart;
    kept = λ told other also apart pointer found is. rw (same_kept told) is;
  }

  pub to_cut_then : (s : ℕ) (session : Session) (work : Work) → LogsAgree old → IsAloneAt place s old → HasWork s session work old
      → work.log ≡ logged ∷ older → IsToCut s logged older before new
  to_cut_then s session work agree alone has_work is = record {
    session = session;
    work = work;
    has_work = work_again s session work old new rest has_work;
    log_is = is;
    may = record {
      kind_is = kinds;
      again = λ told kind. again_from told kind (has told).before;
      elsewhere = λ told. newest.elsewhere (told_before told);
    };
    alone = λ u x w differs h. apart u x w differs (work_beside u x w old new rest h);
    logs = record {
      mine = log_then;
      others = λ u x w differs h. let had = work_beside u x w old new rest h in
          rw (own_beside u old new rest) (log_beside others_left w.log (own u old.past) (apart u x w differs had) (agree.each u x w had));
    };
  } where
    rest : ChangesPairsAlone old new
    rest = done_beside chains said place s undo room next old new done

    apart : (u : ℕ) (x : Session) (w : Work) → u ≢ s → HasWork u x w old → AllByRecursion (IsElsewhere undo.table undo.key) w.log
    apart u x w differs had =
        log_elsewhere old tells (records_of old) w.log (own u old.past) (alone u differs) (agree.each u x w had)

-- the session's own changes, as the history has them
pub to_cut_by_history : (s : ℕ) (chains after : Chains) (said : Said) (old new : WorldState) (session : Session) (work : Work) (logged : Logged)
    (older : List Logged) (change : Change) (before : List Change) (place : Place) (room next : WorkRoom) → LogsAgree old → IsAloneAt place s old
    → HasWork s session work old → work.log ≡ logged ∷ older → own s old.past ≡ change ∷ before → place_in old.schemas change ≡ Some place
    → IsPuttingBack chains said place logged.undo room old → IsDone chains said place logged.undo room next old new → Pops chains after place
    → IsToCut s logged older before new
to_cut_by_history s chains after said old new session work logged older change before place room next agree alone has_work is own_is place_is back done pops =
    let log = rw (is, own_is) at (agree.each s session work has_work) in
    to_cut_then chains after said old new logged older change before place room next log place_is back done pops s session work agree alone has_work is
