-- The step that ends the taking back of a change, with its undo record cut and the history's entry, as all other sessions see it, and
-- what all sessions know behind it.
use Rattle.std.proofs.Common.{◌≡◌, ◌≢◌, ◌∙◌, ◌⊎◌, inl, inr, ⊎_elim, refl, ap, subst, ℕ, false, List, Some, slice_get, sym}
use Rattle.std.proofs.lemmas.Bool.{cond-false, cases_eq}
use Rattle.store_api.specs.declared.answers.Undo.{Undo}
use Rattle.entries.specs.Pairs.{Pair, value_of}
use Rattle.row_versions.specs.{declared.place.Place.Place}
use Rattle.row_versions.specs.Chains.{Chains, versions_at, older, with_versions, is_same_place}
use Rattle.law_stored_rows.specs.{Edits.clustered_index, Tables.Said}
use Rattle.law_stored_rows.proofs.{KeptRows.more_of, KeptRows.others_keep}
use Rattle.world.specs.{State.WorldState, State.Logged, Told.IsTold, Told.pairs_of, Undoing.IsCutBack}
use Rattle.law_world_agreement.specs.Agreement.{Agrees}
use Rattle.row_changes.specs.{Told.AreRowsAs, Pairs.RowsStay, Pairs.PutsPair}
use Rattle.row_changes.proofs.{Telling.went, Telling.same_pairs_of, Telling.put_pairs, Ids.one_work}
use Rattle.inno_db.specs.declared.change.Change.{Change}
use Rattle.undo_apply.specs.{Standing.IsTakenBack, Standing.said_but, Standing.was_before, Stages.IsPuttingBack, declared.work_room.WorkRoom.WorkRoom}
use Rattle.undo_apply.specs.{Told.rows_of}
use Rattle.undo_apply.proofs.{Taken.lags_there, Taken.says_place}
use Rattle.law_logged_changes.specs.{Logs.LogsAgree, Steps.IsToCut, Steps.LeavesOtherRows}
use Rattle.law_logged_changes.proofs.{TakenBack.taken, Cutting.rows_as_cut, Logs.put_elsewhere, Logs.key_told, Leaving.rows_left, Leaving.rows_leave}
use Rattle.desks.specs.declared.desk.Doing.TheVariants.{Nothing, Undoing}
use Rattle.desks.specs.{declared.desk.Desk.Desk, Desks.desk_at, Desks.doing_at, Holding.IsLast, Holding.lags_in, Holding.said_beside}
use Rattle.desks.specs.Holding.{RowsHeld, works_in}
use Rattle.law_other_places.specs.{Beside.IsKeyOf, Beside.LeavesRow, Beside.LeavesEntries, Steps.StepsAt, Steps.LeavesWork, Undone.IsUndone}
use Rattle.law_other_places.proofs.Frames.{records_leave, other_rows_leave, other_key, leaves_then, all_entries, records_apart, entries_then}
use Rattle.law_other_places.proofs.Undone.{rest_mid, is_then, others_left, entry_leaves, putting, done_by, to_cut, told_cut, told_mid}
use Rattle.law_other_places.proofs.{Rows.last_place, Rows.last_log, Steps.says_beside, Steps.kept_at, Steps.kept_settled}

-- ---- other rows

module _ (undo : Undo) {old mid : WorldState} (told : IsTold old) (tells : IsTold mid) (schemas : mid.schemas ≡ old.schemas) where
  rows_stay : RowsStay old mid → LeavesOtherRows undo.table undo.key old mid
  rows_stay stays = record {
    schemas = schemas;
    told = λ any. told;
    records = λ any other also apart. ap (λ (pairs : ℕ → List Pair). value_of also (pairs (clustered_index other))) (same_pairs_of old mid stays tells);
    kept = λ any other also apart pointer found is. rw (stays.versions.kept any.versions) is;
  }

  rows_put : PutsPair (clustered_index undo.table) undo.key (was_before undo) old mid → LeavesOtherRows undo.table undo.key old mid
  rows_put puts = record {
    schemas = schemas;
    told = λ any. told;
    records = λ any. put_elsewhere undo (was_before undo) (pairs_of old) (pairs_of mid)
        (put_pairs (clustered_index undo.table) undo.key (was_before undo) old mid puts tells);
    kept = λ any other also apart pointer found is. rw (puts.versions.kept any.versions) is;
  }

-- an undo record goes, and what it kept of its row
module _ (t : ℕ) {mid cut : WorldState} {logged : Logged} {log : List Logged} {before : List Change} (to_cut : IsToCut t logged log before mid)
    (told : IsTold mid) (tells : IsTold cut) (back : IsCutBack t mid cut) where
  front : back.gone ≡ logged
  front =
      let one = one_work t back.session to_cut.session back.work to_cut.work mid back.has_work to_cut.has_work in
      let all = back.log_is in
      let cuts = to_cut.log_is in
      cc

  kept_elsewhere : (pointer : ℕ) → pointer ≢ logged.pointer → cut.versions.kept_at pointer ≡ mid.versions.kept_at pointer
  kept_elsewhere pointer differs = back.kept pointer (λ same. differs (same ∙ ap (λ (l : Logged). l.pointer) front)) tells.versions

  -- an undo record of a new row keeps no version
  all_kept : logged.undo.kind ≡ 1 → (pointer : ℕ) → cut.versions.kept_at pointer ≡ mid.versions.kept_at pointer
  all_kept kind pointer = ⊎_elim
      (λ same.
      let here : pointer ≡ back.gone.pointer = same ∙ ap (λ (l : Logged). l.pointer) (sym front) in
      subst (λ (p : ℕ). cut.versions.kept_at p ≡ mid.versions.kept_at p) (sym here)
      (back.behind_new (ap (λ (l : Logged). l.undo.kind) front ∙ kind) tells.versions)) (kept_elsewhere pointer) (cases_eq pointer logged.pointer)

  pub cut_rows : (other : ℕ) (also : List ℕ) → (other ≢ logged.undo.table) ⊎ (also ≢ logged.undo.key) → LeavesRow other also mid cut
  cut_rows other also apart = record {
    same = ap (λ (state : WorldState). value_of also (pairs_of state (clustered_index other))) back.rest;
    kept = elim (to_cut.may.kind_is) [
      | inl first ↦ more_of mid.versions.kept_at cut.versions.kept_at other also (λ pointer found is. all_kept first pointer ∙ is)
      | inr second ↦
          let again = to_cut.may.again told second in
          others_keep mid.versions.kept_at cut.versions.kept_at logged.pointer logged.undo.table other logged.undo.key also again.leads.0 kept_elsewhere
          again.leads.1.there apart
    ];
  }

-- ---- the whole step

module _ (t keep : ℕ) {chains : Chains} {source mid cut new : WorldState} {desks : List Desk} (rows : RowsHeld chains source desks)
    (logs : LogsAgree source) (told : IsTold source) (tells : IsTold new)
    {undo : Undo} {room next : WorkRoom} (doing : doing_at t desks ≡ Undoing)
    (u : IsUndone t keep chains (said_beside chains rows.said source desks t) source mid cut new undo room next) where
  abbrev beside : Said
  beside = said_beside chains rows.said source desks t

  abbrev logged : Logged
  logged = u.going.logged

  abbrev place : Place
  place = u.going.place

  abbrev last : IsLast source t logged place
  last = u.going.last

  abbrev after : Chains
  after = with_versions place older chains

  abbrev its : IsPuttingBack chains beside place logged.undo room source
  its = putting u

  taken_then : IsTold mid → IsTakenBack after beside place logged.undo (rows_of mid)
  taken_then = taken chains after beside source mid logged last.log last.change last.before place room next (last_log logs last) last.place_is its
      (done_by u) (λ other. refl)

  abbrev said : Said
  said = said_but beside place (λ which. versions_at place after)

  coded : AreRowsAs after said new
  coded = rows_left cut new (entry_leaves u) after said tells
      (rows_as_cut t mid cut logged last.log last.before (to_cut u logs) u.back after said (λ at_mid. (taken_then at_mid).all) (told_cut u tells))

  abbrev mid_told : IsTold mid
  mid_told = told_mid u tells

  schemas_mid : mid.schemas ≡ source.schemas
  schemas_mid = ap (λ (state : WorldState). state.schemas) (rest_mid u)

  lags_was : lags_in source t (doing_at t desks) ≡ Some place
  lags_was = ap (lags_in source t) doing ∙ last_place last

  works : works_in source t (doing_at t desks) ≡ Some place
  works = ap (works_in source t) doing ∙ last_place last

  -- the row that is taken back
  place_key : IsKeyOf place source.schemas logged.undo.key
  place_key = record {
    schema = its.schema;
    there = ap (slice_get source.schemas) its.tells.table_is ∙ its.tells.there;
    at = key_told its.tells;
  }

  of_other : (other : Place) (also : List ℕ) → is_same_place place other ≡ false → IsKeyOf other source.schemas also
      → (other.table ≢ logged.undo.table) ⊎ (also ≢ logged.undo.key)
  of_other other also apart is = subst (λ (table : ℕ). (other.table ≢ table) ⊎ (also ≢ logged.undo.key)) its.tells.table_is
      (other_key place other source.schemas logged.undo.key also place_key is apart)

  mid_rows : LeavesOtherRows logged.undo.table logged.undo.key source mid
  mid_rows = ⊎_elim (rows_stay logged.undo told mid_told schemas_mid) (rows_put logged.undo told mid_told schemas_mid) (done_by u).changes

  mid_entries : (other : Place) → LeavesEntries other source mid
  mid_entries other = ⊎_elim (λ (stays : RowsStay source mid). all_entries source mid stays.pairs mid_told other)
      (λ (puts : PutsPair (clustered_index logged.undo.table) logged.undo.key (was_before logged.undo) source mid).
      records_apart source mid logged.undo.table rows.coded.keyed.few puts.elsewhere mid_told other) (done_by u).changes

  same_indexes : (index : ℕ) → pairs_of new index ≡ pairs_of mid index
  same_indexes index =
      went (λ pairs. pairs) (cut.indexes index).pairs (new.indexes index).pairs ((entry_leaves u).pairs index) (tells.pairs index)
      ∙ ap (λ (state : WorldState). pairs_of state index) u.back.rest

  done_steps : StepsAt t (Some place) chains after rows.said said source new
  done_steps = record {
    told = told;
    tells = tells;
    schemas = ap (λ (state : WorldState). state.schemas) (is_then u);
    coded = coded;
    versions = λ other apart. cond-false (is_same_place place other) (older (chains other)) (chains other) apart;
    says = λ other which apart. lags_there beside place (λ which. versions_at place after) other.table which other.key apart
        ∙ says_beside chains rows.said source desks t place works other.table which other.key apart;
    rows = λ other also apart is.
        leaves_then (other_rows_leave mid_rows mid_told other.table also (of_other other also apart is))
        (leaves_then (cut_rows t (to_cut u logs) mid_told (told_cut u tells) u.back other.table also (of_other other also apart is))
        (records_leave (rows_leave cut new (entry_leaves u)) tells other.table also));
    entries = λ other apart. entries_then other source mid new same_indexes (mid_entries other);
    sessions = others_left u;
  }

  pub done_kept : {now : List Desk} → doing_at t now ≡ Nothing → LeavesWork t (Some place) source desks now → Agrees after new → RowsHeld after new now
  done_kept {now} doing_now work agrees = kept_settled t rows done_steps work logs agrees (inr lags_was)
      (kept_at after (said_beside after said new now t) new t (desk_at t now) Nothing doing_now (λ undo room. record {})) (ap (lags_in new t) doing_now)
      (λ which. says_place beside place (λ which. versions_at place after) which)
