-- An undo record goes, and with it what it kept.
use Rattle.law_logged_changes.specs.{Steps.IsToCut, Steps.HasCut, Steps.IsRowAgain, Steps.LeavesOtherRows, Logs.records_of, Logs.IsLogOf}
use Rattle.law_stored_rows.specs.Tables.{in_table, AreClustered, Said}
use Rattle.law_stored_rows.specs.{Records.IsRecordWith, Records.LeadTo, Records.if_of, Records.kept_of, Records.KeepsMore, Edits.clustered_index}
use Rattle.law_stored_rows.proofs.{KeptRows.others_keep, RowRecords.record_still, RowRecords.one_lead, RowRecords.one_record}
use Rattle.std.proofs.Common.{◌≡◌, ◌≢◌, ◌⊎◌, ⊎_elim, inl, inr, ℕ, ◌<◌, List, [], ◌∷◌, length, Option, None, Some, refl, sym, ap, subst, ◌∙◌, slice_get, arith}
use Rattle.std.proofs.lemmas.Bool.{cases_eq}
use Rattle.std.specs.Prelude.{IsSome}
use Rattle.inno_types.specs.declared.value.Schema.{Schema}
use Rattle.inno_db.specs.declared.change.Change.{Change}
use Rattle.inno_model.specs.Past.{own}
use Rattle.key_codec.specs.Keys.{key_code}
use Rattle.entries.specs.Pairs.{Pair, value_of}
use Rattle.row_versions.specs.{declared.kept.Kept.Kept, declared.version.Version.Version, Chains.Chains}
use Rattle.world.specs.{State.WorldState, State.Session, State.Logged, State.HasWork, Told.IsTold, Told.pairs_of, Undoing.IsCutBack}
use Rattle.row_changes.specs.Told.{AreRowsAs}
use Rattle.row_changes.proofs.{Ids.one_work, Sessions.one_found, Sessions.set_here, Sessions.set_other}
use Rattle.law_logged_changes.proofs.{Leaving.log_over, Leaving.log_beside, Logs.log_on, Logs.here_or_not}

-- ---- a record without what its row has again

module _ (schema : Schema) (key : List ℕ) (kept now : ℕ → Option Kept) (gone : ℕ) (same : (pointer : ℕ) → pointer ≢ gone → now pointer ≡ kept pointer) where
  -- A pointer that leads to fewer versions than the one that goes leads there still.
  leads_without : (all : List Version) → LeadTo schema key kept gone all → (from : ℕ) (versions : List Version) → length versions < length all
      → LeadTo schema key kept from versions → LeadTo schema key now from versions
  leads_without all cut from [] less leads = leads
  leads_without all cut from (version ∷ older) less leads =
      let differs : from ≢ gone = λ e.
      let also = subst (λ (p : ℕ). LeadTo schema key kept p (version ∷ older)) e leads in
      absurd (omega (arith, less, ap length (one_lead schema key kept gone (version ∷ older) all also cut))) in (
        leads.0,
        record { leads = leads.1.leads; there = same from differs ∙ leads.1.there; code_is = leads.1.code_is; shown_is = leads.1.shown_is },
        leads_without all cut leads.0.version.pointer older (omega (arith, less)) leads.2,
      )

  record_without : (found : Option (List ℕ)) (versions : List Version) → LeadTo schema key kept gone versions → IsRecordWith schema key kept found versions
      → IsRecordWith schema key now found versions
  record_without (Some bytes) (version ∷ older) cut is =
      (is.0, is.1, is.2, leads_without (version ∷ older) cut is.0.pointer older (omega arith) is.3)
  record_without None [] cut is = tt
  record_without found versions cut is = absurd is

-- ---- the log without its newest record

module _ (s : ℕ) (old new : WorldState) (logged : Logged) (older : List Logged) (before : List Change) (cut : IsToCut s logged older before old)
    (back : IsCutBack s old new) where
  front : (back.gone ≡ logged) × (back.log ≡ older)
  front =
      let one = one_work s back.session cut.session back.work cut.work old back.has_work cut.has_work in
      let all = back.log_is in
      let cuts = cut.log_is in
      (cc, cc)

  same_schemas : new.schemas ≡ old.schemas
  same_schemas = ap (λ (state : WorldState). state.schemas) back.rest

  same_pairs : pairs_of new ≡ pairs_of old
  same_pairs = ap (λ (state : WorldState). pairs_of state) back.rest

  told_before : IsTold new → IsTold old
  told_before told = record {
    pairs = λ index. subst (λ (state : WorldState). IsSome (state.indexes index).pairs) back.rest (told.pairs index);
    versions = back.told told.versions;
  }

  kept_elsewhere : IsTold new → (pointer : ℕ) → pointer ≢ logged.pointer → new.versions.kept_at pointer ≡ old.versions.kept_at pointer
  kept_elsewhere told pointer differs = back.kept pointer (λ same. differs (same ∙ ap (λ (l : Logged). l.pointer) front.0)) told.versions

  -- an undo record of a new row keeps no version, so none goes with it, and all is kept
  all_kept : logged.undo.kind ≡ 1 → IsTold new → new.versions.kept_at ≡ old.versions.kept_at
  all_kept kind told =
      let new_row : back.gone.undo.kind ≡ 1 = rw front.0 kind in
      let gone : logged.pointer ≡ back.gone.pointer = ap (λ (l : Logged). l.pointer) (sym front.0) in
      let each : (pointer : ℕ) → new.versions.kept_at pointer ≡ old.versions.kept_at pointer =
      λ pointer. ⊎_elim (λ same. rw same (rw gone (back.behind_new new_row told.versions))) (kept_elsewhere told pointer)
      (cases_eq pointer logged.pointer) in
      λ i pointer. each pointer i

  -- where the undo record keeps a version, only its own row had that, and has what was before
  module _ (told : IsTold new) (again : IsRowAgain logged old) where
    abbrev kept_then : ℕ → List ℕ → ℕ → Option Kept
    kept_then table key = kept_of old.versions.kept_at table key

    abbrev kept_now : ℕ → List ℕ → ℕ → Option Kept
    kept_now table key = kept_of new.versions.kept_at table key

    others_kept : (other : ℕ) (also : List ℕ) → (other ≢ logged.undo.table) ⊎ (also ≢ logged.undo.key)
        → KeepsMore (kept_then other also) (kept_now other also)
    others_kept other also =
        others_keep old.versions.kept_at new.versions.kept_at logged.pointer logged.undo.table other logged.undo.key also again.leads.0
        (kept_elsewhere told) again.leads.1.there

    record_cut : (table : ℕ) (schema : Schema) (key : List ℕ) (versions : List Version) → slice_get old.schemas table ≡ Some schema
        → IsRecordWith schema key (kept_then table key) (records_of old table key) versions
        → IsRecordWith schema key (kept_now table key) (records_of old table key) versions
    record_cut table schema key versions there is = elim (here_or_not logged.undo table key) [
      | inl here ↦
          let kept = kept_then logged.undo.table logged.undo.key in
          let mine = rw (here.0, here.1) at is in
          let one : again.schema ≡ schema = one_found again.schema schema again.there (rw here.0 at there) in
          let leads = subst (λ (x : Schema). LeadTo x logged.undo.key kept logged.pointer (again.version ∷ again.older)) one again.leads in
          let all = one_record schema logged.undo.key kept (records_of old logged.undo.table logged.undo.key) (again.version ∷ again.older) versions
          (rw one at again.record_is) mine in
          rw (here.0, here.1)
          (record_without schema logged.undo.key kept (kept_now logged.undo.table logged.undo.key) logged.pointer
          (λ pointer differs. ap (if_of logged.undo.table logged.undo.key) (kept_elsewhere told pointer differs))
          (records_of old logged.undo.table logged.undo.key) versions (subst (LeadTo schema logged.undo.key kept logged.pointer) all leads) mine)
      | inr apart ↦
          record_still schema key (kept_then table key) (kept_now table key) (records_of old table key) versions (others_kept table key apart) is
    ]

    clustered_cut : (chains : Chains) → AreClustered old.schemas (pairs_of old) old.versions.kept_at chains
        → AreClustered old.schemas (pairs_of old) new.versions.kept_at chains
    clustered_cut chains are = record {
      tables = λ table schema there. let is = are.tables table schema there in record {
        primary = is.primary;
        primary_is = is.primary_is;
        rising = is.rising;
        keys = is.keys;
        records = λ value has. record_cut table schema (key_code is.primary.kind value) (in_table table chains value) there (is.records value has);
        nowhere_else = is.nowhere_else;
      };
      nowhere_else = are.nowhere_else;
    }

  -- whatever keys say
  pub rows_as_cut : (chains : Chains) (said : Said) → (IsTold old → AreRowsAs chains said old) → IsTold new → AreRowsAs chains said new
  rows_as_cut chains said rows told =
      let was = rows (told_before told) in
      rw (same_schemas, same_pairs) (⊎_elim (λ first. rw (all_kept first told) was)
      (λ second. record { clustered = clustered_cut told (cut.may.again (told_before told) second) chains was.clustered; keyed = was.keyed })
      cut.may.kind_is)

  same_records : IsTold new → (table : ℕ) (key : List ℕ) → records_of new table key ≡ records_of old table key
  same_records told table key = ap (λ (pairs : ℕ → List Pair). value_of key (pairs (clustered_index table))) same_pairs

  -- older records keep their versions behind other pointers
  pub log_cut : IsLogOf new older before
  log_cut =
      ⊎_elim
      (λ first. log_over (records_of old) (records_of new) older before told_before same_schemas same_records
      (λ told pointer found is. rw (all_kept first told) is) cut.logs.mine)
      (λ second. log_on told_before same_schemas (λ l. l.undo.kind ≡ 2 → l.pointer ≢ logged.pointer) (records_of old) (records_of new) older before
      (λ l told apart. same_records told l.undo.table l.undo.key)
      (λ l told apart two former there. ap (if_of l.undo.table l.undo.key) (kept_elsewhere told l.pointer (apart two)) ∙ there)
      (λ told. cut.may.elsewhere (told_before told) second) cut.logs.mine) cut.may.kind_is

  -- what goes was kept as a version of its own row
  others_left : LeavesOtherRows logged.undo.table logged.undo.key old new
  others_left = record {
    schemas = same_schemas;
    told = told_before;
    records = λ told other also apart. same_records told other also;
    kept = λ told other also apart. elim (cut.may.kind_is) [
      | inl first ↦ λ pointer found is. rw (all_kept first told) is
      | inr second ↦ others_kept told (cut.may.again (told_before told) second) other also apart
    ];
  }

  abbrev session_now : Session
  session_now = record back.session { undo_room = 0; next_pointer = back.next; work = Some (record back.work { log = back.log }) }

  pub has_cut : HasCut s older before new
  has_cut = record {
    session = session_now;
    work = record back.work { log = back.log };
    has_work = record {
      session_is =
          ap (λ (state : WorldState). slice_get state.sessions s) back.rest ∙ set_here old.sessions s back.session session_now back.has_work.session_is;
      work_is = refl;
    };
    log_is = front.1;
    logs = record {
      mine = log_cut;
      others = λ u session work differs has.
          let same = ap (λ (state : WorldState). slice_get state.sessions u) back.rest ∙ set_other old.sessions s u session_now differs in
          let had : HasWork u session work old = record { session_is = sym same ∙ has.session_is; work_is = has.work_is } in
          rw (ap (λ (state : WorldState). own u state.past) back.rest)
          (log_beside others_left work.log (own u old.past) (cut.alone u session work differs had) (cut.logs.others u session work differs had));
    };
  }
