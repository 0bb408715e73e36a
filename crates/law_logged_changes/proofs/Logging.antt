-- The step that puts a version logs it.
use Rattle.row_changes.specs.RecordReached as records
use Rattle.row_changes.proofs.Pushed.{kept_over, kept_more, key_at, code_of_edit, plain, none_of, written_pointer, small_id}
use Rattle.row_changes.proofs.Telling.{pairs_told, puts_pairs, tells}
use Rattle.row_changes.proofs.{Ids.one_work, Sessions.one_session, Sessions.one_found, Changing.key_short, Changing.value_short, Keying.beside_stay}
use Rattle.law_logged_changes.proofs.Leaving.{stay_kept, log_over, log_beside, all_left, aside_left, logs_beside}
use Rattle.law_logged_changes.proofs.{Logs.taken_as, Logs.put_elsewhere, Logs.all_mapped, Logs.one_more, Logs.log_elsewhere, Entering.place_there}
use Rattle.law_stored_rows.proofs.{KeptRows.more_of, KeptRows.found_of, KeptRows.kept_here, Pairs.at_index, Pairs.value_now}
use Rattle.std.proofs.Common.{◌≡◌, ◌≢◌, inl, inr, ⊎_elim, ℕ, ◌^◌, ◌<◌, true, false, List, [], ◌∷◌, Option, Some, None, refl, sym, ap, ◌∙◌, arith}
use Rattle.std.proofs.lemmas.Bool.{cases_eq, eq-eqb, ne_eqb}
use Rattle.world.specs.{State.WorldState, State.Session, State.Work, State.Logged, State.HasWork, Indexes.IsUndo, Told.IsTold, Told.pairs_of}
use Rattle.row_changes.specs.Records.{Records, PutsOver, id_for, IsChangingRecord, RecordsEdit, PutsFirst, PutsVersion, ChangesRecord, undo_of_new}
use Rattle.row_changes.specs.Records.{undo_of_former}
use Rattle.row_changes.specs.{Rows.primary_of, Rows.place_of, Rows.IsChangingRow, Rows.ChangesRow, Edits.change_of, Edits.rows_put, Edits.version_by}
use Rattle.row_changes.specs.{Reached.Went, Reached.Done, Reached.Hindered, Reached.Reached, Told.HasRowsAt, declared.record_change.RecordChange.RecordChange}
use Rattle.row_changes.specs.{declared.row_change.RowChange.TheVariants.Record, declared.row_change.RowChange.TheVariants.Keys}
use Rattle.row_changes.specs.{declared.row_change.RowChange.RowChange, Keys.StaysBesideKeys}
use Rattle.undo_apply.specs.Standing.{TellsOf, LeadsBack, was_before}
use Rattle.law_logged_changes.specs.Logs.{RecordsAt, records_of, taken_back, Stands, LogStands, IsLogOf, LogsAgree, IsAloneAt}
use Rattle.law_logged_changes.specs.{Steps.HasLogged, Steps.LeavesRecords, Steps.LeavesOtherRows, GoingOn.IsAloneIn}
use Rattle.std.specs.{Prelude.is_some, Prelude.IsTrue, List.AllByRecursion}
use Rattle.inno_types.specs.{declared.value.Value.Value, declared.value.Schema.Schema}
use Rattle.inno_db.specs.{declared.change.Change.Change, declared.change.Change.TheVariants.Create}
use Rattle.inno_model.specs.{Past.own, declared.event.Event.TheVariants.Changed}
use Rattle.store_api.specs.{declared.answers.Undo.Undo, declared.answers.Version.Version as Coded}
use Rattle.entries.specs.Pairs.{value_of}
use Rattle.row_versions.specs.{declared.kept.Kept.Kept, Versions.Stays, declared.place.Place.Place, Chains.Chains}
use Rattle.row_codec.specs.Rows.{version_code}
use Rattle.law_stored_rows.specs.{Edits.clustered_index, Edits.Puts, Records.IsCodeOf, Records.KeepsMore, Records.kept_of, Tables.AreClustered, Tables.Said}
use Rattle.undo_apply.proofs.Columns.{before_new, before_kept}

-- ---- what older records keep is kept

some_kept : (undo : Undo) (kept : ℕ → Option Kept) (pointer : ℕ) → undo.kind ≡ 2 → LeadsBack undo (kept_of kept undo.table undo.key) pointer
    → is_some (kept pointer) ≡ true
some_kept undo kept pointer kind (inl new) = absurd (omega (arith, kind, new.0))
some_kept undo kept pointer kind (inr (k, some, former, there, bytes)) = ap is_some (found_of kept undo.table undo.key pointer former there)

abbrev IsKeptYet : WorldState → Logged → Type 0
IsKeptYet state logged = logged.undo.kind ≡ 2 → is_some (state.versions.kept_at logged.pointer) ≡ true

log_keeps : (state : WorldState) → IsTold state → (records : RecordsAt) (log : List Logged) (changes : List Change) → LogStands state records log changes
    → AllByRecursion (IsKeptYet state) log
log_keeps state told records [] changes stands = record {}
log_keeps state told records (logged ∷ log) [] stands = absurd (cc)
log_keeps state told records (logged ∷ log) (Create schema ∷ changes) stands = log_keeps state told records (logged ∷ log) changes stands
log_keeps state told records (logged ∷ log) (change ∷ changes) stands = (
  λ kind. let has = stands.0.record_is told in
      rw (← has.pointer_is kind) (some_kept logged.undo state.versions.kept_at has.coded.pointer kind has.before),
  log_keeps state told (taken_back logged.undo records) log changes stands.1,
)

-- ---- the step

abbrev undo_at : RecordChange → ℕ → List ℕ → Undo
undo_at change kind value = record { kind = kind; table = change.table; key = change.key; value = value }

-- What is known of the step: the version's record stands, and its undo record has this kind and value.
pub record IsLogging (s : ℕ) (old new : WorldState) (change : RecordChange) (schema : Schema) (kind : ℕ) (value : List ℕ) (coded : Coded) : Type 0 where
  pub rows : Records s (change_of change.table change.edit) (rows_put change.edit) change.table change.key (version_code schema coded)
      (undo_at change kind value) old new
  pub sound : IsUndo old.schemas (undo_at change kind value)
  pub code_is : IsCodeOf schema change.key (version_code schema coded) coded
  pub was : IsTold old → records_of old change.table change.key ≡ was_before (undo_at change kind value)
  pub leads : IsTold new → LeadsBack (undo_at change kind value) (kept_of new.versions.kept_at change.table change.key) coded.pointer
  pub pointer_is : kind ≡ 2 → coded.pointer ≡ rows.work.session.next_pointer
  pub more : IsTold new → KeepsMore old.versions.kept_at new.versions.kept_at
  pub fresh : IsTold new → kind ≡ 2 → old.versions.kept_at rows.work.session.next_pointer ≡ None
  pub versions_told : IsTrue new.versions.told → IsTrue old.versions.told

module _ (s : ℕ) (chains : Chains) (said : Said) (old new : WorldState) (change : RecordChange) (p : IsChangingRecord s old change)
    (rows : HasRowsAt chains said change.table change.key old) {kind : ℕ} {value : List ℕ} {coded : Coded}
    (is : IsLogging s old new change p.schema kind value coded) where
  abbrev undo : Undo
  undo = undo_at change kind value

  abbrev logged : Logged
  logged = record { pointer = is.rows.work.session.next_pointer; undo = undo }

  abbrev place : Place
  place = record { table = change.table; key = primary_of p.schema change.edit }

  abbrev bytes : List ℕ
  bytes = version_code p.schema coded

  same_schemas : new.schemas ≡ old.schemas
  same_schemas = ap (λ (state : WorldState). state.schemas) is.rows.rest

  same_past : new.past ≡ Changed s (change_of change.table change.edit) ∷ old.past
  same_past = ap (λ (state : WorldState). state.past) is.rows.rest

  told_before : IsTold new → IsTold old
  told_before told = record {
    pairs = pairs_told (clustered_index change.table) change.key (Some bytes) old new (is.rows.here, is.rows.elsewhere) told;
    versions = is.versions_told told.versions;
  }

  tells_old : TellsOf undo p.schema place old.schemas
  tells_old =
      let at = key_at p.schema change.edit change.key p.fits in
      record {
        there = p.table.there;
        storable = p.table.storable;
        undo_is = is.sound;
        table_is = refl;
        primary = at.column;
        primary_is = at.primary;
        has_key = at.has_key;
        key_is = at.spelled;
      }

  puts_now : IsTold new → Puts (pairs_of old) (pairs_of new) (clustered_index change.table) change.key (Some bytes)
  puts_now told = puts_pairs (clustered_index change.table) change.key (Some bytes) old new (is.rows.here, is.rows.elsewhere) told

  clustered : IsTold new → AreClustered old.schemas (pairs_of old) old.versions.kept_at chains
  clustered told =
      let of_key = key_at p.schema change.edit change.key p.fits in
      (rows p.schema (primary_of p.schema change.edit) p.table.there of_key (told_before told)).1.clustered

  record_now : IsTold new → records_of new change.table change.key ≡ Some bytes
  record_now told =
      ap (value_of change.key) (at_index (pairs_of old) (pairs_of new) (clustered_index change.table) change.key (Some bytes) (puts_now told))
      ∙ value_now change.key (Some bytes) (pairs_of old (clustered_index change.table)) ((clustered told).tables change.table p.schema p.table.there).rising

  records_before : IsTold new → (table : ℕ) (key : List ℕ) → records_of old table key ≡ taken_back undo (records_of new) table key
  records_before told =
      taken_as undo (records_of new) (records_of old) (is.was (told_before told))
      (λ table key apart. sym (put_elsewhere undo (Some bytes) (pairs_of old) (pairs_of new) (puts_now told) table key apart))

  -- ---- the log

  stands_now : (log : List Logged) (changes : List Change) → IsLogOf old log changes
      → Stands new (records_of new) logged log (change_of change.table change.edit)
  stands_now log changes stands = record {
    place = place;
    place_is = rw same_schemas (place_there old.schemas change.table change.edit p.schema p.table.there);
    schema = p.schema;
    tells = rw same_schemas tells_old;
    record_is = λ told. record {
      bytes = bytes;
      coded = coded;
      there = record_now told;
      code_is = is.code_is;
      before = is.leads told;
      pointer_is = is.pointer_is;
    };
    elsewhere = λ told two. all_mapped (IsKeptYet old) (λ (l : Logged). l.undo.kind ≡ 2 → l.pointer ≢ logged.pointer) log
        (λ l some kind_too same. let there = some kind_too in let none = ap is_some (is.fresh told two) in cc)
        (log_keeps old (told_before told) (records_of old) log changes stands);
  }

  log_now : (log : List Logged) (changes : List Change) → IsLogOf old log changes → IsLogOf new (logged ∷ log) (change_of change.table change.edit ∷ changes)
  log_now log changes stands =
      one_more (change_of change.table change.edit) changes (stands_now log changes stands)
      (log_over (records_of old) (taken_back undo (records_of new)) log changes told_before same_schemas
      (λ told table key. sym (records_before told table key)) is.more stands)

  own_now : own s new.past ≡ change_of change.table change.edit ∷ own s old.past
  own_now = rw (same_past, eq-eqb s s refl)

  pub has_logged : (session : Session) (work : Work) → HasWork s session work old → IsLogOf old work.log (own s old.past) → HasLogged s change work.log old new
  has_logged session work has stands = record {
    session = is.rows.work.session_now;
    work = is.rows.work.work_now;
    has_work = is.rows.work.has;
    logged = logged;
    log_is = log_is;
    own_is = own_now;
    table_is = refl;
    key_is = refl;
    stands = rw (log_is, own_now) (log_now work.log (own s old.past) stands);
  } where
    log_is : is.rows.work.work_now.log ≡ logged ∷ work.log
    log_is =
        is.rows.work.changed.log ∙ ap (λ (w : Work). logged ∷ w.log) (one_work s is.rows.work.session session is.rows.work.work work old is.rows.work.had has)

  -- ---- all logs

  others_left : LeavesOtherRows change.table change.key old new
  others_left = record {
    schemas = same_schemas;
    told = told_before;
    records = λ told. put_elsewhere undo (Some bytes) (pairs_of old) (pairs_of new) (puts_now told);
    kept = λ told other also apart. more_of old.versions.kept_at new.versions.kept_at other also (is.more told);
  }

  others_own : (u : ℕ) → u ≢ s → own u new.past ≡ own u old.past
  others_own u differs = rw (same_past, ne_eqb s u (λ same. differs (sym same)))

  pub all_logged : IsAloneAt place s old → LogsAgree old → LogsAgree new
  all_logged alone agree = record {
    each = λ u session work has. ⊎_elim
        (λ same.
        let by = is.rows.work in
        let mine = has_logged by.session by.work by.had (agree.each s by.session by.work by.had) in
        rw same (rw (one_work s session mine.session work mine.work new (rw same at has) mine.has_work) mine.stands))
        (λ differs.
        let had : HasWork u session work old = record { session_is = sym (is.rows.work.others u differs) ∙ has.session_is; work_is = has.work_is } in
        let stands = agree.each u session work had in
        rw (others_own u differs) (log_beside others_left work.log (own u old.past)
        (log_elsewhere old tells_old (records_of old) work.log (own u old.past) (alone u differs) stands) stands)) (cases_eq u s);
  }

-- ---- whether there was a record

module _ (s : ℕ) (old new : WorldState) (change : RecordChange) (p : IsChangingRecord s old change) where
  abbrev writer : ℕ
  writer = id_for p.work.id old.txns.next

  small : writer < 2 ^ 64
  small = small_id p.work.id old.txns.next p.small p.listed.few

  pub logging_first : (f : PutsFirst s old new change p.schema)
      → IsLogging s old new change p.schema 1 [] (version_by change.edit [] writer 0)
  logging_first f = record {
    rows = all;
    sound = record { kept = inl (refl, refl); key = key_short p; value = omega arith };
    code_is = code_of_edit p.schema change.edit change.key [] (plain [] 0) writer 0 p.fits (inl f.is_put) small (omega arith);
    was =
        λ told. none_of (records_of old change.table change.key)
        (tells (λ pairs. is_some (value_of change.key pairs) ≡ false) (old.indexes (clustered_index change.table)).pairs f.absent
        (told.pairs (clustered_index change.table))) ∙ sym (before_new (undo_at change 1 []) refl);
    leads = λ told. inl (refl, written_pointer change.edit [] writer 0);
    pointer_is = λ two. absurd (omega (arith, two));
    more = stay_kept old new kept;
    fresh = λ told two. absurd (omega (arith, two));
    versions_told = kept.told;
  } where
    all : RecordsEdit s change p.schema [] writer 0 (undo_of_new change.table change.key) old new
    all = rw (one_work s f.session p.session f.work p.work old f.had p.has_work) at f.records

    kept : Stays old.versions new.versions
    kept = all.work.versions

  pub logging_over : (former : Coded) (o : PutsOver s old new change p.schema former)
      → IsLogging s old new change p.schema 2 o.bytes (version_by change.edit former.row writer o.session.next_pointer)
  logging_over former o = record {
    rows = all;
    sound = record {
      kept = inr (refl, (kept_over p o).version, (kept_over p o).kept);
      key = key_short p;
      value = value_short p.schema former change.key o.bytes
          p.table.storable (o.was.code_is.record_is.fits, o.was.code_is.record_is.key_is) o.was.code_is.record_is.value_is;
    };
    code_is = code_of_edit p.schema change.edit change.key o.bytes former writer o.session.next_pointer p.fits (inr o.was.code_is) small o.small;
    was =
        λ told. tells (λ pairs. value_of change.key pairs ≡ Some o.bytes) (old.indexes (clustered_index change.table)).pairs o.was.there
        (told.pairs (clustered_index change.table)) ∙ sym (before_kept (undo_at change 2 o.bytes) refl);
    leads = λ told. inr (
      refl,
      rw pointer o.leads,
      record { table = change.table; key = change.key; version = (kept_over p o).version; bytes = o.bytes },
      kept_here new.versions.kept_at change.table change.key _ _ (ap new.versions.kept_at pointer ∙ (kept_over p o).here told.versions) refl refl,
      refl,
    );
    pointer_is = λ two. pointer ∙ ap (λ (x : Session). x.next_pointer) (sym one);
    more = λ told.
        kept_more old.schemas o.session.next_pointer (undo_of_former change.table change.key o.bytes) old.versions new.versions (kept_over p o) told.versions;
    fresh = λ told two. ap (λ (x : Session). old.versions.kept_at x.next_pointer) one ∙ (kept_over p o).fresh told.versions;
    versions_told = (kept_over p o).told;
  } where
    all : RecordsEdit s change p.schema former.row writer o.session.next_pointer (undo_of_former change.table change.key o.bytes) old new
    all = rw (one_work s o.session p.session o.work p.work old o.had p.has_work) at o.records

    one : all.work.session ≡ o.session
    one = one_session old s all.work.session o.session all.work.had.session_is o.had.session_is

    pointer : (version_by change.edit former.row writer o.session.next_pointer).pointer ≡ o.session.next_pointer
    pointer = written_pointer change.edit former.row writer o.session.next_pointer

  -- whichever it is, it is logged
  pub logging : (before : Option (List Value)) → ChangesRecord s old new change (records.Recorded before)
      → (kind : ℕ) × (value : List ℕ) × (coded : Coded) × IsLogging s old new change p.schema kind value coded
  logging before h =
      let puts : PutsVersion s old new change p.schema before = rw (one_found h.0 p.schema h.1.there p.table.there) at h.2 in
      ⊎_elim (λ f. (1, [], version_by change.edit [] writer 0, logging_first f.0))
      (λ o. (2, o.1.bytes, version_by change.edit o.0.row writer o.1.session.next_pointer, logging_over o.0 o.1)) puts

-- ---- the laws

module _ (s : ℕ) (chains : Chains) (said : Said) (old new : WorldState) (change : RecordChange) (key : List ℕ) (before after : Option (List Value))
    (p : IsChangingRow s chains said old (Record change key after)) (h : ChangesRecord s old new change (records.Recorded before)) where
  pub change_logged : (session : Session) (work : Work) → HasWork s session work old → IsLogOf old work.log (own s old.past)
      → HasLogged s change work.log old new
  change_logged = has_logged s chains said old new change p.0 p.1 (logging s old new change p.0 before h).3

  pub change_all : IsAloneAt (place_of p.0.schema change) s old → LogsAgree old → LogsAgree new
  change_all = all_logged s chains said old new change p.0 p.1 (logging s old new change p.0 before h).3

-- ---- Each step of a change keeps the logs: entries of keys alone change, or the version comes with its undo record.

-- ---- keys

pub beside_leaves : (old new : WorldState) → StaysBesideKeys old new → LeavesRecords old new
beside_leaves old new stays =
    record { schemas = cc; told = stays.told; pairs = stays.records; versions = stays.versions }

beside_all : (old new : WorldState) → StaysBesideKeys old new → LogsAgree old → LogsAgree new
beside_all old new stays agree = all_left old new (beside_leaves old new stays) (logs_beside old new stays.rest) agree

-- ---- the whole change

pub row_all : (s : ℕ) (chains : Chains) (said : Said) (old new : WorldState) (change : RowChange) (reached : Reached RowChange)
    → IsChangingRow s chains said old change → ChangesRow s chains said old new change reached → IsAloneIn s old change → LogsAgree old → LogsAgree new
row_all s chains said old new (Record change key after) (Went (Record next key' after')) p c alone agree = aside_left s old new c.0.0.aside agree
row_all s chains said old new (Record change key after) (Went (Keys next)) p c alone agree =
    change_all s chains said old new change key next.before after p c.0.0 (alone p.0.schema p.0.table.there) agree
row_all s chains said old new (Record change key after) Done p c alone agree = absurd c
row_all s chains said old new (Record change key after) (Hindered same why) p c alone agree = aside_left s old new c.2.0 agree
row_all s chains said old new (Keys change) (Went (Record next key after)) p c alone agree = absurd c.0
row_all s chains said old new (Keys change) (Went (Keys next)) p c alone agree = beside_all old new c.0.stays agree
row_all s chains said old new (Keys change) Done p c alone agree = beside_all old new (beside_stay old new c.0) agree
row_all s chains said old new (Keys change) (Hindered same why) p c alone agree = beside_all old new (beside_stay old new c.2.0) agree
