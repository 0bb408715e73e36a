-- What stays known of a record that is being changed, what its steps do, and what is there once it stands.
use Rattle.std.proofs.Common.{◌≡◌, ◌≢◌, ◌⊎◌, inl, inr, ⊎_elim, ℕ, ◌<◌, true, false, List, Option, Some, None, refl, sym, ap, ◌∙◌, arith, rules, ◌+◌, ◌≤◌}
use Rattle.std.proofs.Common.{◌∷◌, [], ◌^◌, Bool, subst, ◌==◌}
use Rattle.std.specs.Prelude.{slice_get, IfSome, is_some, Ok, Err, length}
use Rattle.std.proofs.lemmas.{Bool.cases_eq, Bool.cond_both, List.length-set}
use Rattle.inno_types.specs.{declared.value.Value.Value, declared.value.Schema.Schema, declared.value.Column.Column}
use Rattle.entries.specs.{Index.Index, Index.Paged, Index.Told, Index.Goes, Index.GoesOn, Index.AreKept, Index.HasGone, Calls.Fetches, Calls.is_done}
use Rattle.entries.specs.{Calls.Inserts}
use Rattle.entries.specs.Pairs.{Pair, value_of}
use Rattle.law_stored_rows.specs.{Edits.clustered_index, Edits.with_value, Records.IsCodeOf, Records.row_shown, Storable.IsStorable}
use Rattle.world.specs.{Stores.StoreGoes, Undoing.IsReady, Undoing.IsUnchanged, Undoing.MakesRoom, Sessions.with_room, AtHand.IsAtHand}
use Rattle.world.specs.State.{WorldState, Session, Work, with_session, IsIndex, HasWork}
use Rattle.world.specs.Indexes.{InIndex, KeepsAsSaid, Calls, MayLog, IsLogged, KeepsIf, Changes, Brings, StaysBeside, InsertsWith, ReplacesWith}
use Rattle.world.specs.Widths.{width_if, key_len, HasKeyLen, HasValueLen}
use Rattle.world.proofs.{Stores.store_stays, Stores.store_goes_on}
use Rattle.world.proofs.Widths.{record_key_len, record_value_len, has_key_len, has_value_len}
use Rattle.txn_table.specs.Txns.{Txns}
use Rattle.row_versions.specs.Versions.{Versions, Stays}
use Rattle.inno_model.specs.declared.event.Event.TheVariants.{Changed}
use Rattle.row_changes.specs.{declared.record_change.RecordChange.RecordChange, declared.record_change.RecordStage.RecordStage, Entries.IsPutting}
use Rattle.row_changes.specs.{declared.row_edit.RowEdit.RowEdit, Entering.Enters, Entries.IsThere, Entries.PutsEntry, Entries.unmarked}
use Rattle.row_changes.specs.{Asides.IsReadied, Asides.StepsAside}
use Rattle.row_changes.specs.{declared.entry_put.EntryPut.EntryPut, declared.row_edit.RowEdit.TheVariants.Put, declared.row_edit.RowEdit.TheVariants.Remove}
use Rattle.row_changes.specs.{Pairs.RowsStay, Pairs.Hinders, Pairs.HindersBehind, Pairs.IsReached, RecordReached.Went}
use Rattle.row_changes.specs.{RecordReached.Hindered, RecordReached.Recorded}
use Rattle.row_changes.specs.Records.{Decodes, PutsOver, IsListed, IsFormer, StageHolds, IsChangingRecord, GoesOnWithRecord, HindersRecord, IsSpoiled}
use Rattle.row_changes.specs.Records.{HasChanged, txns_with_id}
use Rattle.row_changes.specs.Records.{ChangesRecord, record_steps, when_found, IsMissing, MayMake, HasRoom, Records, id_for, undo_of_new}
use Rattle.row_changes.specs.Records.{undo_of_former, row_found}
use Rattle.row_changes.specs.Edits.{IsPut, FindsRow, LacksRow, change_of, rows_put, FitsEdit, version_by}
use Rattle.row_changes.specs.declared.record_change.RecordStage.TheVariants.{Enter, Room, Find, Replace}
use Rattle.store_api.specs.{declared.answers.Version.Version, declared.moves.Move.Move, declared.answers.Undo.Undo}
use Rattle.row_codec.specs.Rows.{version_code, IsRowOf, IsKeyOf}
use Rattle.row_changes.proofs.{Ids.one_work}
use Rattle.row_changes.proofs.Sessions.{one_session, aside_of_stay, same_pairs, same_versions, set_here, set_other, one_found}
use Rattle.row_changes.proofs.Awaited.{IsLeft, HasStayed, places_if, stays_if, change_stays_if, insert_left, replace_leaves, replace_hinders}
use Rattle.row_changes.proofs.Awaited.{insert_hinders, insert_waits, puts_if, fetch_keeps, fetch_delays, delay_hinders}
use Rattle.row_changes.specs.Entries.{GoesOnPutting, HasLooked, PutPhaseHolds, unmarked}
use Rattle.row_changes.specs.{Pairs.PutsPair, declared.entry_put.PutPhase.PutPhase}
use Rattle.inno_db.specs.declared.change.Change.{Change}
use Rattle.law_stored_rows.proofs.Coding.{short_key, short_value}
use Rattle.key_codec.specs.Keys.{key_width}
use Rattle.key_codec.proofs.Lengths.{length-key_code}
use Rattle.store_api.specs.declared.moves.Move.TheVariants as moves
use Rattle.row_changes.specs.Reached as reached
use Rattle.row_changes.specs.declared.entry_put.PutPhase.TheVariants as phases

-- what is told of pairs stays told, if pairs are told still
pub told_kept : (P : List Pair → Type 0) (old new : Option (List Pair)) → AreKept old new → IfSome old P → IfSome new P
told_kept P (Some old) (Some new) kept told = rw kept told
told_kept P old new kept told = search rules

-- what is told tells what follows from it
told_only : (P Q : List Pair → Type 0) (pairs : Option (List Pair)) → IfSome pairs P → ((list : List Pair) → P list → Q list) → IfSome pairs Q
told_only P Q None told follows = record {}
told_only P Q (Some list) told follows = follows list told

-- the session's transaction is listed still, where its list has stayed and all other sessions have
pub listed_on : (s : ℕ) (old new : WorldState) (work : Work) → new.txns ≡ old.txns
    → ((t : ℕ) → t ≢ s → slice_get new.sessions t ≡ slice_get old.sessions t) → IsListed s work old → IsListed s work new
listed_on s old new work txns others listed =
    record {
      there = rw txns listed.there;
      id = rw txns listed.id;
      few = rw txns listed.few;
      alone =
          λ t session other has same. ⊎_elim (λ e. e)
          (λ differs. listed.alone t session other (record { session_is = sym (others t differs) ∙ has.session_is; work_is = has.work_is }) same)
          (cases_eq t s);
    }

-- a stage's facts while no pair changes
pub stage_kept : (stage : RecordStage) (schema : Schema) (edit : RowEdit) (key : List ℕ) (session : Session) (old new : Index)
    → AreKept old.pairs new.pairs → StageHolds stage schema edit key session old → StageHolds stage schema edit key session new
stage_kept (Replace before bytes) schema edit key session old new kept holds =
    (holds.0, holds.1, record { there = told_kept _ old.pairs new.pairs kept holds.2.there; code_is = holds.2.code_is })
stage_kept other schema edit key session old new kept holds = holds

pub unchanged_stays : (old new : WorldState) → IsUnchanged old new → RowsStay old new
unchanged_stays old new same =
    record {
      pairs = λ index. (same.indexes index).pairs;
      places = λ index. (same.indexes index).place;
      versions = same.versions;
      rest = same.rest;
      later = same.later;
    }

-- room for an undo record was not made
pub no_room_stays : (s bytes : ℕ) (old new : WorldState) (why : Move) → MakesRoom s bytes old new why → why ≢ moves.Done → RowsStay old new
no_room_stays s bytes old new moves.Done h differs = absurd (differs refl)
no_room_stays s bytes old new other h differs = unchanged_stays old new (search rules)

-- the record that is there has no version: the answer's cause
pub spoiled : (schema : Schema) (key bytes : List ℕ) (index : Index) (why : Move) (s : ℕ) (new : Index)
    → Told (λ pairs. value_of key pairs ≡ Some bytes) index → Decodes schema key bytes (Err why) → Hinders s index new why ⊎ IsSpoiled schema key index
spoiled schema key bytes index (moves.Bad page rule) s new there h = inr (told_only _ _ index.pairs there (λ pairs found. (bytes, found, h)))
spoiled schema key bytes index other s new there h = search rules

-- ---- a step of one call, and one behind calls that change nothing

goes_itself : (paged : Option Paged) → GoesOn paged paged
goes_itself None = record {}
goes_itself (Some paged) = record { faults = omega arith; key_len = refl; value_len = refl }

pub reaches_itself : (actor : ℕ) (index : Index) → IsReached actor index index
reaches_itself actor index =
    record { pairs = same_pairs index.pairs; place = refl; awaited = λ by is. inl is; later = goes_itself index.paged; at_hand = λ are. are }

pub at_once : {actor : ℕ} {old new : Index} {why : Move} → AreKept old.pairs new.pairs → Hinders actor old new why → HindersBehind actor old new why
at_once {actor} {old} kept cause = record { mid = old; reached = reaches_itself actor old; kept = kept; cause = cause }

pub versions_then : {old mid new : Versions} → Stays old mid → Stays mid new → Stays old new
versions_then first next = record { told = λ told. first.told (next.told told); kept = λ told. next.kept told ∙ first.kept (next.told told) }

pub kept_then : (old mid new : Option (List Pair)) → AreKept old mid → AreKept mid new → AreKept old new
kept_then old mid None first next = record {}
kept_then old None (Some new) first next = absurd next
kept_then None (Some mid) (Some new) first next = absurd first
kept_then (Some old) (Some mid) (Some new) first next = next ∙ first

gone_then : (step : List Pair → List Pair → Type 0) (old mid new : Option (List Pair)) → AreKept old mid → Goes step mid new → Goes step old new
gone_then step old mid None first next = record {}
gone_then step old None (Some new) first next = absurd next
gone_then step None (Some mid) (Some new) first next = absurd first
gone_then step (Some old) (Some mid) (Some new) first next = subst (λ (pairs : List Pair). step pairs new) first next

pub stays_then : {old mid new : WorldState} → RowsStay old mid → RowsStay mid new → RowsStay old new
stays_then {old} {mid} {new} first next = record {
  pairs = λ index. kept_then (old.indexes index).pairs (mid.indexes index).pairs (new.indexes index).pairs (first.pairs index) (next.pairs index);
  places = λ index. next.places index ∙ first.places index;
  versions = versions_then first.versions next.versions;
  rest = next.rest ∙ ap (λ (w : WorldState). record w { indexes = new.indexes; versions = new.versions; paged = new.paged }) first.rest;
  later = store_goes_on old.paged mid.paged new.paged first.later next.later;
}

pub same_rows : (state : WorldState) → RowsStay state state
same_rows state =
    record {
      pairs = λ index. same_pairs (state.indexes index).pairs;
      places = λ index. refl;
      versions = same_versions state.versions;
      rest = refl;
      later = store_stays state.paged;
    }

-- a pair was put behind calls that change nothing
pub puts_behind : {index : ℕ} {key : List ℕ} {value : Option (List ℕ)} {start mid new : WorldState} → RowsStay start mid → PutsPair index key value mid new
    → PutsPair index key value start new
puts_behind {index} {key} {value} {start} {mid} {new} stay puts = record {
  here = gone_then (λ before after. after ≡ with_value key value before) (start.indexes index).pairs (mid.indexes index).pairs
      (new.indexes index).pairs (stay.pairs index) puts.here;
  elsewhere = λ other differs. kept_then (start.indexes other).pairs (mid.indexes other).pairs (new.indexes other).pairs (stay.pairs other)
      (puts.elsewhere other differs);
  places = λ other. puts.places other ∙ stay.places other;
  versions = versions_then stay.versions puts.versions;
  rest = puts.rest ∙ ap (λ (w : WorldState). record w { indexes = new.indexes; versions = new.versions; paged = new.paged }) stay.rest;
  later = store_goes_on start.paged mid.paged new.paged stay.later puts.later;
}

-- ---- the next step of a record that is being changed

pub stage_at : (s : ℕ) (state : WorldState) (change : RecordChange) (p : IsChangingRecord s state change) (stage : RecordStage) → change.stage ≡ stage
    → StageHolds stage p.schema change.edit change.key p.session (state.indexes (clustered_index change.table))
stage_at s state change p stage is = rw is at p.stage

module _ (s : ℕ) (old new : WorldState) (change : RecordChange) (p : IsChangingRecord s old change) where
  -- what is known of the record at its next stage
  abbrev pub changing_after : (stage : RecordStage) (aside : StepsAside s old new)
      → StageHolds stage p.schema change.edit change.key aside.after (new.indexes (clustered_index change.table))
      → IsChangingRecord s new (record change { stage = stage })
  changing_after stage aside holds =
      record {
        schema = p.schema;
        table = record { there = rw aside.rest p.table.there; storable = p.table.storable };
        fits = p.fits;
        session = aside.after;
        work = p.work;
        has_work = record { session_is = aside.is; work_is = cc (aside.was, aside.readied.work, p.has_work.session_is, p.has_work.work_is) };
        listed = listed_on s old new p.work (ap (λ (state : WorldState). state.txns) aside.rest) aside.others p.listed;
        small = p.small;
        stage = holds;
      }

  -- the next stage, some steps nearer
  goes_on : (was stage : RecordStage) (aside : StepsAside s old new) → change.stage ≡ was
      → StageHolds stage p.schema change.edit change.key aside.after (new.indexes (clustered_index change.table)) → record_steps stage < record_steps was
      → GoesOnWithRecord s old new change (record change { stage = stage })
  goes_on was stage aside is holds nears =
      record {
        aside = aside;
        table_is = refl;
        edit_is = refl;
        key_is = refl;
        holds = changing_after stage aside holds;
        nears = rw is nears;
      }

  -- the session has other rooms
  abbrev readied : (after : Session) → IsReadied p.session after → new ≡ record (with_session s after old) { paged = new.paged } → StoreGoes old.paged new.paged
      → StepsAside s old new
  readied after other is later =
      rw is (record {
        pairs = λ index. same_pairs (old.indexes index).pairs;
        places = λ index. refl;
        versions = same_versions old.versions;
        before = p.session;
        after = after;
        was = p.has_work.session_is;
        is = set_here old.sessions s p.session after p.has_work.session_is;
        readied = other;
        others = λ t differs. set_other old.sessions s t after differs;
        count = length-set old.sessions s after;
        rest = refl;
        later = later;
      })

  -- the history has room for the entry
  pub entered : change.stage ≡ Enter → new ≡ with_room s p.session old → GoesOnWithRecord s old new change (record change { stage = Room })
  entered at is =
      goes_on Enter Room
      (readied (record p.session { can_begin = true; can_change = true }) (record { setting = refl; work = refl; can_reply = refl; can_ack = refl }) (rw is)
      (rw is (store_stays old.paged))) at refl (omega arith)

  -- its log has room for the undo record
  pub room_made : change.stage ≡ Room → IsReady s 1098 old new → GoesOnWithRecord s old new change (record change { stage = Find })
  room_made at ready =
      let is = rw (one_session old s ready.session p.session ready.session_is p.has_work.session_is) at ready.rest in
      goes_on Room Find
      (readied (record p.session { undo_room = 1098; next_pointer = ready.pointer }) (record { setting = refl; work = refl; can_reply = refl; can_ack = refl })
      is ready.later) at (record { entry = stage_at s old change p Room at; leads = ready.leads; undo = omega arith }) (omega arith)

  -- a call that hinders leaves what is known
  pub hindered : (why : Move) → RowsStay old new → HindersRecord s change p.schema old new why → ChangesRecord s old new change (Hindered change why)
  hindered why stay because =
      let aside = aside_of_stay p.has_work.session_is stay in (
        refl,
        aside,
        changing_after change.stage aside (stage_kept change.stage _ _ _ _ _ _ (stay.pairs (clustered_index change.table)) p.stage),
        p.schema,
        p.table,
        because,
      )

  -- no row is there that could be removed
  lacks_row : (edit : RowEdit) → change.edit ≡ edit → RowsStay old new
      → LacksRow edit p.schema change.key (old.indexes (clustered_index change.table)) moves.End → ChangesRecord s old new change (Hindered change moves.End)
  lacks_row edit edit_is stay lacks =
      hindered moves.End stay (inr (inr (inr (rw edit_is lacks))))

  -- nothing is there that could be removed
  pub missed : (value : Value) → change.edit ≡ Remove value → RowsStay old new
      → Told (λ pairs. value_of change.key pairs ≡ None) (old.indexes (clustered_index change.table)) → ChangesRecord s old new change
      (Hindered change moves.End)
  missed value edit_is stay none =
      lacks_row (Remove value) edit_is stay (told_only _ _ (old.indexes (clustered_index change.table)).pairs none (λ pairs is. rw is (record {})))

  -- a version is there
  found : (edit : RowEdit) (before : Version) (bytes : List ℕ) → change.stage ≡ Find → change.edit ≡ edit → RowsStay old new
      → Told (λ pairs. value_of change.key pairs ≡ Some bytes) (old.indexes (clustered_index change.table)) → IsCodeOf p.schema change.key bytes before
      → ChangesRecord s old new change (when_found edit before bytes change)
  found edit before bytes at edit_is stay there code = on edit edit_is
    where
      former : IsFormer p.schema change.key bytes before (new.indexes (clustered_index change.table))
      former = record { there = told_kept _ _ _ (stay.pairs (clustered_index change.table)) there; code_is = code }

      finds : FindsRow change.edit before → ChangesRecord s old new change (Went (record change { stage = Replace before bytes }))
      finds row =
          goes_on Find (Replace before bytes) (aside_of_stay p.has_work.session_is stay) at (stage_at s old change p Find at, row, former) (omega arith)

      on : (e : RowEdit) → change.edit ≡ e → ChangesRecord s old new change (when_found e before bytes change)
      on (Put row) puts = finds (rw puts (record {}))
      on (Remove value) removes =
          cond_both before.marked _ _ (ChangesRecord s old new change)
          (λ is. lacks_row (Remove value) removes stay
          (told_only _ _ (old.indexes (clustered_index change.table)).pairs there (λ pairs found_is. rw found_is (before, code, is))))
          (λ is. finds (rw removes is))

  -- ---- the record is looked up

  pub looked_up : (before : Version) (read : List ℕ) → change.stage ≡ Find
      → Calls (clustered_index change.table) (λ b a. Fetches s change.key read b a moves.Done) old new
      → ((schema : Schema) → slice_get new.schemas change.table ≡ Some schema → Decodes schema change.key read (Ok before))
      → ChangesRecord s old new change (when_found change.edit before read change)
  looked_up before read at c decodes =
      let stay = stays_if c (c.index_is.here.1.pairs, c.index_is.here.1.place) in
      found change.edit before read at refl stay c.index_is.here.0 (decodes p.schema (rw stay.rest p.table.there))

  pub not_decoded : (why : Move) (read : List ℕ) → Calls (clustered_index change.table) (λ b a. Fetches s change.key read b a moves.Done) old new
      → ((schema : Schema) → slice_get new.schemas change.table ≡ Some schema → Decodes schema change.key read (Err why))
      → ChangesRecord s old new change (Hindered change why)
  not_decoded why read c decodes =
      let i = clustered_index change.table in
      let stay = stays_if c (c.index_is.here.1.pairs, c.index_is.here.1.place) in
      hindered why stay (⊎_elim (λ h. inl (at_once (stay.pairs i) h)) (λ h. inr (inr (inl h)))
      (spoiled p.schema change.key read (old.indexes i) why s (new.indexes i) c.index_is.here.0 (decodes p.schema (rw stay.rest p.table.there))))

  -- the place has no record
  pub looked_up_none : (read : List ℕ) → change.stage ≡ Find → IsAtHand new
      → Calls (clustered_index change.table) (λ b a. Fetches s change.key read b a moves.End) old new → IsMissing s change old new
  looked_up_none read at hand c = record {
    changing = p;
    stage_is = at;
    absent = c.index_is.here.0;
    stays = stays_if c (c.index_is.here.1.pairs, c.index_is.here.1.place);
    reached = record {
      pairs = c.index_is.here.1.pairs;
      place = c.index_is.here.1.place;
      awaited = λ by is. inl (sym c.index_is.here.1.awaited ∙ is);
      later = c.index_is.later;
      at_hand = λ were. hand.indexes (clustered_index change.table);
    };
  }

-- memory was lacking before the call
pub lacks_memory : (s : ℕ) (state : WorldState) (change : RecordChange) → IsChangingRecord s state change
    → ChangesRecord s state state change (Hindered change moves.NoMemory)
lacks_memory s state change p =
    hindered s state state change p moves.NoMemory (same_rows state)
    (inl (at_once (same_pairs (state.indexes (clustered_index change.table)).pairs) (record {})))

-- ---- what is there behind a call that logs a change

module _ (s : ℕ) (undo : Undo) (old mid : WorldState) (logged : IsLogged s undo old mid) where
  abbrev pub logged_work : Work
  logged_work = record logged.work { log = record { pointer = logged.session.next_pointer; undo = undo } ∷ logged.work.log }

  abbrev pub logged_session : Session
  logged_session = record logged.session { undo_room = 0; next_pointer = logged.next; work = Some logged_work }

  pub logged_here : HasWork s logged_session logged_work mid
  logged_here = record { session_is = rw logged.rest (set_here old.sessions s logged.session logged_session logged.has_work.session_is); work_is = refl }

  logged_elsewhere : (t : ℕ) → t ≢ s → slice_get mid.sessions t ≡ slice_get old.sessions t
  logged_elsewhere t differs = ap (λ (state : WorldState). slice_get state.sessions t) logged.rest ∙ set_other old.sessions s t logged_session differs

  recorded : (change : Change) (rows table : ℕ) (key bytes : List ℕ) {new : WorldState} {step : Index → Index → Type 0} {holder : Option ℕ}
      → Enters s change rows logged_session logged_work mid new → InIndex (clustered_index table) step old mid
      → HasGone (λ before after. after ≡ with_value key (Some bytes) before) holder (old.indexes (clustered_index table)) (mid.indexes (clustered_index table))
      → Records s change rows table key bytes undo old new
  recorded change rows table key bytes enters index_is gone =
      let now : Work = record logged_work { id = id_for logged.work.id mid.txns.next; own = logged.work.own + 1 } in
      rw (enters.rest, logged.rest) (record {
        here = gone.pairs;
        elsewhere = λ other differs. (index_is.elsewhere other differs).pairs;
        places = places_if index_is gone.place;
        work = record {
          session = logged.session;
          work = logged.work;
          had = logged.has_work;
          session_now = record logged_session { can_change = false; work = Some now };
          work_now = now;
          has = record { session_is = enters.now; work_is = refl };
          changed = record {
            txn = refl;
            level = refl;
            view = refl;
            can_end = refl;
            own = refl;
            id_is = ap (λ (state : WorldState). id_for logged.work.id state.txns.next) logged.rest;
            log = refl;
          };
          setting = refl;
          can_reply = refl;
          can_ack = refl;
          others = λ t differs. enters.others t differs ∙ logged_elsewhere t differs;
          count = enters.count ∙ ap (λ (state : WorldState). length state.sessions) logged.rest ∙ length-set old.sessions s logged_session;
          txns = refl;
          versions = logged.kept;
        };
        rest = refl;
        later = logged.later;
      })

-- ---- the call that changes the record

key_fits : (schema : Schema) (edit : RowEdit) (key : List ℕ) → IsStorable schema → FitsEdit schema edit key → length key ≤ 33
key_fits schema (Put row) key storable fits = short_key schema row key storable fits.key_is
key_fits schema (Remove value) key storable fits =
    let width = ap (λ (c : Column). key_width c.kind) (one_found fits.column storable.column fits.primary storable.primary) in
    omega (arith, ap length fits.spelled ∙ length-key_code fits.column.kind value fits.has_key.0, width, storable.short)

-- and as long as the keys of the table's records
key_long : (schema : Schema) (edit : RowEdit) (key : List ℕ) → FitsEdit schema edit key → length key ≡ key_len schema 0
key_long schema (Put row) key fits = record_key_len schema row key fits.key_is
key_long schema (Remove value) key fits =
    ap length fits.spelled ∙ length-key_code fits.column.kind value fits.has_key.0 ∙ sym (ap width_if fits.primary)

pub may_put : (edit : RowEdit) (stage : RecordStage) → IsPut edit → MayMake edit stage
may_put (Put row) stage puts = record {}
may_put (Remove value) stage puts = absurd puts

pub may_replace : (edit : RowEdit) (stage : RecordStage) (before : Version) (bytes : List ℕ) → stage ≡ Replace before bytes → MayMake edit stage
may_replace (Put row) stage before bytes at = record {}
may_replace (Remove value) stage before bytes at = rw at (record {})

-- the row of the version that is made is one of the table, and has the key
pub version_made : (schema : Schema) (edit : RowEdit) (key : List ℕ) (session : Session) (index : Index) (stage : RecordStage) → FitsEdit schema edit key
    → StageHolds stage schema edit key session index → MayMake edit stage → (version : Version) (writer pointer : ℕ)
    → version ≡ version_by edit (row_found stage) writer pointer → IsRowOf schema.columns version.row × IsKeyOf schema version.row key
version_made schema (Put row) key session index stage fits holds makes version writer pointer is = rw is (fits.fits.columns, fits.key_is)
version_made schema (Remove value) key session index (Replace before bytes) fits holds makes version writer pointer is =
    rw is (holds.2.code_is.record_is.fits, holds.2.code_is.record_is.key_is)
version_made schema (Remove value) key session index other fits holds makes version writer pointer is = absurd makes

pub value_short : (schema : Schema) (version : Version) (key value : List ℕ) → IsStorable schema
    → IsRowOf schema.columns version.row × IsKeyOf schema version.row key → value ≡ version_code schema version → length value ≤ 1024
value_short schema version key value storable fits is = short_value schema version key value storable (record { fits = fits.0; key_is = fits.1; value_is = is })

module _ {s : ℕ} {old : WorldState} {change : RecordChange} (p : IsChangingRecord s old change) where
  abbrev index : ℕ
  index = clustered_index change.table

  pub key_short : length change.key ≤ 67
  key_short = let h = key_fits p.schema change.edit change.key p.table.storable p.fits in omega arith

  pub rows_index : (number : ℕ) → number ≡ index → IsIndex old.schemas number
  rows_index number is =
      record { table = change.table; which = 0; number = omega (arith, is); schema = p.schema; there = p.table.there; key = omega arith; few = omega arith }

  pub rows_key_len : (number : ℕ) → number ≡ index → HasKeyLen old.schemas number change.key
  rows_key_len number is =
      has_key_len change.table 0 p.schema (omega (arith, is)) (omega arith) p.table.there change.key (key_long p.schema change.edit change.key p.fits)

  pub rows_value_len : (number : ℕ) → number ≡ index → (version : Version) (value : List ℕ)
      → IsRowOf p.schema.columns version.row × IsKeyOf p.schema version.row change.key → value ≡ version_code p.schema version
      → HasValueLen old.schemas number value
  rows_value_len number is version value fits value_is =
      has_value_len change.table 0 p.schema (omega (arith, is)) (omega arith) p.table.there value
      (record_value_len p.schema version value fits.0 value_is)

  -- the log has room for the undo record that the call brings
  may_log : (undo : Undo) → HasRoom p.session → KeepsAsSaid old.schemas undo → undo.key ≡ change.key → length undo.value ≤ 1024 → MayLog s undo old
  may_log undo room kept key_is small = record {
    sound = record { kept = kept; key = rw key_is key_short; value = small };
    session = p.session;
    work = p.work;
    has_work = p.has_work;
    room =
        let enough : 1098 ≤ p.session.undo_room = room.undo in
        omega (arith, key_fits p.schema change.edit change.key p.table.storable p.fits, small, enough, ap length key_is);
  }

  pub may_log_new : (undo : Undo) → HasRoom p.session → undo ≡ undo_of_new change.table change.key → MayLog s undo old
  may_log_new undo room is = rw is (may_log (undo_of_new change.table change.key) room (inl (refl, refl)) refl (omega arith))

  pub may_log_former : (before : Version) (bytes : List ℕ) (undo : Undo) → change.stage ≡ Replace before bytes
      → undo ≡ undo_of_former change.table change.key bytes → MayLog s undo old
  may_log_former before bytes undo at is =
      let holds = stage_at s old change p (Replace before bytes) at in
      let code = holds.2.code_is in
      rw is (may_log (undo_of_former change.table change.key bytes) holds.0
      (inr (refl, before, record { schema = p.schema; there = p.table.there; record_is = code.record_is; small = code.numbers })) refl
      (short_value p.schema before change.key bytes p.table.storable code.record_is))

  -- what entering the change asks
  pub may_enter : (undo : Undo) (mid : WorldState) → HasRoom p.session → IsLogged s undo old mid
      → (session : Session) × (work : Work) × HasWork s session work mid × IsListed s work mid × (session.can_change ≡ true)
  may_enter undo mid room logged =
      let session = one_session old s logged.session p.session logged.has_work.session_is p.has_work.session_is in
      let work = one_work s logged.session p.session logged.work p.work old logged.has_work p.has_work in
      let listed =
      listed_on s old mid logged.work (ap (λ (state : WorldState). state.txns) logged.rest) (logged_elsewhere s undo old mid logged)
      (rw work p.listed) in (
        logged_session s undo old mid logged,
        logged_work s undo old mid logged,
        logged_here s undo old mid logged,
        record { there = listed.there; id = listed.id; few = listed.few; alone = listed.alone },
        ap (λ (x : Session). x.can_change) session ∙ room.entry,
      )

  -- who enters the change behind the call
  abbrev EntersIt : WorldState → WorldState → Type 0
  EntersIt mid new =
      (session : Session) (work : Work) → HasWork s session work mid → Enters s (change_of change.table change.edit) (rows_put change.edit) session work mid new

  abbrev Calling : (Option Undo → ℕ → List ℕ → List ℕ → Index → Index → Move → Type 0) → Undo → List ℕ → WorldState → Move → Type 0
  Calling call undo value new move = Changes index s (Some undo) (λ before after answer. call (Some undo) s change.key value before after answer) old new move

  pub replaced : (mid new : WorldState) (before : Version) (bytes value : List ℕ) (undo : Undo) (found : Option (List Value))
      → change.stage ≡ Replace before bytes
      → value ≡ version_code p.schema (version_by change.edit before.row (id_for p.work.id old.txns.next) p.session.next_pointer)
      → undo ≡ undo_of_former change.table change.key bytes → found ≡ row_shown before.marked before.row → p.session.next_pointer < 2 ^ 64
      → Calling ReplacesWith undo value mid moves.Done → EntersIt mid new → ChangesRecord s old new change (Recorded found)
  replaced mid new before bytes value undo found at value_is undo_is found_is small c enters =
      let holds = stage_at s old change p (Replace before bytes) at in
      let all = recorded s undo old mid c.beside _ _ change.table _ value (enters _ _ (logged_here s undo old mid c.beside)) c.index_is c.index_is.here.1 in
      let over : PutsOver s old new change p.schema before =
      record {
        session = p.session;
        work = p.work;
        had = p.has_work;
        bytes = bytes;
        leads = holds.0.leads;
        small = small;
        finds = holds.1;
        was = holds.2;
        records = rw (← undo_is, ← value_is) all;
      } in
      (p.schema, p.table, inr (before, over, found_is))

  -- no undo record has come where the call was not done
  not_brought : (undo : Undo) (new : WorldState) (move : Move) → move ≢ moves.Done → Brings s (Some undo) (is_done move) old new → StaysBeside old new
  not_brought undo new moves.Done not_done h = absurd (not_done refl)
  not_brought undo new other not_done h = h

  called_stays : (new : WorldState) (undo : Undo) (answer : Move) (call : Index → Index → Move → Type 0) → Changes index s (Some undo) call old new answer
      → answer ≢ moves.Done → HasStayed (old.indexes index) (new.indexes index) → RowsStay old new
  called_stays new undo answer call c differs stayed = stays_if (record { index_is = c.index_is; beside = not_brought undo new answer differs c.beside }) stayed

  hindered_by : (new : WorldState) (undo : Undo) (answer : Move) (call : Index → Index → Move → Type 0) → Changes index s (Some undo) call old new answer
      → answer ≢ moves.Done → IsLeft (old.indexes index) (new.indexes index) × Hinders s (old.indexes index) (new.indexes index) answer
      → ChangesRecord s old new change (Hindered change answer)
  hindered_by new undo answer call c differs left =
      hindered s old new change p answer
      (called_stays new undo answer call c differs left.0.0) (inl (at_once left.0.0.0 left.1))

  pub replace_hindered : (new : WorldState) (before : Version) (bytes value : List ℕ) (undo : Undo) (answer : Move) → change.stage ≡ Replace before bytes
      → Calling ReplacesWith undo value new answer → answer ≢ moves.Done → ChangesRecord s old new change (Hindered change answer)
  replace_hindered new before bytes value undo answer at c differs =
      let here = c.index_is.here in
      let there =
      told_only _ (λ pairs. is_some (value_of change.key pairs) ≡ true) (old.indexes index).pairs (stage_at s old change p (Replace before bytes) at).2.there
      (λ pairs is. ap is_some is) in
      hindered_by new undo answer _ c differs (
        replace_leaves (Some undo) s change.key value _ _ answer here differs,
        replace_hinders (Some undo) s change.key value _ _ answer there here differs,
      )

-- ---- a record is inserted in the step in which its place was seen to have none

records_behind : {s : ℕ} {change : Change} {rows table : ℕ} {key bytes : List ℕ} {undo : Undo} {start mid new : WorldState} → undo.kind ≡ 1
    → RowsStay start mid → Records s change rows table key bytes undo mid new → Records s change rows table key bytes undo start new
records_behind {s} {change} {rows} {table} {key} {bytes} {undo} {start} {mid} {new} kind stay r = record {
  here = gone_then (λ before after. after ≡ with_value key (Some bytes) before) (start.indexes (clustered_index table)).pairs
      (mid.indexes (clustered_index table)).pairs (new.indexes (clustered_index table)).pairs (stay.pairs (clustered_index table)) r.here;
  elsewhere = λ other differs. kept_then (start.indexes other).pairs (mid.indexes other).pairs (new.indexes other).pairs (stay.pairs other)
      (r.elsewhere other differs);
  places = λ index. r.places index ∙ stay.places index;
  work = record {
    session = r.work.session;
    work = r.work.work;
    had = record { session_is = sym (sessions r.work.session s) ∙ r.work.had.session_is; work_is = r.work.had.work_is };
    session_now = r.work.session_now;
    work_now = r.work.work_now;
    has = r.work.has;
    changed = subst (λ (txns : Txns). HasChanged r.work.work r.work.work_now (id_for r.work.work.id txns.next)
        (record { pointer = r.work.session.next_pointer; undo = undo })) txns_is r.work.changed;
    setting = r.work.setting;
    can_reply = r.work.can_reply;
    can_ack = r.work.can_ack;
    others = λ t differs. r.work.others t differs ∙ sessions r.work.session t;
    count = r.work.count ∙ ap (λ (w : WorldState). length w.sessions) stay.rest;
    txns = r.work.txns ∙ ap (txns_with_id r.work.work) txns_is;
    versions = kept_behind (undo.kind == 2) (ap (λ (k : ℕ). k == 2) kind) r.work.versions;
  };
  rest = r.rest ∙ ap (λ (w : WorldState). record w {
    past = Changed s change ∷ w.past;
    rows = w.rows + rows;
    indexes = new.indexes;
    versions = new.versions;
    paged = new.paged;
    sessions = new.sessions;
    txns = new.txns;
  }) stay.rest;
  later = store_goes_on start.paged mid.paged new.paged stay.later r.later;
}
  where
    sessions : (session : Session) (t : ℕ) → slice_get mid.sessions t ≡ slice_get start.sessions t
    sessions session t = ap (λ (w : WorldState). slice_get w.sessions t) stay.rest

    txns_is : mid.txns ≡ start.txns
    txns_is = ap (λ (w : WorldState). w.txns) stay.rest

    kept_behind : (keeps : Bool) → keeps ≡ false → KeepsIf keeps mid.schemas r.work.session.next_pointer undo mid.versions new.versions
        → KeepsIf keeps start.schemas r.work.session.next_pointer undo start.versions new.versions
    kept_behind true not kept = absurd (cc)
    kept_behind false not kept = versions_then stay.versions kept

module _ {s : ℕ} {start mid : WorldState} {change : RecordChange} (missing : IsMissing s change start mid) where
  abbrev at : ℕ
  at = clustered_index change.table

  -- it is being changed still
  abbrev pub changing_still : IsChangingRecord s mid change
  changing_still =
      let p = missing.changing in
      changing_after s start mid change p change.stage (aside_of_stay p.has_work.session_is missing.stays)
      (stage_kept change.stage _ _ _ _ _ _ (missing.stays.pairs at) p.stage)

  pub has_room : HasRoom missing.changing.session
  has_room = stage_at s start change missing.changing Find missing.stage_is

  pub absent_still : IsThere false change.key (mid.indexes at)
  absent_still = told_kept _ (start.indexes at).pairs (mid.indexes at).pairs missing.reached.pairs
      (told_only _ _ (start.indexes at).pairs missing.absent (λ pairs is. ap is_some is))

  pub inserted : (then new : WorldState) (value : List ℕ) (undo : Undo) → IsPut change.edit
      → value ≡ version_code missing.changing.schema (version_by change.edit [] (id_for missing.changing.work.id mid.txns.next) 0)
      → undo ≡ undo_of_new change.table change.key → Calling changing_still InsertsWith undo value then moves.Done → EntersIt changing_still then new
      → ChangesRecord s start new change (Recorded None)
  inserted then new value undo puts value_is undo_is c enters =
      let p = missing.changing in
      let all = recorded s undo mid then c.beside _ _ change.table _ value (enters _ _ (logged_here s undo mid then c.beside)) c.index_is c.index_is.here.2 in
      let here = value_is ∙ ap (λ (next : ℕ). version_code p.schema (version_by change.edit [] (id_for p.work.id next) 0))
      (ap (λ (w : WorldState). w.txns.next) missing.stays.rest) in (
        p.schema,
        p.table,
        inl (
          record {
            session = p.session;
            work = p.work;
            had = p.has_work;
            is_put = puts;
            absent = told_only _ _ (start.indexes at).pairs missing.absent (λ pairs is. ap is_some is);
            records = rw (← undo_is, ← here) (records_behind (ap (λ (u : Undo). u.kind) undo_is) missing.stays all);
          },
          refl,
        ),
      )

  -- what hindered a call that came behind hinders the step
  hindered_then : (new : WorldState) (why : Move) → RowsStay mid new → Hinders s (mid.indexes at) (new.indexes at) why
      → ChangesRecord s start new change (Hindered change why)
  hindered_then new why stay cause =
      hindered s start new change missing.changing why (stays_then missing.stays stay)
      (inl (record { mid = mid.indexes at; reached = missing.reached; kept = stay.pairs at; cause = cause }))

  pub lacks_memory_then : ChangesRecord s start mid change (Hindered change moves.NoMemory)
  lacks_memory_then = hindered_then mid moves.NoMemory (same_rows mid) (record {})

  pub insert_hindered : (new : WorldState) (value : List ℕ) (undo : Undo) (answer : Move) → Calling changing_still InsertsWith undo value new answer
      → answer ≢ moves.Done → ChangesRecord s start new change (Hindered change answer)
  insert_hindered new value undo answer c differs =
      let left = insert_left (Some undo) s change.key value _ _ answer c.index_is.here differs in
      hindered_then new answer (called_stays changing_still new undo answer _ c differs left.0)
      (insert_hinders (Some undo) s change.key value _ _ answer absent_still c.index_is.here differs)

-- ---- an entry that is being put

phase_kept : (phase : PutPhase) (entry : List ℕ) (old new : Index) → AreKept old.pairs new.pairs → PutPhaseHolds phase entry old
    → PutPhaseHolds phase entry new
phase_kept phases.Look entry old new kept holds = record {}
phase_kept phases.Unmark entry old new kept holds = told_kept _ old.pairs new.pairs kept holds

-- no pair has changed
putting_kept : {old new : WorldState} {put : EntryPut} → IsPutting old put → RowsStay old new → IsPutting new put
putting_kept {old} {new} {put} is stay = record {
  index_is = rw (ap (λ (w : WorldState). w.schemas) stay.rest) is.index_is;
  short = is.short;
  key_len = subst (λ (schemas : List Schema). HasKeyLen schemas put.index put.entry) (sym (ap (λ (w : WorldState). w.schemas) stay.rest)) is.key_len;
  value_len =
      subst (λ (schemas : List Schema). HasValueLen schemas put.index unmarked) (sym (ap (λ (w : WorldState). w.schemas) stay.rest)) is.value_len;
  phase = phase_kept put.phase put.entry (old.indexes put.index) (new.indexes put.index) (stay.pairs put.index) is.phase;
}

-- the first call of a step was hindered
pub put_hindered : (actor : ℕ) (old new : WorldState) (put : EntryPut) (why : Move) → IsPutting old put → RowsStay old new
    → Hinders actor (old.indexes put.index) (new.indexes put.index) why → PutsEntry actor old new put (reached.Hindered put why)
put_hindered actor old new put why is stay cause = (refl, stay, putting_kept is stay, at_once (stay.pairs put.index) cause)

pub put_lacks_memory : (actor : ℕ) (state : WorldState) (put : EntryPut) → IsPutting state put
    → PutsEntry actor state state put (reached.Hindered put moves.NoMemory)
put_lacks_memory actor state put is = put_hindered actor state state put moves.NoMemory is (same_rows state) (record {})

-- the entry is there, so its mark is taken away next
found_there : {old new : WorldState} {put : EntryPut} → IsPutting old put → put.phase ≡ phases.Look → RowsStay old new
    → IsThere true put.entry (new.indexes put.index) → GoesOnPutting old new put (record put { phase = phases.Unmark })
found_there {old} {new} {put} is phase_is stay there = record {
  stays = stay;
  index_is = refl;
  entry_is = refl;
  holds =
      let kept = putting_kept is stay in
      record { index_is = kept.index_is; short = is.short; key_len = kept.key_len; value_len = kept.value_len; phase = there };
  nears = rw phase_is (omega arith);
}

module _ (actor : ℕ) (old new : WorldState) (put : EntryPut) (read : List ℕ) (is : IsPutting old put) (phase_is : put.phase ≡ phases.Look) where
  abbrev Looks : Move → Type 0
  Looks answer = Calls put.index (λ before after. Fetches actor put.entry read before after answer) old new

  looked_stays : (answer : Move) → Looks answer → RowsStay old new
  looked_stays answer c = stays_if c (fetch_keeps actor put.entry read (old.indexes put.index) (new.indexes put.index) answer c.index_is.here)

  pub look_found : Looks moves.Done → GoesOnPutting old new put (record put { phase = phases.Unmark })
  look_found c =
      let stay = looked_stays moves.Done c in
      found_there is phase_is stay (told_kept _ (old.indexes put.index).pairs (new.indexes put.index).pairs (stay.pairs put.index)
      (told_only _ _ (old.indexes put.index).pairs c.index_is.here.0 (λ pairs found. ap is_some found)))

  -- the entry isn't there: it is put by a second call of the step
  pub look_none : IsAtHand new → Looks moves.End → HasLooked actor put old new
  look_none hand c = record {
    putting = is;
    phase_is = phase_is;
    stays = looked_stays moves.End c;
    reached = record {
      pairs = c.index_is.here.1.pairs;
      place = c.index_is.here.1.place;
      awaited = λ by awaits. inl (sym c.index_is.here.1.awaited ∙ awaits);
      later = c.index_is.later;
      at_hand = λ were. hand.indexes put.index;
    };
  }

  pub look_hindered : (answer : Move) → Looks answer → answer ≢ moves.Done → answer ≢ moves.End → PutsEntry actor old new put (reached.Hindered put answer)
  look_hindered answer c not_done not_end =
      put_hindered actor old new put answer is (looked_stays answer c)
      (delay_hinders _ _ _ _ (fetch_delays _ _ _ _ _ _ c.index_is.here not_done not_end))

-- an entry of which nothing is known is inserted
module _ {actor : ℕ} {start mid : WorldState} {put : EntryPut} (looked : HasLooked actor put start mid) where
  abbrev Inserting : List ℕ → WorldState → Move → Type 0
  Inserting value new answer = Changes put.index actor None (λ before after answer. Inserts actor put.entry value before after answer) mid new answer

  pub put_index : IsIndex mid.schemas put.index
  put_index = (putting_kept looked.putting looked.stays).index_is

  pub put_inserted : (value : List ℕ) (new : WorldState) → value ≡ unmarked → Inserting value new moves.Done
      → PutsPair put.index put.entry (Some unmarked) start new
  put_inserted value new value_is c =
      puts_behind looked.stays (rw value_is at (puts_if put.entry (Some value) c c.index_is.here.2))

  insert_stays : (value : List ℕ) (new : WorldState) (answer : Move) → Inserting value new answer → answer ≢ moves.Done → RowsStay mid new
  insert_stays value new answer c differs =
      change_stays_if c (insert_left None actor put.entry value _ _ answer c.index_is.here differs).0

  -- it was there after all
  pub put_there : (value there kept : List ℕ) (new : WorldState) → Inserting value new (moves.At there kept)
      → GoesOnPutting start new put (record put { phase = phases.Unmark })
  put_there value there kept new c =
      let stay = insert_stays value new (moves.At there kept) c (λ e. cc) in
      found_there looked.putting looked.phase_is (stays_then looked.stays stay)
      (told_kept _ (mid.indexes put.index).pairs (new.indexes put.index).pairs (stay.pairs put.index)
      (told_only _ _ (mid.indexes put.index).pairs c.index_is.here.2 (λ pairs found. ap is_some found)))

  -- what hindered a call that came behind hinders the step
  pub put_hindered_then : (new : WorldState) (why : Move) → RowsStay mid new → Hinders actor (mid.indexes put.index) (new.indexes put.index) why
      → PutsEntry actor start new put (reached.Hindered put why)
  put_hindered_then new why stay cause =
      let all = stays_then looked.stays stay in (
        refl,
        all,
        putting_kept looked.putting all,
        record { mid = mid.indexes put.index; reached = looked.reached; kept = stay.pairs put.index; cause = cause },
      )

  pub put_lacks_then : PutsEntry actor start mid put (reached.Hindered put moves.NoMemory)
  put_lacks_then = put_hindered_then mid moves.NoMemory (same_rows mid) (record {})

  pub put_insert_hindered : (value : List ℕ) (new : WorldState) (answer : Move) → Inserting value new answer → answer ≢ moves.Done
      → ((there kept : List ℕ) → answer ≢ moves.At there kept) → PutsEntry actor start new put (reached.Hindered put answer)
  put_insert_hindered value new answer c not_done not_at =
      put_hindered_then new answer (insert_stays value new answer c not_done)
      (insert_waits actor put.entry value _ _ answer c.index_is.here not_done not_at)
