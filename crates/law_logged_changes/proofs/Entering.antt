-- Each step of a change: those that add no entry, and the one that adds its entry.
use Rattle.row_changes.specs.RecordReached as records
use Rattle.law_logged_changes.proofs.Leaving.{stay_kept, work_again, agrees_beside}
use Rattle.std.proofs.Common.{◌≡◌, ⊎_elim, ℕ, ◌^◌, ◌<◌, ◌==◌, Bool, true, false, List, ◌∷◌, length, Some, refl, sym, ap, ◌∙◌, arith}
use Rattle.std.proofs.{lemmas.Bool.Decides.nat_tests, lemmas.Option.slice_get_within}
use Rattle.std.specs.Prelude.{slice_get, IsTrue}
use Rattle.inno_types.specs.declared.value.Schema.{Schema}
use Rattle.store_api.specs.declared.answers.Undo.{Undo}
use Rattle.row_versions.specs.Chains.{Chains, with_versions, Pushes}
use Rattle.row_versions.specs.{Versions.Versions, declared.place.Place.Place, declared.version.Version.Version}
use Rattle.law_past_agreement.specs.{Rows.place_in, Rows.is_place, Rows.is_at, Rows.row_of, Order.IsOfRow, Order.IsTabled}
use Rattle.law_stored_rows.proofs.Values.{same_place}
use Rattle.law_stored_rows.specs.{Tables.Said, Records.KeepsMore}
use Rattle.inno_db.specs.declared.change.Change.{Change}
use Rattle.world.specs.{State.WorldState, State.Session, State.Work, State.HasWork, State.IsSession, Indexes.KeepsIf, Told.IsTold}
use Rattle.law_world_agreement.specs.{Agreement.Agrees, Steps.IsChangedBy, Steps.IsEntered}
use Rattle.law_world_agreement.proofs.{Changing.changed_agrees, Entries.unentered_agrees}
use Rattle.row_changes.specs.{Records.Records, Records.IsChangingRecord, Records.ChangesRecord, Records.id_for, Rows.IsChangingRow, Rows.row_after}
use Rattle.row_changes.specs.{Rows.primary_of, Rows.place_of, Rows.PushesEdit, Rows.ChangesRow, Reached.Went, Reached.Done, Reached.Hindered, Reached.Reached}
use Rattle.row_changes.specs.{declared.row_edit.RowEdit.RowEdit, declared.row_edit.RowEdit.TheVariants.Remove, declared.row_edit.RowEdit.TheVariants.Put}
use Rattle.row_changes.specs.{declared.row_change.RowChange.TheVariants.Keys, declared.row_change.RowChange.TheVariants.Record}
use Rattle.row_changes.specs.{declared.record_change.RecordChange.RecordChange, Keys.StaysBesideKeys, declared.keys_change.KeysChange.KeysChange}
use Rattle.row_changes.specs.{declared.row_change.RowChange.RowChange, Edits.change_of, Edits.rows_put, Asides.StepsAside, Asides.IsReadied}
use Rattle.row_changes.proofs.{Ids.one_work, Sessions.one_session, Pushed.kept_more, Keying.beside_stay}
use Rattle.law_logged_changes.specs.Logs.{IsAloneAt}
use Rattle.law_logged_changes.specs.GoingOn.{StaysOpen, KeepsBeside, EntersAgreed, GoesOnAgreed, StaysAgreed, IsAloneIn}
use Rattle.inno_db.proofs.Keys.{key_in-at}

-- the session's replies and settings stay, and its transaction does
stays_open : {s : ℕ} {session : Session} {work : Work} {old new : WorldState} (after : Session) → IsReadied session after → IsSession s after new
    → HasWork s session work old → StaysOpen s session work old new
stays_open {work = work} after readied is has = record {
  session_now = after;
  work_now = work;
  has = record { session_is = is; work_is = readied.work ∙ has.work_is };
  setting = readied.setting;
  can_reply = readied.can_reply;
  can_ack = readied.can_ack;
  txn = refl;
  level = refl;
  view = refl;
  can_end = refl;
  same = λ past. refl;
}

-- ---- the session has other rooms

module _ (s : ℕ) (old new : WorldState) (aside : StepsAside s old new) where
  aside_entered : IsEntered old.past old new
  aside_entered = grind (arith, nat_tests, aside.rest, aside.others, aside.was, aside.is, aside.readied.work, aside.count)

  aside_open : (session : Session) (work : Work) → HasWork s session work old → StaysOpen s session work old new
  aside_open session work has =
      stays_open aside.after (rw (one_session old s aside.before session aside.was has.session_is) at aside.readied) aside.is has

  aside_beside : IsTold new → KeepsBeside s old new
  aside_beside told = record {
    names = cc;
    schemas = cc;
    others = aside.others;
    count = aside.count;
    places = aside.places;
    kept = stay_kept old new aside.versions told;
    own = aside_open;
  }

  pub aside_agreed : (chains : Chains) (known : Type 0) → Agrees chains old → IsTold new → known → StaysAgreed s chains old new known
  aside_agreed chains known agrees told holds = record {
    agrees = unentered_agrees chains old new agrees aside_entered;
    holds = holds;
    past = cc;
    rows = cc;
    txns = cc;
    beside = aside_beside told;
  }

-- ---- all sessions are as they were

module _ (s : ℕ) (chains : Chains) (old new : WorldState) (stays : StaysBesideKeys old new) (agrees : Agrees chains old) (told : IsTold new) where
  keys_beside : KeepsBeside s old new
  keys_beside = record {
    names = cc;
    schemas = cc;
    others = λ t differs. cc;
    count = cc;
    places = stays.places;
    kept = stay_kept old new stays.versions told;
    own = λ session work has. stays_open session (record { setting = refl; work = refl; can_reply = refl; can_ack = refl })
        (work_again s session work old new stays.rest has).session_is has;
  }

  pub keys_agreed : (known : Type 0) → known → StaysAgreed s chains old new known
  keys_agreed known holds =
      record { agrees = agrees_beside stays.rest agrees; holds = holds; past = cc; rows = cc; txns = cc; beside = keys_beside }

-- ---- rows in which one place has a version more

abbrev pub with_version : Place → Version → Chains → Chains
with_version place version chains = with_versions place (λ versions. version ∷ versions) chains

-- ---- the entry is that of a change of this row

pub place_there : (schemas : List Schema) (table : ℕ) (edit : RowEdit) (schema : Schema) → slice_get schemas table ≡ Some schema
    → place_in schemas (change_of table edit) ≡ Some (record { table = table; key = primary_of schema edit })
place_there schemas table (Put row) schema there = ap (λ k. Some (record { table = table; key = k })) (key_in-at schemas table schema row there)
place_there schemas table (Remove value) schema there = refl

row_there : (table : ℕ) (edit : RowEdit) → row_of (change_of table edit) ≡ row_after edit
row_there table (Put row) = refl
row_there table (Remove value) = refl

pub of_row : (table : ℕ) (edit : RowEdit) → IsOfRow (change_of table edit)
of_row table (Put row) = record {}
of_row table (Remove value) = record {}

tabled : (tables table : ℕ) (edit : RowEdit) → table < tables → IsTabled tables (change_of table edit)
tabled tables table (Put row) within = within
tabled tables table (Remove value) within = within

same_place_of : (schemas : List Schema) (change : Change) (place other : Place) → place_in schemas change ≡ Some place
    → is_at schemas other change ≡ true → other ≡ place
same_place_of schemas change place other is at = sym (same_place place other (sym (ap (is_place other) is) ∙ at))

-- ---- the version is kept

kept_if : (b : Bool) (schemas : List Schema) (pointer : ℕ) (undo : Undo) (old new : Versions) → KeepsIf b schemas pointer undo old new → IsTrue new.told
    → KeepsMore old.kept_at new.kept_at
kept_if true schemas pointer undo old new k told other found is = kept_more schemas pointer undo old new k told other found is
kept_if false schemas pointer undo old new k told other found is = ap (λ (f : ℕ → _). f other) (k.kept told) ∙ is

-- ---- the record stands

module _ (s : ℕ) (chains : Chains) (old new : WorldState) (change : RecordChange) (bytes : List ℕ) (undo : Undo)
    (recorded : Records s (change_of change.table change.edit) (rows_put change.edit) change.table change.key bytes undo old new) (told : IsTold new) where
  abbrev changed_by : IsChangedBy s (change_of change.table change.edit) old.schemas old new
  changed_by = let changed = recorded.work.changed in record {
    session = recorded.work.session;
    work = recorded.work.work;
    had = recorded.work.had;
    session_now = recorded.work.session_now;
    work_now = recorded.work.work_now;
    has = recorded.work.has;
    more = record { txn = changed.txn; level = changed.level; view = changed.view; own = changed.own; id_is = changed.id_is };
    past = ap (λ (state : WorldState). state.past) recorded.rest;
    names = ap (λ (state : WorldState). state.names) recorded.rest;
    schemas = ap (λ (state : WorldState). state.schemas) recorded.rest;
    txns = recorded.work.txns;
    others = recorded.work.others;
    count = recorded.work.count;
  }

  entered_open : (session : Session) (work : Work) → HasWork s session work old → StaysOpen s session work old new
  entered_open session work has =
      let one = one_session old s recorded.work.session session recorded.work.had.session_is has.session_is in
      let same = one_work s recorded.work.session session recorded.work.work work old recorded.work.had has in
      record {
        session_now = recorded.work.session_now;
        work_now = recorded.work.work_now;
        has = recorded.work.has;
        setting = recorded.work.setting ∙ ap (λ (x : Session). x.setting) one;
        can_reply = recorded.work.can_reply ∙ ap (λ (x : Session). x.can_reply) one;
        can_ack = recorded.work.can_ack ∙ ap (λ (x : Session). x.can_ack) one;
        txn = recorded.work.changed.txn ∙ ap (λ (w : Work). w.txn) same;
        level = recorded.work.changed.level ∙ ap (λ (w : Work). w.level) same;
        view = recorded.work.changed.view ∙ ap (λ (w : Work). w.view) same;
        can_end = recorded.work.changed.can_end ∙ ap (λ (w : Work). w.can_end) same;
        same = λ past. absurd (omega (arith, ap length past, ap length changed_by.past));
      }

  entered_beside : KeepsBeside s old new
  entered_beside = record {
    names = changed_by.names;
    schemas = changed_by.schemas;
    others = recorded.work.others;
    count = recorded.work.count;
    places = recorded.places;
    kept = kept_if (undo.kind == 2) old.schemas recorded.work.session.next_pointer undo old.versions new.versions recorded.work.versions told.versions;
    own = entered_open;
  }

  pub entered : {said : Said} {next : KeysChange} (p : IsChangingRecord s old change) → Agrees chains old → IsAloneAt (place_of p.schema change) s old
      → length new.past < 2 ^ 63 → ((pushed : Chains) → PushesEdit s change old chains pushed → IsChangingRow s pushed said new (Keys next))
      → EntersAgreed s chains said old new change next
  entered p agrees alone few keys =
      let place = place_of p.schema change in
      let placed = place_there old.schemas change.table change.edit p.schema p.table.there in
      let version : Version = record { writer = id_for p.work.id old.txns.next; row = row_after change.edit } in
      let after = with_version place version chains in
      let pushed : Pushes chains after place version = λ other. refl in
      let push : PushesEdit s change old chains after =
      record { schema = p.schema; there = p.table.there; session = p.session; work = p.work; has_work = p.has_work; pushes = pushed } in
      let same : p.work ≡ recorded.work.work = one_work s p.session recorded.work.session p.work recorded.work.work old p.has_work recorded.work.had in
      record {
        after = after;
        pushes = push;
        agrees =
            changed_agrees chains after old new s (change_of change.table change.edit) place agrees
            (λ other at. rw (same_place_of old.schemas (change_of change.table change.edit) place other placed at) alone) (of_row change.table change.edit)
            placed
            (tabled (length old.schemas) change.table change.edit (slice_get_within old.schemas change.table p.schema p.table.there)) changed_by
            (rw (← same, row_there change.table change.edit) pushed) (omega (arith, few, ap length changed_by.past));
        changing = keys after push;
        past = changed_by.past;
        rows = cc;
        beside = entered_beside;
      }

enters : (s : ℕ) (chains : Chains) {said : Said} (old new : WorldState) (change : RecordChange) (next : KeysChange) (p : IsChangingRecord s old change)
    → ChangesRecord s old new change (records.Recorded next.before) → IsTold new → Agrees chains old → IsAloneAt (place_of p.schema change) s old
    → length new.past < 2 ^ 63 → ((pushed : Chains) → PushesEdit s change old chains pushed → IsChangingRow s pushed said new (Keys next))
    → EntersAgreed s chains said old new change next
enters s chains old new change next p c told agrees alone few keys =
    ⊎_elim (λ first. entered s chains old new change _ _ first.0.records told p agrees alone few keys)
    (λ over. entered s chains old new change _ _ over.1.records told p agrees alone few keys) c.2

-- ---- each step

pub goes_on : (s : ℕ) (chains : Chains) (said : Said) (old new : WorldState) (change : RowChange) (reached : Reached RowChange) → Agrees chains old
    → IsAloneIn s old change → IsChangingRow s chains said old change → ChangesRow s chains said old new change reached → IsTold new
    → length new.past < 2 ^ 63 → GoesOnAgreed s chains said old new change reached
goes_on s chains said old new (Record change key after) (Went (Record next key' after')) agrees alone p c told few =
    aside_agreed s old new c.0.0.aside chains _ agrees told c.0.1
goes_on s chains said old new (Record change key after) (Went (Keys next)) agrees alone p c told few =
    enters s chains old new change next p.0 c.0.0 told agrees (alone p.0.schema p.0.table.there) few c.0.1
goes_on s chains said old new (Keys change) (Went (Record next key after)) agrees alone p c told few = absurd c.0
goes_on s chains said old new (Keys change) (Went (Keys next)) agrees alone p c told few = keys_agreed s chains old new c.0.stays agrees told _ c.0.holds
goes_on s chains said old new (Record change key after) Done agrees alone p c told few = absurd c
goes_on s chains said old new (Keys change) Done agrees alone p c told few = keys_agreed s chains old new (beside_stay old new c.0) agrees told _ c.1
goes_on s chains said old new (Record change key after) (Hindered same why) agrees alone p c told few = (
  c.0,
  aside_agreed s old new c.2.0 chains _ agrees told (rw c.0 c.1),
)
goes_on s chains said old new (Keys change) (Hindered same why) agrees alone p c told few = (
  c.0,
  keys_agreed s chains old new (beside_stay old new c.2.0) agrees told _ (rw c.0 c.1),
)
