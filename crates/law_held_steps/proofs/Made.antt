-- A change begins: its edit fits the tables of the history. Each step of it keeps the lists.
use Rattle.std.proofs.Common.{◌≡◌, ◌≢◌, ℕ, List, Option, Some, None, refl, subst, ◌<◌, true, length, sym, ap, ◌∙◌, arith, ◌+◌, ◌≤◌, ◌^◌, Bool, false, cond, ◌∷◌}
use Rattle.std.proofs.lemmas.Option.{slice_get_within}
use Rattle.std.specs.Prelude.{slice_get, IsSomeAnd}
use Rattle.inno_types.specs.{declared.value.Schema.Schema, declared.value.Value.Value}
use Rattle.inno_model.specs.{Past.IsOpen, declared.event.Event.TheVariants.Changed}
use Rattle.store_api.specs.declared.answers.Undo.{Undo}
use Rattle.row_versions.specs.Chains.{Chains, versions_at, is_same_place, Pushes}
use Rattle.row_versions.specs.{declared.place.Place.Place, declared.version.Version.Version}
use Rattle.law_past_agreement.specs.Order.{created}
use Rattle.law_stored_rows.specs.{Fitting.IsKeyFor, Fitting.FitsTable, Tables.Said}
use Rattle.law_found_rows.proofs.FittingChanges.{tables_storable}
use Rattle.world.specs.{State.WorldState, State.Session, State.Work, State.HasWork, Told.IsTold}
use Rattle.law_world_agreement.specs.Agreement.{Agrees}
use Rattle.shared_lists.specs.{Fitting.FitsWell, Fitting.FitsThen, Steps.rows_of_change}
use Rattle.row_changes.specs.Rows.{primary_of, table_of, place_of, row_steps, IsChangingRow, ChangesRow, IsAtRow}
use Rattle.row_changes.specs.{Reached.Went, Reached.Done, Reached.Hindered, Reached.Reached, Records.IsTable, Asides.StepsAside}
use Rattle.row_changes.specs.{declared.row_edit.RowEdit.TheVariants.Put, declared.row_edit.RowEdit.TheVariants.Remove, Edits.change_of, Edits.FitsEdit}
use Rattle.row_changes.specs.{Edits.rows_put, declared.row_change.RowChange.TheVariants.Record, declared.row_change.RowChange.TheVariants.Keys}
use Rattle.row_changes.specs.{declared.row_edit.RowEdit.RowEdit, declared.record_change.RecordChange.RecordChange, declared.keys_change.KeysChange.KeysChange}
use Rattle.row_changes.specs.{declared.row_change.RowChange.RowChange}
use Rattle.row_changes.proofs.Sessions.{same_pairs, same_versions}
use Rattle.undo_apply.specs.declared.work_room.WorkRoom.{WorkRoom}
use Rattle.law_logged_changes.proofs.{Listed.listed_of, Listed.small_of, Entering.goes_on, Logging.row_all}
use Rattle.law_logged_changes.specs.{GoingOn.KeepsBeside, GoingOn.GoesOnAgreed, GoingOn.EntersAgreed, GoingOn.IsAloneIn, Logs.LogsAgree}
use Rattle.desks.specs.Holding.{IsHeld, AreFew, IsLastOf, RowHeld, RowsHeld, lags_in, said_beside}
use Rattle.desks.specs.{Desks.Store, Desks.desk_at, Desks.doing_at, Desks.with_doing, Desks.is_undoing, declared.desk.Desk.Desk, declared.desk.Doing.Doing}
use Rattle.desks.specs.{declared.desk.Doing.TheVariants.Nothing, declared.desk.Doing.TheVariants.Changing, declared.desk.Doing.TheVariants.Lagging}
use Rattle.desks.specs.Undoing.{keys_if}
use Rattle.law_other_places.specs.Steps.{LeavesWork}
use Rattle.law_other_places.proofs.{Asked.its_row, Asked.may_advance, Asked.may_change, Asked.nobody_lags, Quiet.sought_kept, RecordSteps.aside_kept}
use Rattle.law_other_places.proofs.{RecordSteps.record_kept, Steps.kept_at, Steps.key_kept, Steps.end_kept, Steps.given_up_kept}
use Rattle.law_held_steps.proofs.Keeping.{open_work, open_joined, goes_same, goes_changed, leaves_lists, keeps}
use Rattle.law_held_steps.proofs.AnyStep.{given, there as there_is, rooms_then, changes_at_a_desk, doing_here, desk_elsewhere}
use Rattle.law_held_steps.proofs.{Apart.beside_of, Apart.alone_at, Apart.may_put, Apart.leaves_work, Putting.held_given}
use Rattle.law_held_steps.specs.Making.{IsEditable, IsKeyOfEdit, begun, doing_after, Comes, MakesChange}
use Rattle.law_held_steps.specs.Leaving.{is_searching}

some_there : (found : Option Schema) (P : Schema → Type 0) → IsSomeAnd found P → (schema : Schema) × (found ≡ Some schema) × P schema
some_there None P fits = absurd fits
some_there (Some schema) P fits = (schema, refl, fits)

-- its primary column, and the key of the row there
pub key_for : (schemas : List Schema) (table : ℕ) (edit : RowEdit) → FitsWell schemas (change_of table edit)
    → (schema : Schema) × (slice_get schemas table ≡ Some schema) × IsKeyFor schema (primary_of schema edit)
key_for schemas table (Put row) fits =
    let found = some_there (slice_get schemas table) (λ schema. FitsTable schema row) fits.0 in (found.0, found.1, found.2.key)
key_for schemas table (Remove value) fits = some_there (slice_get schemas table) (λ schema. IsKeyFor schema value) fits.0

-- what fits the tables fits the table, with these bytes as its key
pub fits_edit : (schemas : List Schema) (table : ℕ) (schema : Schema) (edit : RowEdit) (key : List ℕ) → slice_get schemas table ≡ Some schema
    → FitsWell schemas (change_of table edit) → IsKeyOfEdit schema edit key → FitsEdit schema edit key
fits_edit schemas table schema (Put row) key there fits spelled =
    let fits_row = rw there at fits.0 in
    record {
      fits = fits_row;
      numbers = fits.1;
      key_is = record {
        column = fits_row.key.column;
        primary = fits_row.key.primary;
        present = fits_row.key.of_kind;
        spelled = spelled fits_row.key.column fits_row.key.primary;
      };
    }
fits_edit schemas table schema (Remove value) key there fits spelled =
    let for = rw there at fits.0 in
    record { column = for.column; primary = for.primary; has_key = (for.of_kind, fits.1); spelled = spelled for.column for.primary }

-- and back
pub edit_fits : (schemas : List Schema) (table : ℕ) (schema : Schema) (edit : RowEdit) (key : List ℕ) → slice_get schemas table ≡ Some schema
    → FitsEdit schema edit key → FitsWell schemas (change_of table edit)
edit_fits schemas table schema (Put row) key there fits = (rw there fits.fits, fits.numbers)
edit_fits schemas table schema (Remove value) key there fits =
    (rw there (record { column = fits.column; primary = fits.primary; of_kind = fits.has_key.0 }), fits.has_key.1)

-- ---- a change begins

-- it is at work on no row yet
pub begun_row : {chains : Chains} (state : WorldState) (s table : ℕ) {session : Session} {work : Work} {schema : Schema} (edit : RowEdit) (key : List ℕ)
    → Agrees chains state → HasWork s session work state → IsTable table schema state → FitsEdit schema edit key → (beside : Said)
    → IsAtRow s chains beside state (begun table edit key)
begun_row {chains} state s table {session} {work} {schema} edit key agrees has there fits beside = (
  record {
    schema = schema;
    table = there;
    fits = fits;
    session = session;
    work = work;
    has_work = has;
    listed = listed_of chains state s session work agrees has;
    small = small_of chains state s session work agrees has;
    stage = record {};
  },
  refl,
  refl,
)

-- no session knows anything else then
pub begun_rows : {chains : Chains} {state : WorldState} (s : ℕ) {desks : List Desk} → RowsHeld chains state desks → LogsAgree state → IsTold state
    → Agrees chains state → doing_at s desks ≡ Nothing → s < length desks → (table : ℕ) {session : Session} {work : Work} {schema : Schema} (edit : RowEdit)
    (key : List ℕ) → HasWork s session work state → IsTable table schema state → FitsEdit schema edit key
    → RowsHeld chains state (with_doing s (Changing (begun table edit key)) desks)
begun_rows {chains} {state} s {desks} rows logs told agrees nothing within table edit key has there fits =
    let later = Changing (begun table edit key) in
    let now = with_doing s later desks in
    let here : doing_at s now ≡ later = doing_here s later desks within in
    sought_kept rows logs told told
    (record { schemas = refl; pairs = λ index. same_pairs (state.indexes index).pairs; versions = same_versions state.versions }) agrees s now
    (λ u differs. record { session = refl; own_is = refl }) (λ u differs. desk_elsewhere s u (λ desk. record desk { doing = later }) desks differs)
    (ap (lags_in state s) nothing) (ap (lags_in state s) here)
    (kept_at chains (said_beside chains rows.said state now s) state s (desk_at s now) later here
    (λ undo room. begun_row state s table edit key agrees has there fits (said_beside chains rows.said state now s)))

module _ {store : Store} (held : IsHeld store) where
  abbrev state : WorldState
  state = store.world

  fits_here : (table : ℕ) (edit : RowEdit) → FitsWell (created state.past) (change_of table edit) → FitsWell state.schemas (change_of table edit)
  fits_here table edit fits = subst (λ (tables : List Schema). FitsWell tables (change_of table edit)) (sym held.agrees.lists.tables) fits

  pub can_be_keyed : (table : ℕ) (edit : RowEdit) → FitsWell (created state.past) (change_of table edit) → IsEditable state table edit
  can_be_keyed table edit fits =
      let found = key_for state.schemas table edit (fits_here table edit fits) in
      record {
        within = slice_get_within state.schemas table found.0 found.1;
        schema = found.0;
        there = found.1;
        column = found.2.column;
        primary = found.2.primary;
        of_kind = found.2.of_kind;
      }

  pub begins : {s : ℕ} → store.writer ≡ Some s → IsTold state → (table : ℕ) (schema : Schema) (edit : RowEdit) (key : List ℕ)
      → doing_at s store.desks ≡ Nothing → IsOpen s state.past → FitsWell (created state.past) (change_of table edit)
      → slice_get state.schemas table ≡ Some schema → IsKeyOfEdit schema edit key
      → IsHeld (record store { desks = with_doing s (Changing (begun table edit key)) store.desks })
  begins {s} mine told table schema edit key nothing is_open fits there spelled =
      let has = open_work held.agrees s is_open in
      let storable =
      tables_storable state.past held.fits table schema (ap (λ (tables : List Schema). slice_get tables table) (sym held.agrees.lists.tables) ∙ there) in
      let within : s < length store.desks = omega (arith, open_joined held.agrees s is_open, held.count) in
      let later = Changing (begun table edit key) in
      let gives = given s later store.desks (there_is s store.desks within).1 in
      held_given s held mine (record { places = λ index. refl; versions = same_versions state.versions; rest = refl }) told told gives
      (begun_rows s held.rows held.logs told held.agrees nothing within table edit key has.2 (record { there = there; storable = storable })
      (fits_edit state.schemas table schema edit key there (fits_here table edit fits) spelled)) held.logs (record {})
      (rooms_then s later store.desks (held.rooms s) (ap is_undoing nothing) _ gives.here)

rows_more : (table : ℕ) (edit : RowEdit) → rows_put edit ≡ rows_of_change (Some (change_of table edit))
rows_more table (Put row) = refl
rows_more table (Remove value) = refl

one_more : (b : Bool) (version : Version) (versions : List Version) (most : ℕ) → length versions ≤ most
    → length (cond b (version ∷ versions) versions) ≤ 1 + most
one_more true version versions most few = omega arith
one_more false version versions most few = omega arith

pub pushed_short : (before after : Chains) (place : Place) (version : Version) (most : ℕ) → Pushes before after place version
    → ((other : Place) → length (versions_at other before) ≤ most) → (other : Place) → length (versions_at other after) ≤ 1 + most
pushed_short before after place version most pushes few other =
    subst (λ (versions : List Version). length versions ≤ 1 + most) (sym (pushes other))
    (one_more (is_same_place place other) version (versions_at other before) most (few other))

nears_by : (old new : WorldState) (change next : RowChange) (schema : Schema) → new.schemas ≡ old.schemas → table_of next ≡ table_of change
    → slice_get old.schemas (table_of change) ≡ Some schema → row_steps (length schema.keys) next < row_steps (length schema.keys) change
    → row_steps (keys_if (slice_get new.schemas (table_of next))) next < row_steps (keys_if (slice_get old.schemas (table_of change))) change
nears_by old new change next schema same table there less =
    let was : keys_if (slice_get old.schemas (table_of change)) ≡ length schema.keys = ap keys_if there in
    subst (λ k. row_steps k next < row_steps (keys_if (slice_get old.schemas (table_of change))) change)
    (sym (ap (λ (s : List Schema). keys_if (slice_get s (table_of next))) same ∙ (ap (λ n. keys_if (slice_get old.schemas n)) table ∙ was)))
    (subst (λ k. row_steps (length schema.keys) next < row_steps k change) (sym was) less)

module _ {s : ℕ} {store : Store} {new : WorldState} (held : IsHeld store) (mine : store.writer ≡ Some s) (was : IsTold store.world) (told : IsTold new)
    (few : length new.past < 2 ^ 63) where
  abbrev old : WorldState
  old = store.world

  -- what keys say beside its place
  abbrev beside : Said
  beside = beside_of held s

  others_same : (doing : Doing) (u : ℕ) → u ≢ s → desk_at u (with_doing s doing store.desks) ≡ desk_at u store.desks
  others_same doing u differs = desk_elsewhere s u (λ desk. record desk { doing = doing }) store.desks differs

  -- nobody else has changes
  alone : (change : RowChange) → IsAloneIn s old change
  alone (Record change key after) = λ schema found. alone_at held mine (place_of schema change)
  alone (Keys change) = record {}

  logs_now : (change : RowChange) (reached : Reached RowChange) → IsChangingRow s held.chains beside old change
      → ChangesRow s held.chains beside old new change reached → LogsAgree new
  logs_now change reached p c = row_all s held.chains beside old new change reached p c (alone change) held.logs

  goes : (change : RowChange) (reached : Reached RowChange) → IsChangingRow s held.chains beside old change
      → ChangesRow s held.chains beside old new change reached → GoesOnAgreed s held.chains beside old new change reached
  goes change reached p c = goes_on s held.chains beside old new change reached held.agrees (alone change) p c told few

  module _ (change : RowChange) (at : doing_at s store.desks ≡ Changing change) where
    within : s < length store.desks
    within = changes_at_a_desk s store.desks at

    here : (doing : Doing) → doing_at s (with_doing s doing store.desks) ≡ doing
    here doing = doing_here s doing store.desks within

    -- where nothing is added
    still : (reached : Reached RowChange) (keeps_beside : KeepsBeside s old new) → new.past ≡ old.past → Agrees held.chains new
        → is_searching (doing_after change reached) ≡ false → LogsAgree new
        → RowsHeld held.chains new (with_doing s (doing_after change reached) store.desks) → Comes s old new change reached
        → MakesChange s store new change reached
    still reached keeps_beside past agrees quiet logs rows comes = record {
      held =
          keeps held mine keeps_beside (goes_same past) agrees was (doing_after change reached) within (ap is_undoing at) quiet
          (subst FitsThen (sym past) held.fits) rows logs (subst (AreFew held.chains) (sym past) held.short);
      leaves = leaves_lists held mine keeps_beside;
      comes = comes;
    }

  -- before the keys, the session is at work on no row of others
  aside : (change : RecordChange) (key : List ℕ) (after : Option (List Value)) → doing_at s store.desks ≡ Changing (Record change key after)
      → StepsAside s old new → Agrees held.chains new → (later : Doing) → lags_in new s later ≡ None
      → ((undo : Undo) (room : WorkRoom) → RowHeld held.chains (said_beside held.chains held.rows.said new (with_doing s later store.desks) s) new s undo room
      later) → RowsHeld held.chains new (with_doing s later store.desks)
  aside change key after at steps agrees later none row =
      aside_kept s held.rows held.logs was told steps agrees change key after at (with_doing s later store.desks) later
      (here (Record change key after) at later) none (others_same later) row

  -- its keys lag at the place of its newest change, and nobody else is at work there
  newest : (change : KeysChange) → doing_at s store.desks ≡ Changing (Keys change) → IsLastOf old s change
  newest change at = (its_row held.rows s (Keys change) at).2.1

  work : (change : KeysChange) (row : IsChangingRow s held.chains beside old (Keys change)) (later : Doing)
      → LeavesWork s (Some (record { table = change.table; key = row.value })) old store.desks (with_doing s later store.desks)
  work change row later = leaves_work held mine (Some (record { table = change.table; key = row.value })) (with_doing s later store.desks) (others_same later)

  makes : (change : RowChange) (reached : Reached RowChange) → doing_at s store.desks ≡ Changing change → IsChangingRow s held.chains beside old change
      → ChangesRow s held.chains beside old new change reached → MakesChange s store new change reached
  makes (Record change key after) (Went (Record next key' after')) at row c =
      let a = goes (Record change key after) (Went (Record next key' after')) row c in
      let p = row.0 in
      still (Record change key after) at (Went (Record next key' after')) a.beside a.past a.agrees refl
      (logs_now (Record change key after) (Went (Record next key' after')) row c)
      (aside change key after at c.0.0.aside a.agrees (Changing (Record next key' after')) refl
      (λ undo room. (a.holds.0, a.holds.2, a.holds.3))) (record {
        adds = record { past = a.past; rows = a.rows };
        change_is = ap Some (ap (λ n. change_of n next.edit) c.0.0.table_is ∙ ap (change_of change.table) c.0.0.edit_is);
        nears =
            nears_by old new (Record change key after) (Record next key' after') p.schema a.beside.schemas c.0.0.table_is p.table.there
            (c.1 p.schema p.table.there);
      })
  makes (Record change key after) (Went (Keys next)) at row c =
      let a : EntersAgreed s held.chains beside old new change next = goes (Record change key after) (Went (Keys next)) row c in
      let p = row.0 in
      let entry = change_of change.table change.edit in
      let fits : FitsThen (Changed s entry ∷ old.past) = (
        edit_fits (created old.past) change.table p.schema change.edit change.key
            (ap (λ (schemas : List Schema). slice_get schemas change.table) (sym held.agrees.lists.tables) ∙ p.table.there) p.fits,
        held.fits,
      ) in
      let longer : length new.past ≡ 1 + length old.past = omega (arith, ap length a.past) in
      let later = Changing (Keys next) in
      record {
        held =
            keeps held mine a.beside (goes_changed a.past) a.agrees was later (within (Record change key after) at) (ap is_undoing at) refl
            (subst FitsThen (sym a.past) fits)
            (record_kept s held.rows held.logs was told change key after at row next c.0.0 a c.0.2 c.0.3 (here (Record change key after) at later)
            (leaves_work held mine (Some (place_of p.schema change)) (with_doing s later store.desks) (others_same later)))
            (logs_now (Record change key after) (Went (Keys next)) row c)
            (λ place. let pushed = pushed_short held.chains a.after _ _ (length old.past + 2 ^ 62) a.pushes.pushes held.short
            place in omega (arith, longer, pushed));
        leaves = leaves_lists held mine a.beside;
        comes = record { entry = entry; was = refl; is = refl; past = a.past; rows = a.rows ∙ ap (λ n. old.rows + n) (rows_more change.table change.edit) };
      }
  makes (Record change key after) Done at row c = absurd c
  makes (Record change key after) (Hindered same why) at row c =
      let a = (goes (Record change key after) (Hindered same why) row c).1 in
      still (Record change key after) at (Hindered same why) a.beside a.past a.agrees refl (logs_now (Record change key after) (Hindered same why) row c)
      (aside change key after at c.2.0 a.agrees Nothing refl (λ undo room. record {})) (record { past = a.past; rows = a.rows }, c.0)
  makes (Keys change) (Went (Record next key after)) at row c = absurd c.0
  makes (Keys change) (Went (Keys next)) at row c =
      let a = goes (Keys change) (Went (Keys next)) row c in
      still (Keys change) at (Went (Keys next)) a.beside a.past a.agrees refl (logs_now (Keys change) (Went (Keys next)) row c)
      (key_kept s held.rows held.logs was told change at row (newest change at) next c.0 (here (Keys change) at (Changing (Keys next)))
      (work change row (Changing (Keys next))) a.agrees) (record {
        adds = record { past = a.past; rows = a.rows };
        change_is = refl;
        nears = nears_by old new (Keys change) (Keys next) row.schema a.beside.schemas c.0.table_is row.table.there (c.1 row.schema row.table.there);
      })
  makes (Keys change) Done at row c =
      let a = goes (Keys change) Done row c in
      still (Keys change) at Done a.beside a.past a.agrees refl (logs_now (Keys change) Done row c)
      (end_kept s held.rows held.logs was told change at row (newest change at) c.0 c.1 (here (Keys change) at Nothing) (work change row Nothing) a.agrees)
      (record { past = a.past; rows = a.rows }, refl)
  makes (Keys change) (Hindered same why) at row c =
      let a = (goes (Keys change) (Hindered same why) row c).1 in
      still (Keys change) at (Hindered same why) a.beside a.past a.agrees refl (logs_now (Keys change) (Hindered same why) row c)
      (given_up_kept s held.rows held.logs was told change at row (newest change at) c.2.0 c.1 (with_doing s Lagging store.desks)
      (here (Keys change) at Lagging) (others_same Lagging) a.agrees) (record { past = a.past; rows = a.rows }, c.0)

-- what the session knows of the change that it has under way: before its record, all of the rows is known since it may write
pub changing_row : {s : ℕ} {store : Store} (held : IsHeld store) → store.writer ≡ Some s → (change : RowChange) → doing_at s store.desks ≡ Changing change
    → IsChangingRow s held.chains (beside_of held s) store.world change
changing_row {s} {store} held mine (Record change key after) at =
    let is = may_advance held.rows s (Record change key after) at in
    let sought : lags_in store.world s (doing_at s store.desks) ≡ None = ap (lags_in store.world s) at in
    let place = place_of is.0.schema change in
    (is.0, (may_change held.rows s sought change is.0 (nobody_lags s place (may_put held mine place) sought)).1, is.1, is.2)
changing_row {s} held mine (Keys change) at = may_advance held.rows s (Keys change) at

pub change_made : {s : ℕ} {store : Store} {new : WorldState} {change : RowChange} {reached : Reached RowChange} → IsHeld store → store.writer ≡ Some s
    → doing_at s store.desks ≡ Changing change
    → ((chains : Chains) (beside : Said) → IsChangingRow s chains beside store.world change → ChangesRow s chains beside store.world new change reached)
    → IsTold store.world → IsTold new
    → length new.past < 2 ^ 63 → MakesChange s store new change reached
change_made {s} {change = change} {reached = reached} held mine at changes was told few =
    let row = changing_row held mine change at in makes held mine was told few change reached at row (changes held.chains (beside_of held s) row)
