-- What callers see of desks: entries that change no row, what sessions set, searches of which places alone have moved, and changes of rows.
use Rattle.shared_lists.specs.Tasks as tasks
use Rattle.store_api.specs.declared.stepped.Stepped.TheVariants as stepped
use Rattle.shared_lists.specs.declared.answers.ChangePart.TheVariants as part
use Rattle.std.proofs.Common.{◌≡◌, ◌≢◌, ℕ, zero, suc, Option, Some, List, [], ◌∷◌, length, refl, sym, ap, ◌∙◌, ◌<◌, subst, ◌+◌, ◌*◌, ◌≤◌, ◌^◌, true, false}
use Rattle.std.proofs.Common.{None, arith}
use Rattle.std.proofs.{lemmas.List.length-set, lemmas.List.map-set, lemmas.List.set-get_or, lemmas.Bool.true≢false}
use Rattle.std.specs.Prelude.{slice_get, slice_set, slice_index_or}
use Rattle.law_held_steps.specs.Making.{given_up, LeavesLists, AddsNothing, IsNearer, IsEntered}
use Rattle.law_held_steps.specs.{Making.settings_of, Begun.IsBegun, Leaving.MovesPlaces, Leaving.is_searching, Begun.IsSearchOf, Making.begun}
use Rattle.law_other_places.proofs.{Sessions.each, Readers.busy_at_a_desk}
use Rattle.law_held_steps.proofs.AnyStep.{quiet_undoes_not, doing_here, desk_elsewhere, given, there}
use Rattle.law_held_steps.proofs.{Keeping.same_settings, AnyStep.some_same}
use Rattle.inno_types.specs.declared.value.Schema.{Schema}
use Rattle.row_versions.specs.Versions.{Versions}
use Rattle.sql_history.specs.Settings.{Setting, at_first}
use Rattle.shared_lists.specs.{Tasks.Task, Tasks.is_changing, Tasks.asked, Tasks.steps_left, Tasks.left_by, State.task_of, State.IsNow, State.Turns}
use Rattle.shared_lists.specs.{State.Lists, declared.answers.Reading.Reading, Steps.Changes, Steps.rows_of_change, Steps.rows_entered}
use Rattle.shared_lists.specs.{Steps.IsLacking, declared.answers.Hindrance.Hindrance}
use Rattle.desks.specs.Shown.{shown, task_at, lists_of, reading_of, change_in}
use Rattle.desks.specs.declared.desk.Doing.TheVariants.{Nothing, Searching, Changing, Lagging, Undoing}
use Rattle.desks.specs.Desks.{desk_at, doing_in, doing_at, with_doing, is_quiet_doing, is_undoing, Store}
use Rattle.desks.specs.Undoing.{left_in, keys_if}
use Rattle.desks.specs.{declared.desk.Desk.Desk, declared.desk.Doing.Doing, declared.desk.TableSearch.TableSearch, Holding.IsHeld}
use Rattle.desks.proofs.Showing.{task_is, task_stays, idle_shown, lists_stay}
use Rattle.law_world_agreement.proofs.Opening.{set_here, set_other}
use Rattle.sql_plan.specs.declared.choice.Plan.{Plan}
use Rattle.law_stored_rows.specs.Storable.{IsStorable}
use Rattle.law_found_rows.proofs.FittingChanges.{tables_storable}
use Rattle.inno_model.specs.declared.event.Event.{Event}
use Rattle.world.specs.{State.WorldState, State.Session, Told.IsTold}
use Rattle.row_search.specs.{declared.sight.Sight.Sight, declared.search.RowSearch.RowSearch, Steps.IsSameScan}
use Rattle.row_changes.specs.{declared.row_edit.RowEdit.RowEdit, declared.row_change.RowChange.RowChange, declared.row_change.RowChange.TheVariants.Record}
use Rattle.row_changes.specs.{declared.row_change.RowChange.TheVariants.Keys, Edits.change_of, Rows.row_steps, Rows.table_of}

pub rests_of : (s : ℕ) (store : Store) → task_of s (lists_of store).state ≡ tasks.Idle → doing_at s store.desks ≡ Nothing
rests_of s store idle =
    idle_shown (left_in store.world (desk_at s store.desks)) store.world.schemas (doing_at s store.desks) (sym (task_is s store) ∙ idle)

-- an entry, or none: tables, versions and what the sessions have under way are as they were
pub tasks_same : (old new : Store) → new.world.schemas ≡ old.world.schemas → new.world.versions ≡ old.world.versions
    → ((s : ℕ) → task_at old.world (desk_at s new.desks) ≡ task_at old.world (desk_at s old.desks))
    → (s : ℕ) → task_of s (lists_of new).state ≡ task_of s (lists_of old).state
tasks_same old new schemas versions alike s =
    task_is s new ∙ task_stays old.world new.world (desk_at s new.desks) schemas (ap (λ (v : Versions). v.kept_at) versions) ∙ alike s ∙ sym (task_is s old)

pub now_of : (t : ℕ) (old new : Store) (past : List Event) → new.world.names ≡ old.world.names → new.world.past ≡ past
    → new.world.schemas ≡ old.world.schemas → new.world.versions ≡ old.world.versions
    → ((s : ℕ) → task_at old.world (desk_at s new.desks) ≡ task_at old.world (desk_at s old.desks))
    → IsNow past t (task_of t (lists_of old).state) new.writer (lists_of old).state (lists_of new).state
now_of t old new past names past_is schemas versions alike =
    let same = tasks_same old new schemas versions alike in
    record { names_are = names; past_is = past_is; writer_is = refl; task_is = same t; others = λ s differ. same s }

pub setting_at : (sessions : List Session) (t : ℕ) {session : Session} → slice_get sessions t ≡ Some session
    → slice_index_or (settings_of sessions) t at_first ≡ session.setting
setting_at [] t there = cc
setting_at (first ∷ sessions) zero {session} there = ap (λ (x : Session). x.setting) (some_same first session there)
setting_at (first ∷ sessions) (suc t) there = setting_at sessions t there

-- a session with another one, made of the one that it had
pub settings_now : (sessions : List Session) (t : ℕ) {session : Session} (after : Session) (f : Setting → Setting) → slice_get sessions t ≡ Some session
    → after.setting ≡ f session.setting
    → settings_of (slice_set sessions t after) ≡ slice_set (settings_of sessions) t (f (slice_index_or (settings_of sessions) t at_first))
settings_now sessions t after f there same =
    map-set (λ (x : Session). x.setting) sessions t after ∙ ap (slice_set (settings_of sessions) t) (same ∙ ap f (sym (setting_at sessions t there)))

-- or with the same setting
pub settings_same : (sessions : List Session) (t : ℕ) {session : Session} (after : Session) → slice_get sessions t ≡ Some session
    → after.setting ≡ session.setting → settings_of (slice_set sessions t after) ≡ settings_of sessions
settings_same sessions t after there same = settings_now sessions t after (λ s. s) there same ∙ set-get_or (settings_of sessions) t at_first

-- two lists of sessions that differ in one setting
pub settings_by : (sessions others : List Session) (t : ℕ) {session after : Session} (f : Setting → Setting) → length others ≡ length sessions → slice_get
    sessions t ≡ Some session → slice_get others t ≡ Some after → after.setting ≡ f session.setting → ((s : ℕ) → s ≢ t → slice_get others s ≡ slice_get sessions
    s) → settings_of others ≡ slice_set (settings_of sessions) t (f (slice_index_or (settings_of sessions) t at_first))
settings_by sessions others t {session} {after} f long there here same elsewhere =
    sym (same_settings (slice_set sessions t after) others (length-set sessions t after ∙ sym long) (λ s x y first second. ap (λ (z : Session). z.setting)
    (some_same x y (sym first ∙ each t (λ s. slice_get (slice_set sessions t after) s ≡ slice_get others s) (set_here sessions t session after there ∙ sym here)
    (λ u differ. set_other sessions t u after differ ∙ sym (elsewhere u differ)) s ∙ second)))) ∙ settings_now sessions t after f there same

-- of who takes nothing back, whatever is left of what somebody takes back
undoes_not : (schemas : List Schema) (left later : ℕ) (doing : Doing) → is_undoing doing ≡ false → shown schemas left doing ≡ shown schemas later doing
undoes_not schemas left later Undoing none = absurd (cc)
undoes_not schemas left later Nothing none = refl
undoes_not schemas left later (Searching on) none = refl
undoes_not schemas left later (Changing change) none = refl
undoes_not schemas left later Lagging none = refl

quiet_shown : (schemas : List Schema) (left later : ℕ) (doing : Doing) → is_quiet_doing doing ≡ true → shown schemas left doing ≡ shown schemas later doing
quiet_shown schemas left later doing quiet = undoes_not schemas left later doing (quiet_undoes_not doing quiet)

-- ---- one session searches, or has nothing to do, while tables and versions are the same

module _ {s : ℕ} (store : Store) (new : WorldState) (names : new.names ≡ store.world.names) (past : new.past ≡ store.world.past)
    (stays : (desk : Option Desk) → task_at new desk ≡ task_at store.world desk) (doing : Doing) (quiet : is_quiet_doing doing ≡ true)
    (within : s < length store.desks) where
  turned : Turns s (shown store.world.schemas 0 doing) (lists_of store).state
      (lists_of (record store { world = new; desks = with_doing s doing store.desks })).state
  turned =
      let now : Store = record store { world = new; desks = with_doing s doing store.desks } in
      record {
        names_are = names;
        past_is = past;
        writer_is = refl;
        task_is = task_is s now ∙ stays (desk_at s now.desks)
            ∙ ap (shown store.world.schemas (left_in store.world (desk_at s now.desks))) (doing_here s doing store.desks within)
            ∙ quiet_shown store.world.schemas (left_in store.world (desk_at s now.desks)) 0 doing quiet;
        others = λ u differs. task_is u now ∙ stays (desk_at u now.desks)
            ∙ ap (task_at store.world) (desk_elsewhere s u (λ (desk : Desk). record desk { doing = doing }) store.desks differs) ∙ sym (task_is u store);
      }

module _ {s : ℕ} (store : Store) {new : WorldState} (moves : MovesPlaces s store.world new) (told : IsTold new) where
  moved : (desk : Option Desk) → task_at new desk ≡ task_at store.world desk
  moved desk =
      task_stays store.world new desk (ap (λ (state : WorldState). state.schemas) moves.rest) (moves.versions.kept told.versions)

  pub seen_stay : ((on : TableSearch) → doing_at s store.desks ≡ Searching on → ⊥) → lists_of (record store { world = new }) ≡ lists_of store
  seen_stay not = lists_stay s store new moves.rest moves.pairs moves.places moves.versions told not

  pub turns_now : (doing : Doing) → is_quiet_doing doing ≡ true → s < length store.desks → Turns s (shown store.world.schemas 0 doing) (lists_of store).state
      (lists_of (record store { world = new; desks = with_doing s doing store.desks })).state
  turns_now =
      turned store new (ap (λ (state : WorldState). state.names) moves.rest) (ap (λ (state : WorldState). state.past) moves.rest) moved

pub search_shown : (left : ℕ) (schemas : List Schema) (doing : Doing) {table : ℕ} {plan : Plan} {reading : Reading}
    → shown schemas left doing ≡ tasks.Searching table plan reading → IsSearchOf doing table plan reading
search_shown left schemas (Searching on) {table} {plan} {reading} is = (on, refl, cc, cc, cc)
search_shown left schemas other is = absurd (cc)

begun_shown : {table : ℕ} (schemas : List Schema) {plan : Plan} {sight : Sight} {schema : Schema} {cuts : ℕ} {on : TableSearch} → IsBegun table
    plan sight schema cuts on → shown schemas 0 (Searching on) ≡ tasks.Searching table plan (reading_of sight)
begun_shown schemas is =
    let which = is.search.scan.which_is in
    let range = is.search.scan.range_is in
    let unique = is.unique_is in
    λ i. tasks.Searching (is.search.scan.table_is i) (record { which = which i; range = range i; unique = unique i }) (reading_of (is.search.scan.sight_is i))

same_shown : (left cuts : ℕ) (schemas : List Schema) (on : TableSearch) (next : RowSearch) → IsSameScan on.search.scan next.scan
    → shown schemas 0 (Searching (record on { search = next; cuts = cuts })) ≡ shown schemas left (Searching on)
same_shown left cuts schemas on next same =
    let which = same.which in
    let range = same.range in
    λ i. tasks.Searching (same.table i) (record { which = which i; range = range i; unique = on.unique }) (reading_of (same.sight i))

-- who searches has a desk
pub has_desk : (s : ℕ) (desks : List Desk) {on : TableSearch} → doing_at s desks ≡ Searching on → s < length desks
has_desk s desks {on} is = busy_at_a_desk s desks (λ none. let e : Searching on ≡ Nothing = sym is ∙ none in cc)

module _ (s : ℕ) (store : Store) where
  pub turns_to_search : {searched cuts : ℕ} {plan : Plan} {sight : Sight} {schema : Schema} {on : TableSearch} → s < length store.desks
      → IsBegun searched plan sight schema cuts on → Turns s (tasks.Searching searched plan (reading_of sight)) (lists_of store).state
      (lists_of (record store { desks = with_doing s (Searching on) store.desks })).state
  turns_to_search {on} within is =
      subst (λ (task : Task). Turns s task (lists_of store).state (lists_of (record store { desks = with_doing s (Searching on) store.desks })).state)
      (begun_shown store.world.schemas is) (turned store store.world refl refl (λ desk. refl) (Searching on) refl within)

  pub searches_on : {new : WorldState} (cuts : ℕ) {on : TableSearch} (next : RowSearch) → doing_at s store.desks ≡ Searching on
      → MovesPlaces s store.world new → IsSameScan on.search.scan next.scan → IsTold new
      → Turns s (task_of s (lists_of store).state) (lists_of store).state
      (lists_of (record store { world = new; desks = with_doing s (Searching (record on { search = next; cuts = cuts })) store.desks })).state
  searches_on {new} cuts {on} next is moves same told =
      let on_now = Searching (record on { search = next; cuts = cuts }) in
      let left = left_in store.world (desk_at s store.desks) in
      subst (λ (task : Task). Turns s task (lists_of store).state (lists_of (record store { world = new; desks = with_doing s on_now store.desks })).state)
      (same_shown left cuts store.world.schemas on next same ∙ (ap (shown store.world.schemas left) (sym is) ∙ sym (task_is s store)))
      (turns_now store moves told on_now refl (has_desk s store.desks is))

-- ---- who may write changes rows

-- the names and tables are the same, the past is this, and one session has something else to do
pub shows_now : {s : ℕ} {past : List Event} {task : Task} (old new : Store) → new.writer ≡ old.writer → old.writer ≡ Some s
    → ((t : ℕ) → old.writer ≢ Some t → is_quiet_doing (doing_at t old.desks) ≡ true) → ((t : ℕ) → t ≢ s → desk_at t new.desks ≡ desk_at t old.desks)
    → new.world.names ≡ old.world.names → new.world.schemas ≡ old.world.schemas → new.world.past ≡ past
    → task_at new.world (desk_at s new.desks) ≡ task → IsNow past s task old.writer (lists_of old).state (lists_of new).state
shows_now {s} old new writer mine quiet others names schemas is shows = record {
  names_are = names;
  past_is = is;
  writer_is = writer;
  task_is = task_is s new ∙ shows;
  others = λ t differs.
      let desk = desk_at t old.desks in
      task_is t new ∙ ap (task_at new.world) (others t differs) ∙ ap (λ (x : List Schema). shown x (left_in new.world desk) (doing_in desk)) schemas
      ∙ quiet_shown old.world.schemas (left_in new.world desk) (left_in old.world desk) (doing_in desk)
      (quiet t (λ is. differs (some_same t s (sym is ∙ mine)))) ∙ sym (task_is t old);
}

-- what it shows is shown by its tables alone, but where it takes a change back
task_by : (state : WorldState) {schemas : List Schema} (desk : Option Desk) (doing : Doing) → doing_in desk ≡ doing → is_undoing doing ≡ false
    → state.schemas ≡ schemas → task_at state desk ≡ shown schemas 0 doing
task_by state desk doing is not schemas =
    ap (shown state.schemas (left_in state desk)) is ∙ ap (λ (x : List Schema). shown x (left_in state desk) doing) schemas ∙
    undoes_not _ (left_in state desk) 0 doing not

module _ {s : ℕ} {store : Store} {new : WorldState} (held : IsHeld store) (mine : store.writer ≡ Some s) (leaves : LeavesLists store.world new)
    (within : s < length store.desks) where
  abbrev old : WorldState
  old = store.world

  -- with something else to do
  abbrev then_does : Doing → Store
  then_does doing = record store { world = new; desks = with_doing s doing store.desks }

  mine_shown : (doing : Doing) → is_undoing doing ≡ false → task_at new (desk_at s (with_doing s doing store.desks)) ≡ shown new.schemas 0 doing
  mine_shown doing not = task_by new (desk_at s (with_doing s doing store.desks)) doing (doing_here s doing store.desks within) not refl

  pub task_then : (doing : Doing) → is_undoing doing ≡ false → task_of s (lists_of (then_does doing)).state ≡ shown new.schemas 0 doing
  task_then doing not = task_is s (then_does doing) ∙ mine_shown doing not

  pub now_shown : (doing : Doing) {past : List Event} {task : Task} → is_undoing doing ≡ false → new.past ≡ past → shown new.schemas 0 doing ≡ task
      → IsNow past s task store.writer (lists_of store).state (lists_of (then_does doing)).state
  now_shown doing not past_is task_is =
      shows_now store (then_does doing) refl mine held.owned.quiet (given s doing store.desks (there s store.desks within).1).others leaves.names
      leaves.schemas past_is
      (mine_shown doing not ∙ task_is)

  module _ {change : RowChange} (at : doing_at s store.desks ≡ Changing change) where
    was_shown : task_of s (lists_of store).state ≡ shown old.schemas 0 (Changing change)
    was_shown = task_is s store ∙ task_by old (desk_at s store.desks) (Changing change) at refl refl

    was_asked : asked (task_of s (lists_of store).state) ≡ change_in change
    was_asked = ap asked was_shown

    pub went_shown : {next : RowChange} → IsNearer old new change next
        → Changes s (lists_of store).state (lists_of (then_does (Changing next))).state stepped.Went
    went_shown {next} nearer =
        let now = task_then (Changing next) refl in
        record {
          turns = now_shown (Changing next) refl nearer.adds.past (sym now);
          still = ap is_changing now;
          asked_is = ap asked now ∙ nearer.change_is ∙ sym was_asked;
          nears = subst (λ (task : Task). steps_left task < steps_left (task_of s (lists_of store).state)) (sym now)
              (subst (λ (task : Task). row_steps (keys_if (slice_get new.schemas (table_of next))) next < steps_left task) (sym was_shown) nearer.nears);
        }

    pub entered_shown : {next : RowChange} → IsEntered s old new change next
        → Changes s (lists_of store).state (lists_of (then_does (Changing next))).state (stepped.Done part.Record)
    entered_shown {next} entered =
        let now = task_then (Changing next) refl in
        record {
          change = entered.entry;
          asked_was = was_asked ∙ entered.was;
          now = now_shown (Changing next) refl entered.past (sym now);
          still = ap is_changing now;
          asked_is = ap asked now ∙ entered.is;
        }

    pub done_shown : AddsNothing old new → change_in change ≡ None
        → Changes s (lists_of store).state (lists_of (then_does Nothing)).state (stepped.Done part.Keys)
    done_shown adds told = (was_asked ∙ told, now_shown Nothing refl adds.past refl)

    left_of : (c : RowChange) → shown new.schemas 0 (given_up c) ≡ left_by (change_in c)
    left_of (Record c key after) = refl
    left_of (Keys c) = refl

    given_undoes_not : (c : RowChange) → is_undoing (given_up c) ≡ false
    given_undoes_not (Record c key after) = refl
    given_undoes_not (Keys c) = refl

    pub given_up_shown : (why : Hindrance) → IsLacking why → AddsNothing old new
        → Changes s (lists_of store).state (lists_of (then_does (given_up change))).state (stepped.Hindered why)
    given_up_shown why lacks adds =
        (lacks, now_shown (given_up change) (given_undoes_not change) adds.past (left_of change ∙ ap left_by (sym was_asked)))

    -- the rows that the history holds more are those of the change that was asked for
    pub rows_shown : {next : RowChange} → IsEntered s old new change next
        → new.rows ≡ old.rows + rows_entered (stepped.Done part.Record) (task_of s (lists_of store).state)
    rows_shown entered = entered.rows ∙ ap (λ c. old.rows + rows_of_change c) (sym (was_asked ∙ entered.was))

-- ---- a change that begins

few_keys : (found : Option Schema) → ((schema : Schema) → found ≡ Some schema → IsStorable schema) → keys_if found ≤ 4
few_keys None storable = omega arith
few_keys (Some schema) storable = let is = storable schema refl in let few = is.few in omega arith

few_steps : (keys : ℕ) → keys ≤ 4 → 4 * keys + 4 < 2 ^ 70
few_steps keys few = omega arith

same_lists : (state : WorldState) → LeavesLists state state
same_lists state = record { names = refl; schemas = refl; settings = refl }

module _ {store : Store} {s : ℕ} (held : IsHeld store) (mine : store.writer ≡ Some s) (within : s < length store.desks) (table : ℕ) (edit : RowEdit)
    (key : List ℕ) (now : Lists) (is : now ≡ lists_of (record store { desks = with_doing s (Changing (begun table edit key)) store.desks })) where
  abbrev task_begun : Task
  task_begun = shown store.world.schemas 0 (Changing (begun table edit key))

  task_now : task_of s now.state ≡ task_begun
  task_now = ap (λ (lists : Lists). task_of s lists.state) is ∙ task_then held mine (same_lists store.world) within (Changing (begun table edit key)) refl

  pub begun_turns : Turns s (task_of s now.state) (lists_of store).state now.state
  begun_turns =
      subst (λ (lists : Lists). Turns s (task_of s now.state) (lists_of store).state lists.state) (sym is)
      (now_shown held mine (same_lists store.world) within (Changing (begun table edit key)) refl refl (sym task_now))

  -- each table has few keys
  keys_few : keys_if (slice_get store.world.schemas table) ≤ 4
  keys_few =
      few_keys (slice_get store.world.schemas table) (λ schema there. tables_storable store.world.past held.fits table schema
      (ap (λ (tables : List Schema). slice_get tables table) (sym held.agrees.lists.tables) ∙ there))

  pub begun_task : (is_changing (task_of s now.state) ≡ true) × (asked (task_of s now.state) ≡ Some (change_of table edit)) ×
      (steps_left (task_of s now.state) < 2 ^ 70)
  begun_task = (
    ap is_changing task_now,
    ap asked task_now,
    subst (λ (t : Task). steps_left t < 2 ^ 70) (sym task_now) (few_steps (keys_if (slice_get store.world.schemas table)) keys_few),
  )

-- ---- an index that is left

pub left_shown : {s : ℕ} (store : Store) {new : WorldState} → MovesPlaces s store.world new → is_searching (doing_at s store.desks) ≡ false → IsTold new
    → lists_of (record store { world = new }) ≡ lists_of store
left_shown {s} store leaves none told = seen_stay store leaves told (λ on is. true≢false (sym (ap is_searching is) ∙ none))
