-- What holds of a store between calls.
use Rattle.std.specs.Prelude.{◌≡◌, ◌≢◌, ℕ, ◌+◌, ◌≤◌, ◌^◌, ◌==◌, if◌then◌else◌, Bool, true, false, List, [], ◌∷◌, length, slice_get, Option, None, Some, is_some}
use Rattle.std.specs.FinMap.{get}
use Rattle.sql_history.specs.Counts.{rows_in, most_rows}
use Rattle.inno_model.specs.Past.{own, started, under_way, of_item, awaits_ack, IsOpen}
use Rattle.inno_model.specs.{declared.event.Event.Event, declared.event.Event.TheVariants.Opened}
use Rattle.store_api.specs.declared.answers.Undo.{Undo}
use Rattle.read_view.specs.Sight.{Sight as ReadSight}
use Rattle.inno_types.specs.declared.value.Schema.{Schema}
use Rattle.world.specs.{State.WorldState, State.Session, State.Work, State.Logged, State.Seen, State.IsSession, State.HasWork, Undoing.read_into}
use Rattle.law_world_agreement.specs.Agreement.{Agrees, sight_of}
use Rattle.shared_lists.specs.Fitting.{CanBeCoded, FitsThen}
use Rattle.law_found_rows.specs.Finding.{IsFinding, IsFindingAnew}
use Rattle.desks.specs.declared.desk.Doing.TheVariants.{Searching, Changing, Lagging, Undoing}
use Rattle.desks.specs.Desks.{Store, desk_at, doing_at, started_at, is_quiet_doing, HasRooms}
use Rattle.desks.specs.{declared.desk.Desk.Desk, declared.desk.Doing.Doing, declared.desk.TableSearch.TableSearch}
use Rattle.inno_db.specs.{Database.Database, declared.limits.TheConstants.MOST_TABLES, declared.change.Change.Change}
use Rattle.row_versions.specs.{declared.place.Place.Place, Chains.Chains, Chains.in_model, Chains.versions_at}
use Rattle.law_past_agreement.specs.{Rows.place_in, Rows.is_place, Agreement.IsOpenedWith}
use Rattle.law_stored_rows.specs.Tables.{Said, TellsOfOlder}
use Rattle.row_changes.specs.declared.row_change.RowChange.TheVariants.{Record, Keys}
use Rattle.row_changes.specs.{Told.HasRows, Told.AreRowsAs, Told.SaysAt, Rows.IsAtRow, Rows.place_of, declared.keys_change.KeysChange.KeysChange}
use Rattle.row_changes.specs.{declared.record_change.RecordChange.RecordChange, declared.record_change.RecordStage.RecordStage, Keys.IsChangingKeys}
use Rattle.row_changes.specs.declared.record_change.RecordStage.TheVariants.{Replace}
use Rattle.row_search.specs.{declared.sight.Sight.Sight, declared.sight.Sight.TheVariants.View, declared.sight.Sight.TheVariants.Newest}
use Rattle.undo_apply.specs.{declared.work_room.WorkRoom.WorkRoom, Stages.IsPuttingBack}
use Rattle.law_logged_changes.specs.Logs.{LogsAgree}

-- each place has few versions: those of this history, and not too many older ones
abbrev pub AreFew : Chains → List Event → Type 0
AreFew chains past = (place : Place) → length (versions_at place chains) ≤ length past + 2 ^ 62

-- The world of a database of few tables and rows, which nobody has joined. The newest version of each place has its row;
-- older ones may stand behind it.
pub record IsFresh (state : WorldState) : Type 0 where
  pub db : Database
  pub fits : CanBeCoded db
  pub few_tables : length db.schemas ≤ MOST_TABLES
  pub few_rows : rows_in db ≤ most_rows
  pub chains : Chains
  pub opened : (place : Place) → IsOpenedWith (get db.rows (in_model place)) (versions_at place chains)
  pub few_versions : AreFew chains state.past
  pub coded : HasRows chains state
  pub names : state.names ≡ []
  pub past : state.past ≡ Opened db ∷ []
  pub rows : state.rows ≡ rows_in db
  pub schemas : state.schemas ≡ db.schemas
  pub txns : state.txns ≡ record { open_txns = []; begun = 0; next = 1 }
  pub sessions : state.sessions ≡ []

-- The history has room for the entries by which items and transactions end.
pub record HasRoom (state : WorldState) : Type 0 where
  pub replies : (s : ℕ) (session : Session) → IsSession s session state → is_some (under_way s state.past) ≡ true → session.can_reply ≡ true
  pub acks : (s : ℕ) (session : Session) → IsSession s session state → awaits_ack (of_item s state.past) ≡ true → session.can_ack ≡ true
  pub ends : (s : ℕ) (session : Session) (work : Work) → HasWork s session work state → work.can_end ≡ true

-- ---- rows, by what each session has under way

-- the newest change of the session is one of a row at this place, and this is its undo record
pub record IsLast (state : WorldState) (s : ℕ) (logged : Logged) (place : Place) : Type 0 where
  pub session : Session
  pub work : Work
  pub has_work : HasWork s session work state
  pub log : List Logged
  pub log_is : work.log ≡ logged ∷ log
  pub change : Change
  pub before : List Change
  pub own_is : own s state.past ≡ change ∷ before
  pub place_is : place_in state.schemas change ≡ Some place

-- The change that its keys take over is the newest one, and the newest undo record is of the same row.
pub record IsLastOf (state : WorldState) (s : ℕ) (change : KeysChange) : Type 0 where
  pub logged : Logged
  pub place : Place
  pub last : IsLast state s logged place
  pub table_is : place.table ≡ change.table
  pub key_is : logged.undo.key ≡ change.key

-- its keys lag, of a change that was given up
pub record IsLagging (chains : Chains) (beside : Said) (state : WorldState) (s : ℕ) : Type 0 where
  pub change : KeysChange
  pub changing : IsChangingKeys chains beside state change
  pub newest : IsLastOf state s change

-- it is being taken back
pub record IsGoingBack (chains : Chains) (beside : Said) (state : WorldState) (s : ℕ) (undo : Undo) (room : WorkRoom) : Type 0 where
  pub logged : Logged
  pub place : Place
  pub last : IsLast state s logged place
  pub undo_is : undo ≡ logged.undo
  pub putting : IsPuttingBack chains beside place undo room state

-- What the session knows of the row that it is at work on, where keys say this of others. Before its record has changed, the row may be
-- another's, and what keys say of it isn't known.
abbrev pub RowHeld : Chains → Said → WorldState → ℕ → Undo → WorkRoom → Doing → Type 0
RowHeld chains beside state s undo room (Changing (Record change key after)) = IsAtRow s chains beside state (Record change key after)
RowHeld chains beside state s undo room (Changing (Keys change)) = IsChangingKeys chains beside state change × IsLastOf state s change
RowHeld chains beside state s undo room Lagging = IsLagging chains beside state s
RowHeld chains beside state s undo room Undoing = IsGoingBack chains beside state s undo room
RowHeld chains beside state s undo room quiet = Unit {0}

-- by what lies at its desk
abbrev pub RowHeldAt : Chains → Said → WorldState → ℕ → Option Desk → Type 0
RowHeldAt chains beside state s None = Unit {0}
RowHeldAt chains beside state s (Some desk) = RowHeld chains beside state s (read_into desk.undo) desk.room desk.doing

-- the place of the newest of these changes
abbrev pub newest_place : List Schema → List Change → Option Place
newest_place schemas [] = None
newest_place schemas (change ∷ before) = place_in schemas change

-- the place at which the session's keys lag: that of its newest change
abbrev pub lags_in : WorldState → ℕ → Doing → Option Place
lags_in state s (Changing (Keys change)) = newest_place state.schemas (own s state.past)
lags_in state s Lagging = newest_place state.schemas (own s state.past)
lags_in state s Undoing = newest_place state.schemas (own s state.past)
lags_in state s other = None

abbrev pub is_found : RecordStage → Bool
is_found (Replace before bytes) = true
is_found other = false

abbrev pub changed_place : RecordChange → Option Schema → Option Place
changed_place change None = None
changed_place change (Some schema) = Some (place_of schema change)

-- the place at which the session is at work: that of the row whose record it has found, whose keys take it over, or which it takes back
abbrev pub works_in : WorldState → ℕ → Doing → Option Place
works_in state s (Changing (Record change key after)) = if is_found change.stage then changed_place change (slice_get state.schemas change.table) else None
works_in state s other = lags_in state s other

abbrev pub lags_at : Place → WorldState → List Desk → ℕ → Bool
lags_at place state desks s = is_place place (lags_in state s (doing_at s desks))

-- what keys say of all places but that where the session's own keys lag, and of that one what is there
abbrev pub said_beside : Chains → Said → WorldState → List Desk → ℕ → Said
said_beside chains said state desks s table which key =
    if lags_at (record { table = table; key = key }) state desks s then versions_at (record { table = table; key = key }) chains else said table which key

-- The keys say one thing of each place, whoever looks: what is there, or where they lag, all that is there but the newest.
pub record RowsHeld (chains : Chains) (state : WorldState) (desks : List Desk) : Type 0 where
  pub said : Said
  pub coded : AreRowsAs chains said state
  pub each : (s : ℕ) → RowHeldAt chains (said_beside chains said state desks s) state s (desk_at s desks)
  pub lagging : (s : ℕ) (place : Place) → lags_at place state desks s ≡ true → TellsOfOlder place chains said
  pub settled : (place : Place) → ((s : ℕ) → lags_at place state desks s ≡ false) → SaysAt place chains said

-- ---- searches

-- the view is that of the session's transaction, and the reader's id its own
pub record IsOwnView (state : WorldState) (s : ℕ) (view : ReadSight) (reader : ℕ) : Type 0 where
  pub session : Session
  pub work : Work
  pub has_work : HasWork s session work state
  pub seen : Seen
  pub view_is : work.view ≡ Some seen
  pub same : view ≡ sight_of seen
  pub reader_is : reader ≡ work.id

-- who reads by a view reads by that of its transaction; who reads the newest rows may write
abbrev pub SightHolds : Store → ℕ → Sight → Type 0
SightHolds store s (View view reader) = IsOwnView store.world s view reader
SightHolds store s Newest = store.writer ≡ Some s

abbrev pub FindsSince : Bool → ℕ → WorldState → Chains → TableSearch → Type 0
FindsSince true s state chains on = IsFinding s on.schema state chains on.search
FindsSince false s state chains on = IsFindingAnew s on.schema state chains on.search

-- the search has found what it came past; where older versions were dropped since, it comes to its pair anew
pub record IsSearchHeld (chains : Chains) (store : Store) (s : ℕ) (on : TableSearch) : Type 0 where
  pub there : slice_get store.world.schemas on.search.scan.table ≡ Some on.schema
  pub which : on.search.scan.which ≤ length on.schema.keys
  pub since : on.cuts ≤ store.cuts
  pub finds : FindsSince (on.cuts == store.cuts) s store.world chains on
  pub sight : SightHolds store s on.search.scan.sight

abbrev pub SearchHeld : Chains → Store → ℕ → Doing → Type 0
SearchHeld chains store s (Searching on) = IsSearchHeld chains store s on
SearchHeld chains store s other = Unit {0}

-- ---- the whole

-- Whose places are: all are those of the session that may write, which has an open transaction. Who may not has no changes, and none under way.
-- So no two sessions are at work at one place, and nobody else has changes there; of the right to write nothing else is told.
pub record WriterOwns (store : Store) : Type 0 where
  pub opened : (s : ℕ) → store.writer ≡ Some s → IsOpen s store.world.past
  pub clean : (s : ℕ) → store.writer ≢ Some s → own s store.world.past ≡ []
  pub quiet : (s : ℕ) → store.writer ≢ Some s → is_quiet_doing (doing_at s store.desks) ≡ true

pub record IsHeld (store : Store) : Type 0 where
  pub chains : Chains
  pub agrees : Agrees chains store.world
  pub fits : FitsThen store.world.past
  pub rows : RowsHeld chains store.world store.desks
  pub owned : WriterOwns store
  pub searches : (s : ℕ) → SearchHeld chains store s (doing_at s store.desks)
  pub logs : LogsAgree store.world
  pub has_room : HasRoom store.world
  pub started : (s : ℕ) → started s store.world.past ≡ started_at s store.desks
  pub rooms : (s : ℕ) (desk : Desk) → desk_at s store.desks ≡ Some desk → HasRooms desk
  pub count : length store.desks ≡ length store.world.names
  pub few : length store.world.names ≤ 68
  -- each older version was dropped by a change that was taken back
  pub cut : store.cuts ≤ length store.world.past
  pub short : AreFew chains store.world.past
