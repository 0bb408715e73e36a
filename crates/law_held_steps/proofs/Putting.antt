-- A change is taken back: its undo record is read, and with each step of putting back less of it is left. Until it is done, pairs of keys and kept
-- versions alone change.
use Rattle.shared_lists.specs.Tasks as tasks
use Rattle.store_api.specs.declared.stepped.Stepped.TheVariants as stepped
use Rattle.std.proofs.Common.{[], ◌≡◌, ◌≤◌, true, false, List, ◌∷◌, length, Some, refl, sym, ap, subst, arith, ℕ, Option, None, ◌≢◌, ⊎_elim, ◌∙◌, slice_get}
use Rattle.std.proofs.Common.{Bool, ◌+◌, ◌*◌, ◌^◌, ◌<◌, inl, inr, ◌⊎◌, ◌-◌, map, eq-eqb}
use Rattle.std.specs.Prelude.{is_some}
use Rattle.inno_types.specs.declared.value.Schema.{Schema}
use Rattle.inno_db.specs.{declared.change.Change.Change, declared.change.Change.TheVariants.Create}
use Rattle.inno_model.specs.Past.{own, started, under_way, of_item, awaits_ack, level}
use Rattle.inno_model.specs.{declared.event.Event.Event, declared.event.Event.TheVariants.Undone}
use Rattle.store_api.specs.{declared.answers.Undo.Undo, declared.moves.Move.Move, declared.moves.Move.TheVariants.Done, declared.moves.Move.TheVariants.Step}
use Rattle.row_versions.specs.Chains.{Chains, versions_at}
use Rattle.row_versions.specs.{declared.place.Place.Place, declared.version.Version.Version, declared.kept.Kept.Kept, Versions.Stays}
use Rattle.row_search.specs.Tables.{most_versions}
use Rattle.law_past_agreement.specs.Order.{IsUndoable, MayCome}
use Rattle.law_stored_rows.specs.{Records.LeadTo, Records.kept_of, Tables.Said}
use Rattle.law_stored_rows.proofs.{KeptRows.found_of, RowRecords.leads_still}
use Rattle.world.specs.State.{WorldState, Logged, Session, Work, HasWork, IsSession, standing_of}
use Rattle.world.specs.{Undoing.read_into, Undoing.ReadsLast, Undoing.newest, Undoing.IsRead, Undoing.HoldsRecord, Undoing.IsCutBack, Told.IsTold}
use Rattle.world.specs.{Told.TellsTogether, Told.LeavesRows, declared.undo_room.UndoRoom.UndoRoom, AtHand.IsAtHand, Sessions.undone_added}
use Rattle.world.proofs.AtHand.{index_not_delayed}
use Rattle.law_world_agreement.proofs.{Opening.set_here, Changing.one_session, Changing.one_work}
use Rattle.row_changes.specs.Awaited.{AwaitsNobody}
use Rattle.undo_apply.specs.Stages.{Stops, StopsRemoval, StopsAt, IsPuttingBack, GoesOn, IsDone, PutsBack, StageHolds, WalksOn}
use Rattle.undo_apply.specs.{Standing.versions_before, Standing.HasWalked, Told.rows_of, declared.work_room.Stage.Stage, Rooms.steps_left}
use Rattle.undo_apply.specs.{declared.work_room.WorkRoom.WorkRoom, declared.work_room.Stage.TheVariants.Walk, declared.work_room.Stage.TheVariants.Find}
use Rattle.undo_apply.specs.declared.work_room.Stage.TheVariants.{Remove, Record}
use Rattle.undo_apply.proofs.{Hindrances.never_hindered, Telling.leaves_told, Columns.few_keys}
use Rattle.law_logged_changes.specs.{Logs.LogsAgree, Logs.IsLogOf, Steps.ChangesPairsAlone}
use Rattle.law_logged_changes.proofs.Leaving.{own_beside, agrees_beside, step_all, step_beside, logs_beside, work_beside, work_again, rows_leave, all_left}
use Rattle.shared_lists.specs.{Tasks.Task, Tasks.MayTakeBack, Tasks.undo_to_go, Fitting.FitsThen, State.task_of, State.Turns}
use Rattle.desks.specs.declared.desk.Doing.TheVariants.{Nothing, Lagging, Undoing}
use Rattle.desks.specs.Holding.{IsLast, IsGoingBack, RowHeld, RowHeldAt, RowsHeld, SearchHeld, IsHeld, said_beside}
use Rattle.desks.specs.Desks.{desk_at, doing_in, doing_at, started_in, is_undoing, with_read, with_room, HasRooms, with_doing, Store}
use Rattle.desks.specs.{Shown.shown, Shown.task_at, Shown.lists_of, declared.desk.Desk.Desk, declared.desk.Doing.Doing, Leaves.Does}
use Rattle.desks.specs.Undoing.{left_at, keys_if, undo_left_in, left_in}
use Rattle.desks.proofs.{Counting.versions_most, Counting.versions_are, Showing.task_is}
use Rattle.law_other_places.specs.{Steps.IsReady, Undone.IsUndone}
use Rattle.law_other_places.proofs.{Begins.taking_begins, BackSteps.back_kept, BackSteps.goes_leaves, DoneSteps.done_kept, Undone.older_fewer}
use Rattle.law_other_places.proofs.Undone.{after, session_now, work_now, sessions_now, has_work_now, is_then, past_now, others_left, places_left, had}
use Rattle.law_other_places.proofs.Undone.{agrees_now, few_now, logs_now}
use Rattle.law_held_steps.specs.Making.{HasPutBack, HasLast, TakesBackIn}
use Rattle.law_held_steps.proofs.AnyStep.{some_same, held_beside, waits_not, held_after, IsGiven, is_given, given_then}
use Rattle.law_held_steps.proofs.Apart.{alone_at, beside_of, busy_writes, is_writer, leaves_work, may_put}
use Rattle.law_held_steps.proofs.{Keeping.open_work, Showing.settings_same, Showing.shows_now}

-- how much is left of a change that is taken back, while tables and kept versions are the same
pub left_same : (table : ℕ) (stage : Stage) (old new : WorldState) → new.schemas ≡ old.schemas → new.versions.kept_at ≡ old.versions.kept_at
    → undo_left_in table stage new ≡ undo_left_in table stage old
left_same table stage old new schemas kept =
    ap (λ (s : List Schema). left_at (keys_if (slice_get s table)) most_versions new.versions.kept_at stage) schemas
    ∙ ap (λ (k : ℕ → Option Kept). left_at (keys_if (slice_get old.schemas table)) most_versions k stage) kept

-- sessions, the history and all actors' places are as they were
pub record LeavesAll (old new : WorldState) : Type 0 where
  pub places : (index : ℕ) → (new.indexes index).place ≡ (old.indexes index).place
  pub versions : Stays old.versions new.versions
  pub rest : ChangesPairsAlone old new

-- it is being taken back, by the rooms of this desk
pub record GoesBackAt (chains : Chains) (beside : Said) (state : WorldState) (s : ℕ) (desks : List Desk) : Type 0 where
  pub desk : Desk
  pub at : desk_at s desks ≡ Some desk
  pub going : IsGoingBack chains beside state s (read_into desk.undo) desk.room

-- who takes a change back has a desk, and knows this of its row
goes_back_at : (chains : Chains) (beside : Said) (state : WorldState) (s : ℕ) (desks : List Desk) (found : Option Desk) → desk_at s desks ≡ found
    → doing_in found ≡ Undoing → RowHeldAt chains beside state s found → GoesBackAt chains beside state s desks
goes_back_at chains beside state s desks None at busy row = absurd (let e : Nothing ≡ Undoing = busy in cc)
goes_back_at chains beside state s desks (Some desk) at busy row =
    record { desk = desk; at = at; going = subst (RowHeld chains beside state s (read_into desk.undo) desk.room) busy row }

module _ (s : ℕ) {store : Store} (held : IsHeld store) where
  -- who may write has something else under way, and pairs of keys and kept versions alone have changed
  pub held_given : {new : WorldState} {now : List Desk} {was is : Desk} → store.writer ≡ Some s → LeavesAll store.world new → IsTold store.world → IsTold new
      → IsGiven s was is store.desks now → RowsHeld held.chains new now → LogsAgree new
      → SearchHeld held.chains (record store { world = new; desks = now }) s is.doing → HasRooms is → IsHeld (record store { world = new; desks = now })
  held_given {new} {now} {was} {is} mine leaves told tells gives rows logs search rooms =
      held_beside s held now leaves.rest leaves.versions told tells
      (λ t index differs. ap (λ (place : ℕ → Option _). place t) (leaves.places index)) gives.others
      (ap started_in gives.here ∙ gives.started ∙ sym (ap started_in gives.before)) gives.count (λ other. absurd (other mine))
      (subst (λ desk. SearchHeld held.chains (record store { world = new; desks = now }) s (doing_in desk)) (sym gives.here) search)
      (λ desk there. subst HasRooms (some_same is desk (sym gives.here ∙ there)) rooms) rows logs

-- a step that was hindered doesn't answer that it went on
module _ (actor : ℕ) (old new : WorldState) (was : IsAtHand old) (is : IsAtHand new) where
  no_step : (index : ℕ) → Stops actor index old new Step → ⊥
  no_step index stops = index_not_delayed actor (old.indexes index) (new.indexes index) (was.indexes index) (is.indexes index) Step stops

  no_removal : (index : ℕ) → StopsRemoval actor index old new Step → ⊥
  no_removal index (inl first) = no_step index first
  no_removal index (inr second) =
      index_not_delayed actor (second.mid.indexes index) (second.after.indexes index) (second.at_hand.0.indexes index) (second.at_hand.1.indexes index) Step
      second.cause

  not_stopped : (undo : Undo) (stage : Stage) → StopsAt actor undo stage old new Step → ⊥
  not_stopped undo (Walk which pointer) stops = stops was.told
  not_stopped undo (Remove which) stops = no_removal _ stops
  not_stopped undo Record stops = no_removal _ stops
  not_stopped undo stage stops = no_step _ stops

-- ---- how much is left of a change that is being taken back: steps first, and within a walk the versions

left_least : (keys most : ℕ) (kept : ℕ → Option Kept) (stage : Stage) → steps_left keys stage * 2 ^ 64 ≤ left_at keys most kept stage
left_least keys most kept Find = omega arith
left_least keys most kept stage = omega arith

left_most : (keys most : ℕ) (kept : ℕ → Option Kept) (stage : Stage) → most < 2 ^ 64 → left_at keys most kept stage < (steps_left keys stage + 1) * 2 ^ 64
left_most keys most kept (Walk which pointer) few = let under = versions_most most kept pointer in omega (arith, under, few)
left_most keys most kept stage few = omega arith

left_nears : (keys most : ℕ) (kept : ℕ → Option Kept) (stage next : Stage) → most < 2 ^ 64 → steps_left keys next < steps_left keys stage
    → left_at keys most kept next < left_at keys most kept stage
left_nears keys most kept stage next few less = omega (arith, left_least keys most kept stage, left_most keys most kept next few, less)

-- a walk with fewer versions before it
left_walks : (schema : Schema) (key : List ℕ) (kept : ℕ → Option Kept) (keys most which pointer behind : ℕ) (versions others : List Version)
    → LeadTo schema key kept pointer versions → LeadTo schema key kept behind others
    → length versions ≤ most → length others < length versions → left_at keys most kept (Walk which behind) < left_at keys most kept (Walk which pointer)
left_walks schema key kept keys most which pointer behind versions others leads behind_leads few fewer =
    let first = versions_are schema key kept most pointer versions leads few in
    let second = versions_are schema key kept most behind others behind_leads (omega (arith, few, fewer)) in
    omega (arith, first, second, fewer)

module _ (chains : Chains) (beside : Said) (place : Place) (undo : Undo) (schema : Schema) (old new : WorldState) (bytes read : List ℕ) (keys most : ℕ)
    (few : length (versions_before chains place) ≤ most) (tells : IsTold new) (same : new.versions.kept_at ≡ old.versions.kept_at) where
  walks_near : (stage next : Stage) → WalksOn schema undo new stage next
      → StageHolds chains beside place undo schema (rows_of old) bytes stage → StageHolds chains beside place undo schema (rows_of new) read next
      → left_at keys most new.versions.kept_at next < left_at keys most new.versions.kept_at stage
  walks_near (Walk which pointer) (Walk other behind) walks was now =
      let walked : HasWalked schema undo.key (kept_of old.versions.kept_at undo.table undo.key) which pointer was.0 (versions_before chains place) = was.3 in
      let walking : HasWalked schema undo.key (kept_of new.versions.kept_at undo.table undo.key) other behind now.0 (versions_before chains place) = now.3 in
      let here : LeadTo schema undo.key new.versions.kept_at behind walking.left = leads_still schema undo.key
      (kept_of new.versions.kept_at undo.table undo.key) new.versions.kept_at behind walking.left (found_of new.versions.kept_at undo.table undo.key)
      walking.leads in
      let leads : LeadTo schema undo.key new.versions.kept_at pointer walked.left =
      subst (λ (kept : ℕ → Option Kept). LeadTo schema undo.key kept pointer walked.left) (sym same)
      (leads_still schema undo.key (kept_of old.versions.kept_at undo.table undo.key) old.versions.kept_at pointer walked.left
      (found_of old.versions.kept_at undo.table undo.key) walked.leads) in
      let less = left_walks schema undo.key new.versions.kept_at keys most which pointer behind walked.left walking.left leads here
      (omega (arith, walked.fewer, few)) (walks.1 tells walked.left walking.left leads here) in
      subst (λ (w : ℕ). left_at keys most new.versions.kept_at (Walk w behind) < left_at keys most new.versions.kept_at (Walk which pointer)) (sym walks.0) less
  walks_near stage next walks was now = absurd walks

module _ (chains : Chains) (beside : Said) (place : Place) (actor : ℕ) (undo : Undo) (room next : WorkRoom) (old new : WorldState) where
  done_leaves : IsDone chains beside place undo room next old new → LeavesAll old new
  done_leaves done =
      ⊎_elim (λ stays. record { places = stays.places; versions = stays.versions; rest = stays.rest })
      (λ puts. record { places = puts.places; versions = puts.versions; rest = puts.rest }) done.changes

  -- a step that went on was made
  goes_on : IsAtHand old → IsAtHand new → PutsBack chains beside place actor undo room next old new Step → GoesOn chains beside place undo room next old new
  goes_on was is (inl goes) = goes
  goes_on was is (inr stuck) = absurd (not_stopped actor old new was is undo room.stage stuck.cause)

  goes_leave : GoesOn chains beside place undo room next old new → LeavesAll old new
  goes_leave goes =
      ⊎_elim (λ stays. record { places = stays.places; versions = stays.versions; rest = stays.rest })
      (λ one. record { places = one.4.places; versions = one.4.versions; rest = one.4.rest }) (goes.changes goes.holds.schema goes.holds.tells.there)

-- ---- the newest undo record of who may write

last_if : (s keep : ℕ) (state : WorldState) (session : Session) (work : Work) (log : List Logged) (changes : List Change) → HasWork s session work state
    → work.log ≡ log → own s state.past ≡ changes → IsUndoable keep changes → IsLogOf state log changes → HasLast s state
last_if s keep state session work log [] has log_is own_is may stands = absurd may
last_if s keep state session work log (Create schema ∷ before) has log_is own_is may stands = absurd may.0
last_if s keep state session work [] (change ∷ before) has log_is own_is may stands = absurd stands
last_if s keep state session work (logged ∷ log) (change ∷ before) has log_is own_is may stands = (
  logged,
  stands.0.place,
  record {
    session = session;
    work = work;
    has_work = has;
    log = log;
    log_is = log_is;
    change = change;
    before = before;
    own_is = own_is;
    place_is = stands.0.place_is;
  },
)

-- the record that was read is that one
pub read_there : (log : List Logged) (logged : Logged) (older : List Logged) (read : Undo) (there : Bool) → log ≡ logged ∷ older
    → IsRead (newest log) read there → read ≡ logged.undo
read_there log logged older read there is reads =
    let found : newest log ≡ Some logged.undo = ap newest is in
    some_same read logged.undo (sym (reads.1 (reads.0 ∙ ap is_some found)) ∙ found)

pub ready_undoes_not : (doing : Doing) → IsReady doing → is_undoing doing ≡ false
ready_undoes_not Nothing is = refl
ready_undoes_not Lagging is = refl
ready_undoes_not other is = absurd is

-- all of it is left, which is no more than this where there are four keys at most
few_left : (keys most : ℕ) (kept : ℕ → Option Kept) (stage : Stage) → keys ≤ 4 → stage ≡ Find → left_at keys most kept stage < 2 ^ 70
few_left keys most kept stage few anew = subst (λ (at : Stage). left_at keys most kept at < 2 ^ 70) (sym anew) (omega (arith, few))

module _ (s : ℕ) {store : Store} (held : IsHeld store) where
  abbrev old : WorldState
  old = store.world

  -- ---- the record is read

  module _ (keep : ℕ) (may : MayCome old.past (Undone s keep)) where
    pub may_write : store.writer ≡ Some s
    may_write = is_writer s store.writer (λ other. subst (IsUndoable keep) (held.owned.clean s other) may.1)

    pub has_last : HasLast s old
    has_last =
        let is = open_work held.agrees s may.0 in
        last_if s keep old is.0 is.1 is.1.log (own s old.past) is.2 refl refl may.1 (held.logs.each s is.0 is.1 is.2)

    module _ (new : WorldState) (read : UndoRoom) (there : Bool) (reads : ReadsLast s s (read_into read) there old new Done) where
      is_read : (logged : Logged) (place : Place) → IsLast old s logged place → read_into read ≡ logged.undo
      is_read logged place last = read_there last.work.log logged last.log (read_into read) there last.log_is (reads.0 last.session last.work last.has_work)

      module _ {desk : Desk} (at : desk_at s store.desks ≡ Some desk) (ready : IsReady desk.doing) (hand : IsAtHand new) where
        rooms_were : HasRooms desk
        rooms_were = held.rooms s desk at

        left_rows : LeavesRows old new
        left_rows = record {
          schemas = ap (λ (state : WorldState). state.schemas) reads.1.rest;
          pairs = λ index. (reads.1.indexes index).pairs;
          versions = reads.1.versions;
        }

        abbrev desks_begun : List Desk
        desks_begun = with_read s read store.desks

        gives_begun : IsGiven s desk (record desk { undo = read; doing = Undoing }) store.desks desks_begun
        gives_begun = is_given s (λ d. record d { undo = read; doing = Undoing }) store.desks at refl

        begun : IsGoingBack held.chains (said_beside held.chains held.rows.said new desks_begun s) new s (read_into read) desk.room
            × RowsHeld held.chains new desks_begun
        begun =
            let anew = rooms_were.anew (ready_undoes_not desk.doing ready) in
            taking_begins s held.rows held.logs (λ place own. may_put held may_write place) desk at rooms_were.whole anew has_last.2
            (leaves_told left_rows hand.told) hand.told left_rows (agrees_beside reads.1.rest held.agrees) (λ u. record {
              session = ap (λ (state : WorldState). slice_get state.sessions u) reads.1.rest;
              own_is = own_beside u old new reads.1.rest;
            }) read is_read ready desks_begun gives_begun.here gives_begun.others

        pub held_begun : HoldsRecord read → IsHeld (record store { world = new; desks = with_read s read store.desks })
        held_begun holds =
            held_given s held may_write (record { places = λ index. (reads.1.indexes index).place; versions = reads.1.versions; rest = reads.1.rest })
            (leaves_told left_rows hand.told) hand.told gives_begun begun.1
            (all_left old new (rows_leave old new left_rows) (logs_beside old new reads.1.rest) held.logs) (record {})
            (record { record_room = holds; whole = rooms_were.whole; anew = λ none. rooms_were.anew (ready_undoes_not desk.doing ready) })

        pub few_begun : undo_left_in read.table desk.room.stage new < 2 ^ 70
        few_begun =
            let tells = begun.0.putting.tells in
            let keys : keys_if (slice_get new.schemas read.table) ≤ 4 =
            subst (λ (n : ℕ). n ≤ 4) (sym (ap keys_if tells.there)) (few_keys begun.0.putting.schema tells.storable) in
            few_left (keys_if (slice_get new.schemas read.table)) most_versions new.versions.kept_at desk.room.stage keys
            (rooms_were.anew (ready_undoes_not desk.doing ready))

  -- ---- it is being taken back

  module _ (busy : doing_at s store.desks ≡ Undoing) where
    pub mine : store.writer ≡ Some s
    mine = busy_writes s held busy refl

    abbrev pub beside : Said
    beside = beside_of held s

    pub goes_back : GoesBackAt held.chains beside old s store.desks
    goes_back = goes_back_at held.chains beside old s store.desks (desk_at s store.desks) refl busy (held.rows.each s)

    abbrev pub desk : Desk
    desk = goes_back.desk

    abbrev pub undo : UndoRoom
    undo = desk.undo

    abbrev pub room : WorkRoom
    room = desk.room

    abbrev pub going : IsGoingBack held.chains beside old s (read_into undo) room
    going = goes_back.going

    pub asks_for : IsAtHand old
        → ((chains : Chains) × (beside : Said) × (place : Place) × IsPuttingBack chains beside place (read_into undo) room old) × TellsTogether old
    asks_for hand = ((held.chains, beside, going.place, going.putting), λ told index. hand.told.pairs index)

    module _ (new : WorldState) (next : WorkRoom) (answer : Move) (put : HasPutBack s (read_into undo) room next old new answer) where
      answers : PutsBack held.chains beside going.place s (read_into undo) room next old new answer
      answers = put held.chains beside going.place going.putting

      -- over a store at hand each step is made, where nobody is awaited
      pub goes_or_is_done : IsAtHand old → IsAtHand new → AwaitsNobody old → (answer ≡ Done) ⊎ (answer ≡ Step)
      goes_or_is_done hand later nobody =
          never_hindered s old new hand later (λ index by is. absurd (nobody index by is)) held.chains beside going.place (read_into undo) room next answer answers

      pub rest_beside : ChangesPairsAlone old new
      rest_beside = step_beside held.chains beside going.place s (read_into undo) room next old new answer answers

    module _ (new : WorldState) (next : WorkRoom) (put : HasPutBack s (read_into undo) room next old new Step) (hand : IsAtHand old)
        (later : IsAtHand new) where
      its_step : PutsBack held.chains beside going.place s (read_into undo) room next old new Step
      its_step = answers new next Step put

      its_going : GoesOn held.chains beside going.place (read_into undo) room next old new
      its_going = goes_on held.chains beside going.place s (read_into undo) room next old new hand later its_step

      leaves_on : LeavesAll old new
      leaves_on = goes_leave held.chains beside going.place s (read_into undo) room next old new its_going

      abbrev desks_on : List Desk
      desks_on = with_room s next store.desks

      gives_on : IsGiven s desk (record desk { room = next }) store.desks desks_on
      gives_on = is_given s (λ d. record d { room = next }) store.desks goes_back.at refl

      is_busy : desk.doing ≡ Undoing
      is_busy = sym (ap doing_in goes_back.at) ∙ busy

      pub held_on : IsHeld (record store { world = new; desks = with_room s next store.desks })
      held_on =
          held_given s held mine leaves_on hand.told later.told gives_on
          (back_kept s desks_on held.rows held.logs hand.told later.told (agrees_beside leaves_on.rest held.agrees) desk (record desk { room = next })
          goes_back.at gives_on.here is_busy is_busy refl going (goes_leaves its_going) its_going.changes its_going.holds
          (leaves_work held mine (Some going.place) desks_on gives_on.others))
          (step_all held.chains beside going.place s (read_into undo) room next old new Step its_step (λ e. cc) held.logs)
          (subst (λ doing. SearchHeld held.chains (record store { world = new; desks = desks_on }) s doing) (sym is_busy) (record {}))
          (record {
            record_room = (held.rooms s desk goes_back.at).record_room;
            whole = its_going.holds.whole;
            anew = λ none. absurd (let e : true ≡ false = sym (ap is_undoing is_busy) ∙ none in cc);
          })

      goes_nearer : GoesOn held.chains beside going.place (read_into undo) room next old new
          → undo_left_in undo.table next.stage new < undo_left_in undo.table room.stage old
      goes_nearer goes =
          let kept : new.versions.kept_at ≡ old.versions.kept_at = leaves_on.versions.kept later.told.versions in
          let schemas : new.schemas ≡ old.schemas = ap (λ (x : WorldState). x.schemas) leaves_on.rest in
          let now = goes.holds in
          let was = going.putting in
          let found : slice_get old.schemas undo.table ≡ Some now.schema = ap (λ (x : List Schema). slice_get x undo.table) (sym schemas) ∙ now.tells.there in
          let one : was.schema ≡ now.schema = let there = was.tells.there in cc in
          let few : length (versions_before held.chains going.place) ≤ most_versions
          = omega (arith, older_fewer (versions_at going.place held.chains), held.short going.place, held.agrees.lists.small) in
          let holds = subst (λ (x : Schema).
          StageHolds held.chains beside going.place (read_into undo) x (rows_of old) room.newest.items room.stage) one
          (was.holds hand.told) in
          let less : left_at (length now.schema.keys) most_versions new.versions.kept_at next.stage < left_at (length now.schema.keys) most_versions
          new.versions.kept_at room.stage = ⊎_elim (λ fewer. left_nears (length now.schema.keys) most_versions new.versions.kept_at room.stage next.stage
          (omega arith) fewer) (λ walks. walks_near held.chains beside going.place (read_into undo) now.schema old new room.newest.items next.newest.items
          (length now.schema.keys) most_versions few later.told kept room.stage next.stage walks holds (now.holds later.told)) (goes.nears now.schema
          now.tells.there) in
          let less_now : undo_left_in undo.table next.stage new < undo_left_in undo.table room.stage new =
          subst (λ (k : ℕ). left_at k most_versions new.versions.kept_at next.stage < left_at k most_versions new.versions.kept_at room.stage)
          (sym (ap keys_if now.tells.there)) less in
          subst (λ (n : ℕ). undo_left_in undo.table next.stage new < n) (left_same undo.table room.stage old new schemas kept) less_now

      pub nearer : undo_left_in undo.table next.stage new < undo_left_in undo.table room.stage old
      nearer = goes_nearer its_going

-- ---- The newest change is taken back: its rows, then its undo record, and then the history tells it. What callers see of that, and of the steps before
-- it: the session's own task alone has changed.

module _ (s : ℕ) {store : Store} (held : IsHeld store) (busy : doing_at s store.desks ≡ Undoing) (mid : WorldState) (next : WorkRoom)
    (put : HasPutBack s (read_into (undo s held busy)) (room s held busy) next store.world mid Done) where
  abbrev source : WorldState
  source = store.world

  abbrev read : Undo
  read = read_into (undo s held busy)

  abbrev room_was : WorkRoom
  room_was = room s held busy

  abbrev back_to : IsGoingBack held.chains (beside_of held s) source s read room_was
  back_to = going s held busy

  abbrev last : IsLast source s back_to.logged back_to.place
  last = back_to.last

  by_me : store.writer ≡ Some s
  by_me = mine s held busy

  done : IsDone held.chains (beside_of held s) back_to.place read room_was next source mid
  done = put held.chains (beside_of held s) back_to.place back_to.putting

  left_all : LeavesAll source mid
  left_all = done_leaves held.chains (beside_of held s) back_to.place s read room_was next source mid done

  work_mid : HasWork s last.session last.work mid
  work_mid = work_again s last.session last.work source mid left_all.rest last.has_work

  pub has_logged : (session : Session) × (work : Work) × HasWork s session work mid × (work.log ≢ [])
  has_logged = (
    last.session,
    last.work,
    work_mid,
    λ none. let e = last.log_is in let p : back_to.logged ∷ last.log ≡ [] = sym e ∙ none in cc,
  )

  -- how many changes the session has
  own_count : (session : Session) (work : Work) → HasWork s session work mid → work.own ≡ length (own s source.past)
  own_count session work has = held.agrees.own s session work (work_beside s session work source mid left_all.rest has)

  some_own : 0 < length (own s source.past)
  some_own = let is = ap length last.own_is in omega (arith, is)

  pub own_number : (session : Session) → IsSession s session mid
      → (0 < (standing_of session).own) × ((standing_of session).own - 1 ≡ length (own s source.past) - 1)
  own_number session is =
      let one : last.session ≡ session = one_session s last.session session mid work_mid.session_is is in
      let work_is : session.work ≡ Some last.work = ap (λ (x : Session). x.work) (sym one) ∙ work_mid.work_is in
      let count = own_count last.session last.work work_mid in
      subst (λ (work : Option Work). (0 < (standing_of (record session { work = work })).own) × ((standing_of (record session { work = work })).own - 1 ≡ length
      (own s source.past) - 1)) (sym work_is) (omega (arith, count, some_own), omega (arith, count))

  module _ (cut : WorldState) (back : IsCutBack s mid cut) where
    abbrev work_cut : Work
    work_cut = record back.work { log = back.log }

    abbrev session_cut : Session
    session_cut = record back.session { undo_room = 0; next_pointer = back.next; work = Some work_cut }

    has_work_cut : HasWork s session_cut work_cut cut
    has_work_cut = record {
      session_is =
          ap (λ (state : WorldState). slice_get state.sessions s) back.rest ∙ set_here mid.sessions s back.session session_cut back.has_work.session_is;
      work_is = refl;
    }

    pub may_add : (session : Session) × (work : Work) × HasWork s session work cut × (0 < work.own)
    may_add = (session_cut, work_cut, has_work_cut, let count = own_count back.session back.work back.has_work in omega (arith, count, some_own))

    module _ (keep : ℕ) (new : WorldState)
        (added : (session : Session) (work : Work) → HasWork s session work cut → new ≡ undone_added s keep session work cut)
        (keep_is : keep ≡ length (own s source.past) - 1) where
      abbrev u : IsUndone s keep held.chains (beside_of held s) source mid cut new read room_was next
      u = record {
        going = back_to;
        done = done;
        back = back;
        new_is = added session_cut work_cut has_work_cut;
        keep_is = keep_is;
        alone = alone_at held by_me back_to.place;
      }

      -- the session has nothing to do any more, and one older version more was dropped
      abbrev pub taken : Store
      taken = record store { world = new; desks = with_doing s Nothing (with_room s next store.desks); cuts = store.cuts + 1 }

      abbrev was : Desk
      was = desk s held busy

      gives : IsGiven s was (record was { room = next; doing = Nothing }) store.desks taken.desks
      gives =
          given_then (is_given s (λ d. record d { room = next }) store.desks (goes_back s held busy).at refl)
          (is_given s (λ d. record d { doing = Nothing }) (with_room s next store.desks)
          (is_given s (λ d. record d { room = next }) store.desks (goes_back s held busy).at refl).here refl)

      does : IsAtHand source → length new.past < 2 ^ 63 → Does s held.chains (after u) store taken
      does hand few = record {
        agreed = held.agrees;
        agrees = agrees_now u held.agrees few;
        adds = inr (Undone s keep, eq-eqb s s refl, past_now u);
        told = hand.told;
        tables = λ n schema there. ap (λ (x : WorldState). slice_get x.schemas n) (is_then u) ∙ there;
        sessions = λ t differs. (others_left u t differs).session;
        desks = gives.others;
        places = λ t index differs. ap (λ (place : ℕ → _). place t) (places_left u index);
        rights = λ t differs is. is;
        back = λ t differs is. is;
        changes = inr by_me;
        kept = inr refl;
      }

      pub held_then : IsAtHand source → IsTold new → length new.past < 2 ^ 63 → IsHeld taken
      held_then hand told few =
          let past = past_now u in
          let long = ap length past in
          let names : new.names ≡ source.names = ap (λ (x : WorldState). x.names) (is_then u) in
          held_after held (does hand few) (record {
            replies = λ session is busy. subst (λ (x : Session). x.can_reply ≡ true) (one_session s (session_now u) session new (has_work_now u).session_is is)
                (held.has_room.replies s back.session (had u).session_is (sym (ap is_some (ap (under_way s) past)) ∙ busy));
            acks = λ session is waits. absurd (waits_not s (Undone s keep ∷ of_item s source.past) source.past
                (sym (ap (λ (h : List Event). awaits_ack (of_item s h)) past) ∙ waits) refl);
            ends = λ session work has. ap (λ (w : Work). w.can_end) (one_work s session (session_now u) work (work_now u) new has (has_work_now u))
                ∙ held.has_room.ends s back.session back.work (had u);
            started = ap (started s) past ∙ held.started s ∙ sym (ap started_in gives.here ∙ gives.started ∙ sym (ap started_in gives.before));
            opened = λ is. ap (λ (h : List Event). is_some (level s h)) past ∙ held.owned.opened s is;
            clean = λ other. absurd (other by_me);
            quiet = λ other. absurd (other by_me);
            search = subst (λ found. SearchHeld (after u) taken s (doing_in found)) (sym gives.here) (record {});
            rooms = λ found there. subst HasRooms (some_same (record was { room = next; doing = Nothing }) found (sym gives.here ∙ there)) (record {
              record_room = (held.rooms s was gives.before).record_room;
              whole = done.whole;
              anew = λ none. done.anew;
            });
          }) (subst FitsThen (sym past) held.fits)
          (done_kept s keep held.rows held.logs hand.told told busy u (ap doing_in gives.here)
          (leaves_work held by_me (Some back_to.place) taken.desks gives.others) (agrees_now u held.agrees few))
          (logs_now u held.logs) (gives.count ∙ held.count ∙ ap length (sym names)) (subst (λ (n : List (List ℕ)). length n ≤ 68) (sym names) held.few)
          (omega (arith, held.cut, long)) (few_now u held.short)

      -- ---- callers see the entry of the history

      pub shows_undone : TakesBackIn s keep (lists_of store) (lists_of taken) (stepped.Done tt)
      shows_undone = record {
        takes =
            shows_now store taken refl by_me held.owned.quiet gives.others (ap (λ (x : WorldState). x.names) (is_then u))
            (ap (λ (x : WorldState). x.schemas) (is_then u)) (past_now u) (ap (task_at new) gives.here);
        settings = ap (map (λ (x : Session). x.setting)) (sessions_now u)
            ∙ settings_same mid.sessions s (session_now u) back.has_work.session_is refl
            ∙ ap (λ (state : WorldState). map (λ (x : Session). x.setting) state.sessions) left_all.rest;
        rows = ap (λ (x : WorldState). x.rows) (is_then u);
      }

-- ---- what callers see of steps that add no entry

-- who may take a change back is ready to begin, or has begun
pub ready_if : (store : Store) (s : ℕ) → MayTakeBack (task_of s (lists_of store).state)
    → IsReady (doing_at s store.desks) ⊎ (doing_at s store.desks ≡ Undoing)
ready_if store s may = go (doing_at s store.desks) refl where
  go : (doing : Doing) → doing_at s store.desks ≡ doing → IsReady (doing_at s store.desks) ⊎ (doing_at s store.desks ≡ Undoing)
  go Nothing is = inl (subst IsReady (sym is) (record {}))
  go Lagging is = inl (subst IsReady (sym is) (record {}))
  go Undoing is = inr is
  go other is =
      absurd (subst MayTakeBack (task_is s store ∙ ap (shown store.world.schemas (left_in store.world (desk_at s store.desks))) is) may)

-- all of it is to go yet
ready_to_go : (schemas : List Schema) (left : ℕ) (doing : Doing) → IsReady doing → undo_to_go (shown schemas left doing) ≡ 2 ^ 70
ready_to_go schemas left Nothing is = refl
ready_to_go schemas left Lagging is = refl
ready_to_go schemas left other is = absurd is

module _ (s keep : ℕ) {store : Store} (held : IsHeld store) where
  seen_went : (new : WorldState) (later : List Desk) (now : ℕ) → store.writer ≡ Some s → ((t : ℕ) → t ≢ s → desk_at t later ≡ desk_at t store.desks)
      → ChangesPairsAlone store.world new → task_at new (desk_at s later) ≡ tasks.Undoing now → now < undo_to_go (task_of s (lists_of store).state)
      → TakesBackIn s keep (lists_of store) (lists_of (record store { world = new; desks = later })) stepped.Went
  seen_went new later now by_me others rest shows nearer =
      let then_store : Store = record store { world = new; desks = later } in
      let task : task_of s (lists_of then_store).state ≡ tasks.Undoing now = task_is s then_store ∙ shows in
      record {
        takes = (
          subst (λ (t : Task). Turns s t (lists_of store).state (lists_of then_store).state) (sym task)
              (shows_now store then_store refl by_me held.owned.quiet others (ap (λ (x : WorldState). x.names) rest)
              (ap (λ (x : WorldState). x.schemas) rest) (ap (λ (x : WorldState). x.past) rest) shows),
          (now, task),
          subst (λ (n : ℕ). n < undo_to_go (task_of s (lists_of store).state)) (sym (ap undo_to_go task)) nearer,
        );
        settings = ap (λ (state : WorldState). map (λ (session : Session). session.setting) state.sessions) rest;
        rows = ap (λ (state : WorldState). state.rows) rest;
      }

  -- the record is read
  pub shows_begun : (new : WorldState) (read : UndoRoom) (there : Bool) {desk : Desk} → desk_at s store.desks ≡ Some desk → IsReady desk.doing
      → MayCome store.world.past (Undone s keep) → IsAtHand new → ReadsLast s s (read_into read) there store.world new Done
      → TakesBackIn s keep (lists_of store) (lists_of (record store { world = new; desks = with_read s read store.desks })) stepped.Went
  shows_begun new read there {desk} at ready may hand reads =
      let gives = is_given s (λ d. record d { undo = read; doing = Undoing }) store.desks at refl in
      let left = left_in store.world (Some desk) in
      let all : undo_to_go (task_of s (lists_of store).state) ≡ 2 ^ 70 =
      ap undo_to_go (task_is s store ∙ ap (task_at store.world) at) ∙ ready_to_go store.world.schemas left desk.doing ready in
      seen_went new (with_read s read store.desks) (undo_left_in read.table desk.room.stage new) (may_write s held keep may) gives.others
      reads.1.rest (ap (task_at new) gives.here)
      (subst (λ (n : ℕ). undo_left_in read.table desk.room.stage new < n) (sym all) (few_begun s held keep may new read there reads at ready hand))

  -- a step is made
  pub shows_went : (busy : doing_at s store.desks ≡ Undoing) (new : WorldState) (next : WorkRoom) → IsAtHand store.world → IsAtHand new
      → HasPutBack s (read_into (undo s held busy)) (room s held busy) next store.world new Step
      → TakesBackIn s keep (lists_of store) (lists_of (record store { world = new; desks = with_room s next store.desks })) stepped.Went
  shows_went busy new next hand later put =
      let at = (goes_back s held busy).at in
      let was = desk s held busy in
      let is_busy : was.doing ≡ Undoing = sym (ap doing_in at) ∙ busy in
      let gives = is_given s (λ d. record d { room = next }) store.desks at refl in
      let left = undo_left_in was.undo.table next.stage new in
      seen_went new (with_room s next store.desks) left (mine s held busy) gives.others (rest_beside s held busy new next Step put)
      (ap (task_at new) gives.here ∙ ap (shown new.schemas left) is_busy)
      (subst (λ (n : ℕ). left < n) (sym (ap undo_to_go (task_is s store ∙ ap (task_at store.world) at
      ∙ ap (shown store.world.schemas (left_in store.world (Some was))) is_busy))) (nearer s held busy new next put hand later))
