-- A change that is taken back: each step keeps what is held of all sessions.
-- `TakenBack` has the step that ends it. Whoever takes changes back under record locks is to cite it.
use Rattle.std.proofs.Common.{◌≡◌, ◌∙◌, ◌⊎◌, inl, inr, refl, sym, ap, subst, ℕ, ◌≤◌, Bool, true, List, length}
use Rattle.std.proofs.Common.{Option, None, Some, slice_get}
use Rattle.std.proofs.lemmas.Bool.{true≢false}
use Rattle.std.specs.{Prelude.is_some, List.list_any}
use Rattle.inno_types.specs.{declared.lock.Lock.Lock, declared.value.Schema.Schema}
use Rattle.inno_model.specs.{Past.own, Past.started, Past.under_way, Past.of_item, Past.awaits_ack, declared.event.Event.Event}
use Rattle.store_api.specs.declared.moves.Move.TheVariants.{Done}
use Rattle.entries.specs.{Pairs.Pair}
use Rattle.row_versions.specs.{declared.place.Place.Place, Versions.Stays}
use Rattle.law_stored_rows.specs.Tables.{Said}
use Rattle.law_past_agreement.specs.Rows.{is_at}
use Rattle.world.specs.State.{WorldState, Logged}
use Rattle.world.specs.{Told.IsTold, Told.LeavesRows, Undoing.read_into, Undoing.ReadsLast, Undoing.HoldsRecord}
use Rattle.world.specs.{declared.undo_room.UndoRoom.UndoRoom}
use Rattle.shared_lists.specs.Fitting.{FitsThen}
use Rattle.undo_apply.specs.Stages.{IsPuttingBack, ChangesOneEntry}
use Rattle.undo_apply.specs.{declared.work_room.WorkRoom.WorkRoom, declared.work_room.Stage.TheVariants.Find}
use Rattle.law_logged_changes.specs.{Logs.LogsAgree, Steps.ChangesPairsAlone, Steps.LeavesRecords}
use Rattle.law_logged_changes.proofs.Leaving.{work_beside, agrees_beside, logs_beside, all_left, rows_leave, own_beside}
use Rattle.lock_table.specs.Queue.{AreApart}
use Rattle.desks.specs.declared.desk.Doing.TheVariants.{Undoing}
use Rattle.desks.specs.{declared.desk.Desk.Desk}
use Rattle.desks.specs.Desks.{Store, desk_at, doing_in, doing_at, started_in, with_read, with_room, is_undoing, HasRooms}
use Rattle.desks.specs.Holding.{AreFew, IsLast, IsGoingBack, SearchHeld, said_beside, newest_place}
use Rattle.law_held_steps.proofs.{AnyStep.IsGiven, AnyStep.is_given, Putting.read_there, Putting.ready_undoes_not}
use Rattle.law_other_places.specs.Beside.{LeavesSession}
use Rattle.desks.specs.Holding.{RowsHeld, RowHeld, RowHeldAt, works_in}
use Rattle.law_locked_rows.specs.Owning.{HasAlone, AreOwned}
use Rattle.law_locked_rows.specs.Owning.{KeepsAlone}
use Rattle.law_locked_rows.specs.Many.{IsHeldByAll, DoesFor}
use Rattle.law_other_places.specs.Steps.{MayPut, IsReady}
use Rattle.law_other_places.proofs.{Rows.last_place, BackSteps.back_kept, Begins.taking_begins, Begins.begun_own}
use Rattle.law_locked_rows.proofs.Holding.{held_after}
use Rattle.law_locked_rows.proofs.Making.{may_of_owner}
use Rattle.law_locked_rows.proofs.Owning.{owned_after, works_apart}

some_number : (a b : ℕ) → Some a ≡ Some b → a ≡ b
some_number a b same = cc

some_desk : (a b : Desk) → Some a ≡ Some b → a ≡ b
some_desk a b same = cc

-- ---- steps that change pairs alone, or nothing

module _ {t : ℕ} {store : Store} {granted : List Lock} (held : IsHeldByAll store granted) {new : WorldState} (rest : ChangesPairsAlone store.world new)
    (versions : Stays store.world.versions new.versions) (told : IsTold store.world) (tells : IsTold new)
    (places : (index : ℕ) → (new.indexes index).place ≡ (store.world.indexes index).place) {was now : Desk} {desks : List Desk}
    (gives : IsGiven t was now store.desks desks) where
  abbrev pub beside : Store
  beside = record store { world = new; desks = desks }

  does : DoesFor t held.chains held.chains store beside
  does = record {
    agreed = held.agrees;
    agrees = agrees_beside rest held.agrees;
    adds = inl (ap (λ (x : WorldState). x.past) rest);
    told = told;
    tables = λ n schema is. ap (λ (x : WorldState). slice_get x.schemas n) rest ∙ is;
    sessions = λ u differs. ap (λ (x : WorldState). slice_get x.sessions u) rest;
    desks = gives.others;
    places = λ u index differs. ap (λ (place : ℕ → Option Pair). place u) (places index);
    rights = λ u differs is. absurd (differs (sym (some_number t u is)));
    back = λ u differs is. absurd (differs (sym (some_number t u is)));
    changes = inl refl;
    kept = inl (refl, λ pointer found is. ap (λ (f : ℕ → Option _). f pointer) (versions.kept tells.versions) ∙ is);
  }

  pub held_pairs : {granted_now : List Lock} → SearchHeld held.chains (record beside { writer = None }) t now.doing → HasRooms now
      → RowsHeld held.chains new desks → LogsAgree new → AreOwned new desks granted_now → AreApart granted_now → IsHeldByAll beside granted_now
  held_pairs search rooms rows logs owned apart =
      let past = ap (λ (x : WorldState). x.past) rest in
      let names = ap (λ (x : WorldState). x.names) rest in
      held_after held does (record {
        replies = λ session has busy. held.has_room.replies t session (sym (ap (λ (x : WorldState). slice_get x.sessions t) rest) ∙ has)
            (sym (ap (λ h. is_some (under_way t h)) past) ∙ busy);
        acks = λ session has waits. held.has_room.acks t session (sym (ap (λ (x : WorldState). slice_get x.sessions t) rest) ∙ has)
            (sym (ap (λ h. awaits_ack (of_item t h)) past) ∙ waits);
        ends = λ session work has. held.has_room.ends t session work (work_beside t session work store.world new rest has);
        started = ap (started t) past ∙ held.started t ∙ sym (ap started_in gives.here ∙ gives.started ∙ sym (ap started_in gives.before));
        search = subst (λ found. SearchHeld held.chains (record beside { writer = None }) t (doing_in found)) (sym gives.here) search;
        rooms = λ desk is. subst HasRooms (some_desk now desk (sym gives.here ∙ is)) rooms;
      }) (subst FitsThen (sym past) held.fits) rows owned apart logs (gives.count ∙ held.count ∙ ap length (sym names))
      (subst (λ (n : List (List ℕ)). length n ≤ 68) (sym names) held.few)
      (subst (λ (h : List Event). store.cuts ≤ length h) (sym past) held.cut) (subst (AreFew held.chains) (sym past) held.short)

  -- who owned a place owns it, where this session is at work at what is its own
  pub owned_pairs : {granted_now : List Lock} → ((s : ℕ) → KeepsAlone s store.world granted granted_now)
      → ((place : Place) → works_in new t now.doing ≡ Some place → works_in store.world t was.doing ≡ Some place ⊎ (list_any (is_at store.world.schemas place)
      (own t store.world.past) ≡ true)) → AreOwned new desks granted_now
  owned_pairs keeps works =
      let past = ap (λ (x : WorldState). x.past) rest in
      let schemas = ap (λ (x : WorldState). x.schemas) rest in
      owned_after t held.owned schemas (λ s differs. left s) gives.others (λ s differs. keeps s)
      (λ place has. still place keeps (held.owned.changed t place (sym (λ i. list_any (is_at (schemas i) place) (own t (past i))) ∙ has)))
      (λ place is. still place keeps (elim (works place (sym (ap (λ d. works_in new t (doing_in d)) gives.here) ∙ is)) [
        | inl was_there ↦ held.owned.working t place (ap (λ d. works_in store.world t (doing_in d)) gives.before ∙ was_there)
        | inr changed ↦ held.owned.changed t place changed
      ]))
    where
      left : (s : ℕ) → LeavesSession s store.world new
      left s = record { session = ap (λ (x : WorldState). slice_get x.sessions s) rest; own_is = ap (λ (x : WorldState). own s x.past) rest }

      still : (place : Place) {granted_now : List Lock} → ((s : ℕ) → KeepsAlone s store.world granted granted_now) → HasAlone t place store.world granted
          → HasAlone t place new granted_now
      still place keeps is = record {
        session = is.session;
        work = is.work;
        has_work = record { session_is = (left t).session ∙ is.has_work.session_is; work_is = is.has_work.work_is };
        key = is.key;
        key_is = record {
          schema = is.key_is.schema;
          there = ap (λ (x : WorldState). slice_get x.schemas place.table) rest ∙ is.key_is.there;
          at = is.key_is.at;
        };
        alone = keeps t is.session is.work _ is.key is.has_work is.alone;
      }

-- ---- the undo record is read

module _ (t : ℕ) (store : Store) (granted : List Lock) (held : IsHeldByAll store granted) (desk : Desk) (at_desk : desk_at t store.desks ≡ Some desk)
    (logged : Logged) (place : Place) (last : IsLast store.world t logged place) (new : WorldState) (was : IsTold store.world) (told : IsTold new)
    (now : List Lock) (apart : AreApart now) (keeps : (s : ℕ) → KeepsAlone s store.world granted now) (read : UndoRoom) (there : Bool)
    (reads : ReadsLast t t (read_into read) there store.world new Done) (ready : IsReady desk.doing) (room : HoldsRecord read) where
  abbrev old : WorldState
  old = store.world

  abbrev reading : Desk
  reading = record desk { undo = read; doing = Undoing }

  abbrev desks_now : List Desk
  desks_now = with_read t read store.desks

  gives : IsGiven t desk reading store.desks desks_now
  gives = is_given t (λ (d : Desk). record d { undo = read; doing = Undoing }) store.desks at_desk refl

  rooms_were : HasRooms desk
  rooms_were = held.rooms t desk at_desk

  anew : desk.room.stage ≡ Find
  anew = rooms_were.anew (ready_undoes_not desk.doing ready)

  may : (other : Place) → list_any (is_at old.schemas other) (own t old.past) ≡ true → MayPut t other old store.desks
  may other changed = may_of_owner held.agrees held.apart held.owned t other (held.owned.changed t other changed)

  leaves : LeavesRows old new
  leaves = record {
    schemas = ap (λ (state : WorldState). state.schemas) reads.1.rest;
    pairs = λ index. (reads.1.indexes index).pairs;
    versions = reads.1.versions;
  }

  left : (s : ℕ) → LeavesSession s old new
  left s = record {
    session = ap (λ (state : WorldState). slice_get state.sessions s) reads.1.rest;
    own_is = ap (λ (state : WorldState). own s state.past) reads.1.rest;
  }

  is_read : (found : Logged) (at_place : Place) → IsLast old t found at_place → read_into read ≡ found.undo
  is_read found at_place its = read_there its.work.log found its.log (read_into read) there its.log_is (reads.0 its.session its.work its.has_work)

  pub begun_held : IsHeldByAll (record store { world = new; desks = desks_now }) now
  begun_held = held_pairs held reads.1.rest reads.1.versions was told (λ index. (reads.1.indexes index).place) gives (record {})
      (record { record_room = room; whole = rooms_were.whole; anew = λ none. anew })
      (taking_begins t held.rows held.logs may desk at_desk rooms_were.whole anew last was told leaves (agrees_beside reads.1.rest held.agrees) left read
      is_read ready desks_now gives.here gives.others).1
      (all_left store.world new (rows_leave store.world new leaves) (logs_beside store.world new reads.1.rest) held.logs)
      (owned_pairs held reads.1.rest reads.1.versions was told (λ index. (reads.1.indexes index).place) gives keeps
      (λ other works. inr (begun_own t held.rows held.logs may desk at_desk rooms_were.whole anew last was told leaves
      (agrees_beside reads.1.rest held.agrees) left read is_read ready desks_now gives.here gives.others other works))) apart

-- ---- a step

-- what is known of it at its session's desk
pub going_back : (t : ℕ) (store : Store) (granted : List Lock) (held : IsHeldByAll store granted) (desk : Desk) → desk_at t store.desks ≡ Some desk
    → desk.doing ≡ Undoing → IsGoingBack held.chains (said_beside held.chains held.rows.said store.world store.desks t) store.world t (read_into desk.undo)
    desk.room
going_back t store granted held desk at_desk doing =
    subst (RowHeld held.chains (said_beside held.chains held.rows.said store.world store.desks t) store.world t (read_into desk.undo) desk.room) doing
    (subst (RowHeldAt held.chains (said_beside held.chains held.rows.said store.world store.desks t) store.world t) at_desk (held.rows.each t))

module _ (t : ℕ) (store : Store) (new : WorldState) (granted now : List Lock) (held : IsHeldByAll store granted) (was : IsTold store.world)
    (told : IsTold new) (apart : AreApart now) (keeps : (s : ℕ) → KeepsAlone s store.world granted now) (desk : Desk)
    (at_desk : desk_at t store.desks ≡ Some desk) (doing : desk.doing ≡ Undoing) (next : WorkRoom)
    (leaves : LeavesRecords store.world new × ChangesPairsAlone store.world new)
    (its : (schema : Schema) → slice_get new.schemas (read_into desk.undo).table ≡ Some schema → ChangesOneEntry schema (read_into desk.undo) store.world new)
    (places : (index : ℕ) → (new.indexes index).place ≡ (store.world.indexes index).place) where
  abbrev beside_was : Said
  beside_was = said_beside held.chains held.rows.said store.world store.desks t

  module _ (going : IsGoingBack held.chains beside_was store.world t (read_into desk.undo) desk.room)
      (holds : IsPuttingBack held.chains beside_was going.place (read_into desk.undo) next new) where
    abbrev later : Desk
    later = record desk { room = next }

    abbrev on_desks : List Desk
    on_desks = with_room t next store.desks

    on_gives : IsGiven t desk later store.desks on_desks
    on_gives = is_given t (λ (d : Desk). record d { room = next }) store.desks at_desk refl

    works_was : works_in store.world t desk.doing ≡ Some going.place
    works_was = ap (works_in store.world t) doing ∙ last_place going.last

    works_at_desk : works_in store.world t (doing_at t store.desks) ≡ Some going.place
    works_at_desk = ap (λ d. works_in store.world t (doing_in d)) at_desk ∙ works_was

    pub went_on : IsHeldByAll (record store { world = new; desks = on_desks }) now
    went_on = held_pairs held leaves.1 leaves.0.versions was told places on_gives
        (subst (λ d. SearchHeld held.chains (record store { world = new; writer = None; desks = on_desks }) t d) (sym doing) (record {}))
        (record {
          record_room = (held.rooms t desk at_desk).record_room;
          whole = holds.whole;
          anew = λ none. absurd (true≢false (sym (ap is_undoing doing) ∙ none));
        })
        (back_kept t on_desks held.rows held.logs was told (agrees_beside leaves.1 held.agrees) desk later at_desk on_gives.here doing doing refl going
        leaves its holds (record {
          same = on_gives.others;
          apart = λ s other differs works. works_apart held.agrees held.apart held.owned t (held.owned.working t going.place works_at_desk) s other
              differs works;
        }))
        (all_left store.world new leaves.0 (logs_beside store.world new leaves.1) held.logs)
        (owned_pairs held leaves.1 leaves.0.versions was told places on_gives keeps
        (λ place works. inl (works_was ∙ sym (ap (λ d. works_in new t d) doing ∙ (λ i. newest_place (leaves.0.schemas i)
        (own_beside t store.world new leaves.1 i)) ∙ last_place going.last) ∙ works))) apart
