-- The newest change of a session is taken back: its rows, then its undo record, and then the history tells it. That keeps what is held of all
-- sessions.
use Rattle.std.proofs.Common.{◌≡◌, ◌≢◌, ◌∙◌, inl, inr, ⊎_elim, refl, sym, ap, subst, ℕ, ◌+◌, ◌-◌, ◌≤◌, ◌<◌, ◌^◌, true, false, List, ◌∷◌, length}
use Rattle.std.proofs.Common.{Option, None, Some, slice_get, arith, eq-eqb}
use Rattle.std.proofs.lemmas.Bool.{cases_Bool, true≢false}
use Rattle.std.specs.{Prelude.is_some, List.list_any}
use Rattle.inno_types.specs.{declared.lock.Lock.Lock, declared.value.Schema.Schema}
use Rattle.inno_model.specs.{Past.own, Past.started, Past.under_way, Past.of_item, Past.awaits_ack, declared.event.Event.Event}
use Rattle.inno_model.specs.declared.event.Event.TheVariants.{Undone}
use Rattle.entries.specs.Pairs.{Pair}
use Rattle.row_versions.specs.{declared.place.Place.Place, Chains.is_same_place}
use Rattle.law_past_agreement.specs.Rows.{is_at}
use Rattle.law_stored_rows.specs.{Edits.clustered_index, Tables.Said}
use Rattle.law_stored_rows.proofs.Values.{same_place}
use Rattle.law_locks.specs.Guards.{has_alone}
use Rattle.lock_rules.proofs.Booleans.{or_right}
use Rattle.world.specs.State.{WorldState, Session, Work}
use Rattle.world.specs.{Told.IsTold, Undoing.read_into, Undoing.IsCutBack, Sessions.undone_added}
use Rattle.law_world_agreement.proofs.Changing.{one_session, one_work}
use Rattle.shared_lists.specs.Fitting.{FitsThen}
use Rattle.undo_apply.specs.{Stages.IsDone, declared.work_room.WorkRoom.WorkRoom}
use Rattle.law_logged_changes.proofs.Logs.{key_told}
use Rattle.lock_table.specs.Queue.{AreApart}
use Rattle.desks.specs.declared.desk.Doing.TheVariants.{Nothing, Undoing}
use Rattle.desks.specs.declared.desk.Desk.{Desk}
use Rattle.desks.specs.Desks.{Store, desk_at, doing_in, doing_at, started_in, with_doing, with_room, HasRooms}
use Rattle.desks.specs.Holding.{IsLast, IsGoingBack, SearchHeld, said_beside, works_in}
use Rattle.law_other_places.specs.{Beside.IsKeyOf, Undone.IsUndone}
use Rattle.law_other_places.proofs.{Rows.last_place, Rows.last_log, DoneSteps.done_kept, Frames.other_key, Undone.putting, Undone.own_now}
use Rattle.law_other_places.proofs.Undone.{after, session_now, work_now, has_work_now, is_then, past_now, others_left, places_left, had}
use Rattle.law_other_places.proofs.Undone.{agrees_now, few_now, logs_now}
use Rattle.law_held_steps.proofs.AnyStep.{IsGiven, is_given, given_then, waits_not}
use Rattle.law_locked_rows.specs.{Owning.HasAlone, Owning.KeepsAlone, Many.IsHeldByAll, Many.DoesFor}
use Rattle.law_locked_rows.proofs.{Holding.held_after, Owning.owned_after, Owning.works_apart, Owning.alone_at, Firsts.first_alone}

some_number : (a b : ℕ) → Some a ≡ Some b → a ≡ b
some_number a b same = cc

some_desk : (a b : Desk) → Some a ≡ Some b → a ≡ b
some_desk a b same = cc

module _ (t keep : ℕ) (store : Store) (mid cut new : WorldState) (granted : List Lock) (held : IsHeldByAll store granted) (told : IsTold store.world)
    (tells : IsTold new) (desk : Desk) (at_desk : desk_at t store.desks ≡ Some desk) (doing : desk.doing ≡ Undoing) (next : WorkRoom)
    (going : IsGoingBack held.chains (said_beside held.chains held.rows.said store.world store.desks t) store.world t (read_into desk.undo) desk.room)
    (done : IsDone held.chains (said_beside held.chains held.rows.said store.world store.desks t) going.place
    (read_into desk.undo) desk.room next store.world mid)
    (back : IsCutBack t mid cut)
    (new_is : new ≡ undone_added t keep (record back.session { undo_room = 0; next_pointer = back.next; work = Some (record back.work { log = back.log }) })
    (record back.work { log = back.log }) cut)
    (keep_is : keep ≡ length (own t store.world.past) - 1) (few : length new.past < 2 ^ 63) where
  abbrev source : WorldState
  source = store.world

  abbrev beside : Said
  beside = said_beside held.chains held.rows.said source store.desks t

  abbrev last : IsLast source t going.logged going.place
  last = going.last

  -- ---- its place is its own

  works_at : works_in source t (doing_at t store.desks) ≡ Some going.place
  works_at = ap (λ d. works_in source t (doing_in d)) at_desk ∙ ap (works_in source t) doing ∙ last_place last

  abbrev its_own : HasAlone t going.place source granted
  its_own = held.owned.working t going.place works_at

  abbrev u : IsUndone t keep held.chains beside source mid cut new (read_into desk.undo) desk.room next
  u = record {
    going = going;
    done = done;
    back = back;
    new_is = new_is;
    keep_is = keep_is;
    alone = alone_at held.agrees held.apart held.owned t its_own;
  }

  past : new.past ≡ Undone t keep ∷ source.past
  past = past_now u

  schemas_now : new.schemas ≡ source.schemas
  schemas_now = ap (λ (state : WorldState). state.schemas) (is_then u)

  -- ---- the store

  abbrev pub taken : Store
  taken = record store { world = new; desks = with_doing t Nothing (with_room t next store.desks); cuts = store.cuts + 1 }

  gives : IsGiven t desk (record desk { room = next; doing = Nothing }) store.desks taken.desks
  gives =
      given_then (is_given t (λ d. record d { room = next }) store.desks at_desk refl)
      (is_given t (λ d. record d { doing = Nothing }) (with_room t next store.desks)
      (is_given t (λ d. record d { room = next }) store.desks at_desk refl).here refl)

  does : DoesFor t held.chains (after u) store taken
  does = record {
    agreed = held.agrees;
    agrees = agrees_now u held.agrees few;
    adds = inr (Undone t keep, eq-eqb t t refl, past);
    told = told;
    tables = λ n schema is. ap (λ (x : WorldState). slice_get x.schemas n) (is_then u) ∙ is;
    sessions = λ s differs. (others_left u s differs).session;
    desks = gives.others;
    places = λ s index differs. ap (λ (place : ℕ → Option Pair). place s) (places_left u index);
    rights = λ s differs is. absurd (differs (sym (some_number t s is)));
    back = λ s differs is. absurd (differs (sym (some_number t s is)));
    changes = inr refl;
    kept = inr refl;
  }

  -- The others keep the locks of records that they have alone; so does the session, but for that of a record that goes.
  module _ (now : List Lock) (apart : AreApart now) (keeps : (s : ℕ) → s ≢ t → KeepsAlone s source granted now)
      (keeps_mine : (index : ℕ) (key : List ℕ)
      → (going.logged.undo.kind ≡ 1 → index ≡ clustered_index going.logged.undo.table → key ≡ going.logged.undo.key → ⊥)
      → has_alone back.work.txn index key granted ≡ true → has_alone back.work.txn index key now ≡ true) where
    its_key : IsKeyOf going.place source.schemas going.logged.undo.key
    its_key = record {
      schema = (putting u).schema;
      there = ap (slice_get source.schemas) (putting u).tells.table_is ∙ (putting u).tells.there;
      at = key_told (putting u).tells;
    }

    -- a place that it has changed before is none of which the record goes
    not_gone : (place : Place) (key : List ℕ) → IsKeyOf place source.schemas key → list_any (is_at source.schemas place) last.before ≡ true
        → going.logged.undo.kind ≡ 1 → clustered_index place.table ≡ clustered_index going.logged.undo.table → key ≡ going.logged.undo.key → ⊥
    not_gone place key key_is has kind index key_same = elim (cases_Bool (is_same_place going.place place)) [
      | inl same ↦ true≢false (sym has
          ∙ subst (λ (p : Place). list_any (is_at source.schemas p) last.before ≡ false) (same_place going.place place same)
          (first_alone told going.logged last.log last.change last.before going.place (last_log held.logs last) last.place_is kind its_key
          (putting u).tells.table_is))
      | inr apart ↦ ⊎_elim (λ tables. tables (let is = (putting u).tells.table_is in omega (arith, index, is))) (λ keys. keys key_same)
          (other_key going.place place source.schemas going.logged.undo.key key its_key key_is apart)
    ]

    -- of the changes that are left it has the places
    changed_yet : (place : Place) → list_any (is_at new.schemas place) (own t new.past) ≡ true → HasAlone t place new now
    changed_yet place has =
        let before : list_any (is_at source.schemas place) last.before ≡ true =
        ap (λ (x : List Schema). list_any (is_at x place) last.before) (sym schemas_now) ∙ sym (ap (list_any (is_at new.schemas place)) (own_now u)) ∙ has in
        let fewer : list_any (is_at source.schemas place) (own t source.past) ≡ true =
        ap (list_any (is_at source.schemas place)) last.own_is ∙ or_right (is_at source.schemas place last.change) _ before in
        let is = held.owned.changed t place fewer in
        let one = one_session t is.session back.session source is.has_work.session_is (had u).session_is in
        let same = one_work t is.session back.session is.work back.work source is.has_work (had u) in
        record {
          session = session_now u;
          work = work_now u;
          has_work = has_work_now u;
          key = is.key;
          key_is = record {
            schema = is.key_is.schema;
            there = ap (λ (x : List Schema). slice_get x place.table) schemas_now ∙ is.key_is.there;
            at = is.key_is.at;
          };
          alone = keeps_mine (clustered_index place.table) is.key (not_gone place is.key is.key_is before)
              (subst (λ (w : Work). has_alone w.txn (clustered_index place.table) is.key granted ≡ true) same is.alone);
        }

    pub taken_held : IsHeldByAll taken now
    taken_held =
        let long = ap length past in
        let names : new.names ≡ source.names = ap (λ (x : WorldState). x.names) (is_then u) in
        held_after held does (record {
          replies = λ session is busy. subst (λ (x : Session). x.can_reply ≡ true) (one_session t (session_now u) session new (has_work_now u).session_is is)
              (held.has_room.replies t back.session (had u).session_is (sym (ap is_some (ap (under_way t) past)) ∙ busy));
          acks = λ session is waits. absurd (waits_not t (Undone t keep ∷ of_item t source.past) source.past
              (sym (ap (λ (h : List Event). awaits_ack (of_item t h)) past) ∙ waits) refl);
          ends = λ session work has. ap (λ (w : Work). w.can_end) (one_work t session (session_now u) work (work_now u) new has (has_work_now u))
              ∙ held.has_room.ends t back.session back.work (had u);
          started = ap (started t) past ∙ held.started t ∙ sym (ap started_in gives.here ∙ gives.started ∙ sym (ap started_in gives.before));
          search = subst (λ found. SearchHeld (after u) (record taken { writer = None }) t (doing_in found)) (sym gives.here) (record {});
          rooms = λ found is. subst HasRooms (some_desk (record desk { room = next; doing = Nothing }) found (sym gives.here ∙ is)) (record {
            record_room = (held.rooms t desk at_desk).record_room;
            whole = done.whole;
            anew = λ none. done.anew;
          });
        }) (subst FitsThen (sym past) held.fits)
        (done_kept t keep held.rows held.logs told tells (ap doing_in at_desk ∙ doing) u (ap doing_in gives.here) (record {
          same = gives.others;
          apart = λ s other differs works. works_apart held.agrees held.apart held.owned t its_own s other differs works;
        }) (agrees_now u held.agrees few))
        (owned_after t held.owned schemas_now (others_left u) gives.others keeps changed_yet
        (λ place works. absurd (let e : None ≡ Some place = sym (ap (λ d. works_in new t (doing_in d)) gives.here) ∙ works in cc))) apart
        (logs_now u held.logs) (gives.count ∙ held.count ∙ ap length (sym names)) (subst (λ (n : List (List ℕ)). length n ≤ 68) (sym names) held.few)
        (omega (arith, held.cut, long)) (few_now u held.short)
