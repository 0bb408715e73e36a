-- An entry that changes no row leaves all that is held: one session is another then, and the desks are as they were but its own. Such entries are
-- items that start and end, commits that are acknowledged, signals, what sessions set, and transactions that open, take views, keep savepoints and end.
use Rattle.std.proofs.Common.{◌≡◌, ◌≢◌, ℕ, ◌+◌, ◌<◌, true, Option, Some, None, List, length, refl, sym, ap, ◌∙◌, inl, arith, ◌⊎◌, subst, [], ◌^◌, false, ◌∷◌}
use Rattle.std.proofs.Common.{inr, eq-eqb, ⊎_elim, Bool, cond, zero, suc, ◌++◌, ◌≤◌}
use Rattle.std.proofs.lemmas.List.{length-set, set-get_or, length-map, length-append}
use Rattle.std.proofs.lemmas.Option.{get_or_from_slice_get, slice_get-map, slice_get_within, slice_get_past}
use Rattle.std.proofs.{lemmas.Bool.Decides.nat_tests, lemmas.Bool.Decides.eqb_tells, lemmas.Bool.false≢true}
use Rattle.std.specs.Prelude.{slice_get, is_some, option_map, ◌≤◌, slice_set, IsSome, IsTrue}
use Rattle.inno_model.specs.Past.{own, started, under_way, of_item, awaits_ack, level, IsOpen, IsClosed}
use Rattle.inno_model.specs.declared.event.Event.TheVariants.{Started, Ended, Acked, Signal, Begin, View, Committed, RolledBack, Changed}
use Rattle.inno_model.specs.declared.event.Event.{Event}
use Rattle.world.specs.State.{WorldState, Session, Work, IsSession, HasWork}
use Rattle.inno_db.specs.Indexes.{index_of}
use Rattle.world.specs.EngineCalls.{item_started, acknowledged, signalled, fresh_session, joined}
use Rattle.world.specs.{Told.IsTold, Told.LeavesRows, Told.pairs_in, Told.pairs_of, Sessions.fresh_work, Sessions.of_txn, Sessions.change_txn}
use Rattle.world.specs.{Sessions.with_save, Endings.IsCommitted, Endings.IsRolledBack}
use Rattle.law_logged_changes.specs.{Steps.LeavesLog, Steps.HasNoLog, Steps.LeavesLogs, Steps.OfAll, Logs.LogsAgree, Logs.IsLogOf}
use Rattle.desks.specs.Desks.{desk_at, with_start, doing_at, started_at, is_quiet_doing, HasRooms, doing_in, started_in, IsNewDesk, Store}
use Rattle.desks.specs.{Holding.SearchHeld, Holding.IsHeld, Holding.IsFresh}
use Rattle.desks.specs.{declared.desk.Desk.Desk, declared.desk.Doing.TheVariants.Nothing, Leaves.Does}
use Rattle.row_versions.specs.Versions.{Versions, Stays}
use Rattle.law_logged_changes.proofs.Leaving.{rows_leave, all_left, more_grow}
use Rattle.law_other_places.proofs.{Sessions.each, Quiet.quiet_coded, Quiet.quiet_rows}
use Rattle.law_held_steps.proofs.AnyStep.{some_same, others_past, past_grows, quiet_step, held_after, waits_not, desk_elsewhere, as_many}
use Rattle.law_held_steps.proofs.Apart.{others_clean, others_quiet}
use Rattle.law_world_agreement.proofs.Entries.{started_agrees, ended_agrees, acked_agrees, signal_agrees, unentered_agrees}
use Rattle.law_world_agreement.proofs.{Opening.set_here, Opening.set_other, Opening.opened_agrees, Opening.viewed_agrees, Ending.one_session_of}
use Rattle.law_world_agreement.proofs.{Ending.committed_agrees, Ending.rolled_back_agrees, Joining.first_agrees, Joining.joined_agrees, Changing.created_agrees}
use Rattle.law_world_agreement.specs.{Steps.IsEntered as IsSettled, Steps.opened, Steps.viewed, Steps.session_begun, Steps.IsChangedBy, Agreement.Agrees}
use Rattle.law_past_agreement.specs.{Agreement.owed_by, Agreement.owed_by_txn, Agreement.owed_by_item, Slots.writer_without, Order.MayCome}
use Rattle.law_stored_rows.specs.Tables.{HasItsColumns, HasNoPairs, AreCoded}
use Rattle.law_stored_rows.specs.{Storable.IsStorable, Storable.IsKeyOn, Edits.clustered_index, Edits.key_index}
use Rattle.law_held_steps.specs.Leaving.{LeavesDesks, HasSameRows}
use Rattle.entries.specs.{Index.Index, Index.AreKept, Pairs.Pair, Lists.empty_index}
use Rattle.shared_lists.specs.Fitting.{FitsThen}
use Rattle.law_found_rows.specs.Pasts.{AddsAtMostOne}
use Rattle.sql_history.specs.Settings.{at_end, saved}
use Rattle.law_past_agreement.proofs.Ids.{ids_of}
use Rattle.txn_table.specs.Txns.{ids_of as listed_ids}
use Rattle.row_changes.proofs.Sessions.{same_pairs, same_versions}
use Rattle.inno_types.specs.{declared.reply.Item.Item, declared.reply.Reply.Reply, declared.lock.Level.Level, declared.value.Schema.Schema}
use Rattle.inno_db.specs.declared.change.Change.TheVariants.{Create}
use Rattle.law_stored_rows.proofs.Made.{a_table_more}
use Rattle.row_changes.specs.Told.{HasRows}

-- a transaction whose log and changes are as they were
pub same_log : {t : ℕ} {old new : WorldState} {session : Session} {before work : Work} → HasWork t session before old → work.log ≡ before.log
    → own t new.past ≡ own t old.past → LeavesLog t work old new ⊎ HasNoLog t work new
same_log {session} {before} has log_is own_is = inl (record { session = session; before = before; has_work = has; log_is = log_is; own_is = own_is })

pub start_here : (desks : List Desk) (t : ℕ) → t < length desks → started_at t (with_start t desks) ≡ started_at t desks + 1
start_here [] t within = absurd (omega (arith, within))
start_here (desk ∷ desks) zero within = refl
start_here (desk ∷ desks) (suc t) within = start_here desks t (omega (arith, within))

-- what it does, and its rooms, are as they were
starts_still : (desks : List Desk) (t : ℕ) → doing_at t (with_start t desks) ≡ doing_at t desks
starts_still [] t = refl
starts_still (desk ∷ desks) zero = refl
starts_still (desk ∷ desks) (suc t) = starts_still desks t

rooms_still : (desks : List Desk) (t : ℕ) → ((desk : Desk) → desk_at t desks ≡ Some desk → HasRooms desk) → (desk : Desk)
    → desk_at t (with_start t desks) ≡ Some desk → HasRooms desk
rooms_still [] t rooms desk at = rooms desk at
rooms_still (first ∷ desks) zero rooms desk at =
    let has = rooms first refl in
    let same : record first { started = first.started + 1 } ≡ desk = (let e : Some (record first { started = first.started + 1 }) ≡ Some desk = at in cc) in
    subst HasRooms same (record { record_room = has.record_room; whole = has.whole; anew = has.anew })
rooms_still (first ∷ desks) (suc t) rooms desk at = rooms_still desks t rooms desk at

without_other : (writer : Option ℕ) (t s : ℕ) → s ≢ t → writer ≡ Some s → writer_without writer t ≡ Some s
without_other None t s differ is = cc
without_other (Some w) t s differ is = grind (arith, nat_tests, differ, is)

without_back : (writer : Option ℕ) (t s : ℕ) → writer_without writer t ≡ Some s → writer ≡ Some s
without_back None t s is = cc
without_back (Some w) t s is = grind (arith, nat_tests, is)

module _ {t : ℕ} {store : Store} {new : WorldState} (others : (s : ℕ) → s ≢ t → slice_get new.sessions s ≡ slice_get store.world.sessions s)
    (rooms : (desk : Desk) → desk_at t store.desks ≡ Some desk → HasRooms desk) where
  pub same_writer : LeavesDesks t store (record store { world = new })
  same_writer = record {
    sessions = others;
    same = λ s differ. refl;
    doing = refl;
    rooms = rooms;
    rights = λ s differ is. is;
    back = λ s differ is. is;
    cuts = refl;
  }

  pub started_desks : LeavesDesks t store (record store { world = new; desks = with_start t store.desks })
  started_desks = record {
    sessions = others;
    same = λ s differ. desk_elsewhere t s (λ (desk : Desk). record desk { started = desk.started + 1 }) store.desks differ;
    doing = starts_still store.desks t;
    rooms = rooms_still store.desks t rooms;
    rights = λ s differ is. is;
    back = λ s differ is. is;
    cuts = refl;
  }

  pub closed_desks : LeavesDesks t store (record store { world = new; writer = writer_without store.writer t })
  closed_desks = record {
    sessions = others;
    same = λ s d. refl;
    doing = refl;
    rooms = rooms;
    rights = without_other store.writer t;
    back = λ s d. without_back store.writer t s;
    cuts = refl;
  }

abbrev work_in : Option Session → Option (Option Work)
work_in found = option_map (λ (session : Session). session.work) found

pub works_by : (t : ℕ) {before after : Session} (sessions now : List Session) → slice_get sessions t ≡ Some before → slice_get now t ≡ Some after → after.work ≡
    before.work → ((u : ℕ) → u ≢ t → slice_get now u ≡ slice_get sessions u) → (u : ℕ) → work_in (slice_get now u) ≡ work_in (slice_get sessions u)
works_by t sessions now there here same others =
    each t (λ u. work_in (slice_get now u) ≡ work_in (slice_get sessions u)) (ap work_in here ∙ (ap Some same ∙ sym (ap work_in there)))
    (λ u differ. ap work_in (others u differ))

leaves_rows : {old new : WorldState} → HasSameRows old new → LeavesRows old new
leaves_rows {old} same = record {
  schemas = same.schemas;
  pairs = λ index. subst (λ (indexes : ℕ → Index). AreKept (old.indexes index).pairs (indexes index).pairs) (sym same.indexes)
      (same_pairs (old.indexes index).pairs);
  versions = subst (λ versions. Stays old.versions versions) (sym same.versions) (same_versions old.versions);
}

rows_told : {old new : WorldState} → HasSameRows old new → IsTold old → IsTold new
rows_told same told = record {
  pairs = λ index. subst (λ (indexes : ℕ → Index). IsSome (indexes index).pairs) (sym same.indexes) (told.pairs index);
  versions = subst (λ (versions : Versions). IsTrue versions.told) (sym same.versions) told.versions;
}

-- what holds then, by what the session's state is
module _ {t : ℕ} {old new : Store} (held : IsHeld old) (rests : doing_at t old.desks ≡ Nothing) {after : Session} (told : IsTold old.world)
    (here : slice_get new.world.sessions t ≡ Some after) (rows : HasSameRows old.world new.world) (others : LeavesDesks t old new)
    (agrees : Agrees held.chains new.world) (adds : AddsAtMostOne t old.world.past new.world.past) where
  rests_now : doing_at t new.desks ≡ Nothing
  rests_now = others.doing ∙ rests

  does : Does t held.chains held.chains old new
  does = record {
    agreed = held.agrees;
    agrees = agrees;
    adds = adds;
    told = told;
    tables = λ n schema there. ap (λ schemas. slice_get schemas n) rows.schemas ∙ there;
    sessions = others.sessions;
    desks = others.same;
    places = λ s index differ. ap (λ (indexes : ℕ → Index). (indexes index).place s) rows.indexes;
    rights = others.rights;
    back = others.back;
    changes = inl refl;
    kept = inl (others.cuts, λ pointer found there. ap (λ (versions : _). versions.kept_at pointer) rows.versions ∙ there);
  }

  one : (session : Session) → IsSession t session new.world → session ≡ after
  one session has = some_same session after (sym has ∙ here)

  had : (session : Session) (work : Work) → HasWork t session work new.world → after.work ≡ Some work
  had session work has = ap (λ (s : Session). s.work) (sym (one session has.session_is)) ∙ has.work_is

  log_of : ((work : Work) → after.work ≡ Some work → LeavesLog t work old.world new.world ⊎ HasNoLog t work new.world)
      → LeavesLogs OfAll old.world new.world
  log_of log s session work any has =
      each t (λ u. HasWork u session work new.world → LeavesLog u work old.world new.world ⊎ HasNoLog u work new.world)
      (λ has. log work (had session work has)) (λ u differ has.
      same_log (record { session_is = sym (others.sessions u differ) ∙ has.session_is; work_is = has.work_is }) refl
      (others_past t u old.world.past new.world.past differ adds).own_is) s has

  pub entered_by : length new.desks ≡ length new.world.names → length new.world.names ≤ 68 → FitsThen new.world.past
      → ((work : Work) → after.work ≡ Some work → LeavesLog t work old.world new.world ⊎ HasNoLog t work new.world)
      → (is_some (under_way t new.world.past) ≡ true → after.can_reply ≡ true) → (awaits_ack (of_item t new.world.past) ≡ true → after.can_ack ≡ true)
      → ((work : Work) → after.work ≡ Some work → work.can_end ≡ true) → started t new.world.past ≡ started_at t new.desks
      → (new.writer ≡ Some t → IsOpen t new.world.past) → (new.writer ≢ Some t → own t new.world.past ≡ []) → IsHeld new
  entered_by count few fits log replies acks ends begun opens clean =
      let leaves : LeavesRows old.world new.world = leaves_rows rows in
      let long = past_grows t old.world.past new.world.past adds in
      held_after held does (record {
        replies = λ session has busy. ap (λ (s : Session). s.can_reply) (one session has) ∙ replies busy;
        acks = λ session has waits. ap (λ (s : Session). s.can_ack) (one session has) ∙ acks waits;
        ends = λ session work has. ends work (had session work has);
        started = begun;
        opened = opens;
        clean = clean;
        quiet = λ other. ap is_quiet_doing rests_now;
        search = subst (SearchHeld held.chains new t) (sym rests_now) tt;
        rooms = others.rooms;
      })
      fits (quiet_step held does leaves (rows_told rows told) (ap is_quiet_doing rests) (ap is_quiet_doing rests_now)) (all_left old.world new.world
      (rows_leave old.world new.world leaves) (log_of log) held.logs) count few (omega (arith, held.cut, others.cuts, long))
      (λ place. omega (arith, held.short place, long))

-- a session with other rooms for entries, and another past
abbrev pub with_past : ℕ → Session → List Event → ℕ → WorldState → WorldState
with_past t after past rows old = record old { sessions = slice_set old.sessions t after; past = past; rows = rows }

-- ---- the session of a transaction is changed

other_kept : (n : ℕ) (f : Session → Session) (session : Session) (work : Option Work) → session.work ≡ work
    → ((other : Work) → work ≡ Some other → other.txn ≢ n) → of_txn n f session work ≡ session
other_kept n f session None is differs = refl
other_kept n f session (Some other) is differs =
    ap (λ (b : Bool). cond b (f session) session) (⊎_elim (λ t. absurd (differs other refl t.1)) (λ k. k.0) (eqb_tells other.txn n))

found_kept : (g : Session → Session) (found : Option Session) → ((session : Session) → found ≡ Some session → g session ≡ session) → option_map g found ≡ found
found_kept g None same = refl
found_kept g (Some session) same = ap Some (same session refl)

pub txn_elsewhere : (n u : ℕ) (f : Session → Session) (sessions : List Session) → ((session : Session) (other : Work) → slice_get sessions u ≡ Some session
    → session.work ≡ Some other → other.txn ≢ n) → slice_get (change_txn n f sessions) u ≡ slice_get sessions u
txn_elsewhere n u f sessions differs =
    slice_get-map (λ session. of_txn n f session session.work) sessions u ∙ found_kept (λ session. of_txn n f session session.work) (slice_get sessions u)
    (λ session is. other_kept n f session session.work refl (λ other has. differs session other is has))

pub txn_here : (s n : ℕ) (session : Session) (work : Work) (f : Session → Session) (sessions : List Session) → slice_get sessions s ≡ Some session
    → session.work ≡ Some work → work.txn ≡ n → slice_get (change_txn n f sessions) s ≡ Some (f session)
txn_here s n session work f sessions there is same =
    slice_get-map (λ x. of_txn n f x x.work) sessions s ∙ ap (option_map (λ x. of_txn n f x x.work)) there
    ∙ ap Some (ap (λ w. of_txn n f session w) is ∙ ap (λ (b : Bool). cond b (f session) session) (eq-eqb work.txn n same))

module _ {store : Store} (held : IsHeld store) (t : ℕ) (rests : doing_at t store.desks ≡ Nothing) (told : IsTold store.world) (session : Session)
    (there : IsSession t session store.world) where
  abbrev old : WorldState
  old = store.world

  -- the store with another world
  abbrev in_world : WorldState → Store
  in_world world = record store { world = world }

  -- all is held with another session of the same transaction, where these facts are
  on : (after : Session) (past : List Event) (rows : ℕ) (now : List Desk) → after.work ≡ session.work
      → (IsSettled past old (with_past t after past rows old) → Agrees held.chains (with_past t after past rows old))
      → AddsAtMostOne t old.past past → own t past ≡ own t old.past → level t past ≡ level t old.past → FitsThen past
      → (is_some (under_way t past) ≡ true → after.can_reply ≡ true) → (awaits_ack (of_item t past) ≡ true → after.can_ack ≡ true)
      → LeavesDesks t store (record store { world = with_past t after past rows old; desks = now })
      → length now ≡ length old.names → started t past ≡ started_at t now → IsHeld (record store { world = with_past t after past rows old; desks = now })
  on after past rows now same agrees adds own_is level_is fits replies acks leaves count started_is =
      let settled : IsSettled past old (with_past t after past rows old) = record {
        past_is = refl;
        names = refl;
        schemas = refl;
        txns = refl;
        works = works_by t old.sessions (slice_set old.sessions t after) there (set_here old.sessions t session after there) same
            (λ u. set_other old.sessions t u after);
        count = length-set old.sessions t after;
      } in
      let was : (work : Work) → after.work ≡ Some work → HasWork t session work old = λ work is. record { session_is = there; work_is = sym same ∙ is } in
      entered_by held rests told (set_here old.sessions t session after there) (record { indexes = refl; versions = refl; schemas = refl }) leaves
      (agrees settled) adds count held.few fits (λ work is. same_log (was work is) refl own_is) replies acks
      (λ work is. held.has_room.ends t session work (was work is)) started_is (λ is. ap is_some level_is ∙ held.owned.opened t is)
      (λ other. own_is ∙ held.owned.clean t other)

  others : (after : Session) (s : ℕ) → s ≢ t → slice_get (slice_set old.sessions t after) s ≡ slice_get old.sessions s
  others after s differ = set_other old.sessions t s after differ

  leaves : (after : Session) (past : List Event) (rows : ℕ) → LeavesDesks t store (in_world (with_past t after past rows old))
  leaves after past rows = same_writer (others after) (held.rooms t)

  started_count : (j : ℕ) (item : Item) → started t (Started t j item ∷ old.past) ≡ started t old.past + 1
  started_count j item = grind (arith, nat_tests)

  pub started_held : (j : ℕ) (item : Item) → t < length old.names → under_way t old.past ≡ None → j ≡ started t old.past + 1 → length old.past + 1 < 2 ^ 63
      → IsHeld (record store { world = item_started t j item session old; desks = with_start t store.desks })
  started_held j item joined idle j_is few =
      let after : Session = record session { can_reply = true } in
      let past : List Event = Started t j item ∷ old.past in
      let within : t < length store.desks = omega (arith, joined, held.count) in
      on after past old.rows (with_start t store.desks) refl (started_agrees held.chains old (with_past t after past old.rows old) t j item held.agrees joined
      idle j_is few) (inr (Started t j item, eq-eqb t t refl, refl)) refl refl held.fits (λ busy. refl) (λ waits. absurd (waits_not t [] old.past waits refl))
      (started_desks (others after) (held.rooms t)) (as_many t _ store.desks ∙ held.count)
      (started_count j item ∙ (ap (λ n. n + 1) (held.started t) ∙ sym (start_here store.desks t within)))

  ended_none : (j : ℕ) (reply : Reply) → is_some (under_way t (Ended t j reply ∷ old.past)) ≡ false
  ended_none j reply = grind (arith, nat_tests)

  pub ended_held : (j : ℕ) (reply : Reply) (rows : ℕ) → t < length old.names → MayCome old.past (Ended t j reply) → length old.past + 1 < 2 ^ 63
      → IsHeld (in_world (with_past t (record session { can_reply = false }) (Ended t j reply ∷ old.past) rows old))
  ended_held j reply rows joined may few =
      let after : Session = record session { can_reply = false } in
      let past : List Event = Ended t j reply ∷ old.past in
      on after past rows store.desks refl (ended_agrees held.chains old (with_past t after past rows old) t j reply held.agrees joined may few)
      (inr (Ended t j reply, eq-eqb t t refl, refl)) refl refl held.fits (λ busy. absurd (false≢true (sym (ended_none j reply) ∙ busy)))
      (λ waits. absurd (waits_not t (Ended t j reply ∷ of_item t old.past) old.past waits refl)) (leaves after past rows) held.count (held.started t)

  pub acked_held : (moment : ℕ) → t < length old.names → MayCome old.past (Acked t moment) → length old.past + 1 < 2 ^ 63
      → IsHeld (in_world (acknowledged t moment session old))
  acked_held moment joined may few =
      let after : Session = record session { can_ack = false } in
      let past : List Event = Acked t moment ∷ old.past in
      on after past old.rows store.desks refl (acked_agrees held.chains old (with_past t after past old.rows old) t moment held.agrees joined may few)
      (inr (Acked t moment, eq-eqb t t refl, refl)) refl refl held.fits (held.has_room.replies t session there)
      (λ waits. absurd (waits_not t (Acked t moment ∷ of_item t old.past) old.past waits refl)) (leaves after past old.rows) held.count (held.started t)

  -- a signal changes nothing of the session: it is put where it stood
  pub signal_held : (name : List ℕ) → t < length old.names → length old.past + 1 < 2 ^ 63 → IsHeld (in_world (signalled name old))
  signal_held name joined few =
      let past : List Event = Signal name ∷ old.past in
      subst (λ (sessions : List Session). IsHeld (in_world (record old { sessions = sessions; past = past }))) (ap (slice_set old.sessions t)
      (sym (get_or_from_slice_get old.sessions t session session there)) ∙ set-get_or old.sessions t session) (on session past old.rows store.desks refl
      (signal_agrees held.chains old (with_past t session past old.rows old) t name held.agrees joined few) (inr (Signal name, tt, refl)) refl refl held.fits
      (held.has_room.replies t session there) (held.has_room.acks t session there) (leaves session past old.rows) held.count (held.started t))

  -- a session with other settings or rooms, and no entry
  pub unentered_held : (after : Session) → after.work ≡ session.work → after.can_reply ≡ session.can_reply → after.can_ack ≡ session.can_ack
      → IsHeld (in_world (with_past t after old.past old.rows old))
  unentered_held after same reply ack =
      on after old.past old.rows store.desks same (unentered_agrees held.chains old (with_past t after old.past old.rows old) held.agrees) (inl refl) refl
      refl held.fits (λ busy. reply ∙ held.has_room.replies t session there busy) (λ waits. ack ∙ held.has_room.acks t session there waits)
      (leaves after old.past old.rows) held.count (held.started t)

  begin_own : (n : ℕ) (level : Level) → own t old.past ≡ [] → own t (Begin t n level ∷ old.past) ≡ []
  begin_own n level none = grind (arith, nat_tests, none)

  begin_open : (n : ℕ) (l : Level) → IsOpen t (Begin t n l ∷ old.past)
  begin_open n l = grind (arith, nat_tests)

  pub opened_held : (level : Level) → session.work ≡ None → IsClosed t old.past → length old.past + 1 < 2 ^ 63
      → IsHeld (in_world (opened t level session old))
  opened_held level none closed few =
      let n = old.txns.begun + 1 in
      let begun : Session = session_begun level session old in
      let fresh : Work = record (fresh_work n level) { can_end = true } in
      let after : Session = record begun { can_begin = false; work = Some fresh } in
      let nothing : own t (Begin t n level ∷ old.past) ≡ [] = begin_own n level ((ids_of old.past held.agrees.lists.ordered).closed t closed) in
      entered_by held rests told (set_here (slice_set old.sessions t begun) t begun after (set_here old.sessions t session begun there))
      (record { indexes = refl; versions = refl; schemas = refl }) (same_writer (λ s differ. set_other (slice_set old.sessions t begun) t s after differ
      ∙ others begun s differ) (held.rooms t)) (opened_agrees held.chains old t level session held.agrees there none few)
      (inr (Begin t n level, eq-eqb t t refl, refl)) held.count held.few held.fits (λ work is. inr (record {
        log_is = ap (λ (w : Work). w.log) (sym (some_same fresh work is));
        own_is = nothing;
      })) (held.has_room.replies t session there) (λ waits. absurd (waits_not t (Begin t n level ∷ of_item t old.past) old.past waits refl))
      (λ work is. ap (λ (w : Work). w.can_end) (sym (some_same fresh work is))) (held.started t) (λ is. begin_open n level) (λ other. nothing)

  module _ (work : Work) (is : session.work ≡ Some work) where
    has_work : HasWork t session work old
    has_work = record { session_is = there; work_is = is }

    pub viewed_held : length old.past + 1 < 2 ^ 63 → IsHeld (in_world (viewed t session work old))
    viewed_held few =
        let seen : Work = record work { view = Some (record { active = listed_ids old.txns.open_txns; next = old.txns.next }) } in
        let after : Session = record session { work = Some seen } in
        entered_by held rests told (set_here old.sessions t session after there) (record { indexes = refl; versions = refl; schemas = refl })
        (same_writer (others after) (held.rooms t)) (viewed_agrees held.chains old t session work held.agrees has_work few)
        (inr (View t, eq-eqb t t refl, refl)) held.count held.few held.fits
        (λ w is_w. same_log has_work (ap (λ (x : Work). x.log) (sym (some_same seen w is_w))) refl)
        (held.has_room.replies t session there) (λ waits. absurd (waits_not t (View t ∷ of_item t old.past) old.past waits refl))
        (λ w is_w. ap (λ (x : Work). x.can_end) (sym (some_same seen w is_w)) ∙ held.has_room.ends t session work has_work) (held.started t)
        (held.owned.opened t) (held.owned.clean t)

    -- ---- a savepoint is kept: other sessions are of other transactions

    saved_else : (f : Session → Session) (u : ℕ) → u ≢ t → slice_get (change_txn work.txn f old.sessions) u ≡ slice_get old.sessions u
    saved_else f u differ =
        txn_elsewhere work.txn u f old.sessions (λ x other there' has same.
        differ (one_session_of held.chains old t u session x work other held.agrees has_work (record { session_is = there'; work_is = has }) same))

    pub saved_held : (name : List ℕ) (count : ℕ) → IsHeld (in_world (with_save work.txn name count old))
    saved_held name count =
        let f : Session → Session = λ x. record x { setting = record x.setting { saves = saved name count true x.setting.saves } } in
        let here = txn_here t work.txn session work f old.sessions there is refl in
        let was : (w : Work) → session.work ≡ Some w → HasWork t session w old = λ w is_w. record { session_is = there; work_is = is_w } in
        entered_by held rests told here (record { indexes = refl; versions = refl; schemas = refl }) (same_writer (saved_else f) (held.rooms t))
        (unentered_agrees held.chains old (with_save work.txn name count old) held.agrees (record {
          past_is = refl;
          names = refl;
          schemas = refl;
          txns = refl;
          works = works_by t old.sessions (change_txn work.txn f old.sessions) there here refl (saved_else f);
          count = length-map old.sessions (λ x. of_txn work.txn f x x.work);
        })) (inl refl) held.count held.few held.fits (λ w is_w. same_log (was w is_w) refl refl) (held.has_room.replies t session there)
        (held.has_room.acks t session there)
        (λ w is_w. held.has_room.ends t session w (was w is_w)) (held.started t) (held.owned.opened t) (held.owned.clean t)

-- ---- the session's open transaction ends, and it may write no longer

writes_no_more : (writer : Option ℕ) (t : ℕ) → writer_without writer t ≡ Some t → ⊥
writes_no_more None t is = cc
writes_no_more (Some w) t is = grind (arith, nat_tests, is)

module _ {store : Store} (held : IsHeld store) (t : ℕ) (rests : doing_at t store.desks ≡ Nothing) (told : IsTold store.world)
    (few : length store.world.past + 1 < 2 ^ 63) where
  abbrev then_closed : WorldState → Store
  then_closed world = record store { world = world; writer = writer_without store.writer t }

  own_then : own t (Committed t ∷ store.world.past) ≡ []
  own_then = grind (arith, nat_tests)

  own_still : own t store.world.past ≡ [] → own t (RolledBack t ∷ store.world.past) ≡ []
  own_still none = grind (arith, nat_tests, none)

  pub committed_held : {new : WorldState} → IsCommitted t store.world new → IsHeld (then_closed new)
  committed_held {new} is =
      let old = store.world in
      let after : Session = record is.session { can_ack = true; setting = at_end is.session.setting; work = None } in
      let there = is.has_work.session_is in
      subst (λ (w : WorldState). IsHeld (then_closed w)) (sym is.rest) (entered_by held rests told (set_here old.sessions t
      is.session after there) (record { indexes = refl; versions = refl; schemas = refl }) (closed_desks (λ u differ. set_other old.sessions t u after differ)
      (held.rooms t)) (subst (Agrees held.chains) is.rest (committed_agrees held.chains old new t held.agrees is few))
      (inr (Committed t, eq-eqb t t refl, refl)) held.count held.few held.fits (λ w is_w. absurd (cc)) (held.has_room.replies t is.session there)
      (λ waits. refl)
      (λ w is_w. absurd (cc)) (held.started t) (λ mine. absurd (writes_no_more store.writer t mine)) (λ other. own_then))

  pub rolled_back_held : {new : WorldState} → own t store.world.past ≡ [] → IsRolledBack t store.world new → IsHeld (then_closed new)
  rolled_back_held {new} none is =
      let old = store.world in
      let after : Session = record is.session { setting = at_end is.session.setting; work = None } in
      let there = is.has_work.session_is in
      subst (λ (w : WorldState). IsHeld (then_closed w)) (sym is.rest) (entered_by held rests told (set_here old.sessions t
      is.session after there) (record { indexes = refl; versions = refl; schemas = refl }) (closed_desks (λ u differ. set_other old.sessions t u after differ)
      (held.rooms t)) (subst (Agrees held.chains) is.rest (rolled_back_agrees held.chains old new t held.agrees is none
      few)) (inr (RolledBack t, eq-eqb t t refl, refl)) held.count held.few held.fits (λ w is_w. absurd (cc)) (held.has_room.replies t is.session there)
      (λ waits. absurd (waits_not t (RolledBack t ∷ of_item t old.past) old.past waits refl)) (λ w is_w. absurd (cc)) (held.started t)
      (λ mine. absurd (writes_no_more store.writer t mine)) (λ other. own_still none))

-- ---- The first world, sessions that join, and tables that are made by who may write.

behind : (desks : List Desk) → desk_at (length desks) desks ≡ None
behind desks = slice_get_past desks (length desks) (omega arith)

last_there : {X : Type 0} (xs : List X) (x : X) → slice_get (xs ++ x ∷ []) (length xs) ≡ Some x
last_there [] x = refl
last_there (first ∷ xs) x = last_there xs x

pub others_there : {X : Type 0} (xs : List X) (x : X) (s : ℕ) → s ≢ length xs → slice_get (xs ++ x ∷ []) s ≡ slice_get xs s
others_there [] x zero differ = absurd (differ refl)
others_there [] x (suc s) differ = refl
others_there (first ∷ xs) x zero differ = refl
others_there (first ∷ xs) x (suc s) differ = others_there xs x s (λ same. differ (ap suc same))

-- ---- who has not joined is owed nothing

no_item : (txn : ℕ) (item : Option Item) → txn + owed_by_item item ≡ 0 → is_some item ≡ true → ⊥
no_item txn None none some = cc
no_item txn (Some item) none some = omega (arith, none)

no_ack : (l : Option Level) (changes : ℕ) (waits : Bool) (item : ℕ) → owed_by_txn l changes waits + item ≡ 0 → waits ≡ true → ⊥
no_ack (Some l) changes waits item none is = omega (arith, none)
no_ack None changes true item none is = omega (arith, none)
no_ack None changes false item none is = cc

module _ {store : Store} (held : IsHeld store) (told : IsTold store.world) (name : List ℕ) (room_left : length store.world.names < 68) {desk : Desk}
    (fresh : IsNewDesk desk) where
  abbrev t : ℕ
  t = length store.desks

  at_last : desk_at t (store.desks ++ desk ∷ []) ≡ Some desk
  at_last = last_there store.desks desk

  pub joined_held : IsHeld (record store { world = joined name store.world; desks = store.desks ++ desk ∷ [] })
  joined_held =
      let t_is : t ≡ length store.world.sessions = held.count ∙ sym held.agrees.count in
      let stranger : owed_by store.world.past t ≡ 0 = held.agrees.lists.strangers t (omega (arith, held.count)) in
      entered_by {t = length store.desks} held (ap doing_in (behind store.desks)) told (ap (slice_get (joined name store.world).sessions) t_is
      ∙ last_there store.world.sessions fresh_session) (record { indexes = refl; versions = refl; schemas = refl }) (record {
        sessions = λ s differ. others_there store.world.sessions fresh_session s (λ same. differ (same ∙ sym t_is));
        same = λ s differ. others_there store.desks desk s differ;
        doing = ap doing_in at_last ∙ fresh.doing_is ∙ sym (ap doing_in (behind store.desks));
        rooms = λ other there. subst HasRooms (some_same desk other (sym at_last ∙ there)) fresh.rooms;
        rights = λ s differ is. is;
        back = λ s differ is. is;
        cuts = refl;
      }) (joined_agrees held.chains store.world (joined name store.world) name held.agrees
      (record { session = fresh_session; closed = refl; sessions = refl; names = refl; past = refl; schemas = refl; txns = refl })) (inl refl)
      (length-append store.desks (desk ∷ []) ∙ ap (λ n. n + 1) held.count ∙ sym (length-append store.world.names (name ∷ [])))
      (omega (arith, length-append store.world.names (name ∷ []), room_left)) held.fits
      (λ work is. absurd (cc))
      (λ busy. absurd (no_item (owed_by_txn (level t store.world.past) (length (own t store.world.past)) (awaits_ack (of_item t store.world.past)))
      (under_way t store.world.past) stranger busy))
      (λ waits. absurd (no_ack (level t store.world.past) (length (own t store.world.past)) (awaits_ack (of_item t store.world.past))
      (owed_by_item (under_way t store.world.past)) stranger waits)) (λ work is. absurd (cc))
      (held.started t ∙ ap started_in (behind store.desks) ∙ sym (ap started_in at_last ∙ fresh.started_is)) (held.owned.opened t) (held.owned.clean t)

-- ---- the first world

pub first_held : (state : WorldState) → IsTold state → IsFresh state → IsHeld (record { world = state; writer = None; desks = []; cuts = 0 })
first_held state told first =
    let nobody : (s : ℕ) (session : Session) → slice_get state.sessions s ≡ Some session → ⊥
    = λ s session there. let no : None ≡ Some session = sym (ap (λ (sessions : List Session). slice_get sessions s) first.sessions) ∙ there in cc in
    let logs : LogsAgree state = record { each = λ s session work has. absurd (nobody s session has.session_is) } in
    record {
      chains = first.chains;
      agrees = first_agrees first.chains state (record {
        db = first.db;
        opened = first.opened;
        past = first.past;
        names = first.names;
        schemas = first.schemas;
        sessions = first.sessions;
        txns = first.txns;
      });
      fits = subst FitsThen (sym first.past) first.fits;
      rows = quiet_rows first.chains state [] (λ s. refl) told first.coded;
      owned = record { opened = λ s is. absurd (cc); clean = λ s other. ap (own s) first.past; quiet = λ s other. refl };
      searches = λ s. tt;
      logs = logs;
      has_room = record {
        replies = λ s session has busy. absurd (nobody s session has);
        acks = λ s session has waits. absurd (nobody s session has);
        ends = λ s session work has. absurd (nobody s session has.session_is);
      };
      started = λ s. ap (started s) first.past;
      rooms = λ s desk there. absurd (cc);
      count = sym (ap length first.names);
      few = omega (arith, ap length first.names);
      cut = omega arith;
      short = first.few_versions;
    }

pub its_columns : (schema : Schema) → IsStorable schema → HasItsColumns schema
its_columns schema storable = record {
  primary = storable.column;
  primary_is = storable.primary;
  few = storable.few;
  keys = λ which key there. let is : IsKeyOn schema.columns storable.column.kind key = subst (IsKeyOn schema.columns storable.column.kind)
      (get_or_from_slice_get schema.keys which key key there) (storable.keys which key (slice_get_within schema.keys which key there)) in
      (is.column, is.there);
}

module _ {store : Store} {new : WorldState} {t : ℕ} {schema : Schema} (held : IsHeld store) (mine : store.writer ≡ Some t)
    (rests : doing_at t store.desks ≡ Nothing) (told : IsTold store.world) (told_now : IsTold new)
    (by : IsChangedBy t (Create schema) (store.world.schemas ++ schema ∷ []) store.world new) (can_reply : by.session_now.can_reply ≡ by.session.can_reply)
    (can_end : by.work_now.can_end ≡ by.work.can_end) (log : by.work_now.log ≡ by.work.log)
    (same : (index : ℕ) → new.indexes index ≡ store.world.indexes index) (versions : new.versions ≡ store.world.versions)
    (empty : (which : ℕ) → which < 8 → new.indexes (index_of (length store.world.schemas) which) ≡ empty_index)
    (storable : IsStorable schema) (few : length store.world.past + 1 < 2 ^ 63) (none : own t store.world.past ≡ []) where
  abbrev source : WorldState
  source = store.world

  abbrev made : Store
  made = record store { world = new }

  adds : AddsAtMostOne t source.past new.past
  adds = inr (Changed t (Create schema), eq-eqb t t refl, by.past)

  agrees : Agrees held.chains new
  agrees = created_agrees held.chains source new t schema held.agrees by few

  pairs_are : pairs_of new ≡ pairs_of source
  pairs_are = λ i index. ap (λ (x : Index). pairs_in x.pairs) (same index) i

  -- nobody changes a row
  all_quiet : (u : ℕ) → is_quiet_doing (doing_at u store.desks) ≡ true
  all_quiet = each t (λ u. is_quiet_doing (doing_at u store.desks) ≡ true) (ap is_quiet_doing rests) (others_quiet held mine)

  was : HasRows held.chains source
  was = quiet_coded held.chains source store.desks all_quiet held.rows

  no_pairs : HasNoPairs (pairs_of source) (length source.schemas)
  no_pairs = record {
    rows =
        sym (ap (λ (f : ℕ → List Pair). f (clustered_index (length source.schemas))) pairs_are) ∙ subst (λ n. pairs_of new n ≡ []) (omega arith)
        (ap (λ (x : Index). pairs_in x.pairs) (empty 0 (omega arith)));
    entries =
        λ which within. sym (ap (λ (f : ℕ → List Pair). f (key_index (length source.schemas) which)) pairs_are) ∙ ap (λ (x : Index). pairs_in x.pairs)
        (empty (1 + which) (omega (arith, within)));
  }

  coded : HasRows held.chains new
  coded told' =
      subst (λ (x : List Schema × (ℕ → List Pair) × Versions). AreCoded x.0 x.1 x.2.kept_at held.chains)
      (sym (λ i. (by.schemas i, pairs_are i, versions i)))
      (a_table_more source.schemas schema (pairs_of source) source.versions.kept_at held.chains (was told) (its_columns schema storable) no_pairs)

  does_make : Does t held.chains held.chains store made
  does_make = record {
    agreed = held.agrees;
    agrees = agrees;
    adds = adds;
    told = told;
    tables = λ n s there. ap (λ (schemas : List Schema). slice_get schemas n) by.schemas ∙ more_grow source.schemas schema n s there;
    sessions = by.others;
    desks = λ s differ. refl;
    places = λ s index differ. ap (λ (x : Index). x.place s) (same index);
    rights = λ s differ is. is;
    back = λ s differ is. is;
    changes = inl refl;
    kept = inl (refl, λ pointer found there. ap (λ (v : _). v.kept_at pointer) versions ∙ there);
  }

  -- the log of a session that has changed no row is empty
  no_log : (s : ℕ) (session : Session) (work : Work) → HasWork s session work source → own s source.past ≡ [] → work.log ≡ []
  no_log s session work has empty_own = subst (λ changes. IsLogOf source work.log changes) empty_own (held.logs.each s session work has)

  own_now : own t new.past ≡ Create schema ∷ []
  own_now =
      let made : own t (Changed t (Create schema) ∷ source.past) ≡ Create schema ∷ [] = grind (arith, nat_tests, none) in ap (own t) by.past ∙ made

  one_now : (session : Session) (work : Work) → HasWork t session work new → work ≡ by.work_now
  one_now session work has = let is = by.has in let a = is.session_is in let b = is.work_is in let c = has.session_is in let d = has.work_is in cc

  logs_now : LogsAgree new
  logs_now = record {
    each = λ s session work.
        each t (λ u. HasWork u session work new → IsLogOf new work.log (own u new.past)) (λ has.
        let log_is : work.log ≡ [] = ap (λ (w : Work). w.log) (one_now session work has) ∙ (log ∙ no_log t by.session by.work by.had none) in
        subst (IsLogOf new work.log) (sym own_now) log_is) (λ u differ has.
        let log_is : work.log ≡ [] =
        no_log u session work (record { session_is = sym (by.others u differ) ∙ has.session_is; work_is = has.work_is }) (others_clean held mine u differ) in
        subst (IsLogOf new work.log) (sym ((others_past t u source.past new.past differ adds).own_is ∙ others_clean held mine u differ)) log_is) s;
  }

  pub created_held : IsHeld made
  created_held =
      held_after held does_make (record {
        replies = λ session has busy. ap (λ (x : Session). x.can_reply) (one_session session has) ∙ can_reply ∙
            held.has_room.replies t by.session by.had.session_is (sym (ap (λ h. is_some (under_way t h)) by.past) ∙ busy);
        acks = λ session has waits. absurd
            (waits_not t (Changed t (Create schema) ∷ of_item t source.past) source.past (sym (ap (λ h. awaits_ack (of_item t h)) by.past) ∙ waits) refl);
        ends = λ session work has. ap (λ (w : Work). w.can_end) (one_now session work has) ∙ can_end ∙ held.has_room.ends t by.session by.work by.had;
        started = ap (started t) by.past ∙ held.started t;
        opened = λ is. ap (λ h. is_some (level t h)) by.past ∙ held.owned.opened t is;
        clean = λ other. absurd (other mine);
        quiet = λ other. absurd (other mine);
        search = subst (SearchHeld held.chains made t) (sym rests) tt;
        rooms = held.rooms t;
      })
      (subst FitsThen (sym by.past) ((storable, tt), held.fits)) (quiet_rows held.chains new store.desks all_quiet told_now coded) logs_now
      (held.count ∙ ap length (sym by.names)) (subst (λ (names : List (List ℕ)). length names ≤ 68) (sym by.names) held.few)
      (omega (arith, held.cut, past_grows t source.past new.past adds)) (λ place. omega (arith, held.short place, past_grows t source.past new.past adds))
    where
      one_session : (session : Session) → IsSession t session new → session ≡ by.session_now
      one_session session has = let is = by.has.session_is in cc
