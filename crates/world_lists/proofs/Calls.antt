-- What a call finds of the lists: its session with its transaction, as the past says, what it has under way, and its desk;
-- and who is awaited at indexes after each step.
use Rattle.std.proofs.Common.{◌≡◌, ℕ, ◌+◌, ◌<◌, Bool, true, Option, Some, None, List, length, sym, ap, subst, ◌∙◌, arith, get_or, zero, suc, ◌∷◌, ◌++◌, map}
use Rattle.std.proofs.Common.{refl, [], ◌≢◌, ⊎_elim}
use Rattle.std.specs.Prelude.{slice_set, slice_index_or, is_some, slice_get, option_map, if◌then◌else◌}
use Rattle.inno_model.specs.Past.{own, level, txn, view_of, started, under_way, of_item, IsOpen, awaits_ack}
use Rattle.inno_model.specs.{declared.event.Event.Event, declared.event.Event.TheVariants.Acked}
use Rattle.world.specs.State.{WorldState, Session, Work, IsSession, HasWork, standing_of, txn_of, Seen, own_of, level_of}
use Rattle.world_lists.specs.Between.{IsKept}
use Rattle.law_past_agreement.specs.{Agreement.IsIdle, Agreement.IsWorkOf, Agreement.ViewAgrees, Order.MayCome, Rows.place_in}
use Rattle.shared_lists.specs.{State.Lists, State.task_of, Tasks.Idle}
use Rattle.law_past_agreement.specs.Slots.{writer_without}
use Rattle.desks.specs.Desks.{Store, desk_at, doing_at, started_in, with_desk, with_doing, with_start, doing_in}
use Rattle.desks.specs.declared.desk.Doing.TheVariants.{Nothing}
use Rattle.desks.specs.{declared.desk.Desk.Desk, Shown.lists_of, Holding.IsHeld, declared.desk.Doing.Doing}
use Rattle.row_changes.specs.Records.{IsListed}
use Rattle.row_changes.specs.Awaited.{AwaitsNoMore, AwaitsNobody}
use Rattle.inno_types.specs.{declared.reply.Item.Item, declared.value.Schema.Schema}
use Rattle.sql_history.specs.Settings.{Setting, at_first}
use Rattle.store_api.specs.declared.answers.Standing.{Standing}
use Rattle.law_logged_changes.proofs.Listed.{listed_of}
use Rattle.law_world_agreement.specs.Agreement.{sight_of, work_at}
use Rattle.law_held_steps.proofs.{Showing.rests_of, Showing.setting_at, Keeping.open_work, AnyStep.some_same, AnyStep.as_many}
use Rattle.law_world_agreement.proofs.{Opening.idle_of, Ending.work_of}
use Rattle.desks.proofs.Showing.{desk_read, set_at}
use Rattle.entries.specs.Index.{Index}
use Rattle.law_held_steps.specs.Leaving.{MovesPlaces}

-- ---- desks

-- a desk that becomes another twice
pub with_both : (s : ℕ) (first second : Desk → Desk) (desks : List Desk)
    → with_desk s second (with_desk s first desks) ≡ with_desk s (λ desk. second (first desk)) desks
with_both s first second [] = refl
with_both zero first second (desk ∷ desks) = refl
with_both (suc s) first second (desk ∷ desks) = ap (λ (ds : List Desk). desk ∷ ds) (with_both s first second desks)

-- what is read of desks, but how many items were started, is as it was once one is
pub start_leaves : {X : Type 0} (read : Option Desk → X) → ((desk : Desk) → read (Some (record desk { started = desk.started + 1 })) ≡ read (Some desk))
    → (s u : ℕ) (desks : List Desk) → read (desk_at u (with_start s desks)) ≡ read (desk_at u desks)
start_leaves read same s u [] = refl
start_leaves read same zero zero (desk ∷ desks) = same desk
start_leaves read same zero (suc u) (desk ∷ desks) = refl
start_leaves read same (suc s) zero (desk ∷ desks) = refl
start_leaves read same (suc s) (suc u) (desk ∷ desks) = start_leaves read same s u desks

-- and so is what a new desk shows no more of than none
pub new_leaves : {X : Type 0} (read : Option Desk → X) (desk : Desk) → read (Some desk) ≡ read None → (u : ℕ) (desks : List Desk)
    → read (desk_at u (desks ++ desk ∷ [])) ≡ read (desk_at u desks)
new_leaves read desk same zero [] = same
new_leaves read desk same (suc u) [] = refl
new_leaves read desk same zero (first ∷ desks) = refl
new_leaves read desk same (suc u) (first ∷ desks) = new_leaves read desk same u desks

-- ---- what is read of a session is what the past says

there_at : (sessions : List Session) (s : ℕ) → s < length sessions → (session : Session) × (slice_get sessions s ≡ Some session)
there_at [] s within = absurd (omega (arith, within))
there_at (first ∷ sessions) zero within = (first, refl)
there_at (first ∷ sessions) (suc s) within = there_at sessions s (omega (arith, within))

nsome_same : {X : Type 0} (x : X) → None ≡ Some x → ⊥
nsome_same x same = cc

module _ {store : Store} (held : IsHeld store) where
  abbrev state : WorldState
  state = store.world

  there : (s : ℕ) → s < length state.names → (session : Session) × IsSession s session state
  there s joined = there_at state.sessions s (omega (arith, joined, held.agrees.count))

  module _ (s : ℕ) {session : Session} (is : IsSession s session state) where
    has : (work : Work) → session.work ≡ Some work → HasWork s session work state
    has work work_is = record { session_is = is; work_is = work_is }

    work_says : (work : Work) → session.work ≡ Some work → IsWorkOf state.schemas state.past s (work_at (map (place_in state.schemas) (own s state.past)) work)
    work_says work work_is = work_of held.chains state s session work held.agrees (has work work_is)

    idle_says : session.work ≡ None → IsIdle state.past s
    idle_says none = idle_of held.chains state s session held.agrees is none

    by_work : {P : Type 0} → (session.work ≡ None → P) → ((work : Work) → session.work ≡ Some work → P) → P
    by_work {P} none some = go session.work refl
      where
        go : (work : Option Work) → session.work ≡ work → P
        go None was = none was
        go (Some work) was = some work was

    level_is : (n : ℕ) → (standing_of session).txn ≡ Some n → level s state.past ≡ Some (standing_of session).level
    level_is n some =
        by_work (λ none. absurd (nsome_same n (sym (ap txn_of none) ∙ some)))
        (λ work was. (work_says work was).level_is ∙ ap (λ (w : Option Work). Some (level_of session.setting w)) (sym was))

    none_is : (standing_of session).txn ≡ None → IsIdle state.past s
    none_is none = by_work idle_says (λ work was. absurd (nsome_same work.txn (sym none ∙ ap txn_of was)))

    txn_is : (n : ℕ) → (standing_of session).txn ≡ Some n → txn s state.past ≡ n
    txn_is n some =
        by_work (λ none. absurd (nsome_same n (sym (ap txn_of none) ∙ some)))
        (λ work was. (work_says work was).txn_is ∙ some_same work.txn n (sym (ap txn_of was) ∙ some))

    own_is : (standing_of session).own ≡ length (own s state.past)
    own_is =
        by_work (λ none. ap own_of none ∙ sym (ap length (idle_says none).own_is)) (λ work was. ap own_of was ∙ held.agrees.own s session work (has work was))

    view_by : (view : Option Seen) → ViewAgrees state.past s (option_map sight_of view) → is_some view ≡ is_some (view_of s state.past)
    view_by None agrees = sym (ap is_some agrees)
    view_by (Some seen) agrees = sym (ap is_some agrees.1.is-view)

    view_is : (work : Work) → session.work ≡ Some work → is_some work.view ≡ is_some (view_of s state.past)
    view_is work work_is = view_by work.view (work_says work work_is).view_is

    pub closed_none : level s state.past ≡ None → session.work ≡ None
    closed_none closed = by_work (λ none. none) (λ work was. absurd (nsome_same work.level (sym closed ∙ (work_says work was).level_is)))

module _ (s : ℕ) {store : Store} {lists : Lists} (kept : IsKept store) (view : lists_of store ≡ lists) where
  abbrev world : WorldState
  world = store.world

  pub past_here : (P : List Event → Type 0) → P lists.state.past → P world.past
  past_here P given = subst (λ (l : Lists). P l.state.past) (sym view) given

  pub joined_here : s < length lists.state.names → s < length world.names
  joined_here joined = subst (λ (l : Lists). s < length l.state.names) (sym view) joined

  pub at_desk : s < length lists.state.names → s < length store.desks
  at_desk joined = omega (arith, joined_here joined, kept.held.count)

  pub its_session : s < length lists.state.names → (session : Session) × IsSession s session world
  its_session joined = there kept.held s (joined_here joined)

  pub its_work : s < length lists.state.names → IsOpen s lists.state.past → (session : Session) × (work : Work) × HasWork s session work world
  its_work joined is_open = open_work kept.held.agrees s (past_here (IsOpen s) is_open)

  pub at_rest : task_of s lists.state ≡ Idle → doing_at s store.desks ≡ Nothing
  at_rest idle = rests_of s store (subst (λ (l : Lists). task_of s l.state ≡ Idle) (sym view) idle)

  pub writer_now : lists.state.writer ≡ Some s → store.writer ≡ Some s
  writer_now mine = ap (λ (l : Lists). l.state.writer) view ∙ mine

  -- ---- its transaction

  -- it is among the open ones
  pub its_listed : {session : Session} {work : Work} → HasWork s session work world → IsListed s work world
  its_listed {session} {work} has = listed_of kept.held.chains world s session work kept.held.agrees has

  pub its_txn : {session : Session} {work : Work} → HasWork s session work world → txn s lists.state.past ≡ work.txn
  its_txn {session} {work} has = sym (ap (λ (l : Lists). txn s l.state.past) view) ∙ txn_is kept.held s has.session_is work.txn (ap txn_of has.work_is)

  pub its_own : {session : Session} → IsSession s session world → (standing_of session).own ≡ length (own s lists.state.past)
  its_own is = own_is kept.held s is ∙ ap (λ (l : Lists). length (own s l.state.past)) view

  -- ---- what is read of it

  module _ (joined : s < length lists.state.names) {read : Standing}
      (read_is : (session : Session) → IsSession s session world → read ≡ standing_of session) where
    txn_read : (session : Session) → IsSession s session world → {n : Option ℕ} → read.txn ≡ n → (standing_of session).txn ≡ n
    txn_read session is some = sym (ap (λ (t : Standing). t.txn) (read_is session is)) ∙ some

    pub level_read : {n : ℕ} → read.txn ≡ Some n → Some read.level ≡ level s lists.state.past
    level_read some =
        let (session, is) = its_session joined in
        ap (λ (t : Standing). Some t.level) (read_is session is)
        ∙ sym (level_is kept.held s is _ (txn_read session is some)) ∙ ap (λ (l : Lists). level s l.state.past) view

    pub no_level_read : read.txn ≡ None → None ≡ level s lists.state.past
    no_level_read none =
        let (session, is) = its_session joined in
        sym (none_is kept.held s is (txn_read session is none)).level_is ∙ ap (λ (l : Lists). level s l.state.past) view

    pub number_read : {n : ℕ} → read.txn ≡ Some n → n ≡ txn s lists.state.past
    number_read some =
        let (session, is) = its_session joined in
        sym (txn_is kept.held s is _ (txn_read session is some)) ∙ ap (λ (l : Lists). txn s l.state.past) view

    pub own_read : read.own ≡ length (own s lists.state.past)
    own_read = let (session, is) = its_session joined in ap (λ (t : Standing). t.own) (read_is session is) ∙ its_own is

    pub never_none : IsOpen s lists.state.past → read.txn ≡ None → ⊥
    never_none is_open none =
        let (session, work, has) = its_work joined is_open in
        nsome_same work.txn (sym (txn_read session has.session_is none) ∙ ap txn_of has.work_is)

  pub view_read : s < length lists.state.names → IsOpen s lists.state.past → {has : Bool}
      → ((session : Session) (work : Work) → HasWork s session work world → has ≡ is_some work.view) → has ≡ is_some (view_of s lists.state.past)
  view_read joined is_open read =
      let (session, work, has) = its_work joined is_open in
      read session work has ∙ view_is kept.held s has.session_is work has.work_is ∙ ap (λ (l : Lists). is_some (view_of s l.state.past)) view

  pub setting_read : s < length lists.state.names → {setting : Setting} → ((session : Session) → IsSession s session world → setting ≡ session.setting)
      → setting ≡ slice_index_or lists.settings s at_first
  setting_read joined read =
      let (session, is) = its_session joined in
      read session is ∙ sym (setting_at world.sessions s is) ∙ ap (λ (l : Lists). slice_index_or l.settings s at_first) view

  -- ---- it has room for its entries

  pub may_ack : s < length lists.state.names → (moment : ℕ) → MayCome lists.state.past (Acked s moment)
      → (session : Session) × IsSession s session world × (session.can_ack ≡ true)
  may_ack joined moment may =
      let (session, is) = its_session joined in
      (session, is, kept.held.has_room.acks s session is (past_here (λ h. awaits_ack (of_item s h) ≡ true) may.0))

  pub may_reply : s < length lists.state.names → (item : Item) → under_way s lists.state.past ≡ Some item
      → (session : Session) × IsSession s session world × (session.can_reply ≡ true)
  may_reply joined item busy =
      let (session, is) = its_session joined in
      (session, is, kept.held.has_room.replies s session is (ap is_some (past_here (λ h. under_way s h ≡ Some item) busy)))

  pub may_end : s < length lists.state.names → IsOpen s lists.state.past
      → (session : Session) × (work : Work) × HasWork s session work world × (work.can_end ≡ true)
  may_end joined is_open =
      let (session, work, has) = its_work joined is_open in (session, work, has, kept.held.has_room.ends s session work has)

  -- ---- what is read of desks

  -- it has a desk still
  pub still_there : (doing : Doing) {now : List Desk} → now ≡ with_doing s doing store.desks → s < length lists.state.names → s < length now
  still_there doing gives joined =
      omega (arith, at_desk joined, ap length gives, as_many s (λ desk. record desk { doing = doing }) store.desks)

  module _ (joined : s < length lists.state.names) {read : Desk} (is : read ≡ get_or store.desks s read) where
    pub its_desk : desk_at s store.desks ≡ Some read
    its_desk = desk_read store.desks s (at_desk joined) is

    pub desk_started : read.started ≡ started s lists.state.past
    desk_started = sym (ap started_in its_desk) ∙ sym (kept.held.started s) ∙ ap (λ (l : Lists). started s l.state.past) view

    pub desks_started : {count : ℕ} → count ≡ started s lists.state.past
        → slice_set store.desks s (record read { started = count + 1 }) ≡ with_start s store.desks
    desks_started {count} count_is =
        ap (λ n. slice_set store.desks s (record read { started = n + 1 })) (count_is ∙ sym desk_started)
        ∙ set_at s (λ desk. record desk { started = desk.started + 1 }) store.desks its_desk

-- ---- Nobody is awaited at indexes after a step of the lists.

pub no_more_in : (old new target : WorldState) → new ≡ target → target.indexes ≡ old.indexes → AwaitsNoMore old new
no_more_in old new target is indexes = record {
  each =
      λ index by now. ap (λ (at : ℕ → Index). (at index).awaited) (sym indexes) ∙ (ap (λ (state : WorldState). (state.indexes index).awaited) (sym is) ∙ now);
}

pub same_no_more : (old : WorldState) → AwaitsNoMore old old
same_no_more old = record { each = λ index by is. is }

pub moves_no_more : (s : ℕ) (old new : WorldState) → MovesPlaces s old new → AwaitsNoMore old new
moves_no_more s old new moves = record { each = moves.fewer }

pub nobody_then : {old new : WorldState} → AwaitsNobody old → AwaitsNoMore old new → AwaitsNobody new
nobody_then nobody more index by is = nobody index by (more.each index by is)

pub kept_on : {old new : Store} → IsKept old → AwaitsNoMore old.world new.world → IsHeld new → IsKept new
kept_on kept more held = record { held = held; awaits = nobody_then kept.awaits more }

-- one session has another thing under way
pub kept_beside : {store : Store} → IsKept store → {new : WorldState} → AwaitsNoMore store.world new → (s : ℕ) (doing : Doing) {now : List Desk}
    → now ≡ with_doing s doing store.desks → IsHeld (record store { world = new; desks = with_doing s doing store.desks })
    → IsKept (record store { world = new; desks = now })
kept_beside {store} kept {new} more s doing gives held =
    kept_on kept more (subst (λ (desks : List Desk). IsHeld (record store { world = new; desks = desks })) (sym gives) held)

-- or may write no longer
pub kept_closed : {store : Store} → IsKept store → {new : WorldState} → AwaitsNoMore store.world new → (s : ℕ) {later : Option ℕ}
    → later ≡ writer_without store.writer s → IsHeld (record store { world = new; writer = writer_without store.writer s })
    → IsKept (record store { world = new; writer = later })
kept_closed {store} kept {new} more s is held =
    kept_on kept more (subst (λ (w : Option ℕ). IsHeld (record store { world = new; writer = w })) (sym is) held)
