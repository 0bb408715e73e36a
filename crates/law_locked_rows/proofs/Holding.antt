-- What holds of the store after a step of one session, whatever step it is, where others are at work at other places.
-- `Making`, `TakingBack` and `TakenBack` end with it: what their steps do not change of `IsHeldByAll` is put together here.
use Rattle.std.proofs.Common.{◌≡◌, ◌≢◌, ◌∙◌, inl, inr, refl, sym, ap, subst, ℕ, ◌≤◌, ◌<◌, true, false, List, length, Option, None, Some, arith, slice_get}
use Rattle.std.specs.Prelude.{is_some}
use Rattle.inno_types.specs.{declared.lock.Lock.Lock, declared.value.Schema.Schema}
use Rattle.inno_model.specs.Past.{started, under_way, of_item, awaits_ack}
use Rattle.entries.specs.Pairs.{Pair}
use Rattle.row_versions.specs.Chains.{Chains}
use Rattle.world.specs.State.{WorldState, Session, Work, IsSession, HasWork}
use Rattle.world.specs.Told.{IsTold}
use Rattle.law_world_agreement.specs.Agreement.{Agrees}
use Rattle.shared_lists.specs.Fitting.{FitsThen}
use Rattle.row_search.specs.{declared.sight.Sight.Sight, declared.sight.Sight.TheVariants.View, declared.sight.Sight.TheVariants.Newest}
use Rattle.row_changes.proofs.{Sessions.one_session, Ids.one_work}
use Rattle.law_logged_changes.specs.{Logs.LogsAgree, GoingOn.StaysOpen, GoingOn.KeepsBeside}
use Rattle.lock_table.specs.Queue.{AreApart}
use Rattle.desks.specs.Holding.{AreFew, SightHolds, SearchHeld}
use Rattle.desks.specs.declared.desk.Doing.TheVariants.{Nothing, Searching, Changing, Lagging, Undoing}
use Rattle.desks.specs.{declared.desk.Desk.Desk, declared.desk.Doing.Doing}
use Rattle.desks.specs.Desks.{Store, desk_at, doing_in, doing_at, started_in, started_at, with_doing, is_undoing, HasRooms}
use Rattle.desks.proofs.Leaving.{search_left}
use Rattle.law_held_steps.specs.Leaving.{is_searching}
use Rattle.law_held_steps.proofs.AnyStep.{others_past, past_grows, IsGiven, given, there, started_still, rooms_then}
use Rattle.law_held_steps.proofs.Keeping.{GoesOnBy}
use Rattle.law_held_steps.proofs.Places.{no_search}
use Rattle.desks.specs.Holding.{RowsHeld}
use Rattle.law_locked_rows.specs.Owning.{AreOwned}
use Rattle.law_locked_rows.specs.Many.{IsHeldByAll, DoesFor}
use Rattle.law_other_places.proofs.Sessions.{each}

-- ---- searches, whoever may write

some_number : (a b : ℕ) → Some a ≡ Some b → a ≡ b
some_number a b same = cc

sight_for : (t u : ℕ) (store : Store) (sight : Sight) → SightHolds (record store { writer = None }) u sight
    → SightHolds (record store { writer = Some t }) u sight
sight_for t u store (View view reader) is = is
sight_for t u store Newest is = absurd (cc)

sight_of_none : (t u : ℕ) (store : Store) (sight : Sight) → u ≢ t → SightHolds (record store { writer = Some t }) u sight
    → SightHolds (record store { writer = None }) u sight
sight_of_none t u store (View view reader) differs is = is
sight_of_none t u store Newest differs is = absurd (differs (sym (some_number t u is)))

search_for : (t u : ℕ) (chains : Chains) (store : Store) (doing : Doing) → SearchHeld chains (record store { writer = None }) u doing
    → SearchHeld chains (record store { writer = Some t }) u doing
search_for t u chains store (Searching on) is =
    record { there = is.there; which = is.which; since = is.since; finds = is.finds; sight = sight_for t u store on.search.scan.sight is.sight }
search_for t u chains store Nothing is = is
search_for t u chains store (Changing change) is = is
search_for t u chains store Lagging is = is
search_for t u chains store Undoing is = is

search_of_none : (t u : ℕ) (chains : Chains) (store : Store) (doing : Doing) → u ≢ t → SearchHeld chains (record store { writer = Some t }) u doing
    → SearchHeld chains (record store { writer = None }) u doing
search_of_none t u chains store (Searching on) differs is =
    record { there = is.there; which = is.which; since = is.since; finds = is.finds; sight = sight_of_none t u store on.search.scan.sight differs is.sight }
search_of_none t u chains store Nothing differs is = is
search_of_none t u chains store (Changing change) differs is = is
search_of_none t u chains store Lagging differs is = is
search_of_none t u chains store Undoing differs is = is

-- ---- each session

-- what the session itself has after its step
pub record OwnPart (s : ℕ) (after : Chains) (new : Store) : Type 0 where
  pub replies : (session : Session) → IsSession s session new.world → is_some (under_way s new.world.past) ≡ true → session.can_reply ≡ true
  pub acks : (session : Session) → IsSession s session new.world → awaits_ack (of_item s new.world.past) ≡ true → session.can_ack ≡ true
  pub ends : (session : Session) (work : Work) → HasWork s session work new.world → work.can_end ≡ true
  pub started : started s new.world.past ≡ started_at s new.desks
  pub search : SearchHeld after (record new { writer = None }) s (doing_at s new.desks)
  pub rooms : (desk : Desk) → desk_at s new.desks ≡ Some desk → HasRooms desk

module _ {t : ℕ} {after : Chains} {old new : Store} {granted : List Lock} (held : IsHeldByAll old granted)
    (does : DoesFor t held.chains after old new) (mine : OwnPart t after new) where
  was : (u : ℕ) (session : Session) → u ≢ t → IsSession u session new.world → IsSession u session old.world
  was u session differs is = sym (does.sessions u differs) ∙ is

  parts : (u : ℕ) → OwnPart u after new
  parts = each t (λ u. OwnPart u after new) mine (λ u differs.
      let past = others_past t u old.world.past new.world.past differs does.adds in
      let desk = sym (does.desks u differs) in
      record {
        replies = λ session has busy. held.has_room.replies u session (was u session differs has) (ap is_some (sym past.item) ∙ busy);
        acks = λ session has waits. held.has_room.acks u session (was u session differs has) (ap awaits_ack (sym past.entries) ∙ waits);
        ends = λ session work has.
            held.has_room.ends u session work (record { session_is = was u session differs has.session_is; work_is = has.work_is });
        started = past.count ∙ held.started u ∙ ap started_in desk;
        search = subst (λ found. SearchHeld after (record new { writer = None }) u (doing_in found)) desk
            (search_of_none t u after new (doing_at u old.desks) differs
            (search_left t u does differs (doing_at u old.desks) (search_for t u held.chains old (doing_at u old.desks) (held.searches u))));
        rooms = λ room is. held.rooms u room (desk ∙ is);
      })

  pub held_after : {now : List Lock} → FitsThen new.world.past → RowsHeld after new.world new.desks → AreOwned new.world new.desks now → AreApart now
      → LogsAgree new.world
      → length new.desks ≡ length new.world.names → length new.world.names ≤ 68 → new.cuts ≤ length new.world.past → AreFew after new.world.past
      → IsHeldByAll new now
  held_after fits rows owned apart logs count few cut short = record {
    chains = after;
    agrees = does.agrees;
    fits = fits;
    rows = rows;
    owned = owned;
    apart = apart;
    searches = λ u. (parts u).search;
    logs = logs;
    has_room = record { replies = λ u. (parts u).replies; acks = λ u. (parts u).acks; ends = λ u. (parts u).ends };
    started = λ u. (parts u).started;
    rooms = λ u. (parts u).rooms;
    count = count;
    few = few;
    cut = cut;
    short = short;
  }

-- ---- a step of a change

module _ {t : ℕ} {store : Store} {new : WorldState} {granted : List Lock} (held : IsHeldByAll store granted) {session : Session} {work : Work}
    (opened : HasWork t session work store.world) (beside : KeepsBeside t store.world new) where
  abbrev old : WorldState
  old = store.world

  stays : StaysOpen t session work old new
  stays = beside.own session work opened

  is_now : (x : Session) → IsSession t x new → stays.session_now ≡ x
  is_now x is = one_session new t stays.session_now x stays.has.session_is is

  module _ (goes : GoesOnBy t old.past new.past) {after : Chains} (agrees : Agrees after new) (told : IsTold old) (doing : Doing)
      (within : t < length store.desks) where
    abbrev pub then_held : Store
    then_held = record store { world = new; desks = with_doing t doing store.desks }

    was_desk : (desk : Desk) × (desk_at t store.desks ≡ Some desk)
    was_desk = there t store.desks within

    gives : IsGiven t was_desk.0 (record was_desk.0 { doing = doing }) store.desks (with_doing t doing store.desks)
    gives = given t doing store.desks was_desk.1

    does : DoesFor t held.chains after store then_held
    does = record {
      agreed = held.agrees;
      agrees = agrees;
      adds = goes.adds;
      told = told;
      tables = λ n schema is. ap (λ (xs : List Schema). slice_get xs n) beside.schemas ∙ is;
      sessions = beside.others;
      desks = gives.others;
      places = λ u index differs. ap (λ (place : ℕ → Option Pair). place u) (beside.places index);
      rights = λ u differs is. absurd (differs (sym (some_number t u is)));
      back = λ u differs is. absurd (differs (sym (some_number t u is)));
      changes = inr refl;
      kept = inl (refl, beside.kept);
    }

    pub keeps_all : {now : List Lock} → is_undoing (doing_at t store.desks) ≡ false → is_searching doing ≡ false → FitsThen new.past
        → RowsHeld after new (with_doing t doing store.desks) → AreOwned new (with_doing t doing store.desks) now → AreApart now → LogsAgree new
        → AreFew after new.past → IsHeldByAll then_held now
    keeps_all not searches_not fits rows owned apart logs short =
        held_after held does (record {
          replies = λ x is busy. sym (ap (λ (z : Session). z.can_reply) (is_now x is)) ∙ stays.can_reply ∙ held.has_room.replies t session
              opened.session_is (sym (ap is_some (goes.under_way_is)) ∙ busy);
          acks = λ x is waits. sym (ap (λ (z : Session). z.can_ack) (is_now x is)) ∙ stays.can_ack ∙ held.has_room.acks t session opened.session_is
              (goes.awaits waits);
          ends = λ x w has. sym (ap (λ (w : Work). w.can_end) (one_work t stays.session_now x stays.work_now w new stays.has has)) ∙ stays.can_end
              ∙ held.has_room.ends t session work opened;
          started = goes.started_is ∙ held.started t ∙ sym (started_still t doing store.desks);
          search = subst (SearchHeld after (record then_held { writer = None }) t) (sym (ap doing_in gives.here))
              (no_search after (record then_held { writer = None }) t doing searches_not);
          rooms = rooms_then t doing store.desks (held.rooms t) not;
        }) fits rows owned apart logs (gives.count ∙ held.count ∙ ap length (sym beside.names))
        (subst (λ (names : List (List ℕ)). length names ≤ 68) (sym beside.names) held.few)
        (omega (arith, held.cut, past_grows t old.past new.past goes.adds)) short
