-- What holds of the lists after a step of a change, once its rows, logs and fitting changes are known: what the past says
-- then, and what others keep of a session.
use Rattle.std.proofs.Common.{◌≡◌, inl, inr, ℕ, ◌≤◌, true, false, List, ◌∷◌, length, refl, sym, subst, arith, eq-eqb, suc, ◌<◌, [], map, Option, Some, None, ap}
use Rattle.std.proofs.Common.{◌∙◌}
use Rattle.std.proofs.lemmas.Option.{slice_get_within}
use Rattle.inno_db.specs.declared.change.Change.{Change}
use Rattle.inno_model.specs.Past.{started, under_way, of_item, awaits_ack, level, IsOpen, own}
use Rattle.inno_model.specs.{declared.event.Event.Event, declared.event.Event.TheVariants.Changed}
use Rattle.law_found_rows.specs.Pasts.{AddsAtMostOne}
use Rattle.std.specs.Prelude.{slice_get, is_some}
use Rattle.world.specs.{State.WorldState, State.Session, State.Work, State.IsSession, State.HasWork, Told.IsTold}
use Rattle.law_world_agreement.specs.Agreement.{Agrees}
use Rattle.entries.specs.Pairs.{Pair}
use Rattle.shared_lists.specs.Fitting.{FitsThen}
use Rattle.desks.specs.Holding.{AreFew, IsHeld, RowsHeld, SearchHeld}
use Rattle.desks.specs.Desks.{Store, desk_at, doing_in, doing_at, with_doing, is_undoing}
use Rattle.desks.specs.{declared.desk.Desk.Desk, declared.desk.Doing.Doing, Leaves.Does}
use Rattle.inno_types.specs.{declared.lock.Level.Level, declared.value.Schema.Schema}
use Rattle.row_versions.specs.Chains.{Chains}
use Rattle.law_past_agreement.specs.{Slots.fresh, Agreement.SlotAgrees, Agreement.IsIdle}
use Rattle.law_world_agreement.proofs.{Settled.slot_if, Settled.slot_at, Opening.idle_of}
use Rattle.row_changes.proofs.{Sessions.one_session, Ids.one_work}
use Rattle.law_logged_changes.specs.{GoingOn.StaysOpen, GoingOn.KeepsBeside, Logs.LogsAgree}
use Rattle.law_held_steps.specs.{Making.LeavesLists, Leaving.is_searching}
use Rattle.law_other_places.proofs.Sessions.{each}
use Rattle.law_held_steps.proofs.AnyStep.{waits_not, past_grows, held_after, IsGiven, given, there, started_still, rooms_then}
use Rattle.law_held_steps.proofs.Places.{no_search}

-- it has started or ended no item, and no commit of its own waits for its acknowledgement that didn't
pub record GoesOnBy (s : ℕ) (old new : List Event) : Type 0 where
  pub adds : AddsAtMostOne s old new
  pub started_is : started s new ≡ started s old
  pub under_way_is : under_way s new ≡ under_way s old
  pub open_is : IsOpen s old → IsOpen s new
  pub awaits : awaits_ack (of_item s new) ≡ true → awaits_ack (of_item s old) ≡ true

pub goes_same : {s : ℕ} {old new : List Event} → new ≡ old → GoesOnBy s old new
goes_same {s} {old} same = subst (GoesOnBy s old) (sym same) (record {
  adds = inl refl;
  started_is = refl;
  under_way_is = refl;
  open_is = λ is. is;
  awaits = λ is. is;
})

pub goes_changed : {s : ℕ} {change : Change} {old new : List Event} → new ≡ Changed s change ∷ old → GoesOnBy s old new
goes_changed {s} {change} {old} is = subst (GoesOnBy s old) (sym is) (record {
  adds = inr (Changed s change, eq-eqb s s refl, refl);
  started_is = refl;
  under_way_is = refl;
  open_is = λ is. is;
  awaits = λ waits. absurd (waits_not s (Changed s change ∷ of_item s old) old waits refl);
})

-- the session has an open transaction
abbrev pub HasOpen : ℕ → WorldState → Type 0
HasOpen s state = (session : Session) × (work : Work) × HasWork s session work state

open_or_not : (found : Option Level) → is_some found ≡ true → found ≡ None → ⊥
open_or_not found is none = cc

module _ {chains : Chains} {state : WorldState} (agrees : Agrees chains state) (s : ℕ) where
  work_there : IsOpen s state.past → (session : Session) → IsSession s session state → (work : Option Work) → session.work ≡ work → HasOpen s state
  work_there is_open session there None none =
      let idle = idle_of chains state s session agrees there none in absurd (open_or_not (level s state.past) is_open idle.level_is)
  work_there is_open session there (Some work) is = (session, work, record { session_is = there; work_is = is })

  session_there : IsOpen s state.past → (found : Option Session) → slice_get state.sessions s ≡ found → HasOpen s state
  session_there is_open None none =
      let slot : SlotAgrees state.schemas state.past s fresh =
      subst (SlotAgrees state.schemas state.past s) (slot_at s state.past state.schemas state.sessions ∙ ap (slot_if state.past state.schemas s) none)
      (agrees.lists.sessions s) in
      let idle : IsIdle state.past s = slot.work_is in
      absurd (open_or_not (level s state.past) is_open idle.level_is)
  session_there is_open (Some session) there = work_there is_open session there session.work refl

  pub open_work : IsOpen s state.past → HasOpen s state
  open_work is_open = session_there is_open (slice_get state.sessions s) refl

  pub open_joined : IsOpen s state.past → s < length state.names
  open_joined is_open = let has = open_work is_open in omega (arith, slice_get_within state.sessions s has.0 has.2.session_is, agrees.count)

-- two lists of sessions with the same settings
pub same_settings : (xs ys : List Session) → length xs ≡ length ys → ((t : ℕ) (x y : Session) → slice_get xs t ≡ Some x → slice_get ys t ≡ Some y
    → x.setting ≡ y.setting) → map (λ (session : Session). session.setting) xs ≡ map (λ (session : Session). session.setting) ys
same_settings [] [] count each = refl
same_settings [] (y ∷ ys) count each = absurd (omega (arith, count))
same_settings (x ∷ xs) [] count each = absurd (omega (arith, count))
same_settings (x ∷ xs) (y ∷ ys) count each =
    ap (λ s. s ∷ map (λ (session : Session). session.setting) xs) (each 0 x y refl refl)
    ∙ ap (λ rest. y.setting ∷ rest) (same_settings xs ys (omega (arith, count)) (λ t a b first second. each (suc t) a b first second))

module _ {s : ℕ} {store : Store} {new : WorldState} (held : IsHeld store) (mine : store.writer ≡ Some s) (beside : KeepsBeside s store.world new) where
  abbrev old : WorldState
  old = store.world

  -- who may write has a transaction, and has it still
  pub was_open : HasOpen s old
  was_open = open_work held.agrees s (held.owned.opened s mine)

  pub stays_open : StaysOpen s was_open.0 was_open.1 old new
  stays_open = beside.own was_open.0 was_open.1 was_open.2

  -- a session that is there now, and the one of its number before
  is_now : (session : Session) → IsSession s session new → stays_open.session_now ≡ session
  is_now session there = one_session new s stays_open.session_now session stays_open.has.session_is there

  pub leaves_lists : LeavesLists old new
  leaves_lists = record { names = beside.names; schemas = beside.schemas; settings = same_settings new.sessions old.sessions beside.count setting_is }
    where
      setting_is : (t : ℕ) (x y : Session) → slice_get new.sessions t ≡ Some x → slice_get old.sessions t ≡ Some y → x.setting ≡ y.setting
      setting_is t x y =
          each s (λ t. slice_get new.sessions t ≡ Some x → slice_get old.sessions t ≡ Some y → x.setting ≡ y.setting)
          (λ first second. sym (ap (λ (z : Session). z.setting) (is_now x first)) ∙ stays_open.setting ∙
          ap (λ (z : Session). z.setting) (one_session old s was_open.0 y was_open.2.session_is second))
          (λ u differs first second. ap (λ (z : Session). z.setting) (one_session old u x y (sym (beside.others u differs) ∙ first) second)) t

  module _ (goes : GoesOnBy s old.past new.past) {after : Chains} (agrees : Agrees after new) (told : IsTold old) (doing : Doing)
      (within : s < length store.desks) where
    abbrev then_held : Store
    then_held = record store { world = new; desks = with_doing s doing store.desks }

    was : (desk : Desk) × (desk_at s store.desks ≡ Some desk)
    was = there s store.desks within

    gives : IsGiven s was.0 (record was.0 { doing = doing }) store.desks (with_doing s doing store.desks)
    gives = given s doing store.desks was.1

    does : Does s held.chains after store then_held
    does = record {
      agreed = held.agrees;
      agrees = agrees;
      adds = goes.adds;
      told = told;
      tables = λ n schema there. ap (λ (xs : List Schema). slice_get xs n) beside.schemas ∙ there;
      sessions = beside.others;
      desks = gives.others;
      places = λ u index differs. ap (λ (place : ℕ → Option Pair). place u) (beside.places index);
      rights = λ u differs is. is;
      back = λ u differs is. is;
      changes = inr mine;
      kept = inl (refl, beside.kept);
    }

    pub keeps : is_undoing (doing_at s store.desks) ≡ false → is_searching doing ≡ false → FitsThen new.past
        → RowsHeld after new (with_doing s doing store.desks) → LogsAgree new → AreFew after new.past → IsHeld then_held
    keeps not searches_not fits rows logs short =
        held_after held does (record {
          replies = λ session there busy. sym (ap (λ (z : Session). z.can_reply) (is_now session there)) ∙ stays_open.can_reply ∙ held.has_room.replies s
              was_open.0 was_open.2.session_is (sym (ap is_some (goes.under_way_is)) ∙ busy);
          acks = λ session there waits. sym (ap (λ (z : Session). z.can_ack) (is_now session there)) ∙ stays_open.can_ack ∙ held.has_room.acks s was_open.0
              was_open.2.session_is (goes.awaits waits);
          ends = λ session work has. sym (ap (λ (w : Work). w.can_end) (one_work s stays_open.session_now session stays_open.work_now work new stays_open.has
              has)) ∙ stays_open.can_end ∙ held.has_room.ends s was_open.0 was_open.1 was_open.2;
          started = goes.started_is ∙ held.started s ∙ sym (started_still s doing store.desks);
          opened = λ is. goes.open_is (held.owned.opened s is);
          clean = λ other. absurd (other mine);
          quiet = λ other. absurd (other mine);
          search = subst (SearchHeld after then_held s) (sym (ap doing_in gives.here)) (no_search after then_held s doing searches_not);
          rooms = rooms_then s doing store.desks (held.rooms s) not;
        }) fits rows logs (gives.count ∙ held.count ∙ ap length (sym beside.names))
        (subst (λ (names : List (List ℕ)). length names ≤ 68) (sym beside.names) held.few)
        (omega (arith, held.cut, past_grows s old.past new.past goes.adds)) short
