-- A transaction that is opened, and a view that is taken.
use Rattle.std.proofs.Common.{◌≡◌, ◌≢◌, inr, ℕ, zero, suc, ◌+◌, ◌<◌, ◌^◌, eqb, true, false, List, [], ◌∷◌, length, slice_get, slice_set}
use Rattle.std.proofs.Common.{option_map, is_some, Some, None, refl, ap, subst, ◌∙◌, arith}
use Rattle.std.proofs.lemmas.Bool.Decides.{nat_tests}
use Rattle.std.proofs.lemmas.List.{length-set}
use Rattle.std.proofs.lemmas.Option.{slice_get_within}
use Rattle.inno_types.specs.declared.lock.Level.{Level}
use Rattle.inno_model.specs.{declared.event.Event.Event, declared.event.Event.TheVariants.Begin, declared.event.Event.TheVariants.View}
use Rattle.inno_model.specs.{Past.commits}
use Rattle.txn_table.specs.Txns.{Txns, ids_of as active_of}
use Rattle.row_versions.specs.{Chains.Chains}
use Rattle.law_past_agreement.specs.{Rows.is_at, Rows.row_opened, Agreement.IsIdle, Agreement.IsViewOf}
use Rattle.law_past_agreement.proofs.{Agree.view_now, Rows.rows_stay}
use Rattle.world.specs.State.{WorldState, Session, Work, IsSession, HasWork}
use Rattle.world.specs.Sessions.{fresh_work}
use Rattle.law_world_agreement.specs.{Agreement.Agrees, Steps.session_begun, Steps.opened, Steps.viewed}
use Rattle.law_world_agreement.proofs.Settled.{works_at, Keeps, keeps_of, kept_of, Adds, after}

pub set_here : {X : Type 0} (xs : List X) (i : ℕ) (x a : X) → slice_get xs i ≡ Some x → slice_get (slice_set xs i a) i ≡ Some a
set_here [] i x a there = absurd (cc)
set_here (y ∷ xs) zero x a there = refl
set_here (y ∷ xs) (suc i) x a there = set_here xs i x a there

pub set_other : {X : Type 0} (xs : List X) (i j : ℕ) (a : X) → j ≢ i → slice_get (slice_set xs i a) j ≡ slice_get xs j
set_other [] i j a differs = refl
set_other (y ∷ xs) i j a differs = grind (arith, differs, set_other xs)

pub works_here : (xs : List Session) (s : ℕ) (x a : Session) → slice_get xs s ≡ Some x → works_at s (slice_set xs s a) ≡ Some a.work
works_here xs s x a there = ap (option_map (λ (y : Session). y.work)) (set_here xs s x a there)

-- the session's state is another now, and its entry has come
pub replaced : {e : Event} {s : ℕ} {old new : WorldState} (x : Session) → new.past ≡ e ∷ old.past → new.names ≡ old.names
    → new.sessions ≡ slice_set old.sessions s x → Adds e s old new
replaced {s = s} {old = old} x past names sessions =
    record {
      past = past;
      names = names;
      count = ap length sessions ∙ length-set old.sessions s x;
      others = λ u differs. ap (works_at u) sessions ∙ ap (option_map (λ (y : Session). y.work)) (set_other old.sessions s u x differs);
    }

pub idle_of : (chains : Chains) (state : WorldState) (s : ℕ) (session : Session) → Agrees chains state
    → IsSession s session state → session.work ≡ None → IsIdle state.past s
idle_of chains state s session agrees there none =
    subst (Keeps state.past s) (ap (option_map (λ (x : Session). x.work)) there ∙ ap Some none) (keeps_of agrees s)

pub joined_of : {chains : Chains} {state : WorldState} {s : ℕ} {session : Session} → Agrees chains state
    → slice_get state.sessions s ≡ Some session → s < length state.names
joined_of {state = state} {s = s} {session = session} agrees there = omega (arith, slice_get_within state.sessions s session there, agrees.count)

pub mine_tells : (s u : ℕ) → u ≢ s → eqb s u ≡ false
mine_tells s u differ = grind (arith, nat_tests, differ)

pub opened_agrees : (chains : Chains) (old : WorldState) (s : ℕ) (level : Level) (session : Session) → Agrees chains old
    → IsSession s session old → session.work ≡ None → length old.past + 1 < 2 ^ 63 → Agrees chains (opened s level session old)
opened_agrees chains old s l session agrees there none few =
    let m = old.txns.begun + 1 in
    let h = old.past in
    let idle = idle_of chains old s session agrees there none in
    let x1 = session_begun l session old in
    let work : Work = record (fresh_work m l) { can_end = true } in
    let x2 : Session = record x1 { can_begin = false; work = Some work } in
    after agrees (Begin s m l) s (mine_tells s) (ap (λ (t : Txns). t.begun + 1) agrees.lists.txns_are, idle.level_is) few (joined_of agrees there)
    (record {
      past = refl;
      names = refl;
      count = length-set (slice_set old.sessions s x1) s x2 ∙ length-set old.sessions s x1;
      others = λ u differs. ap (option_map (λ (x : Session). x.work)) (set_other (slice_set old.sessions s x1) s u x2 differs ∙
          set_other old.sessions s u x1 differs);
    })
    agrees.lists.tables
    (rw agrees.lists.txns_are refl)
    (Some work) (works_here (slice_set old.sessions s x1) s x1 x2 (set_here old.sessions s session x1 there))
    (grind (arith, nat_tests))
    (λ place. rows_stay (row_opened h place) (is_at old.schemas place) (Begin s m l) h (λ u. grind (arith, nat_tests, idle.own_is))
    (λ u. grind (arith, nat_tests, idle.own_is)) (λ n id. refl) (λ n. refl) (agrees.lists.rows place))

pub viewed_agrees : (chains : Chains) (old : WorldState) (s : ℕ) (session : Session) (work : Work) → Agrees chains old
    → HasWork s session work old → length old.past + 1 < 2 ^ 63 → Agrees chains (viewed s session work old)
viewed_agrees chains old s session work agrees has few =
    let h = old.past in
    let mine = kept_of agrees has in
    let now : Work = record work { view = Some (record { active = active_of old.txns.open_txns; next = old.txns.next }) } in
    let view : IsViewOf (View s ∷ h) s (commits h) (record { active = active_of old.txns.open_txns; own = 0; next = old.txns.next }) =
    rw agrees.lists.txns_are (view_now h agrees.lists.ordered s) in
    after agrees (View s) s (mine_tells s) (ap is_some mine.level_is) few (joined_of agrees has.session_is)
    (replaced (record session { work = Some now }) refl refl refl)
    agrees.lists.tables agrees.lists.txns_are (Some now) (works_here old.sessions s session (record session { work = Some now }) has.session_is)
    (record { level_is = mine.level_is; txn_is = mine.txn_is; id_is = mine.id_is; view_is = (commits h, view); own_is = mine.own_is })
    (λ place. rows_stay (row_opened h place) (is_at old.schemas place) (View s) h (λ u. inr refl) (λ u. refl) (λ n id. refl) (λ n. refl)
    (agrees.lists.rows place))
