-- Each call leaves a stopped engine as one is: its history legal, and each seat as the past says.
use Rattle.std.proofs.Common.{◌≡◌, ◌≢◌, ◌∙◌, ap, sym, subst, refl, ℕ, zero, suc, ◌+◌, ◌<◌, ◌≤◌, Bool, true, false, None, List, [], ◌∷◌, ◌++◌, length}
use Rattle.std.proofs.Common.{get_or, set, inl, ⊎_elim, arith, length-append}
use Rattle.std.proofs.lemmas.Bool.Decides.{nat_tests, eqb_tells}
use Rattle.std.proofs.lemmas.List.{get_or-set_same, get_or-set_other, get_or_read, length-set}
use Rattle.inno_types.specs.declared.reply.Cause.{Cause}
use Rattle.inno_types.specs.declared.reply.Item.{Item}
use Rattle.inno_types.specs.declared.reply.Reply.TheVariants as replies
use Rattle.inno_model.specs.declared.event.Event.{Event}
use Rattle.inno_model.specs.declared.event.Event.TheVariants as events
use Rattle.inno_model.specs.Past.{started, under_way}
use Rattle.sql_grammar.specs.Grammar.{Spells}
use Rattle.sql_history.specs.Legal.{EndsBy, PaysCommit, owes_commit}
use Rattle.inno_model.specs.declared.board.Phase.{Phase}
use Rattle.inno_model.specs.declared.board.Phase.TheVariants.{Idle, Busy, Leaving, Left}
use Rattle.durable_engine.specs.declared.stopped_seats.Seat.{Seat}
use Rattle.durable_engine.specs.Seats.{State, seat_at, phase_at, halted, ended, phase_after, PhaseAgrees, SeatAgrees, AreSeats, IsStopped}
use Rattle.durable_engine.specs.StoppedCalls.{IsAtWork, has_left}
use Rattle.durable_engine.proofs.Others.{LeavesAlone, others_start, others_end, all_stop, made_some}

abbrev at_seat : Phase → ℕ → Seat
at_seat phase started = record { phase = phase; started = started }

-- what holds of a stopped engine, by its parts
abbrev Stands : Bool → List (List ℕ) → List Event → List Seat → Cause → Type 0
Stands entered names past seats cause = IsStopped entered (record { names = names; past = past; seats = seats; cause = cause })

some_past : (e : Event) (past : List Event) → e ∷ past ≢ []
some_past e past is = cc

-- ---- the seats

module _ (s : ℕ) (e : Event) (past : List Event) (alone : LeavesAlone s e past) where
  phase_still : (phase : Phase) → PhaseAgrees past s phase → PhaseAgrees (e ∷ past) s phase
  phase_still Idle was = (alone.item ∙ was.0, alone.leaving ∙ was.1)
  phase_still Busy was = ((was.0.0, alone.item ∙ was.0.1), made_some s e past alone Spells was.1)
  phase_still Leaving was = alone.item ∙ was
  phase_still Left was = alone.item ∙ was

  seat_still : (seat : Seat) → SeatAgrees past s seat → SeatAgrees (e ∷ past) s seat
  seat_still seat was = record { phase = phase_still seat.phase was.phase; counted = was.counted ∙ sym alone.count }

-- a seat that waits for its session
pub seat_more : (seats : List Seat) (u : ℕ) → seat_at (seats ++ at_seat Idle 0 ∷ []) u ≡ seat_at seats u
seat_more [] zero = refl
seat_more [] (suc u) = refl
seat_more (seat ∷ seats) zero = refl
seat_more (seat ∷ seats) (suc u) = seat_more seats u

-- another entry, and another seat for the session
seats_next : (names : List (List ℕ)) (past new : List Event) (seats : List Seat) (s : ℕ) (seat : Seat) → AreSeats names past seats → s < length names
    → ((u : ℕ) → u ≢ s → SeatAgrees new u (seat_at seats u)) → SeatAgrees new s seat → AreSeats names new (set seats s seat)
seats_next names past new seats s seat were joined others agrees =
    let there : s < length seats = omega (arith, joined, were.enough) in
    record {
      enough = omega (arith, length-set seats s seat, were.enough);
      each = λ u. ⊎_elim
          (λ here. subst (λ t. SeatAgrees new t (seat_at (set seats s seat) t)) (sym here.1)
          (subst (SeatAgrees new s) (sym (get_or-set_same seats s seat (at_seat Idle 0) there)) agrees))
          (λ apart. subst (SeatAgrees new u) (sym (get_or-set_other seats s u seat (at_seat Idle 0) apart.1)) (others u apart.1))
          (eqb_tells u s);
    }

started_here : (s j : ℕ) (item : Item) (past : List Event) → j ≡ started s past + 1 → SeatAgrees (events.Started s j item ∷ past) s (at_seat Busy j)
started_here s j item past numbered = record {
  phase = ((item, grind (arith, nat_tests)), inl (grind (arith, nat_tests)));
  counted = grind (arith, nat_tests, numbered);
}

ended_here : (s j : ℕ) (past : List Event) → j ≡ started s past → SeatAgrees (events.Ended s j replies.Stopped ∷ past) s (at_seat Idle j)
ended_here s j past counted = record { phase = (grind (arith, nat_tests), grind (arith, nat_tests)); counted = counted }

-- ---- the calls

module _ (entered : Bool) (names : List (List ℕ)) (past : List Event) (seats : List Seat) (cause : Cause) (is : Stands entered names past seats cause) where
  pays : (e : Event) → PaysCommit (owes_commit past) e
  pays e = subst (λ owed. PaysCommit owed e) (sym is.paid) tt

  -- other names and seats that agree with the same past
  same_past : (all : List (List ℕ)) (new : List Seat) → AreSeats all past new → Stands entered all past new cause
  same_past all new seated = record { legal = is.legal; opened = is.opened; paid = is.paid; told = is.told; stopped = is.stopped; seated = seated }

  -- the stop is entered
  entering : entered ≡ false → Stands true names (events.Stopped cause ∷ past) seats cause
  entering not = record {
    legal = ((is.opened, sym is.told ∙ not, tt, pays (events.Stopped cause)), is.legal);
    opened = some_past (events.Stopped cause) past;
    paid = refl;
    told = refl;
    stopped = λ _. refl;
    seated = record {
      enough = is.seated.enough;
      each = λ u. seat_still u (events.Stopped cause) past (all_stop u cause past) (seat_at seats u) (is.seated.each u);
    };
  }

  halts : Stands true names (halted cause past) seats cause
  halts = by entered refl
    where
      by : (b : Bool) → entered ≡ b → Stands true names (halted cause past) seats cause
      by true said = subst (λ b. Stands b names (halted cause past) seats cause) said (rw (sym is.told ∙ said) is)
      by false not = rw (sym is.told ∙ not) (entering not)

  pub kept_seat : (all : List (List ℕ)) → length all ≤ length names + 1 → Stands entered all past (seats ++ at_seat Idle 0 ∷ []) cause
  kept_seat all few = same_past all (seats ++ at_seat Idle 0 ∷ []) (record {
    enough = omega (arith, length-append seats (at_seat Idle 0 ∷ []), is.seated.enough, few);
    each = λ u. subst (SeatAgrees past u) (sym (seat_more seats u)) (is.seated.each u);
  })

  module _ (s : ℕ) (joined : s < length names) (seat : Seat) (found : seat ≡ seat_at seats s) where
    agrees : SeatAgrees past s seat
    agrees = subst (SeatAgrees past s) (sym found) (is.seated.each s)

    so_far : (phase : Phase) → seat.phase ≡ phase → PhaseAgrees past s phase
    so_far phase far = subst (PhaseAgrees past s) far agrees.phase

    -- the session is as far as the past says of it too
    moves : (phase : Phase) → PhaseAgrees past s phase → Stands entered names past (set seats s (at_seat phase seat.started)) cause
    moves phase here = same_past names (set seats s (at_seat phase seat.started))
        (seats_next names past past seats s (at_seat phase seat.started) is.seated joined (λ u apart. is.seated.each u)
        (record { phase = here; counted = agrees.counted }))

    goes : seat.phase ≡ Idle → Stands entered names past (set seats s (at_seat Leaving seat.started)) cause
    goes idle = moves Leaving (so_far Idle idle).0

    starts : (item : Item) → seat.phase ≡ Idle
        → Stands entered names (events.Started s (seat.started + 1) item ∷ past) (set seats s (at_seat Busy (seat.started + 1))) cause
    starts item idle =
        let j = seat.started + 1 in
        let e = events.Started s j item in
        let number : j ≡ started s past + 1 = ap (λ n. n + 1) agrees.counted in
        let rests = so_far Idle idle in
        record {
          legal = ((is.opened, record { idle = rests.0; stays = rests.1; numbered = number }, pays e), is.legal);
          opened = some_past e past;
          paid = refl;
          told = is.told;
          stopped = is.stopped;
          seated = seats_next names past (e ∷ past) seats s (at_seat Busy j) is.seated joined
              (λ u apart. seat_still u e past (others_start u s j item past (λ same. apart (sym same))) (seat_at seats u) (is.seated.each u))
              (started_here s j item past number);
        }

    ends : entered ≡ true → seat.phase ≡ Busy
        → Stands entered names (events.Ended s seat.started replies.Stopped ∷ past) (set seats s (at_seat Idle seat.started)) cause
    ends said busy =
        let j = seat.started in
        let e = events.Ended s j replies.Stopped in
        let was = so_far Busy busy in
        let by_stop = subst (λ over. EndsBy over Spells s was.0.0 replies.Stopped past) (sym said ∙ is.told) (refl, was.1) in
        record {
          legal = ((is.opened, record { numbered = agrees.counted; item = was.0.0; asked = was.0.1; ends = by_stop }, pays e), is.legal);
          opened = some_past e past;
          paid = refl;
          told = is.told;
          stopped = is.stopped;
          seated = seats_next names past (e ∷ past) seats s (at_seat Idle j) is.seated joined
              (λ u apart. seat_still u e past (others_end u s j replies.Stopped past (λ same. apart (sym same))) (seat_at seats u) (is.seated.each u))
              (ended_here s j past agrees.counted);
        }

    steps : (phase : Phase) → entered ≡ true → seat.phase ≡ phase → IsAtWork phase
        → Stands entered names (ended s seat.started phase past) (set seats s (at_seat (phase_after phase) seat.started)) cause
    steps Busy said far works = ends said far
    steps Leaving said far works = moves Left (so_far Leaving far)
    steps Idle said far works = (let no = works in cc)
    steps Left said far works = (let no = works in cc)

-- ---- as a call finds it: the session's seat was read

module _ (entered : Bool) (names : List (List ℕ)) (past : List Event) (seats : List Seat) (cause : Cause) (is : Stands entered names past seats cause)
    (old : State) (view : record { names = names; past = past; seats = seats; cause = cause } ≡ old) (s : ℕ) (joined : s < length old.names)
    (seat : Seat) (read : seat ≡ get_or seats s seat) where
  is_joined : s < length names
  is_joined = subst (λ (o : State). s < length o.names) (sym view) joined

  is_found : seat ≡ seat_at seats s
  is_found = get_or_read seats s seat (omega (arith, is_joined, is.seated.enough)) read (at_seat Idle 0)

  far : seat.phase ≡ phase_at old.seats s
  far = ap (λ (seat : Seat). seat.phase) is_found ∙ ap (λ (o : State). phase_at o.seats s) view

  pub kept_start : (item : Item) → phase_at old.seats s ≡ Idle
      → Stands entered names (events.Started s (seat.started + 1) item ∷ past) (set seats s (at_seat Busy (seat.started + 1))) cause
  kept_start item idle = starts entered names past seats cause is s is_joined seat is_found item (far ∙ idle)

  pub kept_leave : phase_at old.seats s ≡ Idle → Stands entered names past (set seats s (at_seat Leaving seat.started)) cause
  kept_leave idle = goes entered names past seats cause is s is_joined seat is_found (far ∙ idle)

  pub kept_step : IsAtWork (phase_at old.seats s)
      → Stands true names (ended s seat.started seat.phase (halted cause past)) (set seats s (at_seat (phase_after seat.phase) seat.started)) cause
  kept_step works =
      steps true names (halted cause past) seats cause (halts entered names past seats cause is) s is_joined seat is_found seat.phase refl refl
      (subst IsAtWork (sym far) works)

-- nothing of a session that has left is under way
pub left_rests : (past : List Event) (s : ℕ) (phase : Phase) → PhaseAgrees past s phase → has_left phase ≡ true → under_way s past ≡ None
left_rests past s Left agrees left = agrees
left_rests past s other agrees left = cc
