-- What holds of the seats of logged sessions is kept by each call.
use Rattle.std.proofs.Common.{◌≡◌, ◌≢◌, ℕ, zero, suc, ◌+◌, ◌<◌, ◌≤◌, Option, None, Some, List, [], ◌∷◌, ◌++◌, length, get_or, set, refl, sym, ap, subst, ◌∙◌}
use Rattle.std.proofs.Common.{inl, inr, arith}
use Rattle.std.proofs.lemmas.Bool.Decides.{nat_tests, eqb_tells}
use Rattle.std.proofs.lemmas.List.{get_or-set_same, get_or-set_other, get_or_read, length-set, length-append}
use Rattle.std.specs.Prelude.{All, Result, Ok, Err, OnOk, OnErr}
use Rattle.inno_types.specs.declared.reply.Item.{Item}
use Rattle.inno_types.specs.declared.reply.Item.TheVariants as items
use Rattle.inno_model.specs.declared.event.Event.{Event}
use Rattle.inno_model.specs.declared.event.Event.TheVariants as events
use Rattle.inno_model.specs.Past.{started, opening, under_way}
use Rattle.sql_grammar.specs.Grammar.{Spells}
use Rattle.sql_history.specs.Legal.{IsLegal}
use Rattle.store_api.specs.declared.answers.Progress.{Progress}
use Rattle.store_api.specs.declared.answers.Progress.TheVariants as progress
use Rattle.sql_history.specs.Counts.{last_moment}
use Rattle.law_crashes.specs.Commits.{last_acked}
use Rattle.inno_model.specs.declared.board.Phase.{Phase}
use Rattle.inno_model.specs.declared.board.Phase.TheVariants as phases
use Rattle.commit_log.specs.Room.{IsLoggable}
use Rattle.commit_log.specs.View.{CommitView}
use Rattle.session_engine.specs.declared.seats.Seat.{Seat as StatementSeat}
use Rattle.session_engine.specs.declared.seats.Seat.TheVariants.{Idle, Busy, Refused, Signalling, Leaving, Left}
use Rattle.session_engine.specs.declared.seats.SignalItem.{SignalItem}
use Rattle.session_engine.specs.declared.seats.SignalItem.TheVariants.{Gives, Awaits}
use Rattle.session_engine.specs.Seats.{State as Sessions, seat_at, phase_of, HasAsked, SeatAgrees, AreSeats}
use Rattle.session_engine.specs.Calls.{Joins, SameState, Starts, StepsOn, StepsBy, Acknowledges}
use Rattle.session_engine.proofs.Others.{has_item}
use Rattle.statement.proofs.Broken.{of_statements, of_nothing}
use Rattle.durable_engine.specs.declared.stopped_seats.Seat.{Seat}
use Rattle.durable_engine.specs.Seats.{phase_at, seat_at as stopped_seat_at, PhaseAgrees, AreSeats as AreStoppedSeats}
use Rattle.durable_engine.specs.SessionsState.{AreSeated}
use Rattle.durable_engine.proofs.Adding.{AreAdded, opening_stays}
use Rattle.shared_lists.specs.State.{State as Lists}

-- ---- an engine that stops

some_item : (item : Option Item) → item ≢ None → (x : Item) × (item ≡ Some x)
some_item None some = absurd (some refl)
some_item (Some x) some = (x, refl)

signals_off : (s : ℕ) (item : SignalItem) (past : List Event) → HasAsked s item past → PhaseAgrees past s phases.Busy
signals_off s (Gives name) past asked = ((items.Signal name, asked.asked), of_nothing s past asked.nothing)
signals_off s (Awaits wait) past asked = ((items.Await wait.name, asked.0.asked), of_nothing s past asked.0.nothing)

breaks_off : (lists : Lists) (s : ℕ) (seat : StatementSeat) → IsLegal Spells lists.past → SeatAgrees lists s seat → PhaseAgrees lists.past s (phase_of seat)
breaks_off lists s Idle legal agrees = (agrees.0.rests, agrees.1)
breaks_off lists s (Busy statement) legal agrees =
    (some_item (under_way s lists.past) (has_item lists s statement agrees.0), of_statements lists s statement legal agrees.0)
breaks_off lists s (Refused at) legal agrees = ((items.Sql agrees.text, agrees.started.item), of_nothing s lists.past agrees.started.nothing)
breaks_off lists s (Signalling item) legal agrees =
    signals_off s item lists.past agrees.0
breaks_off lists s Leaving legal agrees = agrees.may.rests
breaks_off lists s Left legal agrees = agrees.0

-- the seats that an engine hands over where it stops
pub stops_seated : (sessions : Sessions) (seats : List Seat) (log : CommitView) → IsLegal Spells sessions.lists.past
    → AreSeats sessions.lists sessions.seats → AreSeated sessions seats log → AreStoppedSeats sessions.lists.names sessions.lists.past seats
stops_seated sessions seats log legal agree seated =
    record {
      enough = seated.enough;
      each = λ s. record {
        phase = subst (PhaseAgrees sessions.lists.past s) (sym (seated.phases s)) (breaks_off sessions.lists s (seat_at sessions.seats s) legal (agree.each s));
        counted = seated.counted s;
      };
    }

-- ---- a session moves

abbrev pub no_seat : Seat
no_seat = record { phase = phases.Idle; started = 0 }

module _ (old new : Sessions) (seats : List Seat) (log after : CommitView) (s : ℕ) (seated : AreSeated old seats log)
    (names : new.lists.names ≡ old.lists.names) (joined : s < length old.lists.names)
    (same_drafts : length after.drafts ≡ length log.drafts) (opens : opening new.lists.past ≡ opening old.lists.past)
    (others : (u : ℕ) → u ≢ s → seat_at new.seats u ≡ seat_at old.seats u) (seat : Seat) where
  within : s < length seats
  within = omega (arith, joined, seated.enough)

  pub moved : seat.phase ≡ phase_of (seat_at new.seats s) → seat.started ≡ started s new.lists.past
      → ((u : ℕ) → u ≢ s → started u new.lists.past ≡ started u old.lists.past) → AreSeated new (set seats s seat) after
  moved phase_is count_is counts =
      record {
        enough = rw (names, length-set seats s seat) seated.enough;
        drafted = rw (names, same_drafts) seated.drafted;
        phases = λ u. elim (eqb_tells u s) [
          | inl same ↦ subst (λ v. phase_at (set seats s seat) v ≡ phase_of (seat_at new.seats v)) (sym same.1)
              (ap (λ (x : Seat). x.phase) (get_or-set_same seats s seat no_seat within) ∙ phase_is)
          | inr differ ↦ ap (λ (x : Seat). x.phase) (get_or-set_other seats s u seat no_seat differ.1)
              ∙ (seated.phases u ∙ ap phase_of (sym (others u differ.1)))
        ];
        counted = λ u. elim (eqb_tells u s) [
          | inl same ↦ subst (λ v. (stopped_seat_at (set seats s seat) v).started ≡ started v new.lists.past) (sym same.1)
              (ap (λ (x : Seat). x.started) (get_or-set_same seats s seat no_seat within) ∙ count_is)
          | inr differ ↦ ap (λ (x : Seat). x.started) (get_or-set_other seats s u seat no_seat differ.1)
              ∙ (seated.counted u ∙ sym (counts u differ.1))
        ];
        tables = subst (λ db. All IsLoggable db.schemas) (sym opens) seated.tables;
      }

-- ---- what the calls do to the seats

started_here : (s j : ℕ) (item : Item) (h : List Event) → started s (events.Started s j item ∷ h) ≡ started s h + 1
started_here s j item h = grind (arith, nat_tests)

started_elsewhere : (s u j : ℕ) (item : Item) (h : List Event) → u ≢ s → started u (events.Started s j item ∷ h) ≡ started u h
started_elsewhere s u j item h differ = grind (arith, nat_tests, differ)

seat_read : (seats : List Seat) (s : ℕ) (seat : Seat) → s < length seats → seat ≡ get_or seats s seat → seat ≡ stopped_seat_at seats s
seat_read seats s seat joined is = get_or_read seats s seat joined is no_seat

module _ (old new : Sessions) (seats : List Seat) (log after : CommitView) (s j : ℕ) (item : Item) (seated : AreSeated old seats log)
    (joined : s < length old.lists.names) (starts : Starts s item old new) (same_drafts : length after.drafts ≡ length log.drafts) (seat : Seat)
    (read : seat ≡ get_or seats s seat) (phase : Phase) (phase_is : phase ≡ phase_of (seat_at new.seats s)) where
  pub started_seats : AreSeated new (set seats s (record { phase = phase; started = seat.started + 1 })) after
  started_seats =
      let is = starts.lists_are.past_is in
      moved old new seats log after s seated starts.lists_are.names_are joined same_drafts (ap opening is) starts.others_stay
      (record { phase = phase; started = seat.started + 1 }) phase_is
      (ap (λ n. n + 1) (ap (λ (x : Seat). x.started) (seat_read seats s seat (omega (arith, joined, seated.enough)) read) ∙ seated.counted s)
      ∙ sym (ap (started s) is ∙ started_here s (started s old.lists.past + 1) item old.lists.past))
      (λ u differ. ap (started u) is ∙ started_elsewhere s u (started s old.lists.past + 1) item old.lists.past differ)

module _ (old new : Sessions) (seats : List Seat) (log after : CommitView) (s : ℕ) (seated : AreSeated old seats log)
    (joined : s < length old.lists.names) (same_drafts : length after.drafts ≡ length log.drafts) (seat : Seat) (read : seat ≡ get_or seats s seat)
    (phase : Phase) (phase_is : phase ≡ phase_of (seat_at new.seats s)) where
  pub stepped_seats : (names : new.lists.names ≡ old.lists.names) → ((u : ℕ) → u ≢ s → seat_at new.seats u ≡ seat_at old.seats u)
      → AreAdded s old.lists.past new.lists.past → AreSeated new (set seats s (record { phase = phase; started = seat.started })) after
  stepped_seats names others added =
      moved old new seats log after s seated names joined same_drafts (opening_stays s old.lists.past new.lists.past added) others
      (record { phase = phase; started = seat.started }) phase_is
      (ap (λ (x : Seat). x.started) (seat_read seats s seat (omega (arith, joined, seated.enough)) read) ∙ (seated.counted s ∙ sym (added.counts s)))
      (λ u differ. added.counts u)

-- whatever the step answers, the names and the others' seats are as they were
pub steps_on : (s : ℕ) (answer : Progress) (old new : Sessions) → StepsBy s answer old new → StepsOn s old new
steps_on s progress.Went old new steps = steps.0
steps_on s (progress.Waiting blockers) old new steps = steps.0
steps_on s progress.NoMemory old new steps = steps.0
steps_on s progress.NotYet old new steps = steps.0
steps_on s (progress.Done reply) old new steps = steps.0
steps_on s other old new steps = elim steps [ ]

-- ---- the commit of a session is acknowledged, or its log is flushed

pub acknowledged_seats : (s moment : ℕ) (old new : Sessions) (seats : List Seat) (log after : CommitView) → AreSeated old seats log
    → Acknowledges s moment old new → length after.drafts ≡ length log.drafts → AreSeated new seats after
acknowledged_seats s moment old new seats log after seated acks same_drafts =
    record {
      enough = rw acks.steps.names_stay seated.enough;
      drafted = rw (acks.steps.names_stay, same_drafts) seated.drafted;
      phases = λ u. seated.phases u ∙ elim (eqb_tells u s) [
        | inl same ↦ subst (λ v. phase_of (seat_at old.seats v) ≡ phase_of (seat_at new.seats v)) (sym same.1) (acks.phase_was ∙ sym acks.phase_is)
        | inr differ ↦ ap phase_of (sym (acks.steps.others_stay u differ.1))
      ];
      counted = λ u. seated.counted u ∙ ap (started u) (sym acks.past_is);
      tables = subst (λ h. All IsLoggable (opening h).schemas) (sym acks.past_is) seated.tables;
    }

-- ---- a session joins

module _ (old new : Sessions) (seats : List Seat) (log after : CommitView) (seated : AreSeated old seats log)
    (more_drafts : length after.drafts ≡ length log.drafts + 1) (past : new.lists.past ≡ old.lists.past)
    (same_seats : (u : ℕ) → seat_at new.seats u ≡ seat_at old.seats u) where
  read_behind : (xs : List Seat) (u : ℕ) → get_or (xs ++ no_seat ∷ []) u no_seat ≡ get_or xs u no_seat
  read_behind [] zero = refl
  read_behind [] (suc u) = refl
  read_behind (x ∷ xs) zero = refl
  read_behind (x ∷ xs) (suc u) = read_behind xs u

  pub with_seat : length new.lists.names ≤ length old.lists.names + 1 → AreSeated new (seats ++ no_seat ∷ []) after
  with_seat few =
      record {
        enough = (let long = length-append seats (no_seat ∷ []) in omega (arith, few, seated.enough, long));
        drafted = omega (arith, few, seated.drafted, more_drafts);
        phases = λ u. ap (λ (x : Seat). x.phase) (read_behind seats u) ∙ (seated.phases u ∙ ap phase_of (sym (same_seats u)));
        counted = λ u. ap (λ (x : Seat). x.started) (read_behind seats u) ∙ (seated.counted u ∙ ap (started u) (sym past));
        tables = subst (λ h. All IsLoggable (opening h).schemas) (sym past) seated.tables;
      }

pub joined_seats : {X Y : Type 0} (result : Result X Y) (name : List ℕ) (old new : Sessions) (seats : List Seat) (log after : CommitView)
    → AreSeated old seats log → length after.drafts ≡ length log.drafts + 1 → OnOk result (Joins name old new) → OnErr result (SameState old new)
    → AreSeated new (seats ++ no_seat ∷ []) after
joined_seats (Ok x) name old new seats log after seated more ok err =
    with_seat old new seats log after seated more ok.past_stays ok.seats_stay
    (let long = ap length ok.names_are in let longer = length-append old.lists.names (name ∷ []) in omega (arith, long, longer))
joined_seats (Err x) name old new seats log after seated more ok err =
    with_seat old new seats log after seated more err.lists_stay.past_stays err.seats_stay
    (let long = ap length err.lists_stay.names_stay in omega (arith, long))

pub joined_past : {X Y : Type 0} (result : Result X Y) (name : List ℕ) (old new : Sessions) → OnOk result (Joins name old new)
    → OnErr result (SameState old new) → new.lists.past ≡ old.lists.past
joined_past (Ok x) name old new ok err = ok.past_stays
joined_past (Err x) name old new ok err = err.lists_stay.past_stays

pub on_ok : {X Y P : Type 0} (result : Result X Y) (x : X) → result ≡ Ok x → OnOk result P → P
on_ok (Ok y) x is p = p
on_ok (Err y) x is p = cc

-- ---- moments

pub last_is_acked : (past : List Event) → last_moment past ≤ last_acked past
last_is_acked [] = omega arith
last_is_acked (events.Acked s moment ∷ past) = grind (arith, nat_tests)
last_is_acked (e ∷ past) = last_is_acked past
