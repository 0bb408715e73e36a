-- What holds of the seats is kept by each call of the engine.
use Rattle.std.proofs.Common.{◌≡◌, ◌≢◌, ◌⊎◌, ℕ, zero, suc, ◌+◌, ◌<◌, ◌≤◌, true, false, Option, Some, None, List, [], ◌∷◌, ◌++◌, length, get_or, set, refl}
use Rattle.std.proofs.Common.{sym, ap, subst, ◌∙◌, inl, inr, arith}
use Rattle.std.proofs.lemmas.Bool.Decides.{nat_tests, eqb_tells}
use Rattle.std.proofs.lemmas.Bool.{false≢true}
use Rattle.std.proofs.lemmas.List.{get_or-set_same, get_or-set_other, length-set, length-append}
use Rattle.std.specs.List.{AllByRecursion}
use Rattle.std.specs.Prelude.{Result, Ok, Err, OnOk, OnErr, unwrap_or, ◌-◌}
use Rattle.inno_types.specs.declared.reply.Item.{Item}
use Rattle.inno_types.specs.declared.reply.Item.TheVariants as items
use Rattle.inno_types.specs.declared.reply.Item.TheVariants.{Sql}
use Rattle.inno_types.specs.declared.reply.Reply.TheVariants as replies
use Rattle.inno_types.specs.declared.reply.Reply.{Reply}
use Rattle.inno_types.specs.declared.reply.SqlError.TheVariants as errors
use Rattle.inno_db.specs.Database.{Database}
use Rattle.inno_model.specs.declared.event.Event.{Event}
use Rattle.inno_model.specs.declared.event.Event.TheVariants as events
use Rattle.inno_model.specs.Past.{is_of, started, under_way, IsClosed}
use Rattle.inno_types.specs.Order.{IsBelow}
use Rattle.store_api.specs.declared.answers.Progress.{Progress}
use Rattle.store_api.specs.declared.answers.Progress.TheVariants as progress
use Rattle.sql_history.specs.Legal.{is_leaving}
use Rattle.shared_lists.specs.Tasks as tasks
use Rattle.law_past_agreement.specs.Order.{IsNoOthers}
use Rattle.shared_lists.specs.State.{State as Lists, Lists as AllLists, IsFirst, Adds, Stays, task_of}
use Rattle.sql_lists.specs.declared.advance.Advance.{Advance}
use Rattle.sql_lists.specs.declared.advance.Advance.TheVariants as advance
use Rattle.sql_lists.specs.Going.{Nears as StatementNears}
use Rattle.sql_lists.specs.Steps.{Moves, Adding, AsksToWrite, IsEntryOf, Steps, HasRowsAlone, is_apart, TellsOne as StepTellsOne}
use Rattle.sql_lists.proofs.Moving.{adding_none, adding_one, moves_none, moves_stays, moves_adds}
use Rattle.statement.specs.declared.under_way.Statement.{Statement}
use Rattle.session_engine.specs.declared.seats.Seat.{Seat}
use Rattle.session_engine.specs.declared.seats.Seat.TheVariants.{Idle, Busy, Refused, Signalling, Leaving, Left}
use Rattle.session_engine.specs.declared.seats.SignalItem.{SignalItem}
use Rattle.session_engine.specs.declared.seats.SignalItem.TheVariants.{Gives, Awaits}
use Rattle.statement.specs.Running.{IsRunning, owes_ack, acked}
use Rattle.statement.proofs.Acked.{moves_on_acked}
use Rattle.session_engine.specs.Seats.{State, seat_at, is_working, IsSpelled, IsUnread, MayGoOut, IsGoingOut, HasAsked, IsSeatOf, SeatAgrees, AreSeats, owes}
use Rattle.session_engine.specs.Seats.{phase_of, wants_room, is_busy, IsAtWork, item_since, seat_since}
use Rattle.session_engine.specs.Calls.{AreFirst, SameLists, Joins, SameState, OthersStay, KeepsItems, TellsOne, GoesOn, StepsOn, Settled, Refuses}
use Rattle.session_engine.specs.Calls.{GoesOut, HasGiven, EndsSignal, Signals, StepsBy, Acknowledges, WaitsInVain, GivesUpInVain, WaitsOn, StepsTo, TellsNone}
use Rattle.session_engine.specs.Calls.{IsPatient, since_after}
use Rattle.statement.specs.Going.{statement_to_go}
use Rattle.inno_model.specs.declared.board.Phase.TheVariants as phases
use Rattle.session_engine.specs.Going.{Nears, NearsLacking}
use Rattle.session_engine.specs.Places.{IsExact, HasExactPlaces}
use Rattle.session_engine.specs.Signals.{AreSpent, HasOnlyAsked}
use Rattle.session_engine.proofs.Places.{entries_exact, item_before, spelled_still, spelled_exact, refused_exact, signals_exact}
use Rattle.session_engine.proofs.Signals.{spent_on, spent_all, spent_signal, seen_first}
use Rattle.session_engine.proofs.Others.{seat_stays, has_item, asked_runs, unread_waits}

-- ---- since when an item waits

-- fewer than fifty seconds
patient_since : (now : ℕ) (later : SignalItem) (since : ℕ) → item_since later ≡ Some since → IsPatient now later → now - since < 50
patient_since now (Gives name) since is patient = absurd patient
patient_since now (Awaits wait) since is patient =
    let same : patient.0 ≡ since = let both = sym patient.1 ∙ is in cc in
    subst (λ (n : ℕ). now - n < 50) same patient.2

-- an item that is to make its first step waits since no moment
seated_since : (item : Item) (seat : Seat) → IsSeatOf item seat → seat_since seat ≡ None
seated_since (items.Sql text) (Busy statement) is = refl
seated_since (items.Sql text) (Refused at) is = refl
seated_since (items.Sql text) other is = absurd is
seated_since (items.Signal name) seat is = ap seat_since is
seated_since (items.Await name) seat is = ap seat_since is

pub started_since : (seats : List Seat) (s : ℕ) (item : Item) (seat : Seat) → s < length seats → IsSeatOf item seat
    → seat_since (seat_at (set seats s seat) s) ≡ None
started_since seats s item seat below is = ap seat_since (get_or-set_same seats s seat Idle below) ∙ seated_since item seat is

-- ---- seats

joined_seat : (seats : List Seat) (u : ℕ) → get_or (seats ++ Idle ∷ []) u Idle ≡ get_or seats u Idle
joined_seat [] zero = refl
joined_seat [] (suc u) = refl
joined_seat (x ∷ seats) zero = refl
joined_seat (x ∷ seats) (suc u) = joined_seat seats u

set_again : (seats : List Seat) (n : ℕ) (x y : Seat) → set (set seats n x) n y ≡ set seats n y
set_again [] n x y = refl
set_again (z ∷ seats) zero x y = refl
set_again (z ∷ seats) (suc n) x y = ap (λ ys. z ∷ ys) (set_again seats n x y)

others_set : (seats : List Seat) (s : ℕ) (seat : Seat) → OthersStay s seats (set seats s seat)
others_set seats s seat u apart = get_or-set_other seats s u seat Idle apart

pub leaving_is : (seat : Seat) → is_working seat ≡ true → ((statement : Statement) → seat ≡ Busy statement → ⊥)
    → ((at : ℕ) → seat ≡ Refused at → ⊥) → ((item : SignalItem) → seat ≡ Signalling item → ⊥) → seat ≡ Leaving
leaving_is Idle works other read signal = absurd (false≢true works)
leaving_is (Busy statement) works other read signal = absurd (other statement refl)
leaving_is (Refused at) works other read signal = absurd (read at refl)
leaving_is (Signalling item) works other read signal = absurd (signal item refl)
leaving_is Leaving works other read signal = refl
leaving_is Left works other read signal = absurd (false≢true works)

-- ---- one session moves

ended_mine : (t j : ℕ) (reply : Reply) → is_of t (events.Ended t j reply) ≡ true
ended_mine t j reply = grind (arith, nat_tests)

-- what a session does to the lists: by a step of its item, or by an acknowledgement
pub record SessionMoves (t : ℕ) (old new : Lists) : Type 0 where
  pub names_stay : new.names ≡ old.names
  pub adding : Adding t old new
  pub writer_stays : (s : ℕ) → s ≢ t → old.writer ≡ Some s → new.writer ≡ Some s
  pub may_write : new.writer ≡ Some t → (old.writer ≡ Some t) ⊎ AsksToWrite t old.past
  pub tasks_stay : (s : ℕ) → s ≢ t → task_of s new ≡ task_of s old
  pub spends : AreSpent old.past → AreSpent new.past

pub of_statement : (t : ℕ) (old new : Lists) → Moves t old new → SessionMoves t old new
of_statement t old new moves =
    record {
      names_stay = moves.names_stay;
      adding = moves.adding;
      writer_stays = moves.writer_stays;
      may_write = moves.may_write;
      tasks_stay = moves.tasks_stay;
      spends = λ spent. subst AreSpent (sym moves.adding.past_is) (spent_all moves.adding.entries old.past moves.unacked spent);
    }

ended_adding : (t : ℕ) (reply : Reply) (old new : Lists) (past : List Event) → HasGiven t old.past past
    → new.past ≡ events.Ended t (started t old.past) reply ∷ past → Adding t old new
ended_adding t reply old new past (inl same) is =
    adding_one t (events.Ended t (started t old.past) reply) old new (grind (arith, nat_tests))
    (is ∙ ap (λ h. events.Ended t (started t old.past) reply ∷ h) same) (λ changes. absurd (false≢true changes))
ended_adding t reply old new past (inr given) is =
    record {
      entries = events.Ended t (started t old.past) reply ∷ events.Signal given.0 ∷ [];
      past_is = is ∙ ap (λ h. events.Ended t (started t old.past) reply ∷ h) given.2;
      each = ((ended_mine t (started t old.past) reply, λ changes. absurd (false≢true changes)), ((tt, λ changes. absurd (false≢true changes)), tt));
    }

ended_spent : (t : ℕ) (reply : Reply) (old past : List Event) → HasGiven t old past → AreSpent old
    → AreSpent (events.Ended t (started t old) reply ∷ past)
ended_spent t reply old past (inl same) spent =
    spent_on (events.Ended t (started t old) reply) past tt (subst AreSpent (sym same) spent)
ended_spent t reply old past (inr given) spent =
    subst (λ h. AreSpent (events.Ended t (started t old) reply ∷ h)) (sym given.2)
    (spent_signal t (started t old) given.0 reply old given.1 spent)

of_acknowledgement : (t moment : ℕ) (old new : Lists) → Adds (events.Acked t moment) t old new → SessionMoves t old new
of_acknowledgement t moment old new adds =
    record {
      names_stay = adds.names_are;
      adding = adding_one t (events.Acked t moment) old new (grind (arith, nat_tests)) adds.past_is (λ changes. absurd (false≢true changes));
      writer_stays = λ s differ held. adds.writer_is ∙ held;
      may_write = λ mine. inl (sym adds.writer_is ∙ mine);
      tasks_stay = adds.others;
      spends = λ spent. subst AreSpent (sym adds.past_is) (spent_on (events.Acked t moment) old.past tt spent);
    }

-- an item of a signal ends, and may have given it
of_signal : (t : ℕ) (reply : Reply) (old new : Lists) → EndsSignal t reply old new → SessionMoves t old new
of_signal t reply old new ends =
    record {
      names_stay = ends.names_stay;
      adding = ended_adding t reply old new ends.ends.0 ends.ends.1 ends.ends.2;
      writer_stays = λ s differ held. ends.writer_stays ∙ held;
      may_write = λ mine. inl (sym ends.writer_stays ∙ mine);
      tasks_stay = λ s differ. ends.tasks_stay s;
      spends = λ spent. subst AreSpent (sym ends.ends.2) (ended_spent t reply old.past ends.ends.0 ends.ends.1 spent);
    }

-- nothing has changed
of_nothing : (t : ℕ) (old new : Lists) → SameLists old new → SessionMoves t old new
of_nothing t old new same =
    record {
      names_stay = same.names_stay;
      adding = adding_none t old new same.past_stays;
      writer_stays = λ s differ held. same.writer_stays ∙ held;
      may_write = λ mine. inl (sym same.writer_stays ∙ mine);
      tasks_stay = λ s differ. same.tasks_stay s;
      spends = λ spent. subst AreSpent (sym same.past_stays) spent;
    }

moved : (old new : Lists) (t s : ℕ) → SessionMoves t old new → s ≢ t → (seat : Seat) → SeatAgrees old s seat → SeatAgrees new s seat
moved old new t s moves differ seat agrees =
    seat_stays old new t s (λ is. differ (sym is)) moves.adding (moves.writer_stays s differ) (moves.tasks_stay s differ) seat agrees

-- one session moves, and takes another seat
pub seats_kept : (old new : Lists) (seats : List Seat) (s : ℕ) (seat : Seat) → AreSeats old seats → s < length old.names → SessionMoves s old new
    → SeatAgrees new s seat → HasExactPlaces new.past → AreSeats new (set seats s seat)
seats_kept old new seats s seat are joined moves agrees exact =
    record {
      enough = rw (moves.names_stay, length-set seats s seat) are.enough;
      each = λ u.
          elim (eqb_tells u s) [
            | inl same ↦ subst (λ v. SeatAgrees new v (get_or (set seats s seat) v Idle)) (sym same.1)
                (subst (SeatAgrees new s) (sym (get_or-set_same seats s seat Idle (omega (arith, joined, are.enough)))) agrees)
            | inr differ ↦ subst (SeatAgrees new u) (sym (get_or-set_other seats s u seat Idle differ.1))
                (moved old new s u moves differ.1 (get_or seats u Idle) (are.each u))
          ];
      spent = moves.spends are.spent;
      exact = exact;
    }

-- ---- an engine that is opened

pub are_first : (db : Database) (all : AllLists) (lists : Lists) → IsFirst all → all.state.past ≡ events.Opened db ∷ [] → lists ≡ all.state → AreFirst db lists
are_first db all lists first past is =
    record {
      past = ap (λ l. l.past) is ∙ past;
      names = ap (λ l. l.names) is ∙ first.names;
      writer = ap (λ l. l.writer) is ∙ first.writer;
    }

-- ---- a session that joins

-- the lists are the same to all sessions, whatever their names
module _ (old new : Lists) (past-is : new.past ≡ old.past) (writer-is : new.writer ≡ old.writer) (tasks-are : (s : ℕ) → task_of s new ≡ task_of s old) where
  pub seat_kept : (u : ℕ) (seat : Seat) → SeatAgrees old u seat → SeatAgrees new u seat
  seat_kept u seat agrees =
      seat_stays old new (u + 1) u (λ is. absurd (omega (arith, is))) (adding_none (u + 1) old new past-is) (λ w. writer-is ∙ w) (tasks-are u) seat agrees

  pub seats_joined : (name : List ℕ) (seats : List Seat) → new.names ≡ old.names ++ name ∷ [] → AreSeats old seats → AreSeats new (seats ++ Idle ∷ [])
  seats_joined name seats names-are are =
      record {
        enough = rw (names-are, length-append old.names (name ∷ []), length-append seats (Idle ∷ [])) (omega (arith, are.enough));
        each = λ u. subst (SeatAgrees new u) (sym (joined_seat seats u)) (seat_kept u (get_or seats u Idle) (are.each u));
        spent = subst AreSpent (sym past-is) are.spent;
        exact = subst HasExactPlaces (sym past-is) are.exact;
      }

  -- a seat too many waits for its session
  pub seats_wait : (seats : List Seat) → new.names ≡ old.names → AreSeats old seats → AreSeats new (seats ++ Idle ∷ [])
  seats_wait seats names-are are =
      record {
        enough = rw (names-are, length-append seats (Idle ∷ [])) (omega (arith, are.enough));
        each = λ u. subst (SeatAgrees new u) (sym (joined_seat seats u)) (seat_kept u (get_or seats u Idle) (are.each u));
        spent = subst AreSpent (sym past-is) are.spent;
        exact = subst HasExactPlaces (sym past-is) are.exact;
      }

pub joined_seats : (seats : List Seat) (u : ℕ) → seat_at (seats ++ Idle ∷ []) u ≡ seat_at seats u
joined_seats seats u = joined_seat seats u

-- nothing has changed, for the session and for the others
pub all_same : (old new : Lists) (s : ℕ) → Stays s old new → SameLists old new
all_same old new s stays =
    record {
      names_stay = stays.names_are;
      past_stays = stays.past_is;
      writer_stays = stays.writer_is;
      tasks_stay = λ u. elim (eqb_tells u s) [
        | inl same ↦ subst (λ v. task_of v new ≡ task_of v old) (sym same.1) stays.task_is
        | inr differ ↦ stays.others u differ.1
      ];
    }

pub seats_same : (old new : Lists) (seats : List Seat) (s : ℕ) → Stays s old new → AreSeats old seats → AreSeats new seats
seats_same old new seats s stays are =
    let same = all_same old new s stays in
    record {
      enough = rw same.names_stay are.enough;
      each = λ u. seat_kept old new same.past_stays same.writer_stays same.tasks_stay u (get_or seats u Idle) (are.each u);
      spent = subst AreSpent (sym same.past_stays) are.spent;
      exact = subst HasExactPlaces (sym same.past_stays) are.exact;
    }

-- ---- an item that starts

starts_of : (s j : ℕ) (item : Item) → is_of s (events.Started s j item) ≡ true
starts_of s j item = grind (arith, nat_tests)

only_asked : (s j : ℕ) (item : Item) (h : List Event) → HasRowsAlone s h → HasOnlyAsked s item (events.Started s j item ∷ h)
only_asked s j item h rows = record { asked = grind (arith, nat_tests); nothing = grind (arith, nat_tests); rows_alone = rows }

-- the seat that is taken at the start agrees
starts_seated : (old new : Lists) (s : ℕ) (item : Item) (seat : Seat) → SeatAgrees old s Idle → Adds (events.Started s (started s old.past + 1) item) s old new
    → IsSeatOf item seat → SeatAgrees new s seat
starts_seated old new s (Sql text) (Busy statement) rests adds reads =
    subst (λ (x : Statement). SeatAgrees new s (Busy x)) (sym reads.1)
    (asked_runs old new s (started s old.past + 1) text reads.0 rests.0.rows_alone rests.2 adds reads.2)
starts_seated old new s (Sql text) (Refused at) rests adds reads =
    unread_waits old new s (started s old.past + 1) at text rests.0.rows_alone rests.2 adds reads
starts_seated old new s (Sql text) Idle rests adds reads = absurd reads
starts_seated old new s (Sql text) (Signalling item) rests adds reads = absurd reads
starts_seated old new s (Sql text) Leaving rests adds reads = absurd reads
starts_seated old new s (Sql text) Left rests adds reads = absurd reads
starts_seated old new s (items.Signal name) seat rests adds reads =
    subst (SeatAgrees new s) (sym reads) (
      subst (HasOnlyAsked s (items.Signal name)) (sym adds.past_is) (only_asked s (started s old.past + 1) (items.Signal name) old.past rests.0.rows_alone),
      adds.task_is ∙ rests.2,
    )
starts_seated old new s (items.Await name) seat rests adds reads =
    subst (SeatAgrees new s) (sym reads) (
      (
        subst (HasOnlyAsked s (items.Await name)) (sym adds.past_is) (only_asked s (started s old.past + 1) (items.Await name) old.past rests.0.rows_alone),
        seen_first name new.past,
      ),
      adds.task_is ∙ rests.2,
    )

pub seats_started : (old new : Lists) (seats : List Seat) (s : ℕ) (item : Item) (seat : Seat) → AreSeats old seats
    → s < length old.names → seat_at seats s ≡ Idle
    → Adds (events.Started s (started s old.past + 1) item) s old new → IsSeatOf item seat → AreSeats new (set seats s seat)
seats_started old new seats s item seat are joined idle adds reads =
    let e : Event = events.Started s (started s old.past + 1) item in
    let moves : Moves s old new = moves_adds s e old new (starts_of s (started s old.past + 1) item) refl (λ x. absurd (false≢true x)) adds in
    seats_kept old new seats s seat are joined (of_statement s old new moves)
    (starts_seated old new s item seat (subst (SeatAgrees old s) idle (are.each s)) adds reads) (subst HasExactPlaces (sym adds.past_is) are.exact)

-- ---- a step

-- what an item of a signal leaves of its session's changes
has_rows : (s : ℕ) (item : SignalItem) (h : List Event) → HasAsked s item h → HasRowsAlone s h
has_rows s (Gives name) h asked = asked.rows_alone
has_rows s (Awaits wait) h asked = asked.0.rows_alone

rows_then : (s : ℕ) (old past : List Event) → HasGiven s old past → HasRowsAlone s old → HasRowsAlone s past
rows_then s old past (inl same) rows = subst (HasRowsAlone s) (sym same) rows
rows_then s old past (inr given) rows = subst (HasRowsAlone s) (sym given.2) rows

lists_same : (old new : Lists) → new ≡ old → SameLists old new
lists_same old new is =
    subst (SameLists old) (sym is) (record { names_stay = refl; past_stays = refl; writer_stays = refl; tasks_stay = λ u. refl })

moves_is : (old new : Lists) (s : ℕ) → new ≡ old → Moves s old new
moves_is old new s is = subst (Moves s old) (sym is) (moves_none s old)

ended_at : (s j : ℕ) (reply : Reply) (h : List Event) → HasRowsAlone s h
    → MayGoOut s (events.Ended s j reply ∷ h) × (is_leaving s (events.Ended s j reply ∷ h) ≡ false)
ended_at s j reply h rows = (record { rests = grind (arith, nat_tests); rows_alone = rows }, grind (arith, nat_tests))

ended_item : (new : Lists) (s j : ℕ) (reply : Reply) (h : List Event) → new.past ≡ events.Ended s j reply ∷ h → HasRowsAlone s h
    → task_of s new ≡ tasks.Idle → SeatAgrees new s Idle
ended_item new s j reply h is rows idle =
    (let at = subst (λ g. MayGoOut s g × (is_leaving s g ≡ false)) (sym is) (ended_at s j reply h rows) in (at.0, at.1, idle))

keeps_items : (e : Event) (h : List Event) (s : ℕ) → is_of s e ≡ true → started s (e ∷ h) ≡ started s h → under_way s (e ∷ h) ≢ None → KeepsItems e
keeps_items (events.Started t j item) h s mine count item-is = grind (arith, nat_tests, mine, count)
keeps_items (events.Ended t j reply) h s mine count item-is = item-is (grind (arith, nat_tests, mine))
keeps_items (events.Opened db) h s mine count item-is = tt
keeps_items (events.Begin t n l) h s mine count item-is = tt
keeps_items (events.View t) h s mine count item-is = tt
keeps_items (events.Changed t change) h s mine count item-is = tt
keeps_items (events.Waits t lock blockers at) h s mine count item-is = tt
keeps_items (events.Victim t cycle) h s mine count item-is = tt
keeps_items (events.Undone t keep) h s mine count item-is = tt
keeps_items (events.Committed t) h s mine count item-is = tt
keeps_items (events.Acked t moment) h s mine count item-is = tt
keeps_items (events.RolledBack t) h s mine count item-is = tt
keeps_items (events.Signal name) h s mine count item-is = tt
keeps_items (events.Stopped why) h s mine count item-is = tt

-- no entry takes an item back
started_rise : (e : Event) (h : List Event) (s : ℕ) → started s h ≤ started s (e ∷ h)
started_rise e h s = grind (arith, nat_tests)

all_rise : (es h : List Event) (s : ℕ) → started s h ≤ started s (es ++ h)
all_rise [] h s = omega arith
all_rise (e ∷ es) h s = omega (arith, all_rise es h s, started_rise e (es ++ h) s)

-- an entry of a statement is its session's
own_entry : (s : ℕ) (e : Event) → IsNoOthers s e → is_apart e ≡ false → is_of s e ≡ true
own_entry s (events.Signal name) mine apart = absurd (false≢true (sym apart))
own_entry s e mine apart = mine

all_keep : (es h : List Event) (s : ℕ) (writer : Option ℕ) → AllByRecursion (IsEntryOf s writer) es → AllByRecursion (λ e. is_apart e ≡ false) es
    → started s (es ++ h) ≡ started s h
    → under_way s (es ++ h) ≢ None
    → AllByRecursion (λ e. (is_of s e ≡ true) × KeepsItems e) es
all_keep [] h s writer each apart count item = tt
all_keep (e ∷ es) h s writer each apart count item =
    let same : started s (e ∷ (es ++ h)) ≡ started s (es ++ h) = omega (arith, count, all_rise es h s, started_rise e (es ++ h) s) in
    let mine : is_of s e ≡ true = own_entry s e each.0.0 apart.0 in
    let keeps : KeepsItems e = keeps_items e (es ++ h) s mine same item in
    ((mine, keeps), all_keep es h s writer each.1 apart.1 (sym same ∙ count) (λ none. item (item_before e (es ++ h) s keeps ∙ none)))

-- what a statement's step says of the change that it tells
told_one : (s : ℕ) (old : Lists) (entries : List Event) → StepTellsOne s old entries → TellsOne entries
told_one s old [] tells = tt
told_one s old (events.Changed t change ∷ earlier) tells = tells.1
told_one s old (e ∷ earlier) tells = told_one s old earlier tells

goes_on : (old new : Lists) (s : ℕ) → Moves s old new → started s new.past ≡ started s old.past → under_way s new.past ≢ None → GoesOn s old.past new.past
goes_on old new s moves count item =
    let adding = moves.adding in
    record {
      entries = adding.entries;
      past_is = adding.past_is;
      each = all_keep adding.entries old.past s new.writer adding.each moves.unacked (subst (λ g. started s g ≡ started s old.past) adding.past_is count)
          (subst (λ g. under_way s g ≢ None) adding.past_is item);
      tells = told_one s old adding.entries moves.tells;
      unacked = moves.unacked;
    }

-- it leaves the places of syntax errors exact, and its item as it was
goes_exact : (s : ℕ) (old new : List Event) → GoesOn s old new → HasExactPlaces old → HasExactPlaces new
goes_exact s old new goes exact = subst HasExactPlaces (sym goes.past_is) (entries_exact s goes.entries old goes.each exact)

goes_spelled : (s : ℕ) (old new : List Event) → GoesOn s old new → IsSpelled s old → IsSpelled s new
goes_spelled s old new goes spelled = subst (IsSpelled s) (sym goes.past_is) (spelled_still s goes.entries old goes.each spelled)

-- an item ends, with such a place
ended_exact : (s j : ℕ) (reply : Reply) (past new : List Event) → new ≡ events.Ended s j reply ∷ past → IsExact (under_way s past) reply
    → HasExactPlaces past → HasExactPlaces new
ended_exact s j reply past new is place exact = subst HasExactPlaces (sym is) (place, exact)

module _ (old new : Lists) (seats : List Seat) (s : ℕ) (are : AreSeats old seats) (joined : s < length old.names) where
  within : s < length seats
  within = omega (arith, joined, are.enough)

  -- the seat is taken out, and another one is put back
  twice : (seat : Seat) → set (set seats s Idle) s seat ≡ set seats s seat
  twice seat = set_again seats s Idle seat

  kept : (seat : Seat) → SessionMoves s old new → SeatAgrees new s seat → HasExactPlaces new.past → AreSeats new (set (set seats s Idle) s seat)
  kept seat moves agrees exact = subst (AreSeats new) (sym (twice seat)) (seats_kept old new seats s seat are joined moves agrees exact)

  exact_still : new.past ≡ old.past → HasExactPlaces new.past
  exact_still same = subst HasExactPlaces (sym same) are.exact

  spelled_as : new.past ≡ old.past → IsSpelled s old.past → IsSpelled s new.past
  spelled_as same spelled = subst (IsSpelled s) (sym same) spelled

  is_at : (seat : Seat) → seat_at (set (set seats s Idle) s seat) s ≡ seat
  is_at seat = ap (λ xs. get_or xs s Idle) (twice seat) ∙ get_or-set_same seats s seat Idle within

  steps_on : (seat : Seat) → SessionMoves s old new
      → StepsOn s (record { lists = old; seats = seats }) (record { lists = new; seats = set (set seats s Idle) s seat })
  steps_on seat moves =
      record {
        names_stay = moves.names_stay;
        others_write = moves.writer_stays;
        may_write = moves.may_write;
        others_go_on = moves.tasks_stay;
        others_stay = λ u apart.
            ap (λ xs. get_or xs u Idle) (twice seat) ∙ others_set seats s seat u apart;
      }

  -- the seat was that of a statement
  pub spelled_at : (statement : Statement) → seat_at seats s ≡ Busy statement → IsSpelled s old.past
  spelled_at statement was = (subst (SeatAgrees old s) was (are.each s)).1

  pub step_keeps : IsSpelled s old.past → (statement : Statement) (adv : Advance) (seat : Seat) (answer : Progress)
      → Steps IsRunning s old new statement adv → Settled statement adv seat answer → AreSeats new (set (set seats s Idle) s seat)
  step_keeps spelled statement advance.Went seat answer steps settled =
      let goes : GoesOn s old.past new.past = goes_on old new s steps.0 steps.2 (has_item new s statement steps.1) in
      kept seat (of_statement s old new steps.0)
      (subst (SeatAgrees new s) (sym settled.0) (steps.1, goes_spelled s old.past new.past goes spelled)) (goes_exact s old.past new.past goes are.exact)
  step_keeps spelled statement (advance.Waiting by blockers) seat answer steps settled =
      kept seat (of_statement s old new (moves_stays s old new steps.0))
      (subst (SeatAgrees new s) (sym settled.0) (steps.1, spelled_as steps.0.past_is spelled)) (exact_still steps.0.past_is)
  step_keeps spelled statement advance.NoMemory seat answer steps settled =
      kept seat (of_statement s old new steps.0) (subst (SeatAgrees new s) (sym settled.0) (steps.1, spelled_as steps.2 spelled)) (exact_still steps.2)
  step_keeps spelled statement (advance.Done reply) seat answer steps settled =
      kept seat (of_statement s old new steps.0)
      (subst (SeatAgrees new s) (sym settled.0) (ended_item new s (started s old.past) reply old.past steps.1 steps.2 steps.3))
      (ended_exact s (started s old.past) reply old.past new.past steps.1 (spelled_exact s reply old.past spelled) are.exact)

  pub step_does : (statement : Statement) (adv : Advance) (seat : Seat) (answer : Progress)
      → Steps IsRunning s old new statement adv → Settled statement adv seat answer
      → StepsBy s answer (record { lists = old; seats = seats }) (record { lists = new; seats = set (set seats s Idle) s seat })
  step_does statement advance.Went seat answer steps settled =
      rw settled.1 (
        steps_on seat (of_statement s old new steps.0),
        goes_on old new s steps.0 steps.2 (has_item new s statement steps.1),
        ap
            is_working (is_at seat ∙ settled.0),
      )
  step_does statement (advance.Waiting by blockers) seat answer steps settled =
      rw settled.1 (
        steps_on seat (of_statement s old new (moves_stays s old new steps.0)),
        all_same old new s steps.0,
        ap is_working
            (is_at seat ∙ settled.0),
        (by, steps.2),
      )
  step_does statement advance.NoMemory seat answer steps settled =
      rw settled.1 (steps_on seat (of_statement s old new steps.0), steps.2, ap is_working (is_at seat ∙ settled.0))
  step_does statement (advance.Done reply) seat answer steps settled =
      rw settled.1 (steps_on seat (of_statement s old new steps.0), inl ((old.past, inl refl, steps.1), is_at seat ∙ settled.0))

  step_nears_by : (before after : Statement) (seat : Seat) → seat_at seats s ≡ Busy before → seat ≡ Busy after
      → IsBelow (statement_to_go s new after) (statement_to_go s old before)
      → Nears s progress.Went (record { lists = old; seats = seats }) (record { lists = new; seats = set (set seats s Idle) s seat })
  step_nears_by before after seat was now below = rw (is_at seat, now, was) below

  pub step_nears : (before after : Statement) (adv : Advance) (seat : Seat) (answer : Progress) → seat_at seats s ≡ Busy before
      → StatementNears statement_to_go s old before new after adv → Settled after adv seat answer
      → Nears s answer (record { lists = old; seats = seats }) (record { lists = new; seats = set (set seats s Idle) s seat })
  step_nears before after advance.Went seat answer was nears settled = rw settled.1 (step_nears_by before after seat was settled.0 nears)
  step_nears before after (advance.Waiting by blockers) seat answer was nears settled = rw settled.1 tt
  step_nears before after advance.NoMemory seat answer was nears settled = rw settled.1 tt
  step_nears before after (advance.Done reply) seat answer was nears settled = rw settled.1 tt

  pub step_lacks : (before after : Statement) (adv : Advance) (seat : Seat) (answer : Progress) → seat_at seats s ≡ Busy before
      → StatementNears statement_to_go s old before new after adv → Settled after adv seat answer
      → NearsLacking s answer (record { lists = old; seats = seats }) (record { lists = new; seats = set (set seats s Idle) s seat })
  step_lacks before after advance.Went seat answer was nears settled = rw settled.1 tt
  step_lacks before after (advance.Waiting by blockers) seat answer was nears settled = rw settled.1 tt
  step_lacks before after advance.NoMemory seat answer was nears settled =
      rw settled.1 (step_nears_by before after seat was settled.0 nears)
  step_lacks before after (advance.Done reply) seat answer was nears settled = rw settled.1 tt

  -- ---- a statement that steps where it lies

  busy_is : (seat : Seat) → is_busy seat ≡ true → (statement : Statement) × (seat ≡ Busy statement)
  busy_is (Busy statement) busy = (statement, refl)
  busy_is other busy = absurd (false≢true busy)

  pub at_work : is_busy (seat_at seats s) ≡ true → owes (seat_at seats s) ≡ false → IsAtWork s old (seat_at seats s)
  at_work busy acked =
      let it = busy_is (seat_at seats s) busy in
      (it.0, it.1, (subst (SeatAgrees old s) it.1 (are.each s)).0, sym (ap owes it.1) ∙ acked)

  never_not_yet : (statement : Statement) (adv : Advance) (seat : Seat) (answer : Progress) → Settled statement adv seat answer → answer ≡ progress.NotYet → ⊥
  never_not_yet statement advance.Went seat answer settled is = let both = sym settled.1 ∙ is in cc
  never_not_yet statement (advance.Waiting by blockers) seat answer settled is = let both = sym settled.1 ∙ is in cc
  never_not_yet statement advance.NoMemory seat answer settled is = let both = sym settled.1 ∙ is in cc
  never_not_yet statement (advance.Done reply) seat answer settled is = let both = sym settled.1 ∙ is in cc

  settled_since : (now : ℕ) (since : Option ℕ) (statement : Statement) (adv : Advance) (seat : Seat) (answer : Progress)
      → Settled statement adv seat answer → seat_since seat ≡ since_after answer now since
  settled_since now since statement advance.Went seat answer settled = rw (settled.0, settled.1) refl
  settled_since now since statement (advance.Waiting by blockers) seat answer settled = rw (settled.0, settled.1) refl
  settled_since now since statement advance.NoMemory seat answer settled = rw (settled.0, settled.1) refl
  settled_since now since statement (advance.Done reply) seat answer settled = rw (settled.0, settled.1) refl

  module _ (seat : Seat) (answer : Progress) (steps : StepsTo s old new (seat_at seats s) seat answer) where
    once : (P : List Seat → Type 0) → P (set (set seats s Idle) s seat) → P (set seats s seat)
    once P holds = subst P (twice seat) holds

    pub stepped_keeps : AreSeats new (set seats s seat)
    stepped_keeps =
        once (AreSeats new) (step_keeps (spelled_at steps.statement steps.was) steps.next steps.told seat answer steps.step.steps steps.settled)

    pub stepped_does : StepsBy s answer (record { lists = old; seats = seats }) (record { lists = new; seats = set seats s seat })
    stepped_does =
        once (λ xs. StepsBy s answer (record { lists = old; seats = seats }) (record { lists = new; seats = xs }))
        (step_does steps.next steps.told seat answer steps.step.steps steps.settled)

    pub stepped_nears : Nears s answer (record { lists = old; seats = seats }) (record { lists = new; seats = set seats s seat })
    stepped_nears =
        once (λ xs. Nears s answer (record { lists = old; seats = seats }) (record { lists = new; seats = xs }))
        (step_nears steps.statement steps.next steps.told seat answer steps.was steps.step.nears steps.settled)

    pub stepped_lacks : NearsLacking s answer (record { lists = old; seats = seats }) (record { lists = new; seats = set seats s seat })
    stepped_lacks =
        once (λ xs. NearsLacking s answer (record { lists = old; seats = seats }) (record { lists = new; seats = xs }))
        (step_lacks steps.statement steps.next steps.told seat answer steps.was steps.step.nears steps.settled)

    pub stepped_quiet : wants_room (seat_at seats s) ≡ false → TellsNone old.past new.past
    stepped_quiet wants_none = steps.quiet (sym (ap wants_room steps.was) ∙ wants_none)

    pub stepped_since : (now : ℕ) (since : Option ℕ) → seat_since (seat_at (set seats s seat) s) ≡ since_after answer now since
    stepped_since now since =
        once (λ xs. seat_since (seat_at xs s) ≡ since_after answer now since)
        (ap seat_since (is_at seat) ∙ settled_since now since steps.next steps.told seat answer steps.settled)

    pub stepped_answers : answer ≡ progress.NotYet → ⊥
    stepped_answers is = never_not_yet steps.next steps.told seat answer steps.settled is

  -- ---- a statement that gives up for want of room

  module _ (before after : Statement) (adv : Advance) (lacks : adv ≡ advance.NoMemory) where
    settles : Settled after adv (Busy after) progress.NoMemory
    settles = subst (λ (a : Advance). Settled after a (Busy after) progress.NoMemory) (sym lacks) (refl, refl)

    pub gave_up_keeps : IsSpelled s old.past → Steps IsRunning s old new after adv → AreSeats new (set (set seats s Idle) s (Busy after))
    gave_up_keeps spelled steps = step_keeps spelled after adv (Busy after) progress.NoMemory steps settles

    pub gave_up_steps : Steps IsRunning s old new after adv
        → StepsBy s progress.NoMemory (record { lists = old; seats = seats }) (record { lists = new; seats = set (set seats s Idle) s (Busy after) })
    gave_up_steps steps = step_does after adv (Busy after) progress.NoMemory steps settles

    pub gave_up_lacks : seat_at seats s ≡ Busy before → StatementNears statement_to_go s old before new after adv
        → NearsLacking s progress.NoMemory (record { lists = old; seats = seats }) (record { lists = new; seats = set (set seats s Idle) s (Busy after) })
    gave_up_lacks was nears = step_lacks before after adv (Busy after) progress.NoMemory was nears settles

    pub gave_up_since : seat_since (seat_at (set (set seats s Idle) s (Busy after)) s) ≡ None
    gave_up_since = ap seat_since (is_at (Busy after))

    pub gave_up_busy : phase_of (seat_at (set (set seats s Idle) s (Busy after)) s) ≡ phases.Busy
    gave_up_busy = ap phase_of (is_at (Busy after))

  -- ---- the acknowledgement of the statement's commit

  module _ (moment : ℕ) (statement : Statement) (owed : owes_ack statement ≡ true) (was : seat_at seats s ≡ Busy statement)
      (adds : Adds (events.Acked s moment) s old new) where
    runs : IsRunning old s statement × IsSpelled s old.past
    runs = subst (SeatAgrees old s) was (are.each s)

    pub acked_keeps : AreSeats new (set (set seats s Idle) s (Busy (acked statement)))
    acked_keeps =
        kept (Busy (acked statement)) (of_acknowledgement s moment old new adds)
        ((moves_on_acked statement owed).runs old new s moment runs.0 adds, subst (IsSpelled s) (sym adds.past_is) runs.1)
        (subst HasExactPlaces (sym adds.past_is) are.exact)

    pub acked_does : Acknowledges s moment (record { lists = old; seats = seats })
        (record { lists = new; seats = set (set seats s Idle) s (Busy (acked statement)) })
    acked_does =
        record {
          steps = steps_on (Busy (acked statement)) (of_acknowledgement s moment old new adds);
          past_is = adds.past_is;
          phase_was = ap phase_of was;
          phase_is = ap phase_of (is_at (Busy (acked statement)));
        }

    pub acked_since : seat_since (seat_at (set (set seats s Idle) s (Busy (acked statement))) s) ≡ None
    acked_since = ap seat_since (is_at (Busy (acked statement)))

    pub acked_nears_it : Nears s progress.Went (record { lists = old; seats = seats })
        (record { lists = new; seats = set (set seats s Idle) s (Busy (acked statement)) })
    acked_nears_it =
        step_nears statement (acked statement) advance.Went (Busy (acked statement)) progress.Went was ((moves_on_acked statement owed).nears old new s)
        (refl, refl)

  -- ---- a step of an item whose text is no statement

  module _ (at : ℕ) (was : seat_at seats s ≡ Refused at) where
    pub unread : IsUnread s at old
    unread = subst (SeatAgrees old s) was (are.each s)

    refusal : Reply
    refusal = replies.Fail (errors.Syntax at)

    module _ (seat : Seat) (answer : Progress) (does : Refuses s at old new seat answer) where
      refused_moves : SessionMoves s old new
      unfolding refusal
      refused_moves =
          of_statement s old new
          (moves_adds s (events.Ended s (started s old.past) refusal) old new (ended_mine s (started s old.past) refusal) refl (λ x. absurd (false≢true x))
          does.ends)

      pub refused_keeps : AreSeats new (set (set seats s Idle) s seat)
      unfolding refusal
      refused_keeps =
          kept seat refused_moves
          (subst (SeatAgrees new s) (sym does.seat_is)
          (ended_item new s (started s old.past) refusal old.past does.ends.past_is unread.started.rows_alone (does.ends.task_is ∙ unread.idle)))
          (ended_exact s (started s old.past) refusal old.past new.past does.ends.past_is
          (refused_exact s at unread.text old.past unread.started.item unread.refused) are.exact)

      pub refused_does : StepsBy s answer (record { lists = old; seats = seats }) (record { lists = new; seats = set (set seats s Idle) s seat })
      unfolding refusal
      refused_does =
          rw does.answer_is (steps_on seat refused_moves, inl ((old.past, inl refl, does.ends.past_is), is_at seat ∙ does.seat_is))

      pub refused_nears : Nears s answer (record { lists = old; seats = seats }) (record { lists = new; seats = set (set seats s Idle) s seat })
      refused_nears = rw does.answer_is tt

      pub refused_since : (now : ℕ) (since : Option ℕ) → seat_since (seat_at (set (set seats s Idle) s seat) s) ≡ since_after answer now since
      refused_since now since =
          subst (λ (a : Progress). seat_since (seat_at (set (set seats s Idle) s seat) s) ≡ since_after a now since) (sym does.answer_is)
          (ap seat_since (is_at seat ∙ does.seat_is))

      pub refused_lacks : NearsLacking s answer (record { lists = old; seats = seats }) (record { lists = new; seats = set (set seats s Idle) s seat })
      refused_lacks = rw does.answer_is tt

  -- ---- a step of an item of a signal

  module _ (now : ℕ) (item : SignalItem) (was : seat_at seats s ≡ Signalling item) where
    asked : HasAsked s item old.past × (task_of s old ≡ tasks.Idle)
    asked = subst (SeatAgrees old s) was (are.each s)

    ended_seat : (reply : Reply) → EndsSignal s reply old new → SeatAgrees new s Idle
    ended_seat reply ends =
        ended_item new s (started s old.past) reply ends.ends.0 ends.ends.2
        (rows_then s old.past ends.ends.0 ends.ends.1 (has_rows s item old.past asked.0)) (ends.tasks_stay s ∙ asked.1)

    pub signals_keep : (seat : Seat) (answer : Progress) → Signals s now item old new seat answer → AreSeats new (set (set seats s Idle) s seat)
    signals_keep seat (progress.Done reply) does =
        let ends = does.0.ends in
        let exact = signals_exact s item reply old.past ends.0 asked.0 ends.1 are.exact in
        kept seat (of_signal s reply old new does.0) (subst (SeatAgrees new s) (sym does.1) (ended_seat reply does.0))
        (ended_exact s (started s old.past) reply ends.0 new.past ends.2 exact.0 exact.1)
    signals_keep seat progress.NotYet does =
        kept seat (of_nothing s old new (lists_same old new does.0))
        (subst (SeatAgrees new s) (sym does.2.4) (subst (λ l. HasAsked s does.2.0 l.past × (task_of s l ≡ tasks.Idle)) (sym does.0) (does.2.1, asked.1)))
        (exact_still (ap (λ l. l.past) does.0))
    signals_keep seat other does = elim does [ ]

    pub signals_do : (seat : Seat) (answer : Progress) → Signals s now item old new seat answer
        → StepsBy s answer (record { lists = old; seats = seats }) (record { lists = new; seats = set (set seats s Idle) s seat })
    signals_do seat (progress.Done reply) does = (steps_on seat (of_signal s reply old new does.0), inl (does.0.ends, is_at seat ∙ does.1))
    signals_do seat progress.NotYet does =
        let same = lists_same old new does.0 in
        (steps_on seat (of_nothing s old new same), same, ap is_working (is_at seat ∙ does.2.4), does.1)
    signals_do seat other does = elim does [ ]

    pub signals_near : (seat : Seat) (answer : Progress) → Signals s now item old new seat answer
        → Nears s answer (record { lists = old; seats = seats }) (record { lists = new; seats = set (set seats s Idle) s seat })
    signals_near seat (progress.Done reply) does = tt
    signals_near seat progress.NotYet does = tt
    signals_near seat other does = elim does [ ]

    pub signals_patient : (seat : Seat) (answer : Progress) → Signals s now item old new seat answer → answer ≡ progress.NotYet
        → WaitsOn now (seat_since (seat_at seats s))
    signals_patient seat answer does is =
        let waits = subst (Signals s now item old new seat) is does in
        subst (λ (at : Seat). WaitsOn now (seat_since at)) (sym was) (patient_since now waits.2.0 _ waits.2.3 waits.2.2)

    pub signals_since : (seat : Seat) (answer : Progress) → Signals s now item old new seat answer
        → seat_since (seat_at (set (set seats s Idle) s seat) s) ≡ since_after answer now (seat_since (seat_at seats s))
    signals_since seat (progress.Done reply) does = ap seat_since (is_at seat ∙ does.1)
    signals_since seat progress.NotYet does =
        ap seat_since (is_at seat ∙ does.2.4) ∙ (does.2.3 ∙ ap (λ (at : Seat). Some (unwrap_or (seat_since at) now)) (sym was))
    signals_since seat other does = elim does [ ]

    pub signals_wait : (seat : Seat) (answer : Progress) → Signals s now item old new seat answer
        → GivesUpInVain s now answer (record { lists = old; seats = seats })
    signals_wait seat answer does other waited at is =
        let same : Signalling item ≡ Signalling other = sym was ∙ at in
        let one : item ≡ other = cc in
        subst (λ (x : SignalItem). WaitsInVain now waited x old.past) one (subst (Signals s now item old new seat) is does).2

  -- ---- a step of the ending

  module _ (leaving : seat_at seats s ≡ Leaving) where
    pub may_go : IsGoingOut s old
    may_go = subst (SeatAgrees old s) leaving (are.each s)

    pub out_keeps : (seat : Seat) (answer : Progress) → GoesOut s old new seat answer → AreSeats new (set (set seats s Idle) s seat)
    out_keeps seat progress.Went goes =
        kept seat (of_statement s old new goes.0) (subst (SeatAgrees new s) (sym goes.3) goes.2) (goes_exact s old.past new.past goes.1 are.exact)
    out_keeps seat (progress.Done reply) goes =
        kept seat (of_statement s old new (moves_is old new s goes.1))
        (subst (SeatAgrees new s) (sym goes.4) (subst (λ l. (under_way s l.past ≡ None) × IsClosed s l.past × (task_of s l ≡ tasks.Idle)) (sym goes.1)
        (may_go.may.rests, goes.2, goes.3))) (exact_still (ap (λ l. l.past) goes.1))
    out_keeps seat other goes = elim goes [ ]

    pub out_since : (now : ℕ) (since : Option ℕ) (seat : Seat) (answer : Progress) → GoesOut s old new seat answer
        → seat_since (seat_at (set (set seats s Idle) s seat) s) ≡ since_after answer now since
    out_since now since seat progress.Went goes = ap seat_since (is_at seat ∙ goes.3)
    out_since now since seat (progress.Done reply) goes = ap seat_since (is_at seat ∙ goes.4)
    out_since now since seat other goes = elim goes [ ]

-- an item that gives a signal or awaits one doesn't go on where it finds no memory
pub signalling_lacks : (s now : ℕ) (item : SignalItem) (lists after : Lists) (seat : Seat) (answer : Progress) → Signals s now item lists after seat answer
    → (old new : State) → NearsLacking s answer old new
signalling_lacks s now item lists after seat (progress.Done reply) does old new = tt
signalling_lacks s now item lists after seat progress.NotYet does old new = tt
signalling_lacks s now item lists after seat other does old new = elim does [ ]

-- ---- what the calls do

module _ (old new : Lists) (past-is : new.past ≡ old.past) (writer-is : new.writer ≡ old.writer) (tasks-are : (s : ℕ) → task_of s new ≡ task_of s old) where
  pub joined_either : {X Y : Type 0} (result : Result X Y) (name : List ℕ) (seats : List Seat) → AreSeats old seats
      → OnOk result (new.names ≡ old.names ++ name ∷ []) → OnErr result (new.names ≡ old.names) → AreSeats new (seats ++ Idle ∷ [])
  joined_either (Ok x) name seats are ok err = seats_joined old new past-is writer-is tasks-are name seats ok are
  joined_either (Err e) name seats are ok err = seats_wait old new past-is writer-is tasks-are seats err are

  pub joins : {X Y : Type 0} (result : Result X Y) (name : List ℕ) (seats : List Seat) → OnOk result (new.names ≡ old.names ++ name ∷ [])
      → OnOk result (Joins name (record { lists = old; seats = seats }) (record { lists = new; seats = seats ++ Idle ∷ [] }))
  joins (Ok x) name seats ok =
      record { names_are = ok; past_stays = past-is; writer_stays = writer-is; tasks_stay = tasks-are; seats_stay = joined_seats seats }
  joins (Err e) name seats ok = tt

  pub refused_join : {X Y : Type 0} (result : Result X Y) (seats : List Seat) → OnErr result (new.names ≡ old.names)
      → OnErr result (SameState (record { lists = old; seats = seats }) (record { lists = new; seats = seats ++ Idle ∷ [] }))
  refused_join (Ok x) seats err = tt
  refused_join (Err e) seats err =
      record {
        lists_stay = record { names_stay = err; past_stays = past-is; writer_stays = writer-is; tasks_stay = tasks-are };
        seats_stay = joined_seats seats;
      }
