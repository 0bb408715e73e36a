-- What each step leaves of the files' promise, and what a commit's acknowledgement is to the callers of the engine.
use Rattle.std.proofs.Common.{◌≡◌, ◌≢◌, inl, inr, ℕ, Bool, true, false, Option, None, Some, List, [], ◌∷◌, refl, sym, ap, subst, ◌∙◌, cond, arith}
use Rattle.std.proofs.lemmas.Bool.Decides.{nat_tests}
use Rattle.std.proofs.lemmas.Bool.{false≢true}
use Rattle.std.specs.Prelude.{Result, Ok, Err, OnOk, OnErr}
use Rattle.inno_types.specs.declared.reply.Cause.{Cause}
use Rattle.inno_types.specs.declared.reply.Cause.TheVariants.{Disk}
use Rattle.inno_types.specs.declared.reply.Item.{Item}
use Rattle.inno_types.specs.declared.reply.Item.TheVariants as items
use Rattle.inno_types.specs.declared.reply.Reply.TheVariants as replies
use Rattle.inno_model.specs.declared.event.Event.{Event}
use Rattle.inno_model.specs.declared.event.Event.TheVariants as events
use Rattle.inno_model.specs.Past.{under_way}
use Rattle.sql_history.specs.Counts.{has_stopped}
use Rattle.store_api.specs.Past.{Past}
use Rattle.store_api.specs.declared.answers.Progress.{Progress}
use Rattle.store_api.specs.declared.answers.Progress.TheVariants as progress
use Rattle.law_crashes.specs.Since.{KeepsSince}
use Rattle.law_crashes.proofs.Keeps.{keeps_entry}
use Rattle.inno_model.specs.declared.board.Phase.{Phase}
use Rattle.inno_model.specs.declared.board.Phase.TheVariants.{Idle, Busy, Leaving, Left}
use Rattle.session_engine.specs.declared.seats.Seat.{Seat}
use Rattle.session_engine.specs.declared.seats.Seat.TheVariants as seats
use Rattle.session_engine.specs.Seats.{State as Sessions, seat_at, seat_since, since_at as session_since, is_working, owes, phase_of}
use Rattle.session_engine.specs.Calls.{Acknowledges, StepsBy as SessionStepsBy, WaitsOn, since_after}
use Rattle.session_engine.specs.Places.{IsExact, HasExactPlaces}
use Rattle.durable_engine.specs.Seats.{State as StoppedState, phase_at, halted, ended}
use Rattle.durable_engine.specs.StoppedCalls.{is_at_work, Starts as StoppedStarts, SameState as StoppedSameState, StepsBy as StoppedStepsBy}
use Rattle.durable_engine.specs.SessionsState.{State as LoggedState}
use Rattle.durable_engine.specs.declared.parts.Core.{Core}
use Rattle.durable_engine.specs.declared.parts.Core.TheVariants as cores
use Rattle.durable_engine.specs.State.{State, state_of, running_state, stopped_state, since_at}
use Rattle.durable_engine.specs.Calls.{StepsBy, StepsOn, GoesOn, WaitsLong, KeepsTime, StopsBy}

-- what the entries of an engine that stops, or has stopped, leave as it was
module _ (P : List Event → Type 0) (stops : (cause : Cause) (past : List Event) → P past → P (events.Stopped cause ∷ past))
    (ends : (s j : ℕ) (past : List Event) → P past → P (events.Ended s j replies.Stopped ∷ past))
    (starts : (s j : ℕ) (item : Item) (past : List Event) → P past → P (events.Started s j item ∷ past)) where
  left_halted : (cause : Cause) (past : List Event) (b : Bool) → P past → P (cond b past (events.Stopped cause ∷ past))
  left_halted cause past true holds = holds
  left_halted cause past false holds = stops cause past holds

  left_ended : (s j : ℕ) (phase : Phase) (past : List Event) → P past → P (ended s j phase past)
  left_ended s j Busy past holds = ends s j past holds
  left_ended s j Idle past holds = holds
  left_ended s j Leaving past holds = holds
  left_ended s j Left past holds = holds

  left_stepped : (s : ℕ) (answer : Progress) (old new : StoppedState) → StoppedStepsBy s answer old new → P old.past → P new.past
  left_stepped s (progress.Stopped cause) old new steps holds =
      subst P (sym steps.1.past_is)
      (left_ended s _ (phase_at old.seats s) (halted old.cause old.past) (left_halted old.cause old.past (has_stopped old.past) holds))
  left_stepped s progress.NoMemory old new steps holds = subst P (sym steps.past_stays) holds
  left_stepped s other old new steps holds = elim steps [ ]

  left_started : {X Y : Type 0} (result : Result X Y) (s : ℕ) (item : Item) (old new : StoppedState) → OnOk result (StoppedStarts s item old new)
      → OnErr result (StoppedSameState old new) → P old.past → P new.past
  left_started (Ok x) s item old new ok err holds = subst P (sym ok.past_is) (starts s _ item old.past holds)
  left_started (Err x) s item old new ok err holds = subst P (sym err.past_stays) holds

  left_stopping : (s : ℕ) (answer : Progress) (old : LoggedState) (new : StoppedState) → StopsBy s answer old new → P old.sessions.lists.past → P new.past
  left_stopping s answer old new stops_by holds =
      left_stepped s answer stops_by.before new stops_by.steps (subst (λ (st : StoppedState). P st.past) (sym stops_by.taken) holds)

-- what a crash leaves of the files
module _ (root now : Past) where
  crash_stops : (cause : Cause) (past : List Event) → KeepsSince root now past → KeepsSince root now (events.Stopped cause ∷ past)
  crash_stops cause past keeps = keeps_entry root now (events.Stopped cause) past refl keeps

  crash_ends : (s j : ℕ) (past : List Event) → KeepsSince root now past → KeepsSince root now (events.Ended s j replies.Stopped ∷ past)
  crash_ends s j past keeps = keeps_entry root now (events.Ended s j replies.Stopped) past refl keeps

  crash_starts : (s j : ℕ) (item : Item) (past : List Event) → KeepsSince root now past → KeepsSince root now (events.Started s j item ∷ past)
  crash_starts s j item past keeps = keeps_entry root now (events.Started s j item) past refl keeps

  pub stopped_keeps : (s : ℕ) (answer : Progress) (old new : StoppedState) → StoppedStepsBy s answer old new → KeepsSince root now old.past
      → KeepsSince root now new.past
  stopped_keeps = left_stepped (KeepsSince root now) crash_stops crash_ends crash_starts

  pub started_keeps : {X Y : Type 0} (result : Result X Y) (s : ℕ) (item : Item) (old new : StoppedState) → OnOk result (StoppedStarts s item old new)
      → OnErr result (StoppedSameState old new) → KeepsSince root now old.past → KeepsSince root now new.past
  started_keeps = left_started (KeepsSince root now) crash_stops crash_ends crash_starts

  pub stop_keeps : (s : ℕ) (answer : Progress) (old : LoggedState) (new : StoppedState) → StopsBy s answer old new
      → KeepsSince root now old.sessions.lists.past → KeepsSince root now new.past
  stop_keeps = left_stopping (KeepsSince root now) crash_stops crash_ends crash_starts

-- the places of syntax errors
exact_stop : (item : Option Item) → IsExact item replies.Stopped
exact_stop (Some (items.Sql text)) = tt
exact_stop item = tt

exact_ends : (s j : ℕ) (past : List Event) → HasExactPlaces past → HasExactPlaces (events.Ended s j replies.Stopped ∷ past)
exact_ends s j past exact = (exact_stop (under_way s past), exact)

pub stopped_exact : (s : ℕ) (answer : Progress) (old new : StoppedState) → StoppedStepsBy s answer old new → HasExactPlaces old.past
    → HasExactPlaces new.past
stopped_exact = left_stepped HasExactPlaces (λ cause past exact. exact) exact_ends (λ s j item past exact. exact)

pub started_exact : {X Y : Type 0} (result : Result X Y) (s : ℕ) (item : Item) (old new : StoppedState) → OnOk result (StoppedStarts s item old new)
    → OnErr result (StoppedSameState old new) → HasExactPlaces old.past → HasExactPlaces new.past
started_exact = left_started HasExactPlaces (λ cause past exact. exact) exact_ends (λ s j item past exact. exact)

pub stop_exact : (s : ℕ) (answer : Progress) (old : LoggedState) (new : StoppedState) → StopsBy s answer old new
    → HasExactPlaces old.sessions.lists.past → HasExactPlaces new.past
stop_exact = left_stopping HasExactPlaces (λ cause past exact. exact) exact_ends (λ s j item past exact. exact)

pub stopped_cause : (s : ℕ) (answer : Progress) (old new : StoppedState) → StoppedStepsBy s answer old new → new.cause ≡ old.cause
stopped_cause s (progress.Stopped cause) old new steps = steps.1.cause_stays
stopped_cause s progress.NoMemory old new steps = steps.cause_stays
stopped_cause s other old new steps = elim steps [ ]

-- a commit is acknowledged
pub acked_on : {D : Type 0} (s moment : ℕ) (before after : D) (old new : LoggedState) → Acknowledges s moment old.sessions new.sessions
    → new.seats ≡ old.seats → is_at_work (phase_at old.seats s) ≡ true
    → StepsOn s (running_state before old) (running_state after new) × GoesOn s old.sessions.lists.past new.sessions.lists.past
    × (is_at_work (phase_at new.seats s) ≡ true)
acked_on s moment before after old new acks same works = (
  record { names_stay = acks.steps.names_stay; others_stay = λ u differ. ap (λ seats. phase_at seats u) same },
  record { entries = events.Acked s moment ∷ []; past_is = acks.past_is; each = ((grind (arith, nat_tests), tt), tt) },
  ap (λ seats. is_at_work (phase_at seats s)) same ∙ works,
)

-- a session that works is at work
working_phase : (seat : Seat) → is_working seat ≡ true → is_at_work (phase_of seat) ≡ true
working_phase seats.Idle works = works
working_phase (seats.Busy statement) works = refl
working_phase (seats.Refused at) works = refl
working_phase (seats.Signalling item) works = refl
working_phase seats.Leaving works = refl
working_phase seats.Left works = works

-- a step of sessions that run is one of the engine
module _ {D : Type 0} (disk : D) (s : ℕ) (old new : LoggedState) (was : phase_at old.seats s ≡ phase_of (seat_at old.sessions.seats s))
    (is : phase_at new.seats s ≡ phase_of (seat_at new.sessions.seats s)) (others : (u : ℕ) → u ≢ s → phase_at new.seats u ≡ phase_at old.seats u) where
  works : is_working (seat_at new.sessions.seats s) ≡ true → is_at_work (phase_at new.seats s) ≡ true
  works working = ap is_at_work is ∙ working_phase (seat_at new.sessions.seats s) working

  pub ran_on : (answer : Progress) → SessionStepsBy s answer old.sessions new.sessions → StepsBy s answer (running_state disk old) (running_state disk new)
  ran_on progress.Went (on, goes, working) = (
    record { names_stay = on.names_stay; others_stay = others },
    record { entries = goes.entries; past_is = goes.past_is; each = goes.each },
    works working,
  )
  ran_on (progress.Waiting blockers) (on, same, working, waits) =
      (record { names_stay = on.names_stay; others_stay = others }, same.past_stays, works working, waits)
  ran_on progress.NoMemory (on, past, working) = (record { names_stay = on.names_stay; others_stay = others }, past, works working)
  ran_on progress.NotYet (on, same, working, awaited) =
      (record { names_stay = on.names_stay; others_stay = others }, same.past_stays, works working, awaited)
  ran_on (progress.Done reply) (on, inl (ends, seat)) =
      (record { names_stay = on.names_stay; others_stay = others }, inl (ends, is ∙ ap phase_of seat))
  ran_on (progress.Done reply) (on, inr (leaving, done, lists, left)) = (
    record { names_stay = on.names_stay; others_stay = others },
    inr (was ∙ ap phase_of leaving, done, ap (λ l. l.past) lists, is ∙ ap phase_of left),
  )
  ran_on other steps = elim steps [ ]

-- an engine stops
pub stops_of : (s : ℕ) (answer : Progress) (old : LoggedState) (before new : StoppedState)
    → before ≡ record { names = old.sessions.lists.names; past = old.sessions.lists.past; seats = old.seats; cause = Disk }
    → StoppedStepsBy s answer before new → StopsBy s answer old new
stops_of s answer old before new taken steps =
    record {
      cause_is = stopped_cause s answer before new steps ∙ ap (λ (st : StoppedState). st.cause) taken;
      before = before;
      taken = taken;
      steps = steps;
    }

-- the disk of an engine, whichever it is
pub same_disk : {D L : Type 0} (disk : D) (core : Core L) → (state_of disk core).disk ≡ disk
same_disk disk (cores.Running sessions) = refl
same_disk disk (cores.Stopped sessions) = refl
same_disk disk cores.Changing = refl

-- ---- the moments that a step goes by

seats_on : (s : ℕ) (answer : Progress) (old new : Sessions) → SessionStepsBy s answer old new → (u : ℕ) → u ≢ s
    → seat_at new.seats u ≡ seat_at old.seats u
seats_on s progress.Went old new steps = steps.0.others_stay
seats_on s (progress.Waiting blockers) old new steps = steps.0.others_stay
seats_on s progress.NoMemory old new steps = steps.0.others_stay
seats_on s progress.NotYet old new steps = steps.0.others_stay
seats_on s (progress.Done reply) old new steps = steps.0.others_stay
seats_on s other old new steps = elim steps [ ]

pub ran_in_time : {D : Type 0} (disk : D) (s now moment : ℕ) (old new : LoggedState) (answer : Progress)
    → SessionStepsBy s answer old.sessions new.sessions → session_since s new.sessions ≡ since_after answer now (session_since s old.sessions)
    → (answer ≡ progress.NotYet → WaitsOn now (session_since s old.sessions))
    → WaitsLong s now answer old.sessions.lists.past (session_since s old.sessions) → owes (seat_at old.sessions.seats s) ≡ false
    → KeepsTime s now moment answer (running_state disk old) (running_state disk new)
ran_in_time disk s now moment old new answer steps since waits long unowed =
    record {
      since = since;
      waits = waits;
      long = long;
      others = λ u differ at is. ap seat_since (sym (seats_on s answer old.sessions new.sessions steps u differ)) ∙ is;
      acks = λ owed went. absurd (false≢true (sym unowed ∙ owed));
    }

pub acked_in_time : {D : Type 0} (s now moment : ℕ) (before after : D) (old new : LoggedState) → Acknowledges s moment old.sessions new.sessions
    → session_since s new.sessions ≡ None → KeepsTime s now moment progress.Went (running_state before old) (running_state after new)
acked_in_time s now moment before after old new acks none =
    record {
      since = none;
      waits = λ is. absurd (cc);
      long = λ name waited item is. absurd (cc);
      others = λ u differ at is. ap seat_since (sym (acks.steps.others_stay u differ)) ∙ is;
      acks = λ owed went. acks.past_is;
    }

-- nobody waits in an engine that has stopped
stopped_since : (s now : ℕ) (since : Option ℕ) (answer : Progress) (old new : StoppedState) → StoppedStepsBy s answer old new
    → None ≡ since_after answer now since
stopped_since s now since (progress.Stopped cause) old new steps = refl
stopped_since s now since progress.NoMemory old new steps = refl
stopped_since s now since other old new steps = elim steps [ ]

pub stopped_in_time : {D : Type 0} (s now moment : ℕ) (disk : D) (old : State D) (before new : StoppedState) (answer : Progress)
    → StoppedStepsBy s answer before new → KeepsTime s now moment answer old (stopped_state disk new)
stopped_in_time s now moment disk old before new answer steps =
    record {
      since = stopped_since s now (since_at s old) answer before new steps;
      waits = λ is. absurd (subst (λ (a : Progress). StoppedStepsBy s a before new) is steps);
      long = λ name waited item is. absurd (subst (λ (a : Progress). StoppedStepsBy s a before new) is steps);
      others = λ u differ at is. absurd (let never : None ≡ Some at = is in cc);
      acks = λ owed went. absurd (subst (λ (a : Progress). StoppedStepsBy s a before new) went steps);
    }
