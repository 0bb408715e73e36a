-- A session's transaction is open once it has begun, and stays so by whatever leaves the sessions; who waits may fall.
use Rattle.std.proofs.Common.{◌≡◌, ◌≢◌, ℕ, ◌+◌, Bool, true, false, List, [], ◌∷◌, ◌++◌, Some, eq-eqb, refl, sym, ap, ◌∙◌}
use Rattle.std.specs.Prelude.{slice_get, not, ◌||◌, Result, Ok, Err, OnOk}
use Rattle.inno_types.specs.declared.lock.Level.{Level}
use Rattle.inno_types.specs.declared.lock.Lock.{Lock}
use Rattle.lock_table.specs.Queue.{is_waiting}
use Rattle.sql_history.specs.Settings.{at_begin}
use Rattle.world.specs.State.{WorldState, Session, Work, HasWork}
use Rattle.world.specs.Sessions.{fresh_work, begun, begin_added}
use Rattle.world.specs.EngineCalls.{fresh_session, joined}
use Rattle.world.specs.Locks.{Asks}
use Rattle.world.specs.declared.lock_world.LockAnswer.{LockAnswer}
use Rattle.world.specs.declared.lock_world.LockAnswer.TheVariants.{Granted, Waits, NoMemory}
use Rattle.law_world_agreement.proofs.Opening.{set_here, set_other}
use Rattle.tests_world.specs.Open.{HasJoined, IsOpen, AreOpen, MayFall}

pub stays_open : {s txn : ℕ} (old new : WorldState) → slice_get new.sessions s ≡ slice_get old.sessions s → IsOpen s txn old → IsOpen s txn new
stays_open old new same mine =
    record {
      session = mine.session;
      work = mine.work;
      has_work = record { session_is = same ∙ mine.has_work.session_is; work_is = mine.has_work.work_is };
      txn_is = mine.txn_is;
      can_end = mine.can_end;
    }

pub both_on : (old new : WorldState) → new.sessions ≡ old.sessions → AreOpen old → AreOpen new
both_on old new same both =
    record {
      first = stays_open old new (ap (λ sessions. slice_get sessions 0) same) both.first;
      second = stays_open old new (ap (λ sessions. slice_get sessions 1) same) both.second;
    }

-- ---- a request

pub sessions_stay : (s : ℕ) (lock : Lock) (at : ℕ) (old new : WorldState) (answer : LockAnswer) → Asks s lock at old new answer
    → new.sessions ≡ old.sessions
sessions_stay s lock at old new Granted asks = ap (λ (state : WorldState). state.sessions) asks.1
sessions_stay s lock at old new Waits asks = ap (λ (state : WorldState). state.sessions) asks.rest
sessions_stay s lock at old new NoMemory asks = ap (λ (state : WorldState). state.sessions) asks.1

pub waits_not : (waits : Bool) → true ≡ not waits → waits ≡ false
waits_not false is = refl
waits_not true is = absurd (cc)

or_true : (a b : Bool) → b ≡ true → (a || b) ≡ true
or_true true b is = refl
or_true false b is = is

waits_last : (txn : ℕ) (queue : List Lock) (lock : Lock) → lock.txn ≡ txn → is_waiting txn (queue ++ lock ∷ []) ≡ true
waits_last txn [] lock is = ap (λ b. b || false) (eq-eqb lock.txn txn is)
waits_last txn (asked ∷ queue) lock is = or_true _ _ (waits_last txn queue lock is)

pub may_fall : (lock : Lock) (old new : WorldState) (answer : LockAnswer) → Asks 1 lock 0 old new answer → lock.txn ≡ 2 → answer ≡ Waits → MayFall new
may_fall lock old new Waits asks mine is =
    record {
      waits = ap (is_waiting 2) asks.queued.waiting ∙ waits_last 2 old.locks.waiting lock mine;
      rooms = asks.queued.rooms;
    }
may_fall lock old new Granted asks mine is = absurd (cc)
may_fall lock old new NoMemory asks mine is = absurd (cc)

-- what holds where a call succeeds
pub where_ok : {A B : Type 0} {P Q : Type 0} (result : Result A B) → (P → Q) → OnOk result P → OnOk result Q
where_ok (Ok x) then holds = then holds
where_ok (Err x) then holds = tt

-- ---- sessions that join

pub two_joined : (old mid new : WorldState) (first second : List ℕ) → old.sessions ≡ [] → mid ≡ joined first old → new ≡ joined second mid
    → new.sessions ≡ fresh_session ∷ fresh_session ∷ []
two_joined old mid new first second none one two =
    ap (λ (state : WorldState). state.sessions) two
    ∙ ap (λ sessions. sessions ++ fresh_session ∷ []) (ap (λ (state : WorldState). state.sessions) one ∙ ap (λ sessions. sessions ++ fresh_session ∷ []) none)

-- ---- a transaction that begins

module _ (s : ℕ) (level : Level) (old : WorldState) where
  abbrev pub the_work : Work
  the_work = fresh_work (old.txns.begun + 1) level

  abbrev pub the_session : Session
  the_session = record fresh_session { setting = at_begin fresh_session.setting; work = Some the_work }

  module _ (mid : WorldState) (fresh : HasJoined s old) (begins : mid ≡ begun s level fresh_session old) where
    there : slice_get mid.sessions s ≡ Some the_session
    there = ap (λ (state : WorldState). slice_get state.sessions s) begins ∙ set_here old.sessions s fresh_session the_session fresh

    pub has_begun : HasWork s the_session the_work mid
    has_begun = record { session_is = there; work_is = refl }

-- and is told
module _ (s : ℕ) (level : Level) (old mid new : WorldState) (txn : ℕ) (fresh : HasJoined s old) (begins : mid ≡ begun s level fresh_session old)
    (told : (session : Session) (work : Work) → HasWork s session work mid → new ≡ begin_added s txn level session work mid) where
  tells : new ≡ begin_added s txn level (the_session s level old) (the_work s level old) mid
  tells = told (the_session s level old) (the_work s level old) (has_begun s level old mid fresh begins)

  pub opened : IsOpen s (old.txns.begun + 1) new
  opened =
      record {
        session = _;
        work = record (the_work s level old) { can_end = true };
        has_work = record {
          session_is = ap (λ (state : WorldState). slice_get state.sessions s) tells
              ∙ set_here mid.sessions s (the_session s level old) _ (there s level old mid fresh begins);
          work_is = refl;
        };
        txn_is = refl;
        can_end = refl;
      }

  pub others_stay : (t : ℕ) → t ≢ s → slice_get new.sessions t ≡ slice_get old.sessions t
  others_stay t differs =
      ap (λ (state : WorldState). slice_get state.sessions t) tells ∙ (set_other mid.sessions s t _ differs
      ∙ (ap (λ (state : WorldState). slice_get state.sessions t) begins ∙ set_other old.sessions s t _ differs))

  pub one_more : new.txns.begun ≡ old.txns.begun + 1
  one_more = ap (λ (state : WorldState). state.txns.begun) tells ∙ ap (λ (state : WorldState). state.txns.begun) begins
