-- Steps behind a call that told the history nothing: the statement's step goes on from there.
use Rattle.std.proofs.Common.{◌≡◌, ℕ, Option, Some, None, List, [], ◌∷◌, ◌++◌, sym, ap, subst, ◌∙◌, inl, inr}
use Rattle.inno_types.specs.declared.lock.Edge.{Edge}
use Rattle.inno_types.specs.declared.stmt.Stmt.{Stmt}
use Rattle.inno_db.specs.declared.change.Change.{Change}
use Rattle.inno_model.specs.declared.event.Event.{Event}
use Rattle.inno_model.specs.declared.event.Event.TheVariants as events
use Rattle.inno_model.specs.Past.{started, txn, IsOpen}
use Rattle.sql_grammar.specs.Grammar.{Spells}
use Rattle.sql_history.specs.Legal.{Takes, IsCreation}
use Rattle.shared_lists.specs.Tasks.{asked}
use Rattle.shared_lists.specs.State.{State, Stays, task_of}
use Rattle.sql_lists.specs.declared.advance.Advance.{Advance}
use Rattle.sql_lists.specs.declared.advance.Advance.TheVariants as advance
use Rattle.sql_lists.specs.Steps.{Moves, TellsOne, Steps, WaitsFor, AsksToWrite, HasRowsAlone, open_txn, plain_edge}
use Rattle.sql_lists.proofs.Moving.{moves_then}

-- ---- all is as it was

stays_then : (s : ℕ) (old mid new : State) → Stays s old mid → Stays s mid new → Stays s old new
stays_then s old mid new first second =
    record {
      names_are = second.names_are ∙ first.names_are;
      past_is = second.past_is ∙ first.past_is;
      writer_is = second.writer_is ∙ first.writer_is;
      task_is = second.task_is ∙ first.task_is;
      others = λ t differ. second.others t differ ∙ first.others t differ;
    }

waits_before : (s by : ℕ) (blockers : List Edge) (old mid : State) → Stays s old mid → WaitsFor s by blockers mid → WaitsFor s by blockers old
waits_before s by blockers old mid stays waits =
    record {
      asks = subst (AsksToWrite s) stays.past_is waits.asks;
      other = waits.other;
      holds = sym stays.writer_is ∙ waits.holds;
      is_open = subst (IsOpen by) stays.past_is waits.is_open;
      edge = waits.edge ∙ ap (λ (h : List Event). plain_edge (open_txn s h) (txn by h) ∷ []) stays.past_is;
    }

pub steps_then : {M : Type 0} (IsRunning : State → ℕ → M → Type 0) (s : ℕ) (old mid new : State) (m : M) (a : Advance) → Stays s old mid
    → Steps IsRunning s mid new m a → Steps IsRunning s old new m a
steps_then IsRunning s old mid new m advance.Went stays steps =
    (moves_then s old mid new stays steps.0, steps.1, steps.2 ∙ ap (started s) stays.past_is)
steps_then IsRunning s old mid new m (advance.Waiting by blockers) stays steps =
    (stays_then s old mid new stays steps.0, steps.1, waits_before s by blockers old mid stays steps.2)
steps_then IsRunning s old mid new m advance.NoMemory stays steps = (moves_then s old mid new stays steps.0, steps.1, steps.2 ∙ stays.past_is)
steps_then IsRunning s old mid new m (advance.Done reply) stays steps = (
  moves_then s old mid new stays steps.0,
  steps.1 ∙ ap (λ (h : List Event). events.Ended s (started s h) reply ∷ h) stays.past_is,
  subst (HasRowsAlone s) stays.past_is steps.2,
  steps.3,
)

-- ---- the session may write now, or has ended its search

-- what is asked for behind the call was asked for before it
abbrev pub AsksNoMore : ℕ → State → State → Type 0
AsksNoMore s old mid = (change : Change) → asked (task_of s mid) ≡ Some change → asked (task_of s old) ≡ Some change

told_before : (s : ℕ) (old mid : State) (entries : List Event) → mid.past ≡ old.past → AsksNoMore s old mid → TellsOne s mid entries → TellsOne s old entries
told_before s old mid [] same asks tells = tt
told_before s old mid (events.Changed t change ∷ earlier) same asks tells = (
  elim tells.0 [
    | inl asked_for ↦ inl (asks change asked_for)
    | inr makes ↦ inr (subst (λ h. (statement : Stmt) × Takes Spells s statement h × IsCreation statement) same makes)
  ],
  tells.1,
)
told_before s old mid (e ∷ earlier) same asks tells = told_before s old mid earlier same asks tells

moves_on : (s : ℕ) (old mid new : State) → Moves s old mid → mid.past ≡ old.past → AsksNoMore s old mid → Moves s mid new → Moves s old new
moves_on s old mid new first same asks second =
    record {
      names_stay = second.names_stay ∙ first.names_stay;
      adding =
          record { entries = second.adding.entries; past_is = second.adding.past_is ∙ ap (λ h. second.adding.entries ++ h) same; each = second.adding.each };
      tells = told_before s old mid second.adding.entries same asks second.tells;
      unacked = second.unacked;
      acks_none = second.acks_none ∙ first.acks_none;
      writer_stays = λ t differ held. second.writer_stays t differ (first.writer_stays t differ held);
      may_write = λ mine. elim (second.may_write mine) [
        | inl was ↦ first.may_write was
        | inr asks' ↦ inr (subst (AsksToWrite s) same asks')
      ];
      tasks_stay = λ t differ. second.tasks_stay t differ ∙ first.tasks_stay t differ;
    }

-- who may write waits for nobody
waits_for_none : {A : Type 0} (s by : ℕ) (blockers : List Edge) (mid : State) → mid.writer ≡ Some s → WaitsFor s by blockers mid → A
waits_for_none s by blockers mid mine waits =
    (let same : Some s ≡ Some by = sym mine ∙ waits.holds in let x : s ≡ by = cc in absurd (waits.other (sym x)))

pub steps_on : {M : Type 0} (IsRunning : State → ℕ → M → Type 0) (s : ℕ) (old mid new : State) (m : M) (a : Advance) → Moves s old mid
    → mid.past ≡ old.past → AsksNoMore s old mid → mid.writer ≡ Some s → Steps IsRunning s mid new m a → Steps IsRunning s old new m a
steps_on IsRunning s old mid new m advance.Went first same asks mine steps =
    (moves_on s old mid new first same asks steps.0, steps.1, steps.2 ∙ ap (started s) same)
steps_on IsRunning s old mid new m (advance.Waiting by blockers) first same asks mine steps = waits_for_none s by blockers mid mine steps.2
steps_on IsRunning s old mid new m advance.NoMemory first same asks mine steps =
    (moves_on s old mid new first same asks steps.0, steps.1, steps.2 ∙ same)
steps_on IsRunning s old mid new m (advance.Done reply) first same asks mine steps = (
  moves_on s old mid new first same asks steps.0,
  steps.1 ∙ ap (λ (h : List Event). events.Ended s (started s h) reply ∷ h) same,
  subst (HasRowsAlone s) same steps.2,
  steps.3,
)

asks_none : (o : Option Change) (change : Change) → o ≡ None → o ≡ Some change → {A : Type 0} → A
asks_none o change none some = (let x : None ≡ Some change = sym none ∙ some in cc)

-- where nothing is under way behind the call
pub idle_asks_no_more : (s : ℕ) (old mid : State) → asked (task_of s mid) ≡ None → AsksNoMore s old mid
idle_asks_no_more s old mid none change some = asks_none (asked (task_of s mid)) change none some
