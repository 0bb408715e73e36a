-- What entries of its own make of a SELECT.
use Rattle.std.proofs.Common.{◌≡◌, ℕ, ◌+◌, Bool, true, false, Option, Some, None, List, [], ◌∷◌, refl, sym, ap, subst, ◌∙◌, inl, inr, arith}
use Rattle.std.proofs.lemmas.Bool.Decides.{nat_tests}
use Rattle.std.proofs.lemmas.Bool.{false≢true}
use Rattle.std.specs.Prelude.{is_some}
use Rattle.std.specs.List.{AllByRecursion}
use Rattle.inno_types.specs.declared.lock.Level.{Level}
use Rattle.inno_types.specs.declared.lock.Level.TheVariants.{RepeatableRead}
use Rattle.inno_types.specs.declared.stmt.Stmt.{Stmt}
use Rattle.inno_model.specs.declared.event.Event.{Event}
use Rattle.inno_model.specs.declared.event.Event.TheVariants as events
use Rattle.inno_model.specs.Past.{started, before_item, did, begins_txn, takes_view, begins, level, own, view_of, commits, IsOpen, IsClosed}
use Rattle.sql_grammar.specs.Grammar.{Spells}
use Rattle.sql_history.specs.Items.{before_turn}
use Rattle.sql_history.specs.Statements.{Sight, plain_sight, is_select}
use Rattle.sql_history.specs.Legal.{MayBegin, MayView}
use Rattle.shared_lists.specs.Tasks.{Idle}
use Rattle.shared_lists.specs.State.{State, Adds, Turns, Stays, task_of}
use Rattle.law_past_agreement.specs.Order.{IsOfRow}
use Rattle.sql_lists.specs.Steps.{Moves, IsTaken}
use Rattle.sql_lists.proofs.Moving.{moves_none, moves_adds}
use Rattle.giving_up.specs.Machines.{MovesOnAcked}
use Rattle.giving_up.proofs.Closing as of_leaving
use Rattle.giving_up.proofs.Nothing.{own_nothing, level_nothing, turn_nothing}
use Rattle.read_statement.specs.declared.machine.Asked.{Asked}
use Rattle.read_statement.specs.declared.machine.ReadStatement.TheVariants as machine
use Rattle.read_statement.specs.Going.{to_go}
use Rattle.read_statement.specs.Running.{IsTakenWith, IsUnrefused, IsOpening, IsIn, IsEarly, HasView, MayTakeView, IsRunning, owes_ack, acked}
use Rattle.giving_up.proofs.Own.{takes_on}
use Rattle.read_statement.proofs.Selects.{plain_taken, begins_by, views_by}

-- ---- opening

pub taken_opens : (s : ℕ) (h : List Event) (asked : Asked) → IsTakenWith asked.autocommit asked.level s asked.stmt h → is_select asked.stmt ≡ true
    → IsUnrefused asked.stmt h → IsOpening h s asked
taken_opens s h asked taken select unrefused =
    record {
      takes = taken.taken.takes;
      plain = plain_taken s asked.stmt h select taken.taken.takes;
      nothing = taken.taken.nothing;
      rows_alone = taken.taken.rows_alone;
      autocommit_is = taken.autocommit_is;
      level_is = taken.level_is;
      unrefused = unrefused;
    }

module _ (s : ℕ) (h : List Event) (asked : Asked) (opening : IsOpening h s asked) where
  pub taken_still : IsTaken s asked.stmt h
  taken_still = record { takes = opening.takes; nothing = opening.nothing; rows_alone = opening.rows_alone }

  -- in the transaction that is open
  pub early_in : IsEarly h s asked.stmt false
  early_in =
      record {
        takes = opening.takes;
        plain = opening.plain;
        goes_on = rw opening.nothing refl;
        own_is = own_nothing s h opening.nothing;
        before_is = own_nothing s h opening.nothing ∙ ap (own s) (sym (turn_nothing s h opening.nothing).1);
        in_txn = inl (level_nothing s h opening.nothing, rw opening.nothing refl);
        rows_alone = opening.rows_alone;
        unrefused = opening.unrefused;
      }

  pub unseen : did takes_view s h ≡ false
  unseen = rw opening.nothing refl

  pub may_begin : IsClosed s h → MayBegin Spells s (begins h + 1) asked.level h
  may_begin closed =
      record {
        numbered = refl;
        closed = closed;
        first = rw opening.nothing refl;
        acked = rw opening.nothing refl;
        statement = asked.stmt;
        takes = opening.takes;
        level_is = sym opening.level_is;
        by = begins_by s h opening.takes.setting asked.stmt opening.plain;
      }

  module _ (n : ℕ) (l : Level) (closed : IsClosed s h) (none : own s h ≡ []) where
    closed_before : IsClosed s (before_item s h)
    closed_before = sym (level_nothing s h opening.nothing) ∙ closed

    none_before : own s (before_item s h) ≡ []
    none_before = sym (own_nothing s h opening.nothing) ∙ none

    begun_is : did begins_txn s (events.Begin s n l ∷ h) ≡ true
    begun_is = grind (arith, nat_tests)

    in_begun : (autocommit : Bool) → opening.takes.setting.autocommit ≡ autocommit → IsIn autocommit opening.takes.setting.autocommit s (events.Begin s n l ∷ h)
    in_begun true is = (is, closed_before, none_before, begun_is)
    in_begun false is = inr (is, closed_before, none_before, begun_is)

    no_own : own s (events.Begin s n l ∷ h) ≡ []
    no_own = grind (arith, nat_tests)

    pub begun_early : IsEarly (events.Begin s n l ∷ h) s asked.stmt asked.autocommit
    begun_early =
        record {
          takes = takes_on (events.Begin s n l) h s refl asked.stmt opening.takes;
          plain = opening.plain;
          goes_on = grind (arith, nat_tests, opening.nothing);
          own_is = no_own ∙ sym none_before;
          before_is = (let same : before_turn s (events.Begin s n l ∷ h) ≡ events.Begin s n l ∷ h = grind (arith, nat_tests) in ap (own s) (sym same));
          in_txn = in_begun asked.autocommit opening.autocommit_is;
          rows_alone = subst (AllByRecursion IsOfRow) (sym no_own) tt;
          unrefused = opening.unrefused;
        }

    pub begun_open : IsOpen s (events.Begin s n l ∷ h)
    begun_open = grind (arith, nat_tests)

    pub begun_unseen : did takes_view s (events.Begin s n l ∷ h) ≡ false
    begun_unseen = grind (arith, nat_tests, opening.nothing)

pub never : {P : Type 0} → false ≡ true → P
never is = absurd (false≢true is)

pub begun : (s n : ℕ) (l : Level) (old new : State) (asked : Asked) → IsOpening old.past s asked → IsClosed s old.past → own s old.past ≡ []
    → task_of s old ≡ Idle → Adds (events.Begin s n l) s old new
    → Moves s old new × (IsEarly new.past s asked.stmt asked.autocommit × IsOpen s new.past × (did takes_view s new.past ≡ false) × (task_of s new ≡ Idle)) ×
    (started s new.past ≡ started s old.past)
begun s n l old new asked opening closed none idle adds = (
  moves_adds s (events.Begin s n l) old new (grind (arith, nat_tests)) refl never adds,
  rw adds.past_is (
    begun_early s old.past asked opening n l closed none,
    begun_open s old.past asked opening n l closed none,
    begun_unseen s old.past asked
        opening n l closed none,
    adds.task_is ∙ idle,
  ),
  ap (started s) adds.past_is,
)

-- where a transaction is open it works in that
pub stays_open : (s : ℕ) (state : State) (asked : Asked) → IsOpening state.past s asked → IsOpen s state.past → task_of s state ≡ Idle
    → Moves s state state × (IsEarly state.past s asked.stmt false × IsOpen s state.past × (did takes_view s state.past ≡ false) × (task_of s state ≡ Idle))
    × (started s state.past ≡ started s state.past)
stays_open s state asked opening is-open idle =
    (moves_none s state, (early_in s state.past asked opening, is-open, unseen s state.past asked opening, idle), refl)

-- the session has nothing under way, as before
pub rests : (s : ℕ) (old new : State) → task_of s old ≡ Idle → Stays s old new → Turns s Idle old new
rests s old new idle stays =
    record { names_are = stays.names_are; past_is = stays.past_is; writer_is = stays.writer_is; task_is = stays.task_is ∙ idle; others = stays.others }

-- ---- the view

pub may_view : (s : ℕ) (h : List Event) (statement : Stmt) (alone : Bool) → IsEarly h s statement alone → MayTakeView s h → MayView Spells s h
may_view s h statement alone early takes =
    record {
      statement = statement;
      takes = early.takes;
      l = takes.0;
      level_is = takes.1;
      by = views_by s h early.takes.setting takes.0 statement early.plain takes.2 takes.4;
    }

viewed_in : (alone autocommit : Bool) (s : ℕ) (h : List Event) → IsIn alone autocommit s h → IsIn alone autocommit s (events.View s ∷ h)
viewed_in true autocommit s h i = (i.0, i.1, i.2, grind (arith, nat_tests, i.3))
viewed_in false autocommit s h (inl i) = inl (i.0, grind (arith, nat_tests, i.1))
viewed_in false autocommit s h (inr i) = inr (i.0, i.1, i.2, grind (arith, nat_tests, i.3))

viewed_early : (s : ℕ) (h : List Event) (statement : Stmt) (alone : Bool) → IsEarly h s statement alone → IsEarly (events.View s ∷ h) s statement alone
viewed_early s h statement alone early =
    record {
      takes = takes_on (events.View s) h s refl statement early.takes;
      plain = early.plain;
      goes_on = grind (arith, nat_tests, early.goes_on);
      own_is = early.own_is;
      before_is = early.before_is;
      in_txn = viewed_in alone early.takes.setting.autocommit s h early.in_txn;
      rows_alone = early.rows_alone;
      unrefused = early.unrefused;
    }

viewed_has : (s : ℕ) (h : List Event) → MayTakeView s h → HasView (events.View s ∷ h) s
viewed_has s h takes =
    let seen : did takes_view s (events.View s ∷ h) ≡ true = grind (arith, nat_tests) in
    let counts : view_of s (events.View s ∷ h) ≡ Some (commits h) = grind (arith, nat_tests) in
    record { l = takes.0; level_is = takes.1; by_view = takes.2; viewed = λ by-view apart. seen; number = commits h; view_is = counts }

pub viewed : (s : ℕ) (old new : State) (statement : Stmt) (alone : Bool) → IsEarly old.past s statement alone → IsOpen s old.past → MayTakeView s old.past
    → task_of s old ≡ Idle → Adds (events.View s) s old new
    → Moves s old new × (IsEarly new.past s statement alone × IsOpen s new.past × HasView new.past s × (task_of s new ≡ Idle)) ×
    (started s new.past ≡ started s old.past)
viewed s old new statement alone early is-open takes idle adds = (
  moves_adds s (events.View s) old new (grind (arith, nat_tests)) refl never adds,
  rw adds.past_is (viewed_early s old.past statement alone early, is-open, viewed_has s old.past takes, adds.task_is ∙ idle),
  ap (started s) adds.past_is,
)

number_of : (o : Option ℕ) → is_some o ≡ true → (n : ℕ) × (o ≡ Some n)
number_of None is = (let x = is in cc)
number_of (Some n) is = (n, refl)

repeatable_view : (alone : Bool) → plain_sight RepeatableRead alone ≡ Sight.of_view
repeatable_view alone = refl

-- the view that a transaction at REPEATABLE READ has
pub has_view : (s : ℕ) (h : List Event) → level s h ≡ Some RepeatableRead → is_some (view_of s h) ≡ true → HasView h s
has_view s h is some =
    let number = number_of (view_of s h) some in
    record {
      l = RepeatableRead;
      level_is = is;
      by_view = repeatable_view;
      viewed = λ by-view apart. absurd (apart refl);
      number = number.0;
      view_is =
          number.1;
    }

-- ---- the acknowledgement of a commit

pub moves_on_acked : MovesOnAcked IsRunning to_go owes_ack acked
moves_on_acked (machine.Leaving leaving) owes =
    let goes = of_leaving.moves_on_acked leaving owes in record { owed = goes.owed; runs = goes.runs; nears = goes.nears }
moves_on_acked m owes = never owes
