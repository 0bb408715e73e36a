-- How a statement comes into a transaction.
use Rattle.std.proofs.Common.{◌≡◌, ℕ, ◌+◌, Bool, true, false, eqb, None, List, [], ◌∷◌, refl, sym, ap, subst, ◌∙◌, inl, inr, arith}
use Rattle.std.proofs.lemmas.Bool.Decides.{nat_tests}
use Rattle.std.proofs.lemmas.Bool.{false≢true}
use Rattle.std.specs.Prelude.{is_some}
use Rattle.std.specs.List.{AllByRecursion, list_any}
use Rattle.inno_types.specs.declared.stmt.Stmt.{Stmt}
use Rattle.inno_types.specs.declared.lock.Level.{Level}
use Rattle.inno_model.specs.declared.event.Event.{Event}
use Rattle.inno_model.specs.declared.event.Event.TheVariants as events
use Rattle.inno_model.specs.Past.{of_item, begins_txn, commits_txn, rolls_back_txn, closes, begins, own, started}
use Rattle.inno_model.specs.Past.{IsOpen, IsClosed}
use Rattle.inno_model.specs.Moments.{Sometime}
use Rattle.sql_grammar.specs.Grammar.{Spells}
use Rattle.sql_history.specs.Items.{of_turn, before_turn, own_before, undoes}
use Rattle.sql_history.specs.Settings.{Setting, HasSet, next_level}
use Rattle.sql_history.specs.Statements.{refused_at_once}
use Rattle.sql_history.specs.Legal.{Takes, IsWriting, MayBegin, BeginsBy}
use Rattle.sql_history.specs.Waiting.{is_victim}
use Rattle.law_past_agreement.specs.Order.{IsOfRow}
use Rattle.shared_lists.specs.State.{State, Adds}
use Rattle.sql_lists.specs.Steps.{IsTaken, Moves}
use Rattle.giving_up.specs.Leaving.{HasOpened, InTxn}
use Rattle.write_statement.specs.Running.{IsUnrefused, IsEarly}
use Rattle.giving_up.proofs.Writing.{of_writing}
use Rattle.giving_up.proofs.Nothing.{set_before as set_nothing, own_nothing, level_nothing, turn_nothing, did_none, acked_none}
use Rattle.sql_lists.proofs.Moving.{moves_adds}

-- no setting refuses a statement that changes rows
pub refused_alike : (s : ℕ) (x y : Setting) (h : List Event) (statement : Stmt) → IsWriting statement
    → Sometime (λ g. refused_at_once s x statement g ≡ None) s h → Sometime (λ g. refused_at_once s y statement g ≡ None) s h
refused_alike s x y h =
    of_writing (λ statement. Sometime (λ g. refused_at_once s x statement g ≡ None) s h → Sometime (λ g. refused_at_once s y statement g ≡ None) s h)
    (λ table columns tuples was. was) (λ table sets condition was. was) (λ table condition was. was)

-- the statement with what its session has set now
abbrev pub retake : (s : ℕ) (statement : Stmt) (h : List Event) (x : Setting) → IsWriting statement → IsTaken s statement h → HasSet Spells s h x
    → Takes Spells s statement h
retake s statement h x writes taken held =
    record {
      asks = taken.takes.asks;
      setting = x;
      is_set = set_nothing s h x taken.nothing held;
      not_refused = refused_alike s taken.takes.setting x h
          statement writes taken.takes.not_refused;
    }

-- ---- in the transaction that was open

pub joined : (s : ℕ) (statement : Stmt) (h : List Event) → IsWriting statement → IsTaken s statement h → IsUnrefused statement h → IsOpen s h
    → IsEarly s statement false h
joined s statement h writes taken unrefused is-open =
    let none = taken.nothing in
    let turn = turn_nothing s h none in
    let had = ap (own s) turn.1 in
    record {
      working = record {
        takes = taken.takes;
        writes = writes;
        in_txn =
            inl (record {
              was_open = ap is_some (sym (level_nothing s h none)) ∙ is-open;
              stays = level_nothing s h none;
              not_begun = did_none begins_txn s h
                  none;
            });
        is_open = is-open;
        not_committed = did_none commits_txn s h none;
        not_rolled_back = did_none rolls_back_txn s h none;
        no_victim = did_none is_victim s h none;
        had = had;
        rows_alone = taken.rows_alone;
      };
      goes_on = record { not_over = ap (list_any closes) turn.0; not_undone = did_none undoes s h none };
      unchanged = own_nothing s h none ∙ sym had;
      unrefused = unrefused;
    }

-- ---- in one that it opens

begins_by : (s : ℕ) (x : Setting) (h : List Event) (statement : Stmt) → IsWriting statement → BeginsBy s x statement h
begins_by s x h = of_writing (λ statement. BeginsBy s x statement h) (λ table columns tuples. refl) (λ table sets condition. refl) (λ table condition. refl)

pub may_begin : (s : ℕ) (statement : Stmt) (h : List Event) (x : Setting) (l : Level) → IsWriting statement → IsTaken s statement h → HasSet Spells s h x
    → IsClosed s h → l ≡ next_level x → MayBegin Spells s (begins h + 1) l h
may_begin s statement h x l writes taken held closed level-is =
    record {
      numbered = refl;
      closed = closed;
      first = did_none begins_txn s h taken.nothing;
      acked = acked_none s h taken.nothing;
      statement = statement;
      takes = retake s statement h x writes taken held;
      level_is = level-is;
      by = begins_by s x h statement writes;
    }

module _ (s n : ℕ) (l : Level) (statement : Stmt) (h : List Event) (x : Setting) (writes : IsWriting statement) (taken : IsTaken s statement h)
    (unrefused : IsUnrefused statement h) (held : HasSet Spells s h x) (closed : IsClosed s h) (none : own s h ≡ []) where
  abbrev begun : List Event
  begun = events.Begin s n l ∷ h

  abbrev takes : Takes Spells s statement begun
  takes =
      let before = retake s statement h x writes taken held in
      record { asks = before.asks; setting = x; is_set = before.is_set; not_refused = inr (refl, before.not_refused) }

  mine : eqb s s ≡ true
  mine = grind (arith, nat_tests)

  entries : of_item s begun ≡ events.Begin s n l ∷ []
  entries = rw mine (ap (λ es. events.Begin s n l ∷ es) taken.nothing)

  has_opened : HasOpened s begun
  has_opened =
      record {
        was_closed = sym (level_nothing s h taken.nothing) ∙ closed;
        had_none = sym (own_nothing s h taken.nothing) ∙ none;
        begun = ap
            (list_any begins_txn) entries;
      }

  in_txn : (alone : Bool) → x.autocommit ≡ alone → InTxn alone x s begun
  in_txn true is = (has_opened, is)
  in_txn false is = inr (has_opened, is)

  nothing_own : own s begun ≡ []
  nothing_own = rw mine refl

  pub opened_early : (alone : Bool) → x.autocommit ≡ alone → IsEarly s statement alone begun
  opened_early alone is =
      let here : before_turn s begun ≡ begun = rw mine refl in
      let had : own_before s begun ≡ [] = ap (own s) here ∙ nothing_own in
      record {
        working = record {
          takes = takes;
          writes = writes;
          in_txn = in_txn alone is;
          is_open = rw mine refl;
          not_committed = ap (list_any commits_txn) entries;
          not_rolled_back = ap (list_any rolls_back_txn) entries;
          no_victim = ap (list_any is_victim) entries;
          had = had ∙ sym has_opened.had_none;
          rows_alone = subst (AllByRecursion IsOfRow) (sym nothing_own) tt;
        };
        goes_on =
            record {
              not_over = (let none_yet : of_turn s begun ≡ [] = rw mine refl in ap (list_any closes) none_yet);
              not_undone = ap (list_any undoes)
                  entries;
            };
        unchanged = nothing_own ∙ sym had;
        unrefused = unrefused;
      }

pub opened : (s n : ℕ) (l : Level) (statement : Stmt) (alone : Bool) (x : Setting) (old new : State) → IsWriting statement → IsTaken s statement old.past
    → IsUnrefused statement old.past → HasSet Spells s old.past x → IsClosed s old.past → own s old.past ≡ [] → x.autocommit ≡ alone
    → Adds (events.Begin s n l) s old new
    → Moves s old new × IsEarly s statement alone new.past × (started s new.past ≡ started s old.past)
opened s n l statement alone x old new writes taken unrefused held closed none is adds = (
  moves_adds s (events.Begin s n l) old new (grind (arith, nat_tests)) refl (λ changes. absurd (false≢true changes)) adds,
  subst (IsEarly s statement alone) (sym adds.past_is) (opened_early s n l statement old.past x writes taken unrefused held closed none alone is),
  ap (started s) adds.past_is,
)
