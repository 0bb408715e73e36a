-- Each step as a whole, by what it does to the lists.
use Rattle.std.proofs.Common.{◌≡◌, ℕ, ◌+◌, ◌<◌, ◌≤◌, Bool, true, false, Some, None, List, [], ◌∷◌, refl, sym, ap, subst, ◌∙◌, inl, inr, arith, length}
use Rattle.std.proofs.lemmas.Bool.Decides.{nat_tests}
use Rattle.std.proofs.lemmas.Bool.{false≢true}
use Rattle.std.specs.Prelude.{◌-◌}
use Rattle.std.specs.List.{list_any}
use Rattle.inno_types.specs.declared.lock.Level.{Level}
use Rattle.inno_types.specs.declared.lock.Level.TheVariants.{ReadUncommitted, ReadCommitted, RepeatableRead, Serializable}
use Rattle.inno_types.specs.declared.reply.Reply.{Reply}
use Rattle.inno_types.specs.declared.stmt.Stmt.TheVariants as stmt
use Rattle.inno_model.specs.declared.event.Event.{Event}
use Rattle.inno_model.specs.declared.event.Event.TheVariants as events
use Rattle.inno_model.specs.Past.{is_of, started, did, begins_txn, commits_txn, rolls_back_txn, level, own, begins, awaits_ack, IsOpen}
use Rattle.sql_grammar.specs.Grammar.{Spells}
use Rattle.sql_history.specs.Items.{own_before}
use Rattle.sql_history.specs.Settings.{made_at}
use Rattle.sql_history.specs.Legal.{MayBegin, MayView, MayUndo, MayRollBack}
use Rattle.shared_lists.specs.Answers.{Undone}
use Rattle.store_api.specs.declared.stepped.Stepped.TheVariants as stepped
use Rattle.shared_lists.specs.Tasks.{Task, Idle, Searching, Changing, Lagging, Undoing, MayTakeBack, undo_to_go}
use Rattle.shared_lists.specs.State.{State, task_of, Adds, Closes, Stays}
use Rattle.shared_lists.specs.Steps.{TakesBack}
use Rattle.sql_lists.specs.Steps.{Steps, changes_rows, HasRowsAlone, is_apart}
use Rattle.sql_lists.specs.Going.{Nears}
use Rattle.sql_lists.specs.declared.advance.Advance.TheVariants as advance
use Rattle.transaction_statements.specs.declared.statement.TransactionStatement.{TransactionStatement}
use Rattle.transaction_statements.specs.declared.statement.TransactionStatement.TheVariants as statements
use Rattle.transaction_statements.specs.declared.committer.Committer.{Committer}
use Rattle.transaction_statements.specs.declared.committer.Committer.TheVariants as committers
use Rattle.transaction_statements.specs.Committing.{stmt_of, Fits}
use Rattle.transaction_statements.specs.Knowing.{IsAt, HasOpened}
use Rattle.transaction_statements.specs.Running.{RunsBy, TakesBackTo, HasTask, IsRunning, Nothing, begun_at, owes_ack, acked}
use Rattle.transaction_statements.specs.Going.{to_go}
use Rattle.sql_lists.proofs.Moving.{moves_none, moves_stays, moves_adds, moves_closes, moves_takes_back, below_phase, below_second, below_third, fewer_stand}
use Rattle.sql_lists.proofs.Moving.{takes_back_nears}
use Rattle.giving_up.specs.Machines.{MovesOnAcked}
use Rattle.giving_up.proofs.Own.{point_same}
use Rattle.giving_up.proofs.Ends.{spares_ack, emptied_on}
use Rattle.giving_up.proofs.Nothing.{own_nothing, level_nothing}
use Rattle.transaction_statements.proofs.Staying.{at_spared}
use Rattle.transaction_statements.proofs.Ending.{fails_begin, fails_still, fails_saving}
use Rattle.transaction_statements.proofs.Stepping.{emptied_closed, emptied_committed, at_committed, opened_begun, at_begun, knows_less}
use Rattle.transaction_statements.proofs.Stepping.{opened_viewed, at_viewed, at_undone, back_undone, at_rolled}

-- ---- by the answer

-- the past and the task are these now
runs_now : (s : ℕ) (past : List Event) (task : Task) (new : State) (m : TransactionStatement) → new.past ≡ past → task_of s new ≡ task → RunsBy past s m
    → HasTask m (length (own s past)) task → IsRunning new s m
runs_now s past task new m past-is task-is runs has =
    subst (λ h. RunsBy h s m × HasTask m (length (own s h)) (task_of s new)) (sym past-is) (runs, subst (HasTask m (length (own s past))) (sym task-is) has)

adds_one : (s : ℕ) (e : Event) (old new : State) (m : TransactionStatement) → is_of s e ≡ true → is_apart e ≡ false
    → changes_rows e ≡ false
    → started s (e ∷ old.past) ≡ started s old.past → Adds e s old new → RunsBy (e ∷ old.past) s m → HasTask m (length (own s (e ∷ old.past)))
    (task_of s old) → Steps IsRunning s old new m advance.Went
adds_one s e old new m mine unacked spares same adds runs has = (
  moves_adds s e old new mine unacked (λ changes. absurd (false≢true (sym spares ∙ changes))) adds,
  runs_now s (e ∷ old.past) (task_of s old) new m adds.past_is adds.task_is runs has,
  ap (started s) adds.past_is ∙ same,
)

closes_one : (s : ℕ) (e : Event) (old new : State) (m : TransactionStatement) → is_of s e ≡ true → is_apart e ≡ false
    → changes_rows e ≡ false
    → started s (e ∷ old.past) ≡ started s old.past → Closes e s old new → RunsBy (e ∷ old.past) s m → HasTask m (length (own s (e ∷ old.past)))
    (task_of s old) → Steps IsRunning s old new m advance.Went
closes_one s e old new m mine unacked spares same closes runs has = (
  moves_closes s e old new mine unacked spares closes,
  runs_now s (e ∷ old.past) (task_of s old) new m closes.past_is closes.task_is runs has,
  ap (started s) closes.past_is ∙ same,
)

pub lacks_memory : (s : ℕ) (old new : State) (m : TransactionStatement) → Stays s old new → RunsBy old.past s m
    → HasTask m (length (own s old.past)) (task_of s old) → Steps IsRunning s old new m advance.NoMemory
lacks_memory s old new m stays runs has =
    (moves_stays s old new stays, runs_now s old.past (task_of s old) new m stays.past_is stays.task_is runs has, stays.past_is)

pub ends : (s : ℕ) (old new : State) (m : TransactionStatement) (reply : Reply) → Adds (events.Ended s (started s old.past) reply) s old new
    → HasRowsAlone s old.past → task_of s old ≡ Idle → Steps IsRunning s old new m (advance.Done reply)
ends s old new m reply adds rows idle = (
  moves_adds s (events.Ended s (started s old.past) reply) old new (grind (arith, nat_tests)) refl (λ changes. absurd (false≢true changes)) adds,
  adds.past_is,
  rows,
  adds.task_is ∙ idle,
)

-- ---- commits

pub skips_commit : (s : ℕ) (old : State) (c : Committer) → IsRunning old s (statements.Committing c) → level s old.past ≡ None → own s old.past ≡ []
    → Steps IsRunning s old old (statements.Closed c) advance.Went
skips_commit s old c r closed new = (moves_none s old, ((r.0.0, emptied_closed s old.past r.0.1 closed new, ap awaits_ack r.0.1), r.1), refl)

pub commits : (s : ℕ) (old new : State) (c : Committer) → IsRunning old s (statements.Committing c) → Closes (events.Committed s) s old new
    → Steps IsRunning s old new (statements.Unacked c) advance.Went
commits s old new c r closes =
    let empty = emptied_committed s old.past r.0.1 in
    closes_one s (events.Committed s) old new (statements.Unacked c) (grind (arith, nat_tests)) refl refl refl closes
    (at_committed s old.past (stmt_of c) (Fits c) r.0.0, empty.0, empty.1) r.1

pub moves_on_acked : MovesOnAcked IsRunning to_go owes_ack acked
moves_on_acked (statements.Unacked c) owes =
    record {
      owed = λ state s r. record { owed = r.0.2; closed = r.0.1.closed };
      runs = λ old new s moment r adds.
          let e = events.Acked s moment in
          let spared = spares_ack s moment old.past in
          runs_now s (e ∷ old.past) (task_of s old) new (statements.Closed c) adds.past_is adds.task_is
          (at_spared e old.past s spared (stmt_of c) (Fits c) r.0.0, emptied_on e old.past s spared r.0.1, grind (arith, nat_tests)) r.1;
      nears = λ old new s. below_phase 4 3 _ _ _ _ _ _ (omega arith);
    }
moves_on_acked m owes = absurd (false≢true owes)

-- ---- BEGIN

pub may_begin : (s : ℕ) (past : List Event) (snapshot : Bool) (l : Level) → RunsBy past s (statements.Closed (committers.Begin snapshot l))
    → MayBegin Spells s (begins past + 1) l past
may_begin s past snapshot l r =
    record {
      numbered = refl;
      closed = r.1.closed;
      first = r.1.not_begun;
      acked = r.2;
      statement = stmt.Begin snapshot;
      takes = r.0.takes;
      level_is = r.0.knows;
      by = tt;
    }

module _ (s : ℕ) (old new : State) (snapshot : Bool) (l : Level) (r : IsRunning old s (statements.Closed (committers.Begin snapshot l))) where
  pub lacks_begin : Stays s old new → Steps IsRunning s old new statements.Failed advance.NoMemory
  lacks_begin stays = lacks_memory s old new statements.Failed stays
      (fails_begin s old.past snapshot _ r.0.0 r.0.1.closed r.0.1.made (inl r.0.1.not_begun) r.0.2) r.1

  module _ (adds : Adds (events.Begin s (begins old.past + 1) l) s old new) where
    at : IsAt s (stmt.Begin snapshot) Nothing (events.Begin s (begins old.past + 1) l ∷ old.past)
    at = at_begun s old.past (begins old.past + 1) l (stmt.Begin snapshot) Nothing (knows_less s old.past (stmt.Begin snapshot) _ r.0.0)

    opened : HasOpened s (events.Begin s (begins old.past + 1) l ∷ old.past)
    opened = opened_begun s old.past (begins old.past + 1) l r.0.1.not_rolled_back

    now_level : level s (events.Begin s (begins old.past + 1) l ∷ old.past) ≡ Some l
    now_level = grind (arith, nat_tests)

    pub begins_viewing : snapshot ≡ true → l ≡ RepeatableRead → Steps IsRunning s old new statements.Viewing advance.Went
    begins_viewing is level-is =
        adds_one s (events.Begin s (begins old.past + 1) l) old new statements.Viewing (grind (arith, nat_tests)) refl refl refl adds (
          subst (λ b. IsAt s (stmt.Begin b) Nothing (events.Begin s (begins old.past + 1) l ∷ old.past)) is at,
          opened,
          now_level ∙ ap Some level-is,
          grind
              (arith, nat_tests),
        ) r.1

    pub begins_plainly : (snapshot ≡ true → l ≡ RepeatableRead → ⊥) → Steps IsRunning s old new (statements.Begun snapshot) advance.Went
    begins_plainly differs =
        adds_one s (events.Begin s (begins old.past + 1) l) old new (statements.Begun snapshot) (grind (arith, nat_tests)) refl refl refl adds
        (at, opened, λ is level-is. absurd (differs is (let x : Some l ≡ Some RepeatableRead = sym now_level ∙ level-is in cc))) r.1

    pub begins_its_own : Steps IsRunning s old new (begun_at snapshot l) advance.Went
    begins_its_own = cases snapshot l refl refl where
      cases : (b : Bool) (m : Level) → snapshot ≡ b → l ≡ m → Steps IsRunning s old new (begun_at b m) advance.Went
      cases true RepeatableRead is level-is = begins_viewing is level-is
      cases true ReadUncommitted is level-is =
          subst (λ b. Steps IsRunning s old new (statements.Begun b) advance.Went) is (begins_plainly (λ on now. (let x = sym level-is ∙ now in cc)))
      cases true ReadCommitted is level-is =
          subst (λ b. Steps IsRunning s old new (statements.Begun b) advance.Went) is (begins_plainly (λ on now. (let x = sym level-is ∙ now in cc)))
      cases true Serializable is level-is =
          subst (λ b. Steps IsRunning s old new (statements.Begun b) advance.Went) is (begins_plainly (λ on now. (let x = sym level-is ∙ now in cc)))
      cases false m is level-is =
          subst (λ b. Steps IsRunning s old new (statements.Begun b) advance.Went) is (begins_plainly (λ on now. absurd (false≢true (sym is ∙ on))))

pub may_view : (s : ℕ) (past : List Event) → RunsBy past s statements.Viewing → MayView Spells s past
may_view s past r = record { statement = stmt.Begin true; takes = r.0.takes; l = RepeatableRead; level_is = r.2; by = (refl, r.1.begun, r.3) }

pub views : (s : ℕ) (old new : State) → IsRunning old s statements.Viewing → Adds (events.View s) s old new
    → Steps IsRunning s old new (statements.Begun true) advance.Went
views s old new r adds =
    adds_one s (events.View s) old new (statements.Begun true) (grind (arith, nat_tests)) refl refl refl adds
    (at_viewed s old.past (stmt.Begin true) Nothing r.0.0, opened_viewed s old.past r.0.1, λ is level-is. grind (arith, nat_tests)) r.1

pub lacks_view : (s : ℕ) (old new : State) → IsRunning old s statements.Viewing → Stays s old new
    → Steps IsRunning s old new statements.Unviewed advance.NoMemory
lacks_view s old new r stays = lacks_memory s old new statements.Unviewed stays (r.0.0, r.0.1) r.1

pub may_unbegin : (s : ℕ) (past : List Event) → RunsBy past s statements.Unviewed → MayRollBack Spells s past
may_unbegin s past r = record { is_open = r.1.is_open; all_undone = r.1.new; by = inr (stmt.Begin true, r.0.takes, r.1.begun) }

pub unbegins : (s : ℕ) (old new : State) → IsRunning old s statements.Unviewed → Closes (events.RolledBack s) s old new
    → Steps IsRunning s old new statements.Failed advance.Went
unbegins s old new r closes =
    closes_one s (events.RolledBack s) old new statements.Failed (grind (arith, nat_tests)) refl refl refl closes
    (fails_begin s (events.RolledBack s ∷ old.past) true Nothing (at_rolled s old.past (stmt.Begin true) Nothing r.0.0) (grind (arith, nat_tests))
    (subst (λ p. own s p ≡ own_before s p) (sym (point_same (events.RolledBack s) old.past s (grind (arith, nat_tests)) refl refl refl)) r.0.1.made)
    (inr (grind (arith, nat_tests))) (grind (arith, nat_tests))) r.1

-- ---- rollbacks

one_more : (n : ℕ) → 0 < n → n ≡ n - 1 + 1
one_more n some = omega (arith, some)

-- what is under way may be taken back
pub may_take_back : (keep stand : ℕ) (task : Task) → TakesBackTo keep stand task → MayTakeBack task
may_take_back keep stand Idle takes = tt
may_take_back keep stand (Undoing left) takes = tt
may_take_back keep stand Lagging takes = absurd takes
may_take_back keep stand (Searching table plan reading) takes = absurd takes
may_take_back keep stand (Changing change left) takes = absurd takes

pub takes_none : (keep stand : ℕ) (task : Task) → task ≡ Idle → TakesBackTo keep stand task
takes_none keep stand task idle = subst (TakesBackTo keep stand) (sym idle) tt

-- and where no more stand than are to be kept, nothing is
pub rests : (keep stand : ℕ) (task : Task) → TakesBackTo keep stand task → stand ≤ keep → task ≡ Idle
rests keep stand Idle takes few = refl
rests keep stand (Undoing left) takes few = absurd (omega (arith, takes, few))
rests keep stand Lagging takes few = absurd takes
rests keep stand (Searching table plan reading) takes few = absurd takes
rests keep stand (Changing change left) takes few = absurd takes

-- a step by which the newest change is taken back, where more stand than are to be kept
module _ (s keep : ℕ) (old new : State) (m : TransactionStatement) (has : (stand : ℕ) (task : Task) → TakesBackTo keep stand task → HasTask m stand task)
    (more : keep < length (own s old.past)) (r : IsRunning old s m) (after : RunsBy (events.Undone s (length (own s old.past) - 1) ∷ old.past) s m) where
  undoes : (answer : Undone) → TakesBack s (length (own s old.past) - 1) old new answer → Steps IsRunning s old new m advance.Went
  undoes stepped.Went takes = (
    moves_takes_back s (length (own s old.past) - 1) old new stepped.Went takes,
    runs_now s old.past (task_of s new) new m takes.0.past_is refl r.0
        (has (length (own s old.past)) (task_of s new) (subst (TakesBackTo keep (length (own s old.past))) (sym takes.1.1) more)),
    ap (started s) takes.0.past_is,
  )
  undoes (stepped.Hindered never) takes = absurd takes
  undoes (stepped.Done over) takes = (
    moves_takes_back s (length (own s old.past) - 1) old new (stepped.Done over) takes,
    runs_now s (events.Undone s (length (own s old.past) - 1) ∷ old.past) Idle new m takes.past_is takes.task_is after (has _ Idle tt),
    ap (started s) takes.past_is,
  )

pub may_undo_rollback : (s : ℕ) (past : List Event) → RunsBy past s statements.Rollback → IsOpen s past → 0 < length (own s past)
    → MayUndo Spells s (length (own s past) - 1) past
may_undo_rollback s past r is-open some = record { is_open = is-open; one = one_more (length (own s past)) some; by = inr (stmt.Rollback, r.0.takes, tt) }

module _ (s : ℕ) (old new : State) (answer : Undone) (takes : TakesBack s (length (own s old.past) - 1) old new answer) where
  pub undoes_rollback : IsRunning old s statements.Rollback → 0 < length (own s old.past) → Steps IsRunning s old new statements.Rollback advance.Went
  undoes_rollback r some =
      undoes s 0 old new statements.Rollback (λ stand task has. has) some r
      (at_undone s old.past stmt.Rollback Nothing r.0.0, grind (arith, nat_tests, r.0.1), grind (arith, nat_tests)) answer takes

  pub undoes_to : (name : List ℕ) (made : ℕ) → IsRunning old s (statements.RollbackTo name made) → made < length (own s old.past)
      → Steps IsRunning s old new (statements.RollbackTo name made) advance.Went
  undoes_to name made r more =
      undoes s made old new (statements.RollbackTo name made) (λ stand task has. has) more r
      (at_undone s old.past (stmt.RollbackTo name) (λ setting. made_at name setting.saves ≡ Some made) r.0.0, back_undone s old.past made more r.0.1) answer
      takes

-- it does work
pub nears_rollback : (s : ℕ) (old new : State) (answer : Undone) → 0 < length (own s old.past) → TakesBack s (length (own s old.past) - 1) old new answer
    → Nears to_go s old statements.Rollback new statements.Rollback advance.Went
nears_rollback s old new answer some takes = takes_back_nears s old new answer some takes

pub nears_to : (s : ℕ) (old new : State) (name : List ℕ) (made : ℕ) (answer : Undone) → 0 < length (own s old.past)
    → TakesBack s (length (own s old.past) - 1) old new answer
    → Nears to_go s old (statements.RollbackTo name made) new (statements.RollbackTo name made) advance.Went
nears_to s old new name made stepped.Went some takes =
    below_third 1 0 (length (own s old.past)) (undo_to_go (task_of s old)) 0 (length (own s new.past)) (undo_to_go (task_of s new)) refl
    (ap (λ h. length (own s h)) takes.0.past_is) takes.2
nears_to s old new name made (stepped.Hindered never) some takes = absurd takes
nears_to s old new name made (stepped.Done over) some takes =
    below_second 1 0 (length (own s old.past)) (undo_to_go (task_of s old)) 0 (length (own s new.past)) (undo_to_go (task_of s new)) refl
    (subst (λ (h : List Event). length (own s h) < length (own s old.past)) (sym takes.past_is) (fewer_stand s old.past some))

pub may_roll_back : (s : ℕ) (past : List Event) → RunsBy past s statements.Rollback → IsOpen s past → own s past ≡ [] → MayRollBack Spells s past
may_roll_back s past r is-open none = record { is_open = is-open; all_undone = none; by = inr (stmt.Rollback, r.0.takes, tt) }

-- nothing is under way once no change stands
pub rests_rollback : (s : ℕ) (state : State) → IsRunning state s statements.Rollback → own s state.past ≡ [] → task_of s state ≡ Idle
rests_rollback s state r none = rests 0 (length (own s state.past)) (task_of s state) r.1 (subst (λ n. n ≤ 0) (sym (ap length none)) (omega arith))

pub rolls_back : (s : ℕ) (old new : State) → IsRunning old s statements.Rollback → own s old.past ≡ [] → Closes (events.RolledBack s) s old new
    → Steps IsRunning s old new statements.Rollback advance.Went
rolls_back s old new r none closes =
    let idle : task_of s old ≡ Idle = rests_rollback s old r none in
    closes_one s (events.RolledBack s) old new statements.Rollback (grind (arith, nat_tests)) refl refl refl closes
    (at_rolled s old.past stmt.Rollback Nothing r.0.0, grind (arith, nat_tests, r.0.1), grind (arith, nat_tests))
    (takes_none 0 (length (own s (events.RolledBack s ∷ old.past))) (task_of s old) idle)

pub may_undo_to : (s : ℕ) (past : List Event) (name : List ℕ) (made : ℕ) → RunsBy past s (statements.RollbackTo name made) → IsOpen s past
    → made < length (own s past) → MayUndo Spells s (length (own s past) - 1) past
may_undo_to s past name made r is-open more =
    record {
      is_open = is-open;
      one = one_more (length (own s past)) (omega (arith, more));
      by = inr (stmt.RollbackTo name, r.0.takes, (made, r.0.knows, omega (arith, more)));
    }

-- ---- savepoints

pub may_open : (s : ℕ) (past : List Event) (name : List ℕ) (l : Level) → RunsBy past s (statements.Opening name l) → MayBegin Spells s (begins past + 1) l past
may_open s past name l r =
    record {
      numbered = refl;
      closed = r.2;
      first = ap (list_any begins_txn) r.1;
      acked = ap awaits_ack r.1;
      statement = stmt.Savepoint name;
      takes = r.0.takes;
      level_is = r.0.knows.1;
      by = r.0.knows.0;
    }

module _ (s : ℕ) (old new : State) (name : List ℕ) (l : Level) (r : IsRunning old s (statements.Opening name l)) where
  pub opens_first : Adds (events.Begin s (begins old.past + 1) l) s old new → Steps IsRunning s old new (statements.Saving name true) advance.Went
  opens_first adds =
      let n = begins old.past + 1 in
      let at : IsAt s (stmt.Savepoint name) (λ setting. true ≡ true → setting.autocommit ≡ false) old.past =
      record { takes = r.0.0.takes; knows = λ is. r.0.0.knows.0; rows_alone = r.0.0.rows_alone; no_victim = r.0.0.no_victim } in
      let kept : did rolls_back_txn s old.past ≡ false = ap (list_any rolls_back_txn) r.0.1 in
      let none : did commits_txn s old.past ≡ false = ap (list_any commits_txn) r.0.1 in
      adds_one s (events.Begin s n l) old new (statements.Saving name true) (grind (arith, nat_tests)) refl refl refl adds (
        at_begun s old.past n l (stmt.Savepoint name) _ at,
        (
          opened_begun s old.past n l kept,
          sym (level_nothing s old.past r.0.1) ∙ r.0.2,
          sym (own_nothing s old.past r.0.1) ∙ r.0.3,
          grind (arith, nat_tests, none),
        ),
      ) r.1

  pub lacks_opening : Stays s old new → Steps IsRunning s old new statements.Failed advance.NoMemory
  lacks_opening stays = lacks_memory s old new statements.Failed stays (fails_still s old.past (stmt.Savepoint name) _ r.0.0 r.0.1) r.1

pub lacks_saving : (s : ℕ) (old new : State) (name : List ℕ) (opened : Bool) → IsRunning old s (statements.Saving name opened) → Stays s old new
    → Steps IsRunning s old new statements.Failed advance.NoMemory
lacks_saving s old new name opened r stays = lacks_memory s old new statements.Failed stays (fails_saving s old.past name opened r.0.0 r.0.1) r.1
