-- A statement that was refused or given up takes its changes back, and its own transaction with them.
use Rattle.std.proofs.Common.{◌≡◌, ℕ, ◌-◌, ◌<◌, ◌≤◌, true, false, eqb, Option, Some, None, List, [], ◌∷◌, ◌++◌, length, drop, zero, suc}
use Rattle.std.proofs.Common.{refl, sym, ap, subst, ◌∙◌, inl, inr, arith}
use Rattle.std.proofs.lemmas.Bool.Decides.{nat_tests}
use Rattle.std.proofs.lemmas.List.{length-append}
use Rattle.std.specs.Prelude.{◌&&◌, is_none}
use Rattle.std.specs.List.{AllByRecursion}
use Rattle.inno_types.specs.declared.stmt.Stmt.{Stmt}
use Rattle.inno_db.specs.declared.change.Change.{Change}
use Rattle.inno_model.specs.declared.event.Event.{Event}
use Rattle.inno_model.specs.declared.event.Event.TheVariants as events
use Rattle.inno_types.specs.Order.{IsBelow}
use Rattle.inno_model.specs.Past.{before_item, of_item, begins_txn, commits_txn, rolls_back_txn, level, own, oldest, started, awaits_ack}
use Rattle.sql_grammar.specs.Grammar.{Spells}
use Rattle.sql_history.specs.Items.{own_before}
use Rattle.sql_history.specs.Settings.{Setting}
use Rattle.sql_history.specs.Endings.{BacksOut, RollsBack}
use Rattle.sql_history.specs.Legal.{IsWriting, UndoesBy, MayUndo, RollsBackBy, MayRollBack, LeavesIt, MayLeaveOpen, IsWithin, is_alone}
use Rattle.sql_history.specs.Waiting.{is_victim}
use Rattle.law_past_agreement.specs.Order.{IsOfRow, IsUndoable}
use Rattle.shared_lists.specs.Answers.{Undone}
use Rattle.store_api.specs.declared.stepped.Stepped.TheVariants as stepped
use Rattle.shared_lists.specs.Tasks.{Task, Idle, MayTakeBack}
use Rattle.shared_lists.specs.State.{State, task_of}
use Rattle.shared_lists.specs.Steps.{TakesBack}
use Rattle.sql_lists.specs.Steps.{Steps}
use Rattle.sql_lists.specs.declared.advance.Advance.TheVariants as advance
use Rattle.giving_up.specs.Ends.{MayEndWith, IsClosing}
use Rattle.giving_up.specs.Leaving.{InTxn, IsBackingOut, MayGoBack, IsLeaving}
use Rattle.giving_up.specs.declared.leaving.Work.{Work}
use Rattle.giving_up.specs.declared.leaving.Leaving.TheVariants.{BackingOut}
use Rattle.giving_up.specs.Going.{to_leave}
use Rattle.giving_up.proofs.Writing.{of_writing, some_of}
use Rattle.sql_lists.proofs.Moving.{moves_takes_back, below_first, below_second, fewer_stand}
use Rattle.giving_up.proofs.Own.{acked_of, did_same, did_now, over_now, takes_on, reply_closed, working_own}
use Rattle.giving_up.proofs.MayReply.{no_rows, brings_none, backed_out, closing, may_end as end_with}

undoes_by : (s keep : ℕ) (setting : Setting) (past : List Event) → length (own_before s past) ≤ keep → (statement : Stmt) → IsWriting statement
    → UndoesBy s keep setting statement past
undoes_by s keep setting past le =
    of_writing (λ statement. UndoesBy s keep setting statement past) (λ table columns tuples. (refl, inl le)) (λ table sets condition. (refl, inl le))
    (λ table condition. (refl, inl le))

undoable_of : (changes : List Change) → AllByRecursion IsOfRow changes → 0 < length changes → IsUndoable (length changes - 1) changes
undoable_of [] all lt = absurd (omega (arith, lt))
undoable_of (change ∷ before) all lt = (all.0, omega arith)

-- the newest of its changes goes
one_dropped : (n : ℕ) (change : Change) (before : List Change) → n ≡ 1 → drop n (change ∷ before) ≡ before
one_dropped n change before one = subst (λ k. drop k (change ∷ before) ≡ before) (sym one) refl

newest_dropped : (change : Change) (before : List Change) → oldest (length (change ∷ before) - 1) (change ∷ before) ≡ before
newest_dropped change before = one_dropped (length (change ∷ before) - (length (change ∷ before) - 1)) change before (omega arith)

popped : (rest had : List Change) → length had < length (rest ++ had) → (later : List Change) × (oldest (length (rest ++ had) - 1) (rest ++ had) ≡ later ++ had)
popped [] had lt = absurd (omega (arith, lt))
popped (change ∷ rest) had lt = (rest, newest_dropped change (rest ++ had))

rows_after : (n : ℕ) (changes : List Change) → AllByRecursion IsOfRow changes → AllByRecursion IsOfRow (oldest n changes)
rows_after n changes all = dropped (length changes - n) changes all where
  dropped : (k : ℕ) (xs : List Change) → AllByRecursion IsOfRow xs → AllByRecursion IsOfRow (drop k xs)
  dropped zero xs rows = rows
  dropped (suc k) [] rows = tt
  dropped (suc k) (x ∷ xs) rows = dropped k xs rows.1

may_leave_open : (setting : Setting) → setting.autocommit ≡ false → (statement : Stmt) → IsWriting statement → MayLeaveOpen setting statement
may_leave_open setting off =
    of_writing (λ statement. MayLeaveOpen setting statement) (λ table columns tuples. off) (λ table sets condition. off) (λ table condition. off)

module _ (h : List Event) (writer : Option ℕ) (s : ℕ) (work : Work) (r : IsBackingOut h writer s work) where
  mine : eqb s s ≡ true
  mine = grind (arith, nat_tests)

  module _ (more : work.before < length (own s h)) where
    abbrev keep : ℕ
    keep = length (own s h) - 1

    abbrev after : List Event
    after = events.Undone s keep ∷ h

    had_fewer : length (own_before s h) < length (own s h)
    had_fewer = omega (arith, more, r.before_is)

    pub undoable : IsUndoable keep (own s h)
    undoable = undoable_of (own s h) r.working.rows_alone (omega (arith, had_fewer))

    pub may_undo : MayUndo Spells s keep h
    may_undo =
        record {
          is_open = r.working.is_open;
          one = omega (arith, had_fewer);
          by = inr (r.statement, r.working.takes, undoes_by s keep r.working.takes.setting h (omega (arith, had_fewer)) r.statement r.working.writes);
        }

    own_now : own s after ≡ oldest keep (own s h)
    own_now = rw mine refl

    left_over : (later : List Change) × (oldest keep (own s h) ≡ later ++ own_before s h)
    left_over =
        subst (λ (changes : List Change). (later : List Change) × (oldest (length changes - 1) changes ≡ later ++ own_before s h)) (sym r.own_is)
        (popped r.rest (own_before s h) (subst (λ (changes : List Change). length (own_before s h) < length changes) r.own_is had_fewer))

    pub backing_then : IsBackingOut after writer s work
    backing_then =
        record {
          statement = r.statement;
          working =
              working_own (events.Undone s keep) h s mine refl refl refl refl refl refl
              (subst (AllByRecursion IsOfRow) (sym own_now) (rows_after keep (own s h) r.working.rows_alone)) r.statement work.alone r.working;
          before_is = r.before_is;
          same = r.same;
          backs = r.backs;
          reply = reply_closed (events.Undone s keep) h s mine refl refl refl r.statement work.kept r.reply;
          moves = inl (over_now (events.Undone s keep) h s mine refl refl refl);
          rest = left_over.0;
          own_is = own_now ∙ left_over.1;
        }

  none_left : (rest had : List Change) → length (rest ++ had) ≤ length had → rest ++ had ≡ had
  none_left [] had le = refl
  none_left (change ∷ rest) had le = absurd (omega (arith, le, length-append rest had))

  pub all_back : length (own s h) ≤ work.before → own s h ≡ own_before s h
  all_back le =
      let few : length (r.rest ++ own_before s h) ≤ length (own_before s h) = omega (arith, le, r.before_is, ap length r.own_is) in
      r.own_is ∙ none_left r.rest (own_before s h) few

  -- ---- none of its changes stands

  module _ (undone-all : own s h ≡ own_before s h) where
    own_was : own s h ≡ own s (before_item s h)
    own_was = undone-all ∙ r.working.had

    -- of a transaction of its own
    module _ (its-own : work.alone ≡ true) where
      abbrev gone : List Event
      gone = events.RolledBack s ∷ h

      txn : InTxn true r.working.takes.setting s h
      txn = subst (λ alone. InTxn alone r.working.takes.setting s h) its-own r.working.in_txn

      own_none : own s h ≡ []
      own_none = own_was ∙ txn.0.had_none

      alone_now : is_alone s r.working.takes.setting h ≡ true
      alone_now = ap (λ b. b && is_none (level s (before_item s h))) txn.1 ∙ ap is_none txn.0.was_closed

      rolls_back_by : RollsBackBy s r.working.takes.setting r.statement h
      rolls_back_by =
          of_writing (λ statement. is_alone s r.working.takes.setting h ≡ true → RollsBackBy s r.working.takes.setting statement h)
          (λ table columns tuples alone. (refl, inr alone)) (λ table sets condition alone. (refl, inr alone))
          (λ table condition alone. (refl, inr alone)) r.statement r.working.writes alone_now

      pub may_roll_back : MayRollBack Spells s h
      may_roll_back = record { is_open = r.working.is_open; all_undone = own_none; by = inr (r.statement, r.working.takes, rolls_back_by) }

      rolled_back : RollsBack s gone
      rolled_back =
          record {
            closed = rw mine refl;
            rolled_back = did_now (events.RolledBack s) h s mine refl refl rolls_back_txn refl;
            not_committed = did_same (events.RolledBack s) h s mine refl refl commits_txn refl ∙ r.working.not_committed;
          }

      backs : BacksOut (level s (before_item s gone)) r.working.takes.setting.autocommit s gone
      backs =
          let here : BacksOut None true s gone = (did_same (events.RolledBack s) h s mine refl refl begins_txn refl ∙ txn.0.begun, rolled_back) in
          subst (λ l. BacksOut l r.working.takes.setting.autocommit s gone) (sym txn.0.was_closed)
          (subst (λ autocommit. BacksOut None autocommit s gone) (sym txn.1) here)

      pub closing_then : IsClosing s work.kept work.given gone
      closing_then =
          let e = events.RolledBack s in
          let takes = takes_on e h s refl r.statement r.working.takes in
          let no-victim = did_same e h s mine refl refl is_victim refl ∙ r.working.no_victim in
          let reply = reply_closed e h s mine refl refl refl r.statement work.kept r.reply in
          let none : own s gone ≡ [] = rw mine refl in
          closing s r.statement gone takes r.working.writes no-victim work.kept work.given r.same reply
          (backed_out s r.statement gone takes r.working.writes no-victim work.kept r.backs reply backs (inl rolled_back))
          (subst (AllByRecursion IsOfRow) (sym none) tt) (over_now e h s mine refl refl refl)

    -- of one that stays open
    module _ (not-own : work.alone ≡ false) where
      txn_open : InTxn false r.working.takes.setting s h
      txn_open = subst (λ alone. InTxn alone r.working.takes.setting s h) not-own r.working.in_txn

      backs_open : BacksOut (level s (before_item s h)) r.working.takes.setting.autocommit s h
      backs_open = elim txn_open [
        | inl joins ↦
            let l = some_of (level s (before_item s h)) joins.was_open in
            let here : BacksOut (Some l.0) r.working.takes.setting.autocommit s h = (
              record {
                stays = joins.stays;
                not_begun = joins.not_begun;
                not_committed = r.working.not_committed;
                not_rolled_back =
                    r.working.not_rolled_back;
              },
              own_was,
            ) in
            subst (λ o. BacksOut o r.working.takes.setting.autocommit s h) (sym l.1) here
        | inr opened ↦
            let here : BacksOut None false s h = (
              record { is_open = r.working.is_open; begun = opened.0.begun; not_rolled_back = r.working.not_rolled_back },
              r.working.not_committed,
              own_was ∙ opened.0.had_none,
            ) in
            subst (λ o. BacksOut o r.working.takes.setting.autocommit s h) (sym opened.0.was_closed)
            (subst (λ autocommit. BacksOut None autocommit s h) (sym opened.1) here)
      ]

      leaves : LeavesIt Spells s h
      leaves =
          record {
            own_stay = own_was;
            not_committed = r.working.not_committed;
            not_rolled_back = r.working.not_rolled_back;
            no_victim = r.working.no_victim;
            begun = elim txn_open [
              | inl joins ↦ inl joins.not_begun
              | inr opened ↦ inr (r.statement, r.working.takes, may_leave_open r.working.takes.setting opened.1 r.statement r.working.writes)
            ];
          }

      pub may_end : MayEndWith s work.kept work.given h
      may_end =
          end_with s r.statement h r.working.takes r.working.writes r.working.no_victim work.kept work.given r.same r.reply
          (backed_out s r.statement h r.working.takes r.working.writes r.working.no_victim work.kept r.backs r.reply backs_open (inr leaves))
          r.working.rows_alone

      pub acks_none : awaits_ack (of_item s h) ≡ false
      acks_none = acked_of (of_item s h) r.working.not_committed

      pub fits : IsWithin work.kept h
      fits = brings_none work.kept h (no_rows s r.statement h work.kept r.reply)

-- ---- the steps of taking back

-- what is under way may be taken back
pub may_take_back : (before s : ℕ) (past : List Event) (task : Task) → MayGoBack before s past task → MayTakeBack task
may_take_back before s past task back = elim back [ inl idle ↦ subst MayTakeBack (sym idle) tt | inr under ↦ under.0 ]

-- once none stands that is to be taken back, nothing is under way
pub rests : (before s : ℕ) (past : List Event) (task : Task) → length (own s past) ≤ before → MayGoBack before s past task → task ≡ Idle
rests before s past task few back = elim back [ inl idle ↦ idle | inr under ↦ absurd (omega (arith, few, under.1)) ]

module _ (old new : State) (s : ℕ) (work : Work) (r : IsBackingOut old.past old.writer s work) (back : MayGoBack work.before s old.past (task_of s old))
    (more : work.before < length (own s old.past)) where
  -- it is taken back
  abbrev Backs : Type 0
  Backs = IsBackingOut new.past new.writer s work × MayGoBack work.before s new.past (task_of s new)

  unchanged : new.past ≡ old.past → new.writer ≡ old.writer → MayGoBack work.before s old.past (task_of s new) → Backs
  unchanged same-past same-writer goes =
      subst (λ h. IsBackingOut h new.writer s work × MayGoBack work.before s h (task_of s new)) (sym same-past)
      (subst (λ w. IsBackingOut old.past w s work) (sym same-writer) r, goes)

  pub backs_on : (answer : Undone) → TakesBack s (length (own s old.past) - 1) old new answer → Backs
  backs_on stepped.Went takes = unchanged takes.0.past_is takes.0.writer_is (inr (subst MayTakeBack (sym takes.1.1) tt, more))
  backs_on (stepped.Hindered never) takes = absurd takes
  backs_on (stepped.Done over) takes = (
    subst (λ h. IsBackingOut h new.writer s work) (sym takes.past_is)
        (subst (λ w. IsBackingOut (events.Undone s (length (own s old.past) - 1) ∷ old.past) w s work) (sym takes.writer_is)
        (backing_then old.past old.writer s work r more)),
    inl takes.task_is,
  )

  pub went_back : (answer : Undone) → TakesBack s (length (own s old.past) - 1) old new answer
      → Steps IsLeaving s old new (BackingOut work) advance.Went
  went_back answer takes =
      (moves_takes_back s (length (own s old.past) - 1) old new answer takes, backs_on answer takes, starts_no_item answer takes) where
        starts_no_item : (answer : Undone) → TakesBack s (length (own s old.past) - 1) old new answer → started s new.past ≡ started s old.past
        starts_no_item stepped.Went takes = ap (started s) takes.0.past_is
        starts_no_item (stepped.Hindered never) takes = absurd takes
        starts_no_item (stepped.Done over) takes = ap (started s) takes.past_is

  pub nearer : (answer : Undone) → TakesBack s (length (own s old.past) - 1) old new answer
      → IsBelow (to_leave s new (BackingOut work)) (to_leave s old (BackingOut work))
  nearer stepped.Went takes = below_second 3 _ _ _ _ _ _ (ap (λ h. length (own s h)) takes.0.past_is) takes.2
  nearer (stepped.Hindered never) takes = absurd takes
  nearer (stepped.Done over) takes =
      below_first 3 _ _ _ _ _ _ (subst (λ (h : List Event). length (own s h) < length (own s old.past)) (sym takes.past_is)
      (fewer_stand s old.past (omega (arith, more))))
