-- A statement that is answered by a count ends, or commits its own transaction first.
use Rattle.std.proofs.Common.{◌≡◌, ℕ, ◌-◌, ◌≤◌, Bool, true, false, eqb, Some, None, List, [], ◌∷◌, ◌++◌, length, reverse, refl, sym, ap, subst, ◌∙◌, inl, inr}
use Rattle.std.proofs.Common.{arith, Option}
use Rattle.std.proofs.lemmas.Bool.Decides.{nat_tests}
use Rattle.std.proofs.lemmas.Bool.{false≢true}
use Rattle.std.proofs.lemmas.List.{length-append, length-reverse, take_all}
use Rattle.std.specs.Prelude.{is_some, ◌&&◌, is_none}
use Rattle.std.specs.List.{AllByRecursion}
use Rattle.inno_types.specs.declared.reply.SqlError.{SqlError}
use Rattle.inno_types.specs.declared.reply.Reply.{Reply}
use Rattle.inno_types.specs.declared.reply.Reply.TheVariants as replies
use Rattle.inno_db.specs.declared.change.Change.{Change}
use Rattle.inno_db.specs.Outcome.{outcome}
use Rattle.inno_model.specs.declared.event.Event.{Event}
use Rattle.inno_model.specs.declared.event.Event.TheVariants as events
use Rattle.inno_model.specs.Past.{before_item, of_item, begins_txn, commits_txn, rolls_back_txn, level, own, awaits_ack}
use Rattle.sql_grammar.specs.Grammar.{Spells}
use Rattle.sql_history.specs.Items.{own_before, base, point, HasMade, undoes}
use Rattle.sql_history.specs.Answers.{MakesFor}
use Rattle.sql_history.specs.Endings.{Commits, Goes}
use Rattle.sql_history.specs.Legal.{IsSettled, CommitsBy, MayCommit, is_alone}
use Rattle.sql_history.specs.Waiting.{is_victim}
use Rattle.law_past_agreement.specs.Order.{IsOfRow}
use Rattle.sql_lists.proofs.Staying.{point_now}
use Rattle.write_statement.specs.declared.machine.WriteStatement.TheVariants as machine
use Rattle.write_statement.specs.Going.{to_go}
use Rattle.giving_up.specs.Replies.{HasReply}
use Rattle.giving_up.specs.Ends.{MayEndWith, IsClosing}
use Rattle.giving_up.specs.Leaving.{InTxn}
use Rattle.giving_up.specs.Machines.{MovesOnAcked}
use Rattle.write_statement.specs.Running.{IsMade, IsRunning, owes_ack, acked}
use Rattle.giving_up.proofs.Writing.{of_writing, some_of, sees_base}
use Rattle.giving_up.proofs.Own.{acked_of, did_same, did_now, over_now, takes_on, reply_closed}
use Rattle.giving_up.proofs.MayReply.{counted, closing, may_end as end_with}
use Rattle.giving_up.proofs.Closing as of_leaving

makes_all : (s n : ℕ) (kept : Reply) (changes : List Change) (at : List Event) → kept ≡ replies.Count n → HasMade (length changes) s changes at
    → MakesFor kept s changes at
makes_all s n kept changes at is made = subst (λ (reply : Reply). MakesFor reply s changes at) (sym is) made

never_refused : (n : ℕ) (error : SqlError) → replies.Count n ≡ replies.Fail error → ⊥
never_refused n error refused = cc

-- so many changes are made
pub count_is : (h : List Event) (writer : Option ℕ) (s : ℕ) (alone : Bool) (before : ℕ) (r : IsMade h writer s alone before)
    → length (own s h) - before ≡ length (outcome r.statement (base s h)).changes
count_is h writer s alone before r =
    let changes : List Change = (outcome r.statement (base s h)).changes in
    omega (arith, ap length r.own_is, length-append (reverse changes) (own_before s h), length-reverse changes, r.before_is)

pub not_fewer : (h : List Event) (writer : Option ℕ) (s : ℕ) (alone : Bool) (before : ℕ) (r : IsMade h writer s alone before) → before ≤ length (own s h)
not_fewer h writer s alone before r =
    omega (arith, ap length r.own_is, length-append (reverse (outcome r.statement (base s h)).changes) (own_before s h), r.before_is)

module _ (h : List Event) (writer : Option ℕ) (s : ℕ) (alone : Bool) (before n : ℕ) (r : IsMade h writer s alone before)
    (counts : n ≡ length (outcome r.statement (base s h)).changes) where
  mine : eqb s s ≡ true
  mine = grind (arith, nat_tests)

  abbrev kept : Reply
  kept = replies.Count n

  now : point s h ≡ h
  now = point_now h s r.goes_on.not_over

  abbrev changes : List Change
  changes = (outcome r.statement (base s h)).changes

  made_now : HasMade (length changes) s changes h
  made_now = r.own_is ∙ ap (λ (xs : List Change). reverse xs ++ own_before s h) (sym (take_all (length changes) changes (omega arith)))

  made_then : HasMade (length (outcome r.statement (base s (point s h))).changes) s (outcome r.statement (base s (point s h))).changes (point s h)
  made_then = subst (λ p. HasMade (length (outcome r.statement (base s p)).changes) s (outcome r.statement (base s p)).changes p) (sym now) made_now

  answer_then : kept ≡ (outcome r.statement (base s (point s h))).reply
  answer_then = ap replies.Count counts ∙ (sym r.answer ∙ ap (λ p. (outcome r.statement (base s p)).reply) (sym now))

  reply : HasReply s r.statement kept h
  reply =
      record {
        was_open = ap (λ p. is_some (level s p)) now ∙ r.working.is_open;
        count = length (outcome r.statement (base s (point s h))).changes;
        made = made_then;
        answers = (answer_then, refl);
      }

  -- ---- in a transaction that stays open

  module _ (not-own : alone ≡ false) where
    txn_open : InTxn false r.working.takes.setting s h
    txn_open = subst (λ alone. InTxn alone r.working.takes.setting s h) not-own r.working.in_txn

    goes_open : Goes (level s (before_item s h)) r.working.takes.setting.autocommit s h
    goes_open = elim txn_open [
      | inl joins ↦
          let l = some_of (level s (before_item s h)) joins.was_open in
          let here : Goes (Some l.0) r.working.takes.setting.autocommit s h = (
            record {
              stays = joins.stays;
              not_begun = joins.not_begun;
              not_committed = r.working.not_committed;
              not_rolled_back =
                  r.working.not_rolled_back;
            },
            r.goes_on.not_undone,
          ) in
          subst (λ o. Goes o r.working.takes.setting.autocommit s h) (sym l.1) here
      | inr opened ↦
          let here : Goes None false s h = (
            record { is_open = r.working.is_open; begun = opened.0.begun; not_rolled_back = r.working.not_rolled_back },
            r.working.not_committed,
            r.goes_on.not_undone,
          ) in
          subst (λ o. Goes o r.working.takes.setting.autocommit s h) (sym opened.0.was_closed)
          (subst (λ autocommit. Goes None autocommit s h) (sym opened.1) here)
    ]

    pub may_end : MayEndWith s kept kept h
    may_end =
        end_with s r.statement h r.working.takes r.working.writes r.working.no_victim kept kept refl reply
        (counted s r.statement h r.working.takes r.working.writes r.working.no_victim n reply goes_open) r.working.rows_alone

    pub acks_none : awaits_ack (of_item s h) ≡ false
    acks_none = acked_of (of_item s h) r.working.not_committed

  -- ---- in one of its own

  module _ (its-own : alone ≡ true) where
    txn : InTxn true r.working.takes.setting s h
    txn = subst (λ alone. InTxn alone r.working.takes.setting s h) its-own r.working.in_txn

    alone_now : is_alone s r.working.takes.setting h ≡ true
    alone_now = ap (λ b. b && is_none (level s (before_item s h))) txn.1 ∙ ap is_none txn.0.was_closed

    settled : IsSettled s r.working.takes.setting r.statement h
    settled =
        let l = some_of (level s h) r.working.is_open in
        record {
          alone = alone_now;
          not_over = r.goes_on.not_over;
          l = l.0;
          level_is = l.1;
          reply = kept;
          answers = record {
            db = base s (point s h);
            sees = sees_base l.0 s r.working.takes.setting h (point s h) reply.was_open r.statement r.working.writes;
            answer = answer_then;
            changes = makes_all s n kept (outcome r.statement (base s (point s h))).changes (point s h) refl made_then;
          };
          not_refused = λ error is. never_refused n error is;
        }

    commits_by : CommitsBy s r.working.takes.setting r.statement h
    commits_by =
        of_writing (λ statement. IsSettled s r.working.takes.setting statement h → CommitsBy s r.working.takes.setting statement h)
        (λ table columns tuples is. (refl, is)) (λ table sets condition is. (refl, is)) (λ table condition is. (refl, is)) r.statement r.working.writes
        settled

    pub may_commit : MayCommit Spells s h
    may_commit = record { is_open = r.working.is_open; statement = r.statement; takes = r.working.takes; by = commits_by }

    abbrev after : List Event
    after = events.Committed s ∷ h

    commits : Commits s after
    commits =
        record {
          closed = rw mine refl;
          committed = did_now (events.Committed s) h s mine refl refl commits_txn refl;
          not_rolled_back = did_same (events.Committed s) h s mine refl refl rolls_back_txn refl ∙ r.working.not_rolled_back;
        }

    goes : Goes (level s (before_item s after)) r.working.takes.setting.autocommit s after
    goes =
        let here : Goes None true s after = (
          commits,
          did_same (events.Committed s) h s mine refl refl begins_txn refl ∙ txn.0.begun,
          did_same (events.Committed s) h s mine refl refl undoes
              refl ∙ r.goes_on.not_undone,
        ) in
        subst (λ l. Goes l r.working.takes.setting.autocommit s after) (sym txn.0.was_closed)
        (subst (λ autocommit. Goes None autocommit s after) (sym txn.1) here)

    pub closing_then : IsClosing s kept kept after
    closing_then =
        let e = events.Committed s in
        let takes = takes_on e h s refl r.statement r.working.takes in
        let no-victim = did_same e h s mine refl refl is_victim refl ∙ r.working.no_victim in
        let reply-then = reply_closed e h s mine refl refl refl r.statement kept reply in
        let none : own s after ≡ [] = rw mine refl in
        closing s r.statement after takes r.working.writes no-victim kept kept refl reply-then
        (counted s r.statement after takes r.working.writes no-victim n reply-then goes) (subst (AllByRecursion IsOfRow) (sym none) tt)
        (over_now e h s mine refl refl refl)

-- ---- its commit is acknowledged

pub moves_on_acked : MovesOnAcked IsRunning to_go owes_ack acked
moves_on_acked (machine.Leaving leaving) owes =
    let goes = of_leaving.moves_on_acked leaving owes in record { owed = goes.owed; runs = goes.runs; nears = goes.nears }
moves_on_acked m owes = absurd (false≢true owes)
