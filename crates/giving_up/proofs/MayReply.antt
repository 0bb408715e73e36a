-- What stands behind the reply of a statement that changes rows.
use Rattle.std.proofs.Common.{◌≡◌, ℕ, true, false, List, refl, sym, subst, ◌∙◌, ◌⊎◌, inl, inr}
use Rattle.std.proofs.lemmas.Bool.{false≢true}
use Rattle.inno_types.specs.declared.stmt.Stmt.{Stmt}
use Rattle.inno_types.specs.declared.stmt.Stmt.TheVariants as stmt
use Rattle.inno_types.specs.declared.lock.Level.{Level}
use Rattle.inno_types.specs.declared.reply.Reply.{Reply}
use Rattle.inno_types.specs.declared.reply.Reply.TheVariants as replies
use Rattle.inno_db.specs.Outcome.{outcome}
use Rattle.inno_model.specs.declared.event.Event.{Event}
use Rattle.inno_model.specs.Past.{did, before_item, level}
use Rattle.sql_grammar.specs.Grammar.{Spells}
use Rattle.sql_history.specs.Items.{is_over, base, point, HasMade}
use Rattle.sql_history.specs.Answers.{Answers, MakesFor}
use Rattle.sql_history.specs.Endings.{Goes, BacksOut, RollsBack}
use Rattle.sql_history.specs.Legal.{Takes, IsWriting, AnswersRows, EndsRows, IsGivenUp, IsOverfull, NextBrings, LeavesIt, BrokeOff, IsWithin, sight_in}
use Rattle.sql_history.specs.Waiting.{is_victim}
use Rattle.sql_lists.specs.Steps.{HasRowsAlone}
use Rattle.giving_up.specs.Replies.{is_count, HasReply, PutsRows}
use Rattle.giving_up.specs.Ends.{is_rows, IsAnswered, EndsWith, MayEndWith, IsClosing}
use Rattle.giving_up.proofs.Writing.{on_rows, sees_base, no_view, some_of}

-- a reply without rows fits the history
pub brings_none : (kept : Reply) (h : List Event) → is_rows kept ≡ false → IsWithin kept h
brings_none (replies.Rows rows) h none = absurd (false≢true (sym none))
brings_none other h none = inl refl

-- it answers no rows
pub no_rows : (s : ℕ) (statement : Stmt) (past : List Event) (kept : Reply) → HasReply s statement kept past → is_rows kept ≡ false
no_rows s statement past (replies.Rows rows) reply = absurd reply.answers
no_rows s statement past other reply = refl

module _ (s : ℕ) (statement : Stmt) (past : List Event) (takes : Takes Spells s statement past) (writes : IsWriting statement)
    (no-victim : did is_victim s past ≡ false) where
  -- an answer over the latest rows
  answers : (kept : Reply) → HasReply s statement kept past → (l : Level) → kept ≡ (outcome statement (base s (point s past))).reply
      → MakesFor kept s (outcome statement (base s (point s past))).changes (point s past)
      → Answers (sight_in l s takes.setting statement past) s statement kept past
  answers kept reply l answer changes =
      record {
        db = base s (point s past);
        sees = sees_base l s takes.setting past (point s past) reply.was_open statement writes;
        answer = answer;
        changes =
            changes;
      }

  answers_rows : (kept : Reply) → HasReply s statement kept past → kept ≡ (outcome statement (base s (point s past))).reply
      → MakesFor kept s (outcome statement (base s (point s past))).changes (point s past) → AnswersRows s takes.setting statement kept past
  answers_rows kept reply answer changes =
      let l = some_of (level s (point s past)) reply.was_open in
      record {
        l = l.0;
        level_is = l.1;
        answers = answers kept reply l.0 answer changes;
        viewed = λ is not-repeatable. absurd
            (no_view l.0 s takes.setting past statement writes is);
      }

  -- the first changes of an outcome
  broke_off : (kept : Reply) → HasReply s statement kept past → BrokeOff s takes.setting statement past
  broke_off kept reply l is =
      inr (record {
        db = base s (point s past);
        sees = sees_base l s takes.setting past (point s past) reply.was_open statement writes;
        count = reply.count;
        changes = reply.made;
      })

  given_up : (kept : Reply) → HasReply s statement kept past → BacksOut (level s (before_item s past)) takes.setting.autocommit s past → IsGivenUp Spells s past
  given_up kept reply backs =
      record {
        statement = statement;
        on_rows = on_rows statement writes;
        takes = takes;
        no_victim = no-victim;
        broke_off = broke_off kept reply;
        backs_out =
            backs;
      }

  brings : (l : Level) (st : Stmt) → PutsRows st → NextBrings (sight_in l s takes.setting st past) s st 1 past
  brings l (stmt.Insert table columns tuples) puts = refl
  brings l (stmt.Update table sets condition) puts = refl
  brings l other puts = absurd puts

  overfull : (rows : ℕ) → HasReply s statement (replies.RunLimit rows) past → IsOverfull Spells s rows past
  overfull rows reply =
      let l = some_of (level s (point s past)) reply.was_open in
      record {
        many = reply.answers.0;
        statement = statement;
        takes = takes;
        l = l.0;
        level_is = l.1;
        more = 1;
        brings = brings l.0 statement
            reply.answers.1;
        sum = reply.answers.2;
      }

  is_answered : (kept : Reply) → is_rows kept ≡ false → AnswersRows s takes.setting statement kept past → EndsRows s takes.setting kept past
      → IsAnswered s kept past
  is_answered kept no-rows answers ends =
      record {
        statement = statement;
        on_rows = on_rows statement writes;
        selects = λ is. absurd (false≢true (sym no-rows ∙ is));
        takes = takes;
        answers = answers;
        ends = ends;
        no_victim = no-victim;
      }

  -- its count, in a transaction that goes on or was committed
  pub counted : (n : ℕ) → HasReply s statement (replies.Count n) past → Goes (level s (before_item s past)) takes.setting.autocommit s past
      → EndsWith s (replies.Count n) past
  counted n reply goes =
      is_answered (replies.Count n) refl
      (answers_rows (replies.Count n) reply reply.answers.0
      (subst (λ count. HasMade count s (outcome statement (base s (point s past))).changes (point s past)) reply.answers.1 reply.made))
      goes

  -- none of its changes stands
  pub backed_out : (kept : Reply) → is_count kept ≡ false → HasReply s statement kept past
      → BacksOut (level s (before_item s past)) takes.setting.autocommit s past → RollsBack s past ⊎ LeavesIt Spells s past → EndsWith s kept past
  backed_out (replies.Fail error) no-count reply backs leaves =
      elim reply.answers [
        | inl refused ↦ inl (is_answered (replies.Fail error) refl (answers_rows (replies.Fail error) reply refused.1 (reply.count, reply.made)) backs)
        | inr lacks ↦ inr (lacks, given_up (replies.Fail error) reply backs)
      ]
  backed_out replies.NoMemory no-count reply backs leaves = elim leaves [ inl rolled ↦ inl rolled | inr left ↦ inr (inr (inr left)) ]
  backed_out (replies.RunLimit rows) no-count reply backs leaves = (overfull rows reply, inl (given_up (replies.RunLimit rows) reply backs))
  backed_out (replies.Count n) no-count reply backs leaves = absurd (false≢true (sym no-count))
  backed_out other no-count reply backs leaves = absurd reply.answers

  module _ (kept given : Reply) (same : given ≡ kept) (reply : HasReply s statement kept past) (ends : EndsWith s kept past)
      (rows-alone : HasRowsAlone s past) where
    pub may_end : MayEndWith s kept given past
    may_end =
        record {
          same = same;
          text = takes.asks.0;
          item = takes.asks.1;
          made = inr (statement, takes, broke_off kept reply);
          ends = ends;
          rows_alone = rows-alone;
        }

    pub closing : is_over s past ≡ true → IsClosing s kept given past
    closing over = record { may = may_end; rests = inl over; limited = λ is. absurd (false≢true (sym (no_rows s statement past kept reply) ∙ is)) }
