-- What legality says of the newest entry.
use Rattle.std.proofs.Common.{◌≡◌, ℕ, Bool, true, false, Option, Some, None, List, ◌∷◌, refl, sym, ◌∙◌, subst, ap, inl, inr}
use Rattle.inno_types.specs.declared.lock.Level.{Level}
use Rattle.inno_types.specs.declared.lock.Level.TheVariants.{RepeatableRead}
use Rattle.inno_types.specs.declared.reply.Item.{Item}
use Rattle.inno_types.specs.declared.reply.Item.TheVariants as items
use Rattle.inno_types.specs.declared.reply.Reply.{Reply}
use Rattle.inno_types.specs.declared.reply.Reply.TheVariants as replies
use Rattle.inno_types.specs.declared.reply.SqlError.{SqlError}
use Rattle.inno_types.specs.declared.stmt.Stmt.{Stmt}
use Rattle.inno_types.specs.declared.stmt.Stmt.TheVariants as stmt
use Rattle.inno_types.specs.declared.value.Value.{Value}
use Rattle.inno_db.specs.Outcome.{outcome}
use Rattle.inno_model.specs.declared.event.Event.{Event}
use Rattle.inno_model.specs.declared.event.Event.TheVariants.{Ended, Committed}
use Rattle.inno_model.specs.Past.{level}
use Rattle.sql_history.specs.Items.{Language, Asks, point}
use Rattle.sql_history.specs.Settings.{Setting}
use Rattle.sql_history.specs.Statements.{Sight, sight_of}
use Rattle.sql_history.specs.Answers.{MaySee}
use Rattle.sql_history.specs.Counts.{has_stopped}
use Rattle.sql_history.specs.Legal.{IsLegal, EndsBy, EndsItem, EndsAsked, EndsTaken, AnswersRows, is_alone}
use Rattle.sql_history.specs.Readings.{is_plain_select, AsksOnly, AnswersBySnapshot}

pub stopped_reply : (says : Language) (s j : ℕ) (reply : Reply) (past : List Event) → has_stopped past ≡ true → IsLegal says (Ended s j reply ∷ past)
    → reply ≡ replies.Stopped
stopped_reply says s j reply past stopped legal =
    let ends = legal.0.1 in
    (subst (λ b. EndsBy b says s ends.item reply past) stopped ends.ends).0

pub commits_running : (says : Language) (s : ℕ) (past : List Event) → IsLegal says (Committed s ∷ past) → has_stopped past ≡ false
commits_running says s past legal = legal.0.1

-- ---- rows that were answered

-- a statement on rows answered these
pub record GaveRows (says : Language) (s : ℕ) (rows : List (List Value)) (past : List Event) : Type 0 where
  pub statement : Stmt
  pub asks : Asks says s statement past
  pub setting : Setting
  pub answers : AnswersRows s setting statement (replies.Rows rows) past

module _ (says : Language) (s : ℕ) (rows : List (List Value)) (past : List Event) where
  of_taken : (setting : Setting) (statement : Stmt) → EndsTaken s setting statement (replies.Rows rows) past
      → AnswersRows s setting statement (replies.Rows rows) past
  of_taken setting (stmt.Select selected table condition lock) ends = ends.0
  of_taken setting (stmt.Insert table columns tuples) ends = ends.0
  of_taken setting (stmt.Update table sets condition) ends = ends.0
  of_taken setting (stmt.Delete table condition) ends = ends.0
  of_taken setting (stmt.CreateTable table if_not_exists definitions) ends = (let x = ends.0 in cc)
  of_taken setting (stmt.Begin snapshot) ends = (let x = ends.0 in cc)
  of_taken setting stmt.Commit ends = (let x = ends.0 in cc)
  of_taken setting stmt.Rollback ends = (let x = ends.0 in cc)
  of_taken setting (stmt.RollbackTo name) ends = (let x = ends.0 in cc)
  of_taken setting (stmt.Savepoint name) ends = (let x = ends.0 in cc)
  of_taken setting (stmt.SetAutocommit on) ends = (let x = ends.0 in cc)
  of_taken setting (stmt.SetLevel scope l) ends = (let x = ends.0 in cc)

  of_asked : (refused : Option SqlError) (setting : Setting) (statement : Stmt) → EndsAsked refused s setting statement (replies.Rows rows) past
      → AnswersRows s setting statement (replies.Rows rows) past
  of_asked (Some error) setting statement ends = (let x = ends.0 in cc)
  of_asked None setting statement ends = of_taken setting statement ends

  of_item : (item : Item) → EndsItem says s item (replies.Rows rows) past → GaveRows says s rows past
  of_item (items.Sql text) (inl ends) =
      record { statement = ends.statement; asks = ends.asks; setting = ends.setting; answers = of_asked _ ends.setting ends.statement ends.ends }
  of_item (items.Sql text) (inr (inl ends)) = (let x = ends.answer in cc)
  of_item (items.Sql text) (inr (inr ends)) = elim ends [ ]
  of_item (items.Signal name) ends = elim ends [ ]
  of_item (items.Await name) ends = elim ends [ ]

  of_end : (stopped : Bool) (item : Item) → EndsBy stopped says s item (replies.Rows rows) past → GaveRows says s rows past
  of_end true item ends = (let x = ends.0 in cc)
  of_end false item ends = of_item item ends.2

  pub gave_rows : (j : ℕ) → IsLegal says (Ended s j (replies.Rows rows) ∷ past) → GaveRows says s rows past
  gave_rows j legal = of_end (has_stopped past) legal.0.1.item legal.0.1.ends

  by_view : (l : Level) (alone : Bool) (statement : Stmt) → l ≡ RepeatableRead → is_plain_select statement ≡ true → sight_of l alone statement ≡ Sight.of_view
  by_view l alone (stmt.Select selected table condition None) is plain = rw is refl
  by_view l alone other is plain = (let x = plain in cc)

  same_level : (l m : Level) (found : Option Level) → found ≡ Some l → found ≡ Some m → l ≡ m
  same_level l m found a b = (let x = sym a ∙ b in cc)

  pub snapshot_read : (j : ℕ) → IsLegal says (Ended s j (replies.Rows rows) ∷ past) → level s (point s past) ≡ Some RepeatableRead
      → AsksOnly says is_plain_select s past → AnswersBySnapshot says s (replies.Rows rows) past
  snapshot_read j legal at plain =
      let gave = gave_rows j legal in
      let a = gave.answers in
      let seen =
      subst (λ sight. MaySee sight s gave.statement a.answers.db (point s past))
      (by_view a.l (is_alone s gave.setting past) gave.statement (same_level a.l RepeatableRead (level s (point s past)) a.level_is at)
      (plain gave.statement gave.asks)) a.answers.sees in
      record {
        statement = gave.statement;
        asks = gave.asks;
        number = seen.0;
        view = seen.1;
        answer = a.answers.answer ∙ ap
            (λ db. (outcome gave.statement db).reply) seen.2;
      }
