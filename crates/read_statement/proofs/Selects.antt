-- What is particular to a plain SELECT: it changes nothing, and the rules for statements are those for rows.
use Rattle.std.proofs.Common.{◌≡◌, ℕ, Bool, true, false, Option, Some, None, List, [], ◌∷◌, refl, sym, ap, subst, inl, inr}
use Rattle.inno_types.specs.declared.value.Value.{Value}
use Rattle.inno_types.specs.declared.value.Schema.{Schema}
use Rattle.inno_types.specs.declared.lock.Level.{Level}
use Rattle.inno_types.specs.declared.stmt.Filter.{Filter}
use Rattle.inno_types.specs.declared.stmt.Selected.{Selected}
use Rattle.inno_types.specs.declared.stmt.Stmt.{Stmt}
use Rattle.inno_types.specs.declared.stmt.Stmt.TheVariants as stmt
use Rattle.inno_types.specs.declared.reply.Reply.{Reply}
use Rattle.inno_types.specs.declared.reply.Reply.TheVariants as replies
use Rattle.inno_types.specs.declared.reply.SqlError.{SqlError}
use Rattle.inno_db.specs.declared.change.Change.{Change}
use Rattle.inno_db.specs.declared.outcome.Outcome.{Outcome}
use Rattle.inno_db.specs.Database.{Database, rows_of}
use Rattle.inno_db.specs.Names.{table_place}
use Rattle.inno_db.specs.Outcome.{outcome, unless_refused, answer_to, on_schema, on_number, select_answer}
use Rattle.inno_db.specs.Refusals.{refusal}
use Rattle.std.specs.Prelude.{slice_get}
use Rattle.inno_model.specs.declared.event.Event.{Event}
use Rattle.inno_model.specs.Past.{own}
use Rattle.inno_model.specs.Moments.{Sometime}
use Rattle.sql_grammar.specs.Grammar.{Spells}
use Rattle.sql_history.specs.Items.{point, own_before}
use Rattle.sql_history.specs.Settings.{Setting}
use Rattle.sql_history.specs.Statements.{Sight, plain_sight, is_select, is_on_rows, refused_at_once}
use Rattle.sql_history.specs.Readings.{is_plain_select}
use Rattle.sql_history.specs.Answers.{MaySee, MakesFor, Answers}
use Rattle.sql_history.specs.Legal.{Takes, sight_in, is_alone, BeginsBy, CommitsBy, IsSettled, RollsBackBy, EndsTaken, AnswersRows, EndsRows, NextBrings}
use Rattle.sql_history.specs.Legal.{MayLeaveOpen, ViewsBy, TakesView}
use Rattle.sql_history.specs.Counts.{rows_of_reply}
use Rattle.read_statement.specs.Running.{IsFound}

-- what holds of each plain SELECT
pub of_plain : (P : Stmt → Type 0) → ((selected : Selected) (table : List ℕ) (condition : Option Filter) → P (stmt.Select selected table condition None))
    → (statement : Stmt) → is_plain_select statement ≡ true → P statement
of_plain P is (stmt.Select selected table condition None) plain = is selected table condition
of_plain P is (stmt.Select selected table condition (Some mode)) plain = (let x = plain in cc)
of_plain P is other plain = (let x = plain in cc)

-- a SELECT that is not refused at once is plain
plain_here : (s : ℕ) (setting : Setting) (statement : Stmt) (h : List Event) → is_select statement ≡ true → refused_at_once s setting statement h ≡ None
    → is_plain_select statement ≡ true
plain_here s setting (stmt.Select selected table condition None) h select none = refl
plain_here s setting (stmt.Select selected table condition (Some mode)) h select none = (let x = none in cc)
plain_here s setting other h select none = (let x = select in cc)

plain_then : (s : ℕ) (setting : Setting) (statement : Stmt) (h : List Event) → is_select statement ≡ true
    → Sometime (λ g. refused_at_once s setting statement g ≡ None) s h → is_plain_select statement ≡ true
plain_then s setting statement [] select when = absurd when
plain_then s setting statement (e ∷ h) select (inl none) = plain_here s setting statement (e ∷ h) select none
plain_then s setting statement (e ∷ h) select (inr before) = plain_then s setting statement h select before.1

pub plain_taken : (s : ℕ) (statement : Stmt) (h : List Event) → is_select statement ≡ true → Takes Spells s statement h → is_plain_select statement ≡ true
plain_taken s statement h select takes = plain_then s takes.setting statement h select takes.not_refused

pub select_of_plain : (statement : Stmt) → is_plain_select statement ≡ true → is_select statement ≡ true
select_of_plain = of_plain (λ statement. is_select statement ≡ true) (λ selected table condition. refl)

pub rows_of_plain : (statement : Stmt) → is_plain_select statement ≡ true → is_on_rows statement ≡ true
rows_of_plain = of_plain (λ statement. is_on_rows statement ≡ true) (λ selected table condition. refl)

-- ---- it changes nothing

unless_none : (refused : Option SqlError) (o : Outcome) → o.changes ≡ [] → (unless_refused refused o).changes ≡ []
unless_none None o none = none
unless_none (Some error) o none = refl

on_schema_none : (n : ℕ) (found : Option Schema) (rows : List (List Value)) (selected : Selected) (condition : Option Filter)
    → (on_schema n found rows (select_answer selected condition)).changes ≡ []
on_schema_none n None rows selected condition = refl
on_schema_none n (Some schema) rows selected condition = refl

on_number_none : (db : Database) (found : Option ℕ) (selected : Selected) (condition : Option Filter)
    → (on_number db found (select_answer selected condition)).changes ≡ []
on_number_none db None selected condition = refl
on_number_none db (Some n) selected condition = on_schema_none n (slice_get db.schemas n) (rows_of n db) selected condition

pub no_changes : (db : Database) (statement : Stmt) → is_plain_select statement ≡ true → (outcome statement db).changes ≡ []
no_changes db =
    of_plain (λ statement. (outcome statement db).changes ≡ [])
    (λ selected table condition.
    unless_none (refusal db.schemas (stmt.Select selected table condition None)) (answer_to (stmt.Select selected table condition None) db)
    (on_number_none db (table_place db.schemas table) selected condition))

makes_none : (reply : Reply) (s : ℕ) (at : List Event) → own s at ≡ own_before s at → MakesFor reply s [] at
makes_none (replies.Fail error) s at same = (0, same)
makes_none replies.Done s at same = same
makes_none (replies.Count n) s at same = same
makes_none (replies.Rows rows) s at same = same
makes_none (replies.RunLimit n) s at same = same
makes_none (replies.NotSignalled n) s at same = same
makes_none replies.Stopped s at same = same
makes_none replies.NoMemory s at same = same

pub makes : (reply : Reply) (s : ℕ) (changes : List Change) (at : List Event) → changes ≡ [] → own s at ≡ own_before s at → MakesFor reply s changes at
makes reply s changes at none same = subst (λ cs. MakesFor reply s cs at) (sym none) (makes_none reply s at same)

-- ---- its answer

either_sight : (l : Level) (alone : Bool) → plain_sight l true ≡ plain_sight l false → plain_sight l alone ≡ plain_sight l false
either_sight l true alike = alike
either_sight l false alike = refl

pub sight_is : (l : Level) (s : ℕ) (setting : Setting) (h : List Event) → plain_sight l true ≡ plain_sight l false → (statement : Stmt)
    → is_plain_select statement ≡ true → sight_in l s setting statement h ≡ plain_sight l false
sight_is l s setting h alike =
    of_plain (λ statement. sight_in l s setting statement h ≡ plain_sight l false)
    (λ selected table condition. either_sight l (is_alone s setting h) alike)

module _ (s : ℕ) (h : List Event) (statement : Stmt) (plain : is_plain_select statement ≡ true) (setting : Setting) where
  pub answers : (reply : Reply) → (found : IsFound (point s h) s statement reply) → own s (point s h) ≡ own_before s (point s h)
      → Answers (sight_in found.l s setting statement h) s statement reply h
  answers reply found same =
      record {
        db = found.db;
        sees = subst (λ sight. MaySee sight s statement found.db (point s h)) (sym (sight_is found.l s setting h found.alike statement plain)) found.sees;
        answer = found.answer;
        changes = makes reply s (outcome statement found.db).changes (point s h) (no_changes found.db statement plain) same;
      }

  pub brings : (reply : Reply) → (found : IsFound (point s h) s statement reply)
      → NextBrings (sight_in found.l s setting statement h) s statement (rows_of_reply reply) h
  brings reply found =
      of_plain
      (λ st. MaySee (sight_in found.l s setting st h) s st found.db (point s h) → rows_of_reply reply ≡ rows_of_reply (outcome st found.db).reply →
      NextBrings (sight_in found.l s setting st h) s st (rows_of_reply reply) h)
      (λ selected table condition sees same. (found.db, sees, same))
      statement plain
      (subst (λ sight. MaySee sight s statement found.db (point s h)) (sym (sight_is found.l s setting h found.alike statement plain)) found.sees)
      (ap rows_of_reply found.answer)

-- ---- the rules for statements on rows

module _ (s : ℕ) (h : List Event) (setting : Setting) where
  pub begins_by : (statement : Stmt) → is_plain_select statement ≡ true → BeginsBy s setting statement h
  begins_by = of_plain (λ statement. BeginsBy s setting statement h) (λ selected table condition. refl)

  pub commits_by : (statement : Stmt) → is_plain_select statement ≡ true → IsSettled s setting statement h → CommitsBy s setting statement h
  commits_by = of_plain (λ statement. IsSettled s setting statement h → CommitsBy s setting statement h) (λ selected table condition settled. (refl, settled))

  pub rolls_back_by : (statement : Stmt) → is_plain_select statement ≡ true → is_alone s setting h ≡ true → RollsBackBy s setting statement h
  rolls_back_by = of_plain (λ statement. is_alone s setting h ≡ true → RollsBackBy s setting statement h) (λ selected table condition alone. (refl, inr alone))

  pub ends_taken : (reply : Reply) (statement : Stmt) → is_plain_select statement ≡ true → AnswersRows s setting statement reply h
      → EndsRows s setting reply h → EndsTaken s setting statement reply h
  ends_taken reply =
      of_plain (λ statement. AnswersRows s setting statement reply h → EndsRows s setting reply h → EndsTaken s setting statement reply h)
      (λ selected table condition answers ends. (answers, ends))

  pub may_leave_open : (statement : Stmt) → is_plain_select statement ≡ true → setting.autocommit ≡ false → MayLeaveOpen setting statement
  may_leave_open = of_plain (λ statement. setting.autocommit ≡ false → MayLeaveOpen setting statement) (λ selected table condition off. off)

  pub views_by : (l : Level) (statement : Stmt) → is_plain_select statement ≡ true → ((alone : Bool) → plain_sight l alone ≡ Sight.of_view)
      → TakesView l s h → ViewsBy l s setting statement h
  views_by l =
      of_plain (λ statement. ((alone : Bool) → plain_sight l alone ≡ Sight.of_view) → TakesView l s h → ViewsBy l s setting statement h)
      (λ selected table condition by-view takes. (by-view (is_alone s setting h), takes))
