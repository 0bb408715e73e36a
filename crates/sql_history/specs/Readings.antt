-- What a user may rely on of a SELECT: by which rows it was answered.
use Rattle.std.specs.Prelude.{◌≡◌, ℕ, List, Bool, true, false, Some, None}
use Rattle.inno_types.specs.declared.reply.Reply.{Reply}
use Rattle.inno_types.specs.declared.stmt.Stmt.{Stmt}
use Rattle.inno_types.specs.declared.stmt.Stmt.TheVariants as stmt
use Rattle.inno_db.specs.Outcome.{outcome}
use Rattle.inno_model.specs.declared.event.Event.{Event}
use Rattle.inno_model.specs.Past.{view_of}
use Rattle.sql_history.specs.Items.{Language, Asks, base, point}
use Rattle.sql_history.specs.Answers.{seen_by}

-- a SELECT without a lock clause
abbrev pub is_plain_select : Stmt → Bool
is_plain_select (stmt.Select selected table condition None) = true
is_plain_select other = false

-- whatever the text of the session's item is read as is such a statement
abbrev pub AsksOnly : Language → (Stmt → Bool) → ℕ → List Event → Type 0
AsksOnly says test s past = (statement : Stmt) → Asks says s statement past → test statement ≡ true

-- the answer by the rows committed before the transaction's view, and its own changes
pub record AnswersBySnapshot (says : Language) (s : ℕ) (reply : Reply) (past : List Event) : Type 0 where
  pub statement : Stmt
  pub asks : Asks says s statement past
  pub number : ℕ
  pub view : view_of s (point s past) ≡ Some number
  pub answer : reply ≡ (outcome statement (seen_by s number (point s past))).reply
