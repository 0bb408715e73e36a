-- How a statement sees rows, by its kind and its transaction's level, and what refuses it before it sees any.
use Rattle.std.specs.Prelude.{ℕ, ◌==◌, Bool, true, false, List, Option, Some, None, is_some, if◌then◌else◌}
use Rattle.inno_types.specs.declared.value.Schema.{Schema}
use Rattle.inno_types.specs.declared.lock.Level.{Level}
use Rattle.inno_types.specs.declared.lock.Level.TheVariants.{ReadUncommitted, ReadCommitted, RepeatableRead, Serializable}
use Rattle.inno_types.specs.declared.stmt.Stmt.{Stmt}
use Rattle.inno_types.specs.declared.stmt.Stmt.TheVariants as stmt
use Rattle.inno_types.specs.declared.stmt.LevelScope.TheVariants.{NextTransaction}
use Rattle.inno_types.specs.declared.reply.SqlError.{SqlError}
use Rattle.inno_types.specs.declared.reply.SqlError.TheVariants.{Syntax, NoSavepoint, InTransaction}
use Rattle.inno_db.specs.Refusals.{refusal, refused_if}
use Rattle.inno_model.specs.declared.event.Event.{Event}
use Rattle.inno_model.specs.Past.{level, level_or, current}
use Rattle.sql_history.specs.Settings.{Setting, made_at, next_level}

abbrev pub is_select : Stmt → Bool
is_select (stmt.Select selected table condition lock) = true
is_select other = false

-- a statement on the rows of a table
abbrev pub is_on_rows : Stmt → Bool
is_on_rows (stmt.Select selected table condition lock) = true
is_on_rows (stmt.Insert table columns tuples) = true
is_on_rows (stmt.Update table sets condition) = true
is_on_rows (stmt.Delete table condition) = true
is_on_rows other = false

-- The rows that a statement sees: those of its view; the latest committed rows and its own; or, of each row, what it
-- was at some moment of the statement, committed or, with dirty reads, not.
pub data Sight : Type 0 where
  of_view : Sight
  of_latest : Sight
  of_moments : Sight
  of_dirty_moments : Sight

-- a SELECT without a lock clause; autocommit says that it has a transaction for itself alone
abbrev pub plain_sight : Level → Bool → Sight
plain_sight ReadUncommitted autocommit = Sight.of_dirty_moments
plain_sight ReadCommitted autocommit = Sight.of_view
plain_sight RepeatableRead autocommit = Sight.of_view
plain_sight Serializable true = Sight.of_view
plain_sight Serializable false = Sight.of_latest

-- a statement that locks the rows that it searches
abbrev pub locking_sight : Level → Sight
locking_sight ReadUncommitted = Sight.of_moments
locking_sight ReadCommitted = Sight.of_moments
locking_sight RepeatableRead = Sight.of_latest
locking_sight Serializable = Sight.of_latest

abbrev pub sight_of : Level → Bool → Stmt → Sight
sight_of level autocommit (stmt.Select selected table condition None) = plain_sight level autocommit
sight_of level autocommit (stmt.Select selected table condition (Some mode)) = locking_sight level
sight_of level autocommit (stmt.Update table sets condition) = locking_sight level
sight_of level autocommit (stmt.Delete table condition) = locking_sight level
sight_of level autocommit other = Sight.of_latest

-- ---- what refuses a statement at once

abbrev pub is_serializable : Level → Bool
is_serializable Serializable = true
is_serializable other = false

-- 1568 or 1305 by what the session has open and has kept; CREATE TABLE is for the setup part alone. Until rows are locked
-- one by one a SELECT that locks, or that SERIALIZABLE might make lock, is none.
abbrev pub session_refusal : ℕ → Option Level → Setting → Stmt → Option SqlError
session_refusal s current_level setting (stmt.SetLevel NextTransaction level) = refused_if (is_some current_level) InTransaction None
session_refusal s current_level setting (stmt.RollbackTo name) = if is_some (made_at name setting.saves) then None else Some NoSavepoint
session_refusal s current_level setting (stmt.CreateTable table if_not_exists definitions) = if s == 0 then None else Some (Syntax 0)
session_refusal s current_level setting (stmt.Select selected table condition (Some mode)) = Some (Syntax 0)
session_refusal s current_level setting (stmt.Select selected table condition None) =
    refused_if (is_serializable (level_or current_level (next_level setting))) (Syntax 0) None
session_refusal s current_level setting other = None

abbrev pub first_of : Option SqlError → Option SqlError → Option SqlError
first_of (Some error) later = Some error
first_of None later = later

-- the tables that stand, committed or of the session's own
abbrev pub schemas_now : ℕ → List Event → List Schema
schemas_now s past = (current s past).schemas

-- The refusal of a statement before it sees a row, in the order in which refusals come: by the session, and then by
-- the text and the schemas. (A CREATE TABLE that is badly declared is refused as one outside the setup part is.)
abbrev pub refused_at_once : ℕ → Setting → Stmt → List Event → Option SqlError
refused_at_once s setting stmt past = first_of (session_refusal s (level s past) setting stmt) (refusal (schemas_now s past) stmt)
