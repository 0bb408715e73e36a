-- The statements that commit an open transaction, and those that have nothing to do but to be done.
use Rattle.std.specs.Prelude.{◌≡◌, ◌⊎◌, true, false}
use Rattle.inno_types.specs.declared.stmt.Stmt.{Stmt}
use Rattle.inno_types.specs.declared.stmt.Stmt.TheVariants as stmt
use Rattle.sql_history.specs.Settings.{Setting, next_level}
use Rattle.transaction_statements.specs.declared.command.Command.{Command}
use Rattle.transaction_statements.specs.declared.command.Command.TheVariants as commands
use Rattle.transaction_statements.specs.declared.committer.Committer.{Committer}
use Rattle.transaction_statements.specs.declared.committer.Committer.TheVariants as committers
use Rattle.transaction_statements.specs.declared.setter.Setter.{Setter}
use Rattle.transaction_statements.specs.declared.setter.Setter.TheVariants as setters

-- the statement that a command stands for
abbrev pub asked_by : Command → Stmt
asked_by (commands.Begin snapshot) = stmt.Begin snapshot
asked_by commands.Commit = stmt.Commit
asked_by commands.Rollback = stmt.Rollback
asked_by (commands.RollbackTo name) = stmt.RollbackTo name
asked_by (commands.Savepoint name) = stmt.Savepoint name
asked_by (commands.SetAutocommit on) = stmt.SetAutocommit on
asked_by (commands.SetLevel scope l) = stmt.SetLevel scope l

abbrev pub stmt_of : Committer → Stmt
stmt_of committers.Commit = stmt.Commit
stmt_of committers.TurnOn = stmt.SetAutocommit true
stmt_of (committers.Begin snapshot l) = stmt.Begin snapshot

abbrev pub set_by : Setter → Stmt
set_by (setters.Autocommit on) = stmt.SetAutocommit on
set_by (setters.Level scope l) = stmt.SetLevel scope l
set_by (setters.Savepoint name) = stmt.Savepoint name

-- what was set before it
abbrev pub Fits : Committer → Setting → Type 0
Fits committers.Commit setting = Unit {0}
Fits committers.TurnOn setting = setting.autocommit ≡ false
Fits (committers.Begin snapshot l) setting = l ≡ next_level setting

-- a statement that only sets something, or nothing
abbrev pub SetsAlone : Stmt → Setting → Type 0
SetsAlone (stmt.SetLevel scope l) setting = Unit {0}
SetsAlone (stmt.SetAutocommit on) setting = (setting.autocommit ≡ true) ⊎ (on ≡ false)
SetsAlone (stmt.Savepoint name) setting = setting.autocommit ≡ true
SetsAlone other setting = ⊥
