-- What is known of the past in the midst of a CREATE TABLE.
use Rattle.std.specs.Prelude.{◌≡◌, ℕ, true, false, List, []}
use Rattle.std.specs.List.{AllByRecursion}
use Rattle.inno_types.specs.declared.lock.Level.{Level}
use Rattle.inno_types.specs.declared.stmt.Stmt.{Stmt}
use Rattle.inno_db.specs.Outcome.{outcome}
use Rattle.inno_model.specs.declared.event.Event.{Event}
use Rattle.inno_model.specs.Past.{of_item, did, own, awaits_ack, IsClosed}
use Rattle.sql_grammar.specs.Grammar.{Spells}
use Rattle.sql_history.specs.Items.{is_over, point, own_before, base}
use Rattle.sql_history.specs.Settings.{next_level}
use Rattle.sql_history.specs.Waiting.{is_victim}
use Rattle.sql_history.specs.Legal.{Takes, IsCreation, EndsCreate}
use Rattle.law_past_agreement.specs.Order.{IsOfRow}
use Rattle.sql_lists.specs.Steps.{HasRowsAlone}

-- The session's item asks for the statement, before which its session changed rows alone.
pub record IsAt (s : ℕ) (statement : Stmt) (past : List Event) : Type 0 where
  pub takes : Takes Spells s statement past
  pub kind : IsCreation statement
  pub no_victim : did is_victim s past ≡ false
  pub rows_before : AllByRecursion IsOfRow (own_before s past)

-- its transaction is to be of this level
pub record IsToBegin (s : ℕ) (statement : Stmt) (l : Level) (past : List Event) : Type 0 where
  pub at : IsAt s statement past
  pub level_is : l ≡ next_level at.takes.setting

-- what it was to do is committed
pub record IsCommitted (s : ℕ) (statement : Stmt) (past : List Event) : Type 0 where
  pub at : IsAt s statement past
  pub ends : EndsCreate s (outcome statement (base s (point s past))).changes past
  pub over : is_over s past ≡ true
  pub closed : IsClosed s past
  pub new : own s past ≡ []

-- it may end as done
pub record IsFinished (s : ℕ) (statement : Stmt) (past : List Event) : Type 0 where
  pub at : IsAt s statement past
  pub ends : EndsCreate s (outcome statement (base s (point s past))).changes past
  pub acked : awaits_ack (of_item s past) ≡ false
  pub rows_alone : HasRowsAlone s past
