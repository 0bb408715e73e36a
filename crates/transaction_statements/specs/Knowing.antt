-- What is known of the past in the midst of a statement on transactions.
use Rattle.std.specs.Prelude.{◌≡◌, ℕ, Bool, true, false, List, [], None}
use Rattle.inno_types.specs.declared.reply.Reply.TheVariants.{Done}
use Rattle.inno_types.specs.declared.stmt.Stmt.{Stmt}
use Rattle.inno_types.specs.declared.stmt.Stmt.TheVariants as stmt
use Rattle.inno_model.specs.declared.event.Event.{Event}
use Rattle.inno_model.specs.Past.{before_item, of_item, did, begins_txn, commits_txn, rolls_back_txn, own, oldest, awaits_ack, IsOpen, IsClosed}
use Rattle.sql_grammar.specs.Grammar.{Spells}
use Rattle.sql_history.specs.Items.{Asks}
use Rattle.sql_history.specs.Settings.{Setting, HasSet, made_at}
use Rattle.sql_history.specs.Endings.{StaysIn}
use Rattle.sql_history.specs.Waiting.{is_victim}
use Rattle.sql_history.specs.Legal.{Takes, EndsTaken}
use Rattle.sql_lists.specs.Kept.{SetsQuietly}
use Rattle.sql_lists.specs.Steps.{HasRowsAlone}
use Rattle.giving_up.specs.Ends.{HasMadeNone}

-- The session's item asks for the statement, and something is known of what was set before it.
pub record IsAt (s : ℕ) (statement : Stmt) (Knows : Setting → Type 0) (past : List Event) : Type 0 where
  pub takes : Takes Spells s statement past
  pub knows : Knows takes.setting
  pub rows_alone : HasRowsAlone s past
  pub no_victim : did is_victim s past ≡ false

-- the item has opened a transaction, in which nothing is changed
pub record HasOpened (s : ℕ) (past : List Event) : Type 0 where
  pub is_open : IsOpen s past
  pub begun : did begins_txn s past ≡ true
  pub not_rolled_back : did rolls_back_txn s past ≡ false
  pub new : own s past ≡ []
  pub acked : awaits_ack (of_item s past) ≡ false
  pub made : HasMadeNone s past

-- a SAVEPOINT in the transaction that was open, or in the one that it opened
abbrev pub SavesIn : Bool → ℕ → List Event → Type 0
SavesIn false s past = (of_item s past ≡ []) × IsOpen s past
SavesIn true s past = HasOpened s past × IsClosed s (before_item s past) × (own s (before_item s past) ≡ []) × (did commits_txn s past ≡ false)

-- a ROLLBACK TO has put back changes behind its savepoint alone
pub record IsGoingBack (s made : ℕ) (past : List Event) : Type 0 where
  pub stays : StaysIn s past
  pub keeps : oldest made (own s past) ≡ oldest made (own s (before_item s past))
  pub acked : awaits_ack (of_item s past) ≡ false

-- a ROLLBACK TO whose savepoint is not there
pub record IsMissing (s : ℕ) (name : List ℕ) (past : List Event) : Type 0 where
  pub asks : Asks Spells s (stmt.RollbackTo name) past
  pub setting : Setting
  pub is_set : HasSet Spells s (before_item s past) setting
  pub missing : made_at name setting.saves ≡ None
  pub nothing : of_item s past ≡ []
  pub rows_alone : HasRowsAlone s past

-- a statement that may end as done
pub record IsFinished (s : ℕ) (statement : Stmt) (past : List Event) : Type 0 where
  pub takes : Takes Spells s statement past
  pub ends : EndsTaken s takes.setting statement Done past
  pub acked : awaits_ack (of_item s past) ≡ false
  pub no_victim : did is_victim s past ≡ false
  pub quiet : SetsQuietly statement s past
  pub rows_alone : HasRowsAlone s past
