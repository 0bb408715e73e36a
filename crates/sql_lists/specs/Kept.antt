-- What is kept beside the lists agrees with the past, which is legal.
use Rattle.std.specs.Prelude.{◌≡◌, ◌≢◌, ℕ, ◌≤◌, Bool, true, false, Option, None, Some, List, [], ◌∷◌, ◌++◌, length, slice_index_or}
use Rattle.std.specs.List.{list_any}
use Rattle.inno_types.specs.declared.reply.Item.{Item}
use Rattle.inno_types.specs.declared.reply.Item.TheVariants as items
use Rattle.inno_types.specs.{declared.reply.Reply.Reply, declared.stmt.Stmt.Stmt, declared.stmt.Stmt.TheVariants.Savepoint, declared.value.Schema.Schema}
use Rattle.inno_model.specs.declared.event.Event.{Event}
use Rattle.inno_db.specs.{declared.limits.TheConstants.MOST_TABLES, declared.change.Change.Change, declared.change.Change.TheVariants.Create}
use Rattle.inno_model.specs.Past.{under_way, of_item, own, commits, committed, opening, awaits_ack, IsClosed}
use Rattle.sql_grammar.specs.Grammar.{Spells}
use Rattle.sql_history.specs.{Settings.Setting, Settings.HasSet, Settings.at_first, Counts.has_stopped, Counts.rows_kept, Counts.most_rows, Legal.IsLegal}
use Rattle.sql_history.specs.{Legal.EndsBy, Legal.owes_commit, Statements.schemas_now}
use Rattle.law_past_agreement.specs.Order.{created, is_creation, IsTabled, IsOrdered}

-- No open transaction has made a table: those that were made are those that stand for each session, and they are few.
pub record AreStanding (past : List Event) : Type 0 where
  pub none : (s : ℕ) → list_any is_creation (own s past) ≡ false
  pub tables : (s : ℕ) → created past ≡ schemas_now s past
  pub few : length (created past) ≤ MOST_TABLES

-- the tables that changes make, the first made first
abbrev pub made : List Change → List Schema
made [] = []
made (Create schema ∷ changes) = made changes ++ schema ∷ []
made (other ∷ changes) = made changes

-- Each change of a row is of one of these tables, or of one that an earlier change makes. The newest change stands first.
abbrev pub AreInOrder : List Schema → List Change → Type 0
AreInOrder tables [] = Unit {0}
AreInOrder tables (change ∷ earlier) = IsTabled (length (tables ++ made earlier)) change × AreInOrder tables earlier

-- so are the changes that a session sees of the latest rows
abbrev pub IsInOrder : List Event → Type 0
IsInOrder past = (s : ℕ) → AreInOrder (opening past).schemas (own s past ++ committed (commits past) past)

pub record IsKept (names : List (List ℕ)) (past : List Event) (settings : List Setting) (rows : ℕ) : Type 0 where
  pub legal : IsLegal Spells past
  pub opened : past ≢ []
  pub comes : IsOrdered past
  -- what each session has set; there may be settings of some that are yet to join
  pub set : (s : ℕ) → HasSet Spells s past (slice_index_or settings s at_first)
  pub enough : length names ≤ length settings
  pub counted : rows ≡ rows_kept past
  pub few : rows ≤ most_rows
  -- the engine has not stopped, and no view waits for its commit
  pub runs : has_stopped past ≡ false
  pub paid : owes_commit past ≡ None
  pub stands : AreStanding past
  pub ordered : IsInOrder past

-- the session's item may end so now
pub record MayReply (s : ℕ) (reply : Reply) (past : List Event) : Type 0 where
  pub item : Item
  pub asked : under_way s past ≡ Some item
  pub ends : EndsBy false Spells s item reply past

-- the item gives a signal, or awaits one
abbrev pub is_of_signal : Option Item → Bool
is_of_signal (Some (items.Signal name)) = true
is_of_signal (Some (items.Await name)) = true
is_of_signal other = false

-- the session's commit is yet to be acknowledged
pub record OwesAck (s : ℕ) (past : List Event) : Type 0 where
  pub owed : awaits_ack (of_item s past) ≡ true
  pub closed : IsClosed s past

-- the statement keeps no savepoint
abbrev pub SetsQuietly : Stmt → ℕ → List Event → Type 0
SetsQuietly (Savepoint name) s past = IsClosed s past
SetsQuietly other s past = Unit {0}
