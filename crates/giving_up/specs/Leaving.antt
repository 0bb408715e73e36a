-- What is known of a statement on rows between the steps by which it ends: of the past, of who may write, and of what the session
-- has under way.
use Rattle.std.specs.Prelude.{◌≡◌, ◌⊎◌, ℕ, ◌<◌, Bool, true, false, Option, List, [], ◌++◌, length}
use Rattle.inno_types.specs.declared.stmt.Stmt.{Stmt}
use Rattle.inno_types.specs.declared.reply.Reply.{Reply}
use Rattle.inno_types.specs.declared.reply.Reply.TheVariants.{NoMemory, Fail}
use Rattle.inno_types.specs.declared.reply.SqlError.TheVariants as errors
use Rattle.inno_db.specs.declared.change.Change.{Change}
use Rattle.inno_model.specs.declared.event.Event.{Event}
use Rattle.inno_model.specs.Past.{before_item, of_item, did, begins_txn, commits_txn, rolls_back_txn, level, own, awaits_ack, IsOpen, IsClosed}
use Rattle.sql_grammar.specs.Grammar.{Spells}
use Rattle.sql_history.specs.Items.{is_over, own_before}
use Rattle.sql_history.specs.Settings.{Setting}
use Rattle.sql_history.specs.Legal.{Takes, IsWriting}
use Rattle.sql_history.specs.Waiting.{is_victim}
use Rattle.shared_lists.specs.Tasks.{Task, Idle, MayTakeBack}
use Rattle.shared_lists.specs.State.{State, task_of}
use Rattle.shared_lists.specs.declared.answers.Hindrance.{Hindrance}
use Rattle.shared_lists.specs.declared.answers.Hindrance.TheVariants as hindrances
use Rattle.sql_lists.specs.Steps.{HasRowsAlone}
use Rattle.giving_up.specs.declared.leaving.Work.{Work}
use Rattle.giving_up.specs.declared.leaving.Leaving.{Leaving}
use Rattle.giving_up.specs.declared.leaving.Leaving.TheVariants as leaving
use Rattle.giving_up.specs.Replies.{is_count, HasReply, KeepsReply}
use Rattle.giving_up.specs.Ends.{IsClosing, IsFailed}

-- ---- its transaction

-- The statement works in the transaction that was open before its item.
pub record Joins (s : ℕ) (past : List Event) : Type 0 where
  pub was_open : IsOpen s (before_item s past)
  pub stays : level s past ≡ level s (before_item s past)
  pub not_begun : did begins_txn s past ≡ false

-- Its item opened the transaction.
pub record HasOpened (s : ℕ) (past : List Event) : Type 0 where
  pub was_closed : IsClosed s (before_item s past)
  pub had_none : own s (before_item s past) ≡ []
  pub begun : did begins_txn s past ≡ true

abbrev pub InTxn : Bool → Setting → ℕ → List Event → Type 0
InTxn true setting s past = HasOpened s past × (setting.autocommit ≡ true)
InTxn false setting s past = Joins s past ⊎ (HasOpened s past × (setting.autocommit ≡ false))

-- It has a transaction, which it has not ended.
pub record IsWorking (s : ℕ) (statement : Stmt) (alone : Bool) (past : List Event) : Type 0 where
  pub takes : Takes Spells s statement past
  pub writes : IsWriting statement
  pub in_txn : InTxn alone takes.setting s past
  pub is_open : IsOpen s past
  pub not_committed : did commits_txn s past ≡ false
  pub not_rolled_back : did rolls_back_txn s past ≡ false
  pub no_victim : did is_victim s past ≡ false
  pub had : own_before s past ≡ own s (before_item s past)
  pub rows_alone : HasRowsAlone s past

-- ---- its changes are taken back

-- the point of a statement that is not over is its past, which goes on beside what its reply rests on
pub record MovesOn (s count : ℕ) (kept : Reply) (statement : Stmt) (past : List Event) (writer : Option ℕ) : Type 0 where
  pub not_over : is_over s past ≡ false
  pub stays : ((kept ≡ NoMemory) × (count ≡ 0)) ⊎ KeepsReply s count kept statement past writer

pub record IsBackingOut (past : List Event) (writer : Option ℕ) (s : ℕ) (work : Work) : Type 0 where
  pub statement : Stmt
  pub working : IsWorking s statement work.alone past
  pub before_is : work.before ≡ length (own_before s past)
  pub same : work.given ≡ work.kept
  pub backs : is_count work.kept ≡ false
  pub reply : HasReply s statement work.kept past
  pub moves : (is_over s past ≡ true) ⊎ MovesOn s reply.count work.kept statement past writer
  -- its changes that stand
  pub rest : List Change
  pub own_is : own s past ≡ rest ++ own_before s past

-- Nothing is under way; or the newest change is to be taken back, or is being so, and is none of the first so many.
abbrev pub MayGoBack : ℕ → ℕ → List Event → Task → Type 0
MayGoBack before s past task = (task ≡ Idle) ⊎ (MayTakeBack task × (before < length (own s past)))

-- a statement that is given up for want of memory
abbrev pub given_up : Bool → ℕ → Work
given_up alone before = record { alone = alone; before = before; kept = NoMemory; given = NoMemory }

-- the reply that names what a change lacked
abbrev pub reply_for : Hindrance → Reply
reply_for hindrances.NoMemory = NoMemory
reply_for (hindrances.Full need free) = Fail (errors.Full need free)
reply_for hindrances.TooDeep = Fail errors.TooDeep

-- a statement that is given up amid its changes
abbrev pub given_up_for : Hindrance → Bool → ℕ → Work
given_up_for why alone before = record { alone = alone; before = before; kept = reply_for why; given = reply_for why }

-- ---- the end

-- its commit is yet to be acknowledged
abbrev pub owes_ack : Leaving → Bool
owes_ack (leaving.Unacked kept given) = true
owes_ack other = false

-- the statement behind that
abbrev pub acked : Leaving → Leaving
acked (leaving.Unacked kept given) = leaving.Ending kept given
acked other = other

abbrev pub IsLeaving : State → ℕ → Leaving → Type 0
IsLeaving state s (leaving.BackingOut work) = IsBackingOut state.past state.writer s work × MayGoBack work.before s state.past (task_of s state)
IsLeaving state s (leaving.Failed alone) = IsFailed s alone state.past × (task_of s state ≡ Idle)
IsLeaving state s (leaving.Unacked kept given) =
    IsClosing s kept given state.past × (awaits_ack (of_item s state.past) ≡ true) × IsClosed s state.past × (task_of s state ≡ Idle)
IsLeaving state s (leaving.Ending kept given) = IsClosing s kept given state.past × (awaits_ack (of_item s state.past) ≡ false) × (task_of s state ≡ Idle)
IsLeaving state s leaving.Ended = ⊥
