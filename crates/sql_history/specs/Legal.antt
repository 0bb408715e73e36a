-- Which histories are legal: each entry may follow those before it. Stated for any language of texts.
use Rattle.std.specs.Prelude.{◌≡◌, ◌≢◌, ◌⊎◌, ℕ, ◌+◌, ◌≤◌, ◌<◌, ◌==◌, if◌then◌else◌, List, [], ◌∷◌, Bool, true, false, ◌&&◌, length, Option, Some, None, is_none}
use Rattle.inno_types.specs.declared.lock.Level.{Level}
use Rattle.inno_types.specs.declared.lock.Level.TheVariants.{ReadUncommitted, ReadCommitted, RepeatableRead, Serializable}
use Rattle.inno_types.specs.declared.lock.Lock.{Lock}
use Rattle.inno_types.specs.declared.reply.Item.{Item}
use Rattle.inno_types.specs.declared.reply.Item.TheVariants as items
use Rattle.inno_types.specs.declared.reply.Reply.{Reply}
use Rattle.inno_types.specs.declared.reply.Reply.TheVariants as replies
use Rattle.inno_types.specs.declared.reply.SqlError.{SqlError}
use Rattle.inno_types.specs.declared.reply.SqlError.TheVariants as errors
use Rattle.inno_types.specs.declared.stmt.Stmt.{Stmt}
use Rattle.inno_types.specs.declared.stmt.Stmt.TheVariants as stmt
use Rattle.inno_db.specs.declared.change.Change.{Change}
use Rattle.inno_db.specs.Database.{Database, Place}
use Rattle.inno_db.specs.Outcome.{outcome}
use Rattle.inno_model.specs.declared.event.Event.{Event}
use Rattle.inno_model.specs.declared.event.Event.TheVariants as events
use Rattle.inno_db.specs.Changes.{place_of, Spares}
use Rattle.inno_model.specs.Moments.{Sometime}
use Rattle.inno_model.specs.Past.{started, under_way, before_item, of_item, did, begins_txn, takes_view, commits_txn, rolls_back_txn, begins, level, own, view_of, oldest, awaits_ack, IsOpen, IsClosed}
use Rattle.sql_history.specs.Items.{Language, Asks, is_over, own_before, base, point, HasMade}
use Rattle.sql_history.specs.Settings.{Setting, HasSet, next_level, made_at}
use Rattle.sql_history.specs.Statements.{Sight, is_on_rows, is_select, sight_of, refused_at_once}
use Rattle.sql_history.specs.LooseReading.{newest}
use Rattle.sql_history.specs.Answers.{MaySee, Answers, BreaksOff}
use Rattle.sql_history.specs.Endings.{StaysIn, Opens, Commits, RollsBack, Goes, BacksOut}
use Rattle.sql_history.specs.Waiting.{IsFitting, IsWaitOf, IsVictim, is_victim, NamesCycle, request_in}
use Rattle.sql_history.specs.Counts.{has_stopped, last_moment, signals, signals_asked, signals_done, rows_of_reply, rows_kept, most_rows}
use Rattle.lock_rules.specs.Conflicts.{conflicts}

-- ---- what the session's item asks for

-- A statement that nothing refused before it saw a row, and what its session had set. Which tables are there is looked
-- at once in the item, at some moment of it.
pub record Takes (says : Language) (s : ℕ) (statement : Stmt) (past : List Event) : Type 0 where
  pub asks : Asks says s statement past
  pub setting : Setting
  pub is_set : HasSet says s (before_item s past) setting
  pub not_refused : Sometime (λ h. refused_at_once s setting statement h ≡ None) s past

-- the statement has a transaction for itself alone
abbrev pub is_alone : ℕ → Setting → List Event → Bool
is_alone s setting past = setting.autocommit && is_none (level s (before_item s past))

-- how the statement sees rows, in a transaction of this level
abbrev pub sight_in : Level → ℕ → Setting → Stmt → List Event → Sight
sight_in level s setting statement past = sight_of level (is_alone s setting past) statement

-- ---- when transactions begin and end

-- BEGIN, a statement on rows, a savepoint without autocommit, and the making of a table open a transaction.
abbrev pub BeginsBy : ℕ → Setting → Stmt → List Event → Type 0
BeginsBy s setting (stmt.Begin snapshot) past = Unit {0}
BeginsBy s setting (stmt.Savepoint name) past = setting.autocommit ≡ false
BeginsBy s setting (stmt.CreateTable table if_not_exists definitions) past =
    (outcome (stmt.CreateTable table if_not_exists definitions) (base s past)).changes ≢ []
BeginsBy s setting statement past = is_on_rows statement ≡ true

pub record MayBegin (says : Language) (s : ℕ) (number : ℕ) (l : Level) (past : List Event) : Type 0 where
  pub numbered : number ≡ begins past + 1
  pub closed : IsClosed s past
  pub first : did begins_txn s past ≡ false
  pub acked : awaits_ack (of_item s past) ≡ false
  pub statement : Stmt
  pub takes : Takes says s statement past
  pub level_is : l ≡ next_level takes.setting
  pub by : BeginsBy s takes.setting statement past

-- an autocommit statement whose answer is settled, and is no refusal
pub record IsSettled (s : ℕ) (setting : Setting) (statement : Stmt) (past : List Event) : Type 0 where
  pub alone : is_alone s setting past ≡ true
  pub not_over : is_over s past ≡ false
  pub l : Level
  pub level_is : level s past ≡ Some l
  pub reply : Reply
  pub answers : Answers (sight_in l s setting statement past) s statement reply past
  pub not_refused : (error : SqlError) → reply ≢ replies.Fail error

-- COMMIT; what commits an open transaction first; the making of a table; and a statement that is a transaction of its own
abbrev pub CommitsBy : ℕ → Setting → Stmt → List Event → Type 0
CommitsBy s setting stmt.Commit past = Unit {0}
CommitsBy s setting (stmt.Begin snapshot) past = did begins_txn s past ≡ false
CommitsBy s setting (stmt.SetAutocommit true) past = setting.autocommit ≡ false
CommitsBy s setting (stmt.CreateTable table if_not_exists definitions) past =
    (did begins_txn s past ≡ false) ⊎ HasMade (length (outcome (stmt.CreateTable table if_not_exists definitions) (base s past)).changes) s
    (outcome (stmt.CreateTable table if_not_exists definitions) (base s past)).changes past
CommitsBy s setting statement past = (is_on_rows statement ≡ true) × IsSettled s setting statement past

pub record MayCommit (says : Language) (s : ℕ) (past : List Event) : Type 0 where
  pub is_open : IsOpen s past
  pub statement : Stmt
  pub takes : Takes says s statement past
  pub by : CommitsBy s takes.setting statement past

-- ROLLBACK puts back all changes of its transaction, ROLLBACK TO those behind its savepoint, and a statement that is
-- given up its own, unless its transaction is rolled back whole. A table whose making is given up goes with its own
-- transaction.
abbrev pub UndoesBy : ℕ → ℕ → Setting → Stmt → List Event → Type 0
UndoesBy s keep setting stmt.Rollback past = Unit {0}
UndoesBy s keep setting (stmt.RollbackTo name) past = (made : ℕ) × (made_at name setting.saves ≡ Some made) × (made ≤ keep)
UndoesBy s keep setting (stmt.CreateTable table if_not_exists definitions) past = did begins_txn s past ≡ true
UndoesBy s keep setting statement past = (is_on_rows statement ≡ true) × ((length (own_before s past) ≤ keep) ⊎ (did is_victim s past ≡ true))

-- the session is ending: it has no item under way
abbrev pub IsEnding : ℕ → List Event → Type 0
IsEnding s past = under_way s past ≡ None

pub record MayUndo (says : Language) (s keep : ℕ) (past : List Event) : Type 0 where
  pub is_open : IsOpen s past
  pub one : length (own s past) ≡ keep + 1
  pub by : IsEnding s past ⊎ ((statement : Stmt) × (takes : Takes says s statement past) × UndoesBy s keep takes.setting statement past)

-- ROLLBACK, the rollback of a victim, and a statement that is given up with its own transaction
abbrev pub RollsBackBy : ℕ → Setting → Stmt → List Event → Type 0
RollsBackBy s setting stmt.Rollback past = Unit {0}
RollsBackBy s setting (stmt.Begin snapshot) past = did begins_txn s past ≡ true
RollsBackBy s setting (stmt.CreateTable table if_not_exists definitions) past = did begins_txn s past ≡ true
RollsBackBy s setting statement past = (is_on_rows statement ≡ true) × ((did is_victim s past ≡ true) ⊎ (is_alone s setting past ≡ true))

pub record MayRollBack (says : Language) (s : ℕ) (past : List Event) : Type 0 where
  pub is_open : IsOpen s past
  pub all_undone : own s past ≡ []
  pub by : IsEnding s past ⊎ ((statement : Stmt) × (takes : Takes says s statement past) × RollsBackBy s takes.setting statement past)

-- ---- where views are taken

-- A consistent read at REPEATABLE READ takes its view where its transaction has none, at READ COMMITTED always, and
-- with autocommit at SERIALIZABLE, where its commit stands at its view.
abbrev pub TakesView : Level → ℕ → List Event → Type 0
TakesView ReadUncommitted s past = ⊥
TakesView ReadCommitted s past = did takes_view s past ≡ false
TakesView RepeatableRead s past = view_of s past ≡ None
TakesView Serializable s past = did takes_view s past ≡ false

abbrev pub ViewsBy : Level → ℕ → Setting → Stmt → List Event → Type 0
ViewsBy l s setting (stmt.Begin true) past = (l ≡ RepeatableRead) × (did begins_txn s past ≡ true) × (view_of s past ≡ None)
ViewsBy l s setting (stmt.Select selected table condition lock) past =
    (sight_in l s setting (stmt.Select selected table condition lock) past ≡ Sight.of_view) × TakesView l s past
ViewsBy l s setting other past = ⊥

pub record MayView (says : Language) (s : ℕ) (past : List Event) : Type 0 where
  pub statement : Stmt
  pub takes : Takes says s statement past
  pub l : Level
  pub level_is : level s past ≡ Some l
  pub by : ViewsBy l s takes.setting statement past

-- ---- changes

-- the statement changes rows
abbrev pub IsWriting : Stmt → Type 0
IsWriting (stmt.Insert table columns tuples) = Unit {0}
IsWriting (stmt.Update table sets condition) = Unit {0}
IsWriting (stmt.Delete table condition) = Unit {0}
IsWriting other = ⊥

-- a table is made in a transaction of its own
abbrev pub ChangesBy : ℕ → Stmt → List Event → Type 0
ChangesBy s (stmt.CreateTable table if_not_exists definitions) past = did begins_txn s past ≡ true
ChangesBy s other past = IsWriting other

-- no two open transactions have changes on one key
abbrev pub IsFree : ℕ → Change → List Event → Type 0
IsFree s change past =
    (place : Place) → place_of (newest past).schemas change ≡ Some place → (other : ℕ) → other ≢ s → Spares (newest past) place (own other past)

pub record MayChange (says : Language) (s : ℕ) (change : Change) (past : List Event) : Type 0 where
  pub is_open : IsOpen s past
  pub not_over : is_over s past ≡ false
  pub statement : Stmt
  pub takes : Takes says s statement past
  pub by : ChangesBy s statement past
  pub free : IsFree s change past
  pub within : rows_kept (events.Changed s change ∷ past) ≤ most_rows

-- ---- how items end

abbrev pub IsCreation : Stmt → Type 0
IsCreation (stmt.CreateTable table if_not_exists definitions) = Unit {0}
IsCreation other = ⊥

-- what an item has changed that ends before its answer: the first changes of some outcome that it could have had
abbrev pub BrokeOff : ℕ → Setting → Stmt → List Event → Type 0
BrokeOff s setting statement past = (l : Level) → level s (point s past) ≡ Some l → BreaksOff (sight_in l s setting statement past) s statement past

-- What an item that asks for a statement has changed; nothing, where it asks for none.
abbrev pub MadeSome : Language → ℕ → List Event → Type 0
MadeSome says s past =
    (own s (point s past) ≡ own_before s (point s past))
    ⊎ ((statement : Stmt) × (takes : Takes says s statement past) × BrokeOff s takes.setting statement past)

-- a statement on rows that was refused amid its work
pub record IsGivenUp (says : Language) (s : ℕ) (past : List Event) : Type 0 where
  pub statement : Stmt
  pub on_rows : is_on_rows statement ≡ true
  pub takes : Takes says s statement past
  pub no_victim : did is_victim s past ≡ false
  pub broke_off : BrokeOff s takes.setting statement past
  pub backs_out : BacksOut (level s (before_item s past)) takes.setting.autocommit s past

-- A SELECT with autocommit whose commit stands already when its reply is broken off. It changed nothing.
pub record WasCommitted (says : Language) (s : ℕ) (past : List Event) : Type 0 where
  pub statement : Stmt
  pub select : is_select statement ≡ true
  pub takes : Takes says s statement past
  pub begun : did begins_txn s past ≡ true
  pub commits : Commits s past
  pub nothing : own s (point s past) ≡ []

-- the victim of a deadlock is rolled back whole
pub record IsRolledBackWhole (says : Language) (s : ℕ) (past : List Event) : Type 0 where
  pub statement : Stmt
  pub on_rows : is_on_rows statement ≡ true
  pub takes : Takes says s statement past
  pub broke_off : BrokeOff s takes.setting statement past
  pub rolled_back : RollsBack s past

-- a table for which no page is free: nothing is begun or committed
pub record IsUnmade (says : Language) (s : ℕ) (past : List Event) : Type 0 where
  pub statement : Stmt
  pub takes : Takes says s statement past
  pub makes : BeginsBy s takes.setting statement past
  pub is_creation : IsCreation statement
  pub nothing : of_item s past ≡ []

-- a request that waited for 50 seconds, and a lock of another for which it waited
pub record HasTimedOut (s : ℕ) (held : Lock) (waited : ℕ) (past : List Event) : Type 0 where
  pub long : 50 ≤ waited
  pub asked : Lock
  pub request : request_in (of_item s past) ≡ Some asked
  pub blocks : conflicts held asked ≡ true

-- a statement on rows: its answer, and a consistent read's own view at READ COMMITTED
pub record AnswersRows (s : ℕ) (setting : Setting) (statement : Stmt) (reply : Reply) (past : List Event) : Type 0 where
  pub l : Level
  pub level_is : level s (point s past) ≡ Some l
  pub answers : Answers (sight_in l s setting statement past) s statement reply past
  pub viewed : sight_in l s setting statement past ≡ Sight.of_view → l ≢ RepeatableRead → did takes_view s past ≡ true

abbrev pub EndsRows : ℕ → Setting → Reply → List Event → Type 0
EndsRows s setting (replies.Fail error) past = BacksOut (level s (before_item s past)) setting.autocommit s past
EndsRows s setting other past = Goes (level s (before_item s past)) setting.autocommit s past

-- a table that is there is skipped, and an open transaction committed all the same
abbrev pub EndsCreate : ℕ → List Change → List Event → Type 0
EndsCreate s [] past = IsClosed s past × (did begins_txn s past ≡ false) × (did rolls_back_txn s past ≡ false)
EndsCreate s changes past = Commits s past × (did begins_txn s past ≡ true) × HasMade (length changes) s changes (point s past)

pub record EndsBegin (s : ℕ) (snapshot : Bool) (past : List Event) : Type 0 where
  pub opens : Opens s past
  pub new : own s past ≡ []
  pub view : snapshot ≡ true → level s past ≡ Some RepeatableRead → did takes_view s past ≡ true

-- without autocommit SAVEPOINT opens a transaction where none is open
abbrev pub EndsSavepoint : Option Level → Bool → ℕ → List Event → Type 0
EndsSavepoint None false s past = Opens s past × (own s past ≡ []) × (did commits_txn s past ≡ false)
EndsSavepoint before autocommit s past = of_item s past ≡ []

-- autocommit that is turned on commits an open transaction
abbrev pub EndsAutocommit : Bool → Bool → ℕ → List Event → Type 0
EndsAutocommit false true s past = IsClosed s past × (did begins_txn s past ≡ false) × (did rolls_back_txn s past ≡ false)
EndsAutocommit was on s past = of_item s past ≡ []

-- how a statement ends that nothing refused at once
abbrev pub EndsTaken : ℕ → Setting → Stmt → Reply → List Event → Type 0
EndsTaken s setting (stmt.CreateTable table if_not_exists definitions) reply past =
    (reply ≡ replies.Done) × EndsCreate s (outcome (stmt.CreateTable table if_not_exists definitions) (base s (point s past))).changes past
EndsTaken s setting (stmt.Begin snapshot) reply past = (reply ≡ replies.Done) × EndsBegin s snapshot past
EndsTaken s setting stmt.Commit reply past = (reply ≡ replies.Done) × IsClosed s past × (did rolls_back_txn s past ≡ false)
EndsTaken s setting stmt.Rollback reply past = (reply ≡ replies.Done) × IsClosed s past × (did commits_txn s past ≡ false)
EndsTaken s setting (stmt.RollbackTo name) reply past =
    (reply ≡ replies.Done) × StaysIn s past × ((made : ℕ) × (made_at name setting.saves ≡ Some made) × (own s past ≡ oldest made (own s (before_item s past))))
EndsTaken s setting (stmt.Savepoint name) reply past = (reply ≡ replies.Done) × EndsSavepoint (level s (before_item s past)) setting.autocommit s past
EndsTaken s setting (stmt.SetAutocommit on) reply past = (reply ≡ replies.Done) × EndsAutocommit setting.autocommit on s past
EndsTaken s setting (stmt.SetLevel scope l) reply past = (reply ≡ replies.Done) × (of_item s past ≡ [])
EndsTaken s setting statement reply past = AnswersRows s setting statement reply past × EndsRows s setting reply past

-- A refusal at once comes first, and does nothing.
abbrev pub EndsAsked : Option SqlError → ℕ → Setting → Stmt → Reply → List Event → Type 0
EndsAsked (Some error) s setting statement reply past = (reply ≡ replies.Fail error) × (of_item s past ≡ [])
EndsAsked None s setting statement reply past = EndsTaken s setting statement reply past

pub record EndsStatement (says : Language) (s : ℕ) (reply : Reply) (past : List Event) : Type 0 where
  pub statement : Stmt
  pub asks : Asks says s statement past
  pub setting : Setting
  pub is_set : HasSet says s (before_item s past) setting
  pub refusal : Option SqlError
  pub found : Sometime (λ h. refused_at_once s setting statement h ≡ refusal) s past
  pub ends : EndsAsked refusal s setting statement reply past
  pub no_victim : did is_victim s past ≡ false

-- A text that is no statement is refused, and does nothing.
pub record IsNoStatement (says : Language) (s : ℕ) (reply : Reply) (past : List Event) : Type 0 where
  pub none : (statement : Stmt) → Asks says s statement past → ⊥
  pub place : ℕ
  pub answer : reply ≡ replies.Fail (errors.Syntax place)
  pub nothing : of_item s past ≡ []

-- What would come next, and how many rows it would bring: the rows of an answer, or one that is put.
abbrev pub NextBrings : Sight → ℕ → Stmt → ℕ → List Event → Type 0
NextBrings sight s (stmt.Select selected table condition lock) more past =
    (db : Database) × MaySee sight s (stmt.Select selected table condition lock) db (point s past) ×
    (more ≡ rows_of_reply (outcome (stmt.Select selected table condition lock) db).reply)
NextBrings sight s (stmt.Insert table columns tuples) more past = more ≡ 1
NextBrings sight s (stmt.Update table sets condition) more past = more ≡ 1
NextBrings sight s other more past = ⊥

-- the next entry would bring the history to so many rows, which are too many
pub record IsOverfull (says : Language) (s rows : ℕ) (past : List Event) : Type 0 where
  pub many : most_rows < rows
  pub statement : Stmt
  pub takes : Takes says s statement past
  pub l : Level
  pub level_is : level s (point s past) ≡ Some l
  pub more : ℕ
  pub brings : NextBrings (sight_in l s takes.setting statement past) s statement more past
  pub sum : Sometime (λ h. rows ≡ rows_kept h + more) s past

-- ---- want of memory

-- a statement without autocommit may leave the transaction that it opened
abbrev pub MayLeaveOpen : Setting → Stmt → Type 0
MayLeaveOpen setting (stmt.Begin snapshot) = ⊥
MayLeaveOpen setting (stmt.CreateTable table if_not_exists definitions) = ⊥
MayLeaveOpen setting statement = setting.autocommit ≡ false

-- The item leaves its transaction as it was, or one that it may leave open.
pub record LeavesIt (says : Language) (s : ℕ) (past : List Event) : Type 0 where
  pub own_stay : own s past ≡ own s (before_item s past)
  pub not_committed : did commits_txn s past ≡ false
  pub not_rolled_back : did rolls_back_txn s past ≡ false
  pub no_victim : did is_victim s past ≡ false
  pub begun : (did begins_txn s past ≡ false) ⊎ ((statement : Stmt) × (takes : Takes says s statement past) × MayLeaveOpen takes.setting statement)

-- BEGIN and CREATE TABLE commit an open transaction first
abbrev pub BringsCommit : Stmt → Type 0
BringsCommit (stmt.Begin snapshot) = Unit {0}
BringsCommit (stmt.CreateTable table if_not_exists definitions) = Unit {0}
BringsCommit other = ⊥

-- Such a statement finds no memory for a transaction of its own: what was open before is committed, nothing is changed, and
-- nothing is open. A transaction that it began is rolled back.
pub record CommittedFirst (says : Language) (s : ℕ) (past : List Event) : Type 0 where
  pub statement : Stmt
  pub takes : Takes says s statement past
  pub brings : BringsCommit statement
  pub closed : IsClosed s past
  pub made : own s (point s past) ≡ own_before s (point s past)
  pub begun : (did begins_txn s past ≡ false) ⊎ (did rolls_back_txn s past ≡ true)
  pub no_victim : did is_victim s past ≡ false

-- An item that finds no memory leaves none of its changes, and commits nothing but what it brings the commit of; whatever
-- entries of its it lacks.
pub record WantsMemory (says : Language) (s : ℕ) (past : List Event) : Type 0 where
  pub leaves : RollsBack s past ⊎ (WasCommitted says s past ⊎ (CommittedFirst says s past ⊎ LeavesIt says s past))
  pub made : MadeSome says s past

-- ---- want of pages

-- fewer pages are free than are needed, or a tree would have a ninth level
abbrev pub LacksPages : SqlError → Type 0
LacksPages (errors.Full need free) = free < need
LacksPages errors.TooDeep = Unit {0}
LacksPages other = ⊥

-- a reply that breaks off an item
abbrev pub EndsEarly : Language → ℕ → Reply → List Event → Type 0
EndsEarly says s (replies.Fail (errors.Deadlock cycle)) past = NamesCycle cycle (of_item s past) × IsRolledBackWhole says s past
EndsEarly says s (replies.Fail (errors.Timeout held waited)) past =
    HasTimedOut s held waited past × Sometime (IsFitting says held) s past × IsGivenUp says s past
EndsEarly says s (replies.Fail error) past = LacksPages error × IsGivenUp says s past
EndsEarly says s (replies.RunLimit rows) past = IsOverfull says s rows past × (IsGivenUp says s past ⊎ WasCommitted says s past)
EndsEarly says s replies.NoMemory past = WantsMemory says s past
EndsEarly says s other past = ⊥

-- a signal is given once, and one that is awaited stays
abbrev pub EndsSignal : ℕ → List ℕ → Reply → List Event → Type 0
EndsSignal s name replies.Done past = (signals_done name past < signals name past) × (of_item s past ≡ [])
EndsSignal s name replies.NoMemory past = of_item s past ≡ []
EndsSignal s name other past = ⊥

abbrev pub EndsAwait : ℕ → List ℕ → Reply → List Event → Type 0
EndsAwait s name replies.Done past = (0 < signals name past) × (of_item s past ≡ [])
EndsAwait s name (replies.NotSignalled waited) past = (50 ≤ waited) × (signals name past ≡ 0) × (of_item s past ≡ [])
EndsAwait s name replies.NoMemory past = of_item s past ≡ []
EndsAwait s name other past = ⊥

abbrev pub EndsItem : Language → ℕ → Item → Reply → List Event → Type 0
EndsItem says s (items.Sql text) reply past = EndsStatement says s reply past ⊎ (IsNoStatement says s reply past ⊎ EndsEarly says s reply past)
EndsItem says s (items.Signal name) reply past = EndsSignal s name reply past
EndsItem says s (items.Await name) reply past = EndsAwait s name reply past

-- rows that are answered don't overfill the history
abbrev pub IsWithin : Reply → List Event → Type 0
IsWithin reply past = (rows_of_reply reply ≡ 0) ⊎ (rows_kept past + rows_of_reply reply ≤ most_rows)

-- after a stop each item answers that, and none before it does
abbrev pub EndsBy : Bool → Language → ℕ → Item → Reply → List Event → Type 0
EndsBy true says s item reply past = (reply ≡ replies.Stopped) × MadeSome says s past
EndsBy false says s item reply past = (awaits_ack (of_item s past) ≡ false) × IsWithin reply past × EndsItem says s item reply past

pub record MayEnd (says : Language) (s j : ℕ) (reply : Reply) (past : List Event) : Type 0 where
  pub numbered : j ≡ started s past
  pub item : Item
  pub asked : under_way s past ≡ Some item
  pub ends : EndsBy (has_stopped past) says s item reply past

-- ---- what may come next

-- the session is on its way out: its transaction is being rolled back with no item under way
abbrev pub is_leaving : ℕ → List Event → Bool
is_leaving s [] = false
is_leaving s (events.Started t j item ∷ past) = if t == s then false else is_leaving s past
is_leaving s (events.Ended t j reply ∷ past) = if t == s then false else is_leaving s past
is_leaving s (events.Undone t keep ∷ past) = if t == s then true else is_leaving s past
is_leaving s (events.RolledBack t ∷ past) = if t == s then true else is_leaving s past
is_leaving s (other ∷ past) = is_leaving s past

pub record MayStart (s j : ℕ) (past : List Event) : Type 0 where
  pub idle : under_way s past ≡ None
  pub stays : is_leaving s past ≡ false
  pub numbered : j ≡ started s past + 1

pub record MayAck (s moment : ℕ) (past : List Event) : Type 0 where
  pub owed : awaits_ack (of_item s past) ≡ true
  pub closed : IsClosed s past
  pub later : last_moment past ≤ moment

pub record MaySignal (name : List ℕ) (past : List Event) : Type 0 where
  pub s : ℕ
  pub asked : under_way s past ≡ Some (items.Signal name)
  pub first : signals name past < signals_asked name past

-- the entry may come after this past, of an engine that has not stopped
abbrev pub MayAdd : Language → List Event → Event → Type 0
MayAdd says past (events.Begin s number l) = MayBegin says s number l past
MayAdd says past (events.View s) = MayView says s past
MayAdd says past (events.Changed s change) = MayChange says s change past
MayAdd says past (events.Waits s lock blockers at) = IsWaitOf says s lock blockers past
MayAdd says past (events.Victim s cycle) = IsVictim says s cycle past
MayAdd says past (events.Undone s keep) = MayUndo says s keep past
MayAdd says past (events.Committed s) = MayCommit says s past
MayAdd says past (events.Acked s moment) = MayAck s moment past
MayAdd says past (events.RolledBack s) = MayRollBack says s past
MayAdd says past (events.Signal name) = MaySignal name past
MayAdd says past (events.Stopped cause) = Unit {0}
MayAdd says past other = ⊥

-- At SERIALIZABLE a view is taken by a SELECT with autocommit alone, and its commit stands directly behind it.
abbrev pub owed_by : Option Level → ℕ → Option ℕ
owed_by (Some Serializable) s = Some s
owed_by other s = None

abbrev pub owes_commit : List Event → Option ℕ
owes_commit (events.View s ∷ past) = owed_by (level s past) s
owes_commit other = None

abbrev pub PaysCommit : Option ℕ → Event → Type 0
PaysCommit None e = Unit {0}
PaysCommit (Some s) e = e ≡ events.Committed s

abbrev pub MayFollow : Language → List Event → Event → Type 0
MayFollow says past (events.Opened db) = past ≡ []
MayFollow says past (events.Started s j item) = (past ≢ []) × MayStart s j past × PaysCommit (owes_commit past) (events.Started s j item)
MayFollow says past (events.Ended s j reply) = (past ≢ []) × MayEnd says s j reply past × PaysCommit (owes_commit past) (events.Ended s j reply)
MayFollow says past e = (past ≢ []) × (has_stopped past ≡ false) × MayAdd says past e × PaysCommit (owes_commit past) e

abbrev pub IsLegal : Language → List Event → Type 0
IsLegal says [] = Unit {0}
IsLegal says (e ∷ past) = MayFollow says past e × IsLegal says past
