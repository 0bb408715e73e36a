-- Waits: what a history shows of the locks in its entries, edges and cycles of the waits, and who is rolled back.
use Rattle.std.specs.Prelude.{◌≡◌, ◌≢◌, ◌⊎◌, ℕ, ◌+◌, ◌≤◌, ◌==◌, ◌/◌, ◌%◌, ◌&&◌, List, [], ◌∷◌, Bool, true, false, if◌then◌else◌, map, Option, Some, None, is_some, length, slice_get}
use Rattle.std.specs.List.{AllByRecursion, list_any}
use Rattle.inno_types.specs.declared.value.Schema.{Schema}
use Rattle.inno_types.specs.declared.lock.Level.{Level}
use Rattle.inno_types.specs.declared.lock.Lock.{Lock}
use Rattle.inno_types.specs.declared.lock.Edge.{Edge}
use Rattle.inno_types.specs.declared.reply.Item.{Item}
use Rattle.inno_types.specs.declared.reply.Item.TheVariants.{Sql}
use Rattle.inno_types.specs.declared.stmt.Stmt.{Stmt}
use Rattle.inno_types.specs.declared.stmt.Stmt.TheVariants as stmt
use Rattle.inno_db.specs.Names.{table_place}
use Rattle.inno_model.specs.declared.event.Event.{Event}
use Rattle.inno_model.specs.declared.event.Event.TheVariants.{Begin, Started, Changed, Undone, Waits, Victim}
use Rattle.inno_model.specs.Past.{level, txn, started, of_item, under_way, did}
use Rattle.lock_rules.specs.declared.rule.Rule.{Rule}
use Rattle.lock_rules.specs.declared.rule.Rule.TheVariants.{ToInsert, Inserted, DuplicateCheck, RecordWent, CopiedOnInsert}
use Rattle.lock_rules.specs.declared.rule.Rule.TheVariants as rules
use Rattle.lock_rules.specs.Rules.{number_of, is_for, FitsItsRule}
use Rattle.lock_rules.specs.Conflicts.{conflicts}
use Rattle.sql_history.specs.Items.{Language, Asks, is_over}
use Rattle.sql_history.specs.Statements.{is_on_rows, is_serializable, schemas_now}

-- ---- locks

-- how many items the session had started when its transaction began: the last of these began it
abbrev pub begun_in : ℕ → List Event → ℕ
begun_in s [] = 0
begun_in s (Begin t n l ∷ past) = if t == s then started s past else begun_in s past
begun_in s (other ∷ past) = begun_in s past

-- the session's item of this number
abbrev pub item_at : ℕ → ℕ → List Event → Option Item
item_at s j [] = None
item_at s j (Started t i item ∷ past) = if t == s && i == j then Some item else item_at s j past
item_at s j (other ∷ past) = item_at s j past

-- the table that a statement on rows names
abbrev pub table_of : Stmt → Option (List ℕ)
table_of (stmt.Select selected table condition lock) = Some table
table_of (stmt.Insert table columns tuples) = Some table
table_of (stmt.Update table sets condition) = Some table
table_of (stmt.Delete table condition) = Some table
table_of other = None

-- the rules by which a search locks
abbrev pub is_of_search : Rule → Bool
is_of_search ToInsert = false
is_of_search Inserted = false
is_of_search DuplicateCheck = false
is_of_search rules.Changed = false
is_of_search rule = true

-- those by which rows are put and changed
abbrev pub is_of_change : Rule → Bool
is_of_change ToInsert = true
is_of_change Inserted = true
is_of_change DuplicateCheck = true
is_of_change rules.Changed = true
is_of_change RecordWent = true
is_of_change CopiedOnInsert = true
is_of_change rule = false

-- a plain SELECT locks at SERIALIZABLE alone; an INSERT searches for no rows, and it alone finds keys that are there
abbrev pub is_rule_of : Rule → Level → Stmt → Bool
is_rule_of rule level (stmt.Select selected table condition None) = is_serializable level && is_of_search rule
is_rule_of rule level (stmt.Select selected table condition (Some mode)) = is_of_search rule
is_rule_of rule level (stmt.Insert table columns tuples) = is_of_change rule
is_rule_of DuplicateCheck level other = false
is_rule_of rule level other = true

-- What a history shows of a lock: an open transaction has it, by a rule for its level and for one of its items, in an
-- index of that item's table, and the rule gives such a lock. Indexes are numbered by table, eight numbers to each. (That
-- its key lies in the range of the search, or is one of a row that the item changes, is not said here.)
pub record IsFitting (says : Language) (lock : Lock) (past : List Event) : Type 0 where
  pub s : ℕ
  pub is_txn : txn s past ≡ lock.txn
  pub level_is : level s past ≡ Some lock.reason.level
  pub not_before : begun_in s past ≤ lock.reason.item
  pub not_after : lock.reason.item ≤ started s past
  pub text : List ℕ
  pub item : item_at s lock.reason.item past ≡ Some (Sql text)
  pub statement : Stmt
  pub says_it : says text statement
  pub name : List ℕ
  pub of_table : table_of statement ≡ Some name
  pub table : table_place (schemas_now s past) name ≡ Some (lock.spot.index / 8)
  pub schema : Schema
  pub schema_is : slice_get (schemas_now s past) (lock.spot.index / 8) ≡ Some schema
  pub has_index : lock.spot.index % 8 ≤ length schema.keys
  pub rule : Rule
  pub rule_is : number_of rule ≡ lock.reason.rule
  pub for_level : is_for rule lock.reason.level ≡ true
  pub of_statement : is_rule_of rule lock.reason.level statement ≡ true
  pub as_ruled : FitsItsRule lock

-- the request of the item under way: the newest one
abbrev pub request_in : List Event → Option Lock
request_in [] = None
request_in (Waits t lock blockers at ∷ entries) = Some lock
request_in (other ∷ entries) = request_in entries

-- ---- edges and cycles

-- the transaction waits in an item under way
pub record IsWaiting (number : ℕ) (past : List Event) : Type 0 where
  pub s : ℕ
  pub is_txn : txn s past ≡ number
  pub is_open : is_some (level s past) ≡ true
  pub item : is_some (under_way s past) ≡ true
  pub request : Lock
  pub asked : request_in (of_item s past) ≡ Some request

-- the waiters stand once each, and each edge's holder is the next edge's waiter, the last one's the first one's
abbrev pub AreChained : ℕ → Edge → List Edge → Type 0
AreChained first edge [] = edge.holder ≡ first
AreChained first edge (next ∷ edges) = (edge.holder ≡ next.waiter) × AreChained first next edges

abbrev pub IsOnce : List ℕ → Type 0
IsOnce [] = Unit {0}
IsOnce (n ∷ numbers) = (list_any (λ m. m == n) numbers ≡ false) × IsOnce numbers

-- a cycle of the waits: at least two edges
abbrev pub IsCycle : List Edge → Type 0
IsCycle [] = ⊥
IsCycle (edge ∷ []) = ⊥
IsCycle (edge ∷ other ∷ edges) = AreChained edge.waiter edge (other ∷ edges) × IsOnce (map (λ e. e.waiter) (edge ∷ other ∷ edges))

-- a lock of another, fitting, that conflicts with the waiter's request
pub record IsEdgeOf (says : Language) (waiter : ℕ) (asked : Lock) (edge : Edge) (past : List Event) : Type 0 where
  pub waits : edge.waiter ≡ waiter
  pub held : edge.holder ≡ edge.lock.txn
  pub blocks : conflicts edge.lock asked ≡ true
  pub fits : IsFitting says edge.lock past

-- ---- the victim

-- how many changes of rows the transaction of this number has, that stand
abbrev pub changes_of : ℕ → List Event → ℕ
changes_of number [] = 0
changes_of number (Begin s n l ∷ past) = if n == number then 0 else changes_of number past
changes_of number (Changed s change ∷ past) = if txn s past == number then changes_of number past + 1 else changes_of number past
changes_of number (Undone s keep ∷ past) = if txn s past == number then keep else changes_of number past
changes_of number (other ∷ past) = changes_of number past

abbrev pub is_victim : Event → Bool
is_victim (Victim s cycle) = true
is_victim other = false

-- one of these entries names its session as the victim of the cycle
abbrev pub NamesCycle : List Edge → List Event → Type 0
NamesCycle cycle [] = ⊥
NamesCycle cycle (Victim s other ∷ entries) = (other ≡ cycle) ⊎ NamesCycle cycle entries
NamesCycle cycle (other ∷ entries) = NamesCycle cycle entries

-- the session whose request is the newest entry, but for victims that were found by it
abbrev pub asked_last : List Event → Option ℕ
asked_last (Waits t lock blockers at ∷ past) = Some t
asked_last (Victim t cycle ∷ past) = asked_last past
asked_last other = None

-- ---- entries

-- an item begins to wait: its request fits, and these edges block it
pub record IsWaitOf (says : Language) (s : ℕ) (lock : Lock) (blockers : List Edge) (past : List Event) : Type 0 where
  pub statement : Stmt
  pub asks : Asks says s statement past
  pub on_rows : is_on_rows statement ≡ true
  pub not_over : is_over s past ≡ false
  pub no_victim : did is_victim s past ≡ false
  pub mine : lock.txn ≡ txn s past
  pub fits : IsFitting says lock past
  pub some : blockers ≢ []
  pub edges : AllByRecursion (λ edge. IsEdgeOf says (txn s past) lock edge past) blockers

-- an edge of a transaction that waits
abbrev pub IsEdgeNow : Language → Edge → List Event → Type 0
IsEdgeNow says edge past = (waits : IsWaiting edge.waiter past) × IsEdgeOf says edge.waiter waits.request edge past

-- The session's transaction stands in a cycle of the waits, and none in it has fewer changes of rows. Among equals it is
-- the one that asked, or the one begun last.
pub record IsVictim (says : Language) (s : ℕ) (cycle : List Edge) (past : List Event) : Type 0 where
  pub waits : IsWaiting (txn s past) past
  pub is_cycle : IsCycle cycle
  pub within : list_any (λ edge. edge.waiter == txn s past) cycle ≡ true
  pub edges : AllByRecursion (λ edge. IsEdgeNow says edge past) cycle
  pub fewest : AllByRecursion (λ edge. changes_of (txn s past) past ≤ changes_of edge.waiter past) cycle
  pub last : AllByRecursion (λ edge. changes_of edge.waiter past ≡ changes_of (txn s past) past → (edge.waiter ≤ txn s past) ⊎ (asked_last past ≡ Some s)) cycle
  pub no_victim : did is_victim s past ≡ false
