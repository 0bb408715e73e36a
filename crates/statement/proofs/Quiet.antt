-- A statement that wants no room has no change to tell, by each of its states.
use Rattle.std.specs.Prelude.{count_by}
use Rattle.std.proofs.Common.{◌≡◌, ℕ, Bool, true, false, None, List, [], ◌∷◌, length, refl, sym, ap, subst, inl, inr, arith}
use Rattle.std.proofs.lemmas.Bool.{false≢true}
use Rattle.inno_types.specs.declared.stmt.Stmt.{Stmt}
use Rattle.inno_types.specs.declared.stmt.Stmt.TheVariants as stmt
use Rattle.inno_types.specs.Order.{IsBelow}
use Rattle.inno_model.specs.Past.{own}
use Rattle.sql_grammar.specs.Grammar.{Spells}
use Rattle.sql_history.specs.{Items.Asks, Statements.is_on_rows}
use Rattle.shared_lists.specs.Tasks.{Task, Idle, Undoing, asked}
use Rattle.shared_lists.specs.State.{State, task_of}
use Rattle.sql_lists.specs.Going.{left, Nears}
use Rattle.sql_lists.specs.Steps.{Steps, changes_rows}
use Rattle.sql_lists.specs.declared.advance.Advance.{Advance}
use Rattle.transaction_statements.specs.declared.statement.TransactionStatement.{TransactionStatement}
use Rattle.transaction_statements.specs.declared.statement.TransactionStatement.TheVariants as transactions
use Rattle.transaction_statements.specs.Committing.{stmt_of}
use Rattle.transaction_statements.specs.Running as of_transaction
use Rattle.transaction_statements.specs.Going as to_transaction
use Rattle.read_statement.specs.declared.machine.ReadStatement.{ReadStatement}
use Rattle.read_statement.specs.declared.machine.ReadStatement.TheVariants as readings
use Rattle.read_statement.specs.Running as of_read
use Rattle.read_statement.specs.Going as to_read
use Rattle.read_statement.proofs.Selects.{rows_of_plain}
use Rattle.giving_up.specs.declared.leaving.Leaving.{Leaving}
use Rattle.giving_up.specs.declared.leaving.Leaving.TheVariants as leaving
use Rattle.giving_up.specs.Leaving.{IsWorking}
use Rattle.giving_up.specs.Leaving as leaves
use Rattle.giving_up.specs.Going.{to_leave}
use Rattle.giving_up.proofs.Writing.{on_rows}
use Rattle.giving_up.proofs.Closing.{asks_for_none as leaving_asks_none}
use Rattle.write_statement.specs.declared.machine.WriteStatement.{WriteStatement}
use Rattle.write_statement.specs.declared.machine.WriteStatement.TheVariants as writings
use Rattle.write_statement.specs.Running as of_write
use Rattle.write_statement.specs.Going as to_write
use Rattle.write_statement.proofs.Rooms.{asks_for_none}
use Rattle.statement.proofs.Creating.{rows_make_none, committer_makes_none}
use Rattle.statement.proofs.Telling.{IntendsNone, step_tells_none, intends_none}

-- ---- nothing is nearer than the end

abbrev AreZeros : List ℕ → Type 0
AreZeros [] = Unit {0}
AreZeros (n ∷ later) = (n ≡ 0) × AreZeros later

below_zeros : (list others : List ℕ) → AreZeros others → IsBelow list others → ⊥
below_zeros [] others zeros below = absurd below
below_zeros (a ∷ later) [] zeros below = absurd below
below_zeros (a ∷ later) (b ∷ others) zeros below = elim below [
  | inl lt ↦ absurd (omega (arith, lt, zeros.0))
  | inr same ↦ below_zeros later others zeros.1 same.1
]

below_none : (list : List ℕ) → IsBelow list (left 0 0 0 0) → ⊥
below_none list below =
    below_zeros list (left 0 0 0 0)
    (refl, (refl, (refl, (refl, (refl, (refl, (refl, (refl, (refl, (refl, (refl, (refl, (refl, (refl, (refl, tt))))))))))))))) below

-- ---- statements on transactions

rolls_back_asking_none : (keep stand : ℕ) (task : Task) → of_transaction.TakesBackTo keep stand task → asked task ≡ None
rolls_back_asking_none keep stand Idle back = refl
rolls_back_asking_none keep stand (Undoing left) back = refl
rolls_back_asking_none keep stand other back = absurd back

pub transaction_intends_none : (s : ℕ) (old new : State) (m after : TransactionStatement) → of_transaction.IsRunning old s m
    → IsBelow (to_transaction.to_go s new after) (to_transaction.to_go s old m) → IntendsNone s old
transaction_intends_none s old new (transactions.Quiet statement) after r nears = absurd (below_none (to_transaction.to_go s new after) nears)
transaction_intends_none s old new (transactions.Missing name) after r nears = absurd (below_none (to_transaction.to_go s new after) nears)
transaction_intends_none s old new (transactions.Committing committer) after r nears =
    intends_none s old (stmt_of committer) r.0.0.takes.asks (committer_makes_none committer) (ap asked r.1)
transaction_intends_none s old new (transactions.Unacked committer) after r nears =
    intends_none s old (stmt_of committer) r.0.0.takes.asks (committer_makes_none committer) (ap asked r.1)
transaction_intends_none s old new (transactions.Closed committer) after r nears =
    intends_none s old (stmt_of committer) r.0.0.takes.asks (committer_makes_none committer) (ap asked r.1)
transaction_intends_none s old new transactions.Viewing after r nears = intends_none s old (stmt.Begin true) r.0.0.takes.asks (λ kind. kind) (ap asked r.1)
transaction_intends_none s old new transactions.Unviewed after r nears = intends_none s old (stmt.Begin true) r.0.0.takes.asks (λ kind. kind) (ap asked r.1)
transaction_intends_none s old new (transactions.Begun snapshot) after r nears =
    intends_none s old (stmt.Begin snapshot) r.0.0.takes.asks (λ kind. kind) (ap asked r.1)
transaction_intends_none s old new transactions.Rollback after r nears =
    intends_none s old stmt.Rollback r.0.0.takes.asks (λ kind. kind) (rolls_back_asking_none 0 (length (own s old.past)) (task_of s old) r.1)
transaction_intends_none s old new (transactions.RollbackTo name made) after r nears =
    intends_none s old (stmt.RollbackTo name) r.0.0.takes.asks (λ kind. kind) (rolls_back_asking_none made (length (own s old.past)) (task_of s old) r.1)
transaction_intends_none s old new (transactions.Opening name l) after r nears =
    intends_none s old (stmt.Savepoint name) r.0.0.takes.asks (λ kind. kind) (ap asked r.1)
transaction_intends_none s old new (transactions.Saving name opened) after r nears =
    intends_none s old (stmt.Savepoint name) r.0.0.takes.asks (λ kind. kind) (ap asked r.1)
transaction_intends_none s old new transactions.Failed after r nears = absurd (below_none (to_transaction.to_go s new after) nears)
transaction_intends_none s old new transactions.Ended after r nears = absurd r.0

pub transaction_tells_none : (s : ℕ) (old new : State) (m after : TransactionStatement) (a : Advance) → of_transaction.IsRunning old s m
    → Steps of_transaction.IsRunning s old new after a → Nears to_transaction.to_go s old m new after a
    → count_by changes_rows new.past ≡ count_by changes_rows old.past
transaction_tells_none s old new m after a r steps nears =
    step_tells_none of_transaction.IsRunning s old new after a steps
    (λ went. transaction_intends_none s old new m after r (subst (Nears to_transaction.to_go s old m new after) went nears))

-- ---- a statement on rows that ends

-- one that makes no table
on_rows_none : (s : ℕ) (old : State) (statement : Stmt) → Asks Spells s statement old.past → is_on_rows statement ≡ true → asked (task_of s old) ≡ None
    → IntendsNone s old
on_rows_none s old statement asks on-rows none = intends_none s old statement asks (rows_make_none statement on-rows) none

leaving_intends_none : (s : ℕ) (old : State) (m : Leaving) (list : List ℕ) → leaves.IsLeaving old s m → leaves.owes_ack m ≡ false
    → IsBelow list (to_leave s old m) → IntendsNone s old
leaving_intends_none s old (leaving.BackingOut work) list r owes nears =
    on_rows_none s old r.0.statement r.0.working.takes.asks (on_rows r.0.statement r.0.working.writes) (leaving_asks_none old s (leaving.BackingOut work) r)
leaving_intends_none s old (leaving.Failed alone) list r owes nears = on_rows_none s old r.0.statement r.0.takes.asks r.0.on_rows (ap asked r.1)
leaving_intends_none s old (leaving.Unacked kept given) list r owes nears = absurd (false≢true (sym owes))
leaving_intends_none s old (leaving.Ending kept given) list r owes nears = absurd (below_none list nears)
leaving_intends_none s old leaving.Ended list r owes nears = absurd r

-- ---- SELECT

reads_none : (s : ℕ) (old : State) (statement : Stmt) (alone : Bool) → of_read.IsEarly old.past s statement alone → asked (task_of s old) ≡ None
    → IntendsNone s old
reads_none s old statement alone early none = on_rows_none s old statement early.takes.asks (rows_of_plain statement early.plain) none

reading_intends_none : (s : ℕ) (old : State) (m : ReadStatement) (list : List ℕ) → of_read.IsRunning old s m → of_read.owes_ack m ≡ false
    → IsBelow list (to_read.to_go s old m) → IntendsNone s old
reading_intends_none s old (readings.Opening asks) list r owes nears =
    on_rows_none s old asks.stmt r.0.takes.asks (rows_of_plain asks.stmt r.0.plain) (ap asked r.1)
reading_intends_none s old (readings.Open statement alone) list r owes nears = reads_none s old statement alone r.0 (ap asked r.3)
reading_intends_none s old (readings.Viewed statement alone) list r owes nears = reads_none s old statement alone r.0 (ap asked r.3)
reading_intends_none s old (readings.Searching read) list r owes nears = reads_none s old read.stmt read.alone r.early (ap asked r.task_is)
reading_intends_none s old (readings.Found found) list r owes nears = reads_none s old found.stmt found.alone r.0.early (ap asked r.1)
reading_intends_none s old (readings.Leaving m) list r owes nears = leaving_intends_none s old m list r owes nears

pub reading_tells_none : (s : ℕ) (old new : State) (m after : ReadStatement) (a : Advance) → of_read.IsRunning old s m → of_read.owes_ack m ≡ false
    → Steps of_read.IsRunning s old new after a → Nears to_read.to_go s old m new after a
    → count_by changes_rows new.past ≡ count_by changes_rows old.past
reading_tells_none s old new m after a r owes steps nears =
    step_tells_none of_read.IsRunning s old new after a steps
    (λ went. reading_intends_none s old m (to_read.to_go s new after) r owes (subst (Nears to_read.to_go s old m new after) went nears))

-- ---- INSERT, UPDATE and DELETE

works_none : (s : ℕ) (old : State) (statement : Stmt) (alone : Bool) → IsWorking s statement alone old.past → asked (task_of s old) ≡ None → IntendsNone s old
works_none s old statement alone working none = on_rows_none s old statement working.takes.asks (on_rows statement working.writes) none

writing_intends_none : (s : ℕ) (old : State) (m : WriteStatement) (list : List ℕ) → of_write.IsRunning old s m → of_write.owes_ack m ≡ false
    → IsBelow list (to_write.to_go s old m) → asked (task_of s old) ≡ None → IntendsNone s old
writing_intends_none s old (writings.Fresh statement) list r owes nears none = on_rows_none s old statement r.0.takes.asks (on_rows statement r.1) none
writing_intends_none s old (writings.Locking statement alone) list r owes nears none = works_none s old statement alone r.0.working none
writing_intends_none s old (writings.Searching part) list r owes nears none =
    works_none s old r.reading.changing.statement part.alone r.reading.changing.working none
writing_intends_none s old (writings.Changing part todo) list r owes nears none = works_none s old r.0.statement part.alone r.0.working none
writing_intends_none s old (writings.Making part todo rows) list r owes nears none = works_none s old r.changing.statement part.alone r.changing.working none
writing_intends_none s old (writings.Finishing part todo) list r owes nears none = works_none s old r.changing.statement part.alone r.changing.working none
writing_intends_none s old (writings.Leaving m) list r owes nears none = leaving_intends_none s old m list r owes nears

pub writing_tells_none : (s : ℕ) (old new : State) (m after : WriteStatement) (a : Advance) → of_write.wants_room m ≡ false → of_write.IsRunning old s m
    → of_write.owes_ack m ≡ false → Steps of_write.IsRunning s old new after a → Nears to_write.to_go s old m new after a
    → count_by changes_rows new.past ≡ count_by changes_rows old.past
writing_tells_none s old new m after a wants-none r owes steps nears =
    step_tells_none of_write.IsRunning s old new after a steps (λ went.
    writing_intends_none s old m (to_write.to_go s new after) r owes (subst (Nears to_write.to_go s old m new after) went nears)
    (asks_for_none old s m wants-none r))
