-- What a statement under way has changed, by each of its states.
use Rattle.std.proofs.Common.{◌≡◌, ℕ, Bool, true, false, List, [], ◌∷◌, ◌++◌, length, refl, sym, subst, ◌∙◌, inl, inr}
use Rattle.std.proofs.lemmas.Bool.{false≢true}
use Rattle.inno_types.specs.declared.stmt.Stmt.{Stmt}
use Rattle.inno_types.specs.declared.stmt.Stmt.TheVariants as stmt
use Rattle.inno_db.specs.declared.change.Change.{Change}
use Rattle.inno_db.specs.declared.outcome.Outcome.{Outcome}
use Rattle.inno_db.specs.Database.{Database}
use Rattle.inno_db.specs.Outcome.{outcome}
use Rattle.inno_model.specs.declared.event.Event.{Event}
use Rattle.inno_model.specs.Past.{of_item, did, begins_txn, IsOpen}
use Rattle.sql_grammar.specs.Grammar.{Spells}
use Rattle.sql_history.specs.Items.{point, base, HasMade}
use Rattle.sql_history.specs.Legal.{Takes, IsLegal, IsWriting, IsCreation, ChangesBy, EndsCreate, MadeSome}
use Rattle.shared_lists.specs.State.{State}
use Rattle.transaction_statements.specs.declared.statement.TransactionStatement.{TransactionStatement}
use Rattle.transaction_statements.specs.declared.statement.TransactionStatement.TheVariants as transactions
use Rattle.transaction_statements.specs.Knowing.{SavesIn}
use Rattle.transaction_statements.specs.Running as of_transaction
use Rattle.create_statement.specs.declared.machine.CreateStatement.{CreateStatement}
use Rattle.create_statement.specs.declared.machine.CreateStatement.TheVariants as creations
use Rattle.create_statement.specs.Knowing.{IsCommitted}
use Rattle.create_statement.specs.Running as of_create
use Rattle.read_statement.specs.declared.machine.ReadStatement.{ReadStatement}
use Rattle.read_statement.specs.declared.machine.ReadStatement.TheVariants as readings
use Rattle.read_statement.specs.Running as of_read
use Rattle.read_statement.proofs.Items.{none_closed, turn_goes_on}
use Rattle.giving_up.specs.declared.leaving.Leaving.{Leaving}
use Rattle.giving_up.specs.declared.leaving.Leaving.TheVariants as leaving
use Rattle.giving_up.specs.Leaving.{IsLeaving}
use Rattle.write_statement.specs.declared.machine.WriteStatement.{WriteStatement}
use Rattle.write_statement.specs.declared.machine.WriteStatement.TheVariants as writings
use Rattle.write_statement.specs.declared.machine.Part.{Part}
use Rattle.write_statement.specs.Parts.{of_part, of_rest}
use Rattle.write_statement.specs.Running as of_write
use Rattle.giving_up.proofs.Writing.{sees_base}
use Rattle.write_statement.proofs.GivingUp.{changing_no_memory}
use Rattle.statement.specs.declared.under_way.Statement.{Statement}
use Rattle.statement.specs.declared.under_way.Statement.TheVariants as statements
use Rattle.statement.specs.Running.{IsRunning}
use Rattle.statement.proofs.Unchanged.{none_there, none_yet, none_made}

-- ---- statements on transactions

saving : (s : ℕ) (past : List Event) (opened : Bool) → SavesIn opened s past → MadeSome Spells s past
saving s past false saves = inl (none_yet s past saves.0)
saving s past true saves = inl saves.0.made

pub of_transactions : (state : State) (s : ℕ) (m : TransactionStatement) → IsLegal Spells state.past → of_transaction.IsRunning state s m
    → MadeSome Spells s state.past
of_transactions state s (transactions.Quiet statement) legal r = inl (none_yet s state.past r.0.1)
of_transactions state s (transactions.Missing name) legal r = inl (none_yet s state.past r.0.nothing)
of_transactions state s (transactions.Committing committer) legal r = inl (none_yet s state.past r.0.1)
of_transactions state s (transactions.Unacked committer) legal r = inl r.0.1.made
of_transactions state s (transactions.Closed committer) legal r = inl r.0.1.made
of_transactions state s transactions.Viewing legal r = inl r.0.1.made
of_transactions state s transactions.Unviewed legal r = inl r.0.1.made
of_transactions state s (transactions.Begun snapshot) legal r = inl r.0.1.made
of_transactions state s transactions.Rollback legal r = inl (none_made s state.past stmt.Rollback legal r.0.0.takes.asks (λ changes. changes))
of_transactions state s (transactions.RollbackTo name made) legal r =
    inl (none_made s state.past (stmt.RollbackTo name) legal r.0.0.takes.asks (λ changes. changes))
of_transactions state s (transactions.Opening name l) legal r = inl (none_yet s state.past r.0.1)
of_transactions state s (transactions.Saving name opened) legal r = saving s state.past opened r.0.1
of_transactions state s transactions.Failed legal r = inl r.0.made
of_transactions state s transactions.Ended legal r = absurd r.0

-- ---- CREATE TABLE

-- where no transaction was begun for a table, none is made
no_table : (s : ℕ) (past : List Event) (statement : Stmt) → IsCreation statement → did begins_txn s past ≡ false → ChangesBy s statement past → ⊥
no_table s past (stmt.CreateTable table if_not_exists definitions) kind not-begun changes = false≢true (sym not-begun ∙ changes)
no_table s past other kind not-begun changes = absurd kind

module _ (s : ℕ) (past : List Event) (legal : IsLegal Spells past) where
  -- the first changes of its outcome
  begun : (statement : Stmt) (takes : Takes Spells s statement past) → IsCreation statement → (count : ℕ)
      → HasMade count s (outcome statement (base s (point s past))).changes (point s past) → MadeSome Spells s past
  begun (stmt.CreateTable table if_not_exists definitions) takes kind count made =
      inr (
        stmt.CreateTable table if_not_exists definitions,
        takes,
        λ l is. inr (record { db = base s (point s past); sees = refl; count = count; changes = made }),
      )
  begun other takes kind count made = absurd kind

  created : (statement : Stmt) → IsCommitted s statement past → MadeSome Spells s past
  created statement c = go (outcome statement (base s (point s past))).changes refl c.ends where
    go : (changes : List Change) → (outcome statement (base s (point s past))).changes ≡ changes → EndsCreate s changes past → MadeSome Spells s past
    go [] is ends = inl (none_made s past statement legal c.at.takes.asks (no_table s past statement c.at.kind ends.1))
    go (change ∷ changes) is ends =
        begun statement c.at.takes c.at.kind (length (change ∷ changes))
        (subst (λ (made : List Change). HasMade (length (change ∷ changes)) s made (point s past)) (sym is) ends.2)

pub of_creations : (state : State) (s : ℕ) (m : CreateStatement) → IsLegal Spells state.past → of_create.IsRunning state s m → MadeSome Spells s state.past
of_creations state s (creations.Asked statement l) legal r = inl (none_yet s state.past r.0.1)
of_creations state s (creations.Unacked statement l) legal r = inl r.0.1.made
of_creations state s (creations.Closed statement l) legal r = inl r.0.1.made
of_creations state s (creations.Committed statement) legal r = created s state.past legal statement r.0.0
of_creations state s (creations.Ending statement) legal r = created s state.past legal statement r.0.0
of_creations state s creations.Failed legal r = inl r.0.made
of_creations state s creations.Ended legal r = absurd r.0

-- ---- a statement on rows that ends

-- the first changes of its outcome over the latest rows
replied : (s : ℕ) (past : List Event) (statement : Stmt) (takes : Takes Spells s statement past) → IsWriting statement → IsOpen s (point s past) → (count : ℕ)
    → HasMade count s (outcome statement (base s (point s past))).changes (point s past) → MadeSome Spells s past
replied s past statement takes writes was-open count made =
    inr (
      statement,
      takes,
      λ l is. inr (record {
        db = base s (point s past);
        sees = sees_base l s takes.setting past (point s past) was-open statement writes;
        count = count;
        changes = made;
      }),
    )

leaves : (state : State) (s : ℕ) (m : Leaving) → IsLeaving state s m → MadeSome Spells s state.past
leaves state s (leaving.BackingOut work) r =
    replied s state.past r.0.statement r.0.working.takes r.0.working.writes r.0.reply.was_open r.0.reply.count r.0.reply.made
leaves state s (leaving.Failed alone) r = inl r.0.made
leaves state s (leaving.Unacked kept given) r = r.0.may.made
leaves state s (leaving.Ending kept given) r = r.0.may.made
leaves state s leaving.Ended r = absurd r

-- ---- SELECT

reading : (s : ℕ) (past : List Event) (statement : Stmt) (alone : Bool) → of_read.IsEarly past s statement alone → MadeSome Spells s past
reading s past statement alone early = inl (none_there s past (turn_goes_on s past (none_closed s past early.goes_on)) early.before_is)

pub of_readings : (state : State) (s : ℕ) (m : ReadStatement) → of_read.IsRunning state s m → MadeSome Spells s state.past
of_readings state s (readings.Opening asked) r = inl (none_yet s state.past r.0.nothing)
of_readings state s (readings.Open statement alone) r = reading s state.past statement alone r.0
of_readings state s (readings.Viewed statement alone) r = reading s state.past statement alone r.0
of_readings state s (readings.Searching read) r = reading s state.past read.stmt read.alone r.early
of_readings state s (readings.Found found) r = reading s state.past found.stmt found.alone r.0.early
of_readings state s (readings.Leaving m) r = leaves state s m r

-- ---- INSERT, UPDATE and DELETE

early : (s : ℕ) (past : List Event) (statement : Stmt) (alone : Bool) → of_write.IsEarly s statement alone past → MadeSome Spells s past
early s past statement alone e = inl (none_there s past e.goes_on.not_over e.unchanged)

changing : (state : State) (s : ℕ) (part : Part) (next : Database → Outcome) (todo : List Change)
    → of_write.IsChanging state.past state.writer s part next todo → MadeSome Spells s state.past
changing state s part next todo c =
    let back = changing_no_memory state.past state.writer s part next todo c in
    replied s state.past back.statement back.working.takes back.working.writes back.reply.was_open back.reply.count back.reply.made

pub of_writings : (state : State) (s : ℕ) (m : WriteStatement) → of_write.IsRunning state s m → MadeSome Spells s state.past
of_writings state s (writings.Fresh statement) r = inl (none_yet s state.past r.0.nothing)
of_writings state s (writings.Locking statement alone) r = early s state.past statement alone r.0
of_writings state s (writings.Searching part) r = changing state s part (of_part part) [] r.reading.changing
of_writings state s (writings.Changing part todo) r = changing state s part (of_rest part) todo.items r.0
of_writings state s (writings.Making part todo rows) r = changing state s part (of_rest part) (todo.items ++ r.change ∷ []) r.changing
of_writings state s (writings.Finishing part todo) r = changing state s part (of_rest part) todo.items r.changing
of_writings state s (writings.Leaving m) r = leaves state s m r

-- ---- whichever

-- an item that has done nothing
pub of_nothing : (s : ℕ) (past : List Event) → of_item s past ≡ [] → MadeSome Spells s past
of_nothing s past nothing = inl (none_yet s past nothing)

pub of_statements : (state : State) (s : ℕ) (m : Statement) → IsLegal Spells state.past → IsRunning state s m → MadeSome Spells s state.past
of_statements state s (statements.Asked statement) legal r = inl (none_yet s state.past r.1.nothing)
of_statements state s (statements.Transaction m) legal r = of_transactions state s m legal r
of_statements state s (statements.Create m) legal r = of_creations state s m legal r
of_statements state s (statements.Read m) legal r = of_readings state s m r
of_statements state s (statements.Write m) legal r = of_writings state s m r
of_statements state s statements.Failed legal r = inl (none_yet s state.past r.1.nothing)
of_statements state s statements.Ended legal r = absurd r
