-- What the rules say of a CREATE TABLE, whatever it names.
use Rattle.std.proofs.Common.{◌≡◌, ◌≢◌, ◌⊎◌, ℕ, Bool, true, false, None, List, [], length, refl}
use Rattle.inno_types.specs.declared.reply.Reply.TheVariants.{Done}
use Rattle.inno_types.specs.declared.stmt.Definition.{Definition}
use Rattle.inno_types.specs.declared.stmt.Stmt.{Stmt}
use Rattle.inno_types.specs.declared.stmt.Stmt.TheVariants as stmt
use Rattle.inno_db.specs.Outcome.{outcome}
use Rattle.inno_model.specs.declared.event.Event.{Event}
use Rattle.inno_model.specs.Past.{did, begins_txn}
use Rattle.sql_history.specs.Items.{base, point, HasMade}
use Rattle.sql_history.specs.Settings.{Setting}
use Rattle.sql_history.specs.Statements.{refused_at_once}
use Rattle.sql_history.specs.Legal.{IsCreation, BeginsBy, CommitsBy, RollsBackBy, ChangesBy, EndsCreate, EndsTaken, BringsCommit}
use Rattle.sql_lists.specs.Kept.{SetsQuietly}

pub as_creation : (P : Stmt → Type 0)
    → ((table : List ℕ) (if_not_exists : Bool) (definitions : List Definition) → P (stmt.CreateTable table if_not_exists definitions)) → (statement : Stmt)
    → IsCreation statement → P statement
as_creation P here (stmt.CreateTable table if_not_exists definitions) kind = here table if_not_exists definitions
as_creation P here (stmt.Select selected table condition lock) kind = elim kind [ ]
as_creation P here (stmt.Insert table columns tuples) kind = elim kind [ ]
as_creation P here (stmt.Update table sets condition) kind = elim kind [ ]
as_creation P here (stmt.Delete table condition) kind = elim kind [ ]
as_creation P here (stmt.Begin snapshot) kind = elim kind [ ]
as_creation P here stmt.Commit kind = elim kind [ ]
as_creation P here stmt.Rollback kind = elim kind [ ]
as_creation P here (stmt.RollbackTo name) kind = elim kind [ ]
as_creation P here (stmt.Savepoint name) kind = elim kind [ ]
as_creation P here (stmt.SetAutocommit on) kind = elim kind [ ]
as_creation P here (stmt.SetLevel scope l) kind = elim kind [ ]

module _ (s : ℕ) (past : List Event) (setting : Setting) (statement : Stmt) (kind : IsCreation statement) where
  pub begins_by : (outcome statement (base s past)).changes ≢ [] → BeginsBy s setting statement past
  begins_by = as_creation (λ x. (outcome x (base s past)).changes ≢ [] → BeginsBy s setting x past) (λ t i d some. some) statement kind

  pub commits_by : (did begins_txn s past ≡ false) ⊎ HasMade (length (outcome statement (base s past)).changes) s (outcome statement (base s past)).changes
      past → CommitsBy s setting statement past
  commits_by =
      as_creation (λ x. (did begins_txn s past ≡ false) ⊎ HasMade (length (outcome x (base s past)).changes) s (outcome x (base s past)).changes past →
      CommitsBy s setting x past)
      (λ t i d by. by) statement kind

  pub rolls_back_by : did begins_txn s past ≡ true → RollsBackBy s setting statement past
  rolls_back_by = as_creation (λ x. did begins_txn s past ≡ true → RollsBackBy s setting x past) (λ t i d begun. begun) statement kind

  pub changes_by : did begins_txn s past ≡ true → ChangesBy s statement past
  changes_by = as_creation (λ x. did begins_txn s past ≡ true → ChangesBy s x past) (λ t i d begun. begun) statement kind

  pub ends_taken : EndsCreate s (outcome statement (base s (point s past))).changes past → EndsTaken s setting statement Done past
  ends_taken =
      as_creation (λ x. EndsCreate s (outcome x (base s (point s past))).changes past → EndsTaken s setting x Done past)
      (λ t i d ends. (refl, ends)) statement kind

  pub brings : BringsCommit statement
  brings = as_creation BringsCommit (λ t i d. tt) statement kind

  pub quiet : SetsQuietly statement s past
  quiet = as_creation (λ x. SetsQuietly x s past) (λ t i d. tt) statement kind

-- what is set does not refuse it
pub same_refusal : (s : ℕ) (a b : Setting) (statement : Stmt) → IsCreation statement → (h : List Event) → refused_at_once s a statement h ≡ None
    → refused_at_once s b statement h ≡ None
same_refusal s a b = as_creation (λ x. (h : List Event) → refused_at_once s a x h ≡ None → refused_at_once s b x h ≡ None) (λ t i d h found. found)
