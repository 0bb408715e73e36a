use Rattle.std.proofs.Common.{arith}
use Rattle.std.proofs.lemmas.Grind.{common_steps}
use Rattle.std.proofs.Common.{subst}
use Rattle.inno_types.specs.declared.stmt.Stmt.TheVariants as stmt
use Rattle.sql_lists.specs.Steps.{IsTaken}
use Rattle.transaction_statements.specs.declared.committer.Committer.TheVariants as committers
use Rattle.transaction_statements.specs.Committing.{Fits, asked_by}
use Rattle.transaction_statements.proofs.Stepping.{retaken}
use Rattle.transaction_statements.proofs.statement.TransactionStatement.new.Goals as goal

pub returns-in-Begin : goal.returns-in-Begin
returns-in-Begin g c =
    let s = c.args.session in
    let past = c.args.lists.now.past in
    let snapshot = c.in-Begin.snapshot in
    let taken : IsTaken s (stmt.Begin snapshot) past = subst (λ command. IsTaken s (asked_by command) past) c.in-Begin.is c.requires.taken in (
      (
        retaken s (stmt.Begin snapshot) (Fits (committers.Begin snapshot c.next_level-level.result)) past c.setting-setting.result.now taken
            c.setting-setting.ensures (λ h found. found) c.next_level-level.ensures,
        taken.nothing,
      ),
      c.requires.idle,
    )

pub new_rollback_to-requires-clause-joined : goal.new_rollback_to-requires-clause-joined
new_rollback_to-requires-clause-joined g c = grind (arith, common_steps)

pub new_rollback_to-requires-clause-taken : goal.new_rollback_to-requires-clause-taken
new_rollback_to-requires-clause-taken g c = grind (arith, common_steps)

pub new_rollback_to-requires-clause-idle : goal.new_rollback_to-requires-clause-idle
new_rollback_to-requires-clause-idle g c = grind (arith, common_steps)

pub new_savepoint-requires-clause-joined : goal.new_savepoint-requires-clause-joined
new_savepoint-requires-clause-joined g c = grind (arith, common_steps)

pub new_savepoint-requires-clause-taken : goal.new_savepoint-requires-clause-taken
new_savepoint-requires-clause-taken g c = grind (arith, common_steps)

pub new_savepoint-requires-clause-idle : goal.new_savepoint-requires-clause-idle
new_savepoint-requires-clause-idle g c = grind (arith, common_steps)

pub new_autocommit-requires-clause-joined : goal.new_autocommit-requires-clause-joined
new_autocommit-requires-clause-joined g c = grind (arith, common_steps)

pub new_autocommit-requires-clause-taken : goal.new_autocommit-requires-clause-taken
new_autocommit-requires-clause-taken g c = grind (arith, common_steps)

pub new_autocommit-requires-clause-idle : goal.new_autocommit-requires-clause-idle
new_autocommit-requires-clause-idle g c = grind (arith, common_steps)

pub returns-in-Commit : goal.returns-in-Commit
returns-in-Commit g c = grind (arith, common_steps)

pub returns-in-Rollback : goal.returns-in-Rollback
returns-in-Rollback g c = grind (arith, common_steps)

pub returns-in-RollbackTo : goal.returns-in-RollbackTo
returns-in-RollbackTo g c = grind (arith, common_steps)

pub returns-in-Savepoint : goal.returns-in-Savepoint
returns-in-Savepoint g c = grind (arith, common_steps)

pub returns-in-SetAutocommit : goal.returns-in-SetAutocommit
returns-in-SetAutocommit g c = grind (arith, common_steps)

pub returns-in-SetLevel : goal.returns-in-SetLevel
returns-in-SetLevel g c = grind (arith, common_steps)
