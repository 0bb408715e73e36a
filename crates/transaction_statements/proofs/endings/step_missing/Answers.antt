use Rattle.transaction_statements.proofs.Ending.{may_refuse}
use Rattle.inno_types.specs.declared.reply.SqlError.TheVariants.{NoSavepoint}
use Rattle.inno_types.specs.declared.reply.Reply.TheVariants.{Fail}
use Rattle.transaction_statements.specs.declared.statement.TransactionStatement.TheVariants.{Ended}
use Rattle.transaction_statements.proofs.Moving.{ends}
use Rattle.transaction_statements.proofs.endings.step_missing.Goals as goal

pub end-requires-clause-may : goal.end-requires-clause-may
end-requires-clause-may g c = may_refuse c.args.session c.args.savepoint c.args.lists.now.past c.requires.running.0

pub returns-clause-steps : goal.returns-clause-steps
returns-clause-steps g c =
    ends c.args.session c.args.lists.now c.end.new.self Ended (Fail NoSavepoint) c.end.ensures c.requires.running.0.rows_alone c.requires.running.1
