use Rattle.transaction_statements.proofs.Ending.{may_finish}
use Rattle.inno_types.specs.declared.reply.Reply.TheVariants.{Done}
use Rattle.transaction_statements.specs.declared.statement.TransactionStatement.TheVariants.{Ended}
use Rattle.transaction_statements.proofs.Moving.{ends}
use Rattle.transaction_statements.proofs.endings.finish.Goals as goal

pub end_done-requires-clause-may : goal.end_done-requires-clause-may
end_done-requires-clause-may g c = may_finish c.args.session c.args.stmt c.args.lists.now.past c.requires.finished

pub returns-clause-steps : goal.returns-clause-steps
returns-clause-steps g c =
    ends c.args.session c.args.lists.now c.end_done.new.self Ended Done c.end_done.ensures c.requires.finished.rows_alone c.requires.idle
