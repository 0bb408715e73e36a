use Rattle.inno_types.specs.declared.reply.Reply.TheVariants.{Done}
use Rattle.transaction_statements.specs.declared.statement.TransactionStatement.TheVariants as statements
use Rattle.transaction_statements.proofs.Ending.{may_save, open_saving}
use Rattle.transaction_statements.proofs.Moving.{ends, lacks_saving}
use Rattle.transaction_statements.proofs.savepoints.step_saving.Goals as goal

pub end_savepoint-requires-clause-may : goal.end_savepoint-requires-clause-may
end_savepoint-requires-clause-may g c = let r = c.requires.running.0 in may_save c.args.session c.args.lists.now.past c.args.savepoint c.args.opened r.0 r.1

pub end_savepoint-requires-clause-is_open : goal.end_savepoint-requires-clause-is_open
end_savepoint-requires-clause-is_open g c = open_saving c.args.session c.args.lists.now.past c.args.opened c.requires.running.0.1

pub returns-in-Ok-clause-steps : goal.returns-in-Ok-clause-steps
returns-in-Ok-clause-steps g c =
    ends c.args.session c.args.lists.now c.end_savepoint.new.self statements.Ended Done c.in-Ok.ensures.ok c.requires.running.0.0.rows_alone
    c.requires.running.1

pub returns-clause-steps : goal.returns-clause-steps
returns-clause-steps g c =
    lacks_saving c.args.session c.args.lists.now c.end_savepoint.new.self c.args.savepoint c.args.opened c.requires.running c.in-Err.ensures.err
