use Rattle.giving_up.proofs.Closing.{may_fail}
use Rattle.inno_types.specs.declared.reply.Reply.TheVariants.{NoMemory}
use Rattle.create_statement.specs.declared.machine.CreateStatement.TheVariants.{Ended}
use Rattle.create_statement.proofs.Moving.{ends}
use Rattle.create_statement.proofs.ending.step_failed.Goals as goal

pub end-requires-clause-may : goal.end-requires-clause-may
end-requires-clause-may g c = may_fail c.args.session c.args.lists.now.past c.requires.running.0

pub returns-clause-steps : goal.returns-clause-steps
returns-clause-steps g c =
    ends c.args.session c.args.lists.now c.end.new.self Ended NoMemory c.end.ensures c.requires.running.0.rows_alone c.requires.running.1
