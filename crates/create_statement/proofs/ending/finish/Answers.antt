use Rattle.create_statement.proofs.Creations.{quiet}
use Rattle.create_statement.proofs.Stepping.{may_finish}
use Rattle.inno_types.specs.declared.reply.Reply.TheVariants.{Done}
use Rattle.create_statement.specs.declared.machine.CreateStatement.TheVariants.{Ended}
use Rattle.create_statement.proofs.Moving.{ends}
use Rattle.create_statement.proofs.ending.finish.Goals as goal

pub end_done-requires-clause-may : goal.end_done-requires-clause-may
end_done-requires-clause-may g c = may_finish c.args.session c.args.stmt c.args.lists.now.past c.requires.finished

pub end_done-requires-clause-quiet : goal.end_done-requires-clause-quiet
end_done-requires-clause-quiet g c =
    let at = c.requires.finished.at in
    rw c.get.ensures (quiet c.args.session c.args.lists.now.past at.takes.setting c.args.stmt at.kind)

pub returns-clause-steps : goal.returns-clause-steps
returns-clause-steps g c =
    ends c.args.session c.args.lists.now c.end_done.new.self Ended Done c.end_done.ensures c.requires.finished.rows_alone c.requires.idle
