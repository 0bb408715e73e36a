use Rattle.std.proofs.Common.{refl, ap}
use Rattle.inno_types.specs.declared.reply.Reply.TheVariants.{Fail}
use Rattle.sql_lists.proofs.Moving.{moves_none}
use Rattle.giving_up.proofs.Moving.{ended}
use Rattle.statement.specs.declared.under_way.Statement.TheVariants.{Ended}
use Rattle.statement.specs.Running.{IsRunning}
use Rattle.statement.proofs.Looking.{refused_now}
use Rattle.statement.proofs.under_way.refuse_at_once.Goals as goal

pub end-requires-clause-may : goal.end-requires-clause-may
end-requires-clause-may g c =
    refused_now c.args.session c.requires.running.0 c.args.stmt c.args.lists.now.past c.requires.running.1 c.requires.running.2 c.args.error c.requires.refused

pub returns-in-Err-clause-steps : goal.returns-in-Err-clause-steps
returns-in-Err-clause-steps g c = (moves_none c.args.session c.args.lists.now, (c.requires.running.0, c.requires.running.1, c.requires.running.3), refl)

pub returns-in-Ok-clause-steps : goal.returns-in-Ok-clause-steps
returns-in-Ok-clause-steps g c =
    let r = c.requires.running in
    ended IsRunning c.args.session c.args.lists.now c.end.new.self (Fail c.args.error) (Fail c.in-Ok.copy) Ended (ap Fail c.in-Ok.ensures) r.1.rows_alone r.3
    c.end.ensures
