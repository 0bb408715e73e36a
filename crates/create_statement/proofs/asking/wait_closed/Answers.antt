use Rattle.std.proofs.Common.{inr}
use Rattle.sql_lists.proofs.Moving.{stays_none}
use Rattle.create_statement.specs.declared.machine.CreateStatement.TheVariants as machine
use Rattle.create_statement.proofs.Moving.{waits, not_open, lacks_closed}
use Rattle.create_statement.proofs.asking.wait_closed.Goals as goal

pub returns-in-Ok-clause-steps : goal.returns-in-Ok-clause-steps
returns-in-Ok-clause-steps g c =
    let held = c.requires.held in
    let at = c.requires.running.0.0.at in
    waits c.args.session c.args.lists.now (machine.Closed c.args.stmt c.args.level) c.args.by c.in-Ok.blockers
    (c.args.stmt, at.takes, inr at.kind)
    (not_open c.args.session c.args.by c.args.lists.now.past c.requires.running.0.1.closed held.1) held.0 held.1 c.in-Ok.ensures c.requires.running

pub returns-in-Err-clause-steps : goal.returns-in-Err-clause-steps
returns-in-Err-clause-steps g c =
    lacks_closed c.args.session c.args.lists.now c.args.lists.now c.args.stmt c.args.level c.requires.running (stays_none c.args.session c.args.lists.now)
