use Rattle.transaction_statements.proofs.Moving.{may_open, opens_first, lacks_opening}
use Rattle.transaction_statements.proofs.savepoints.step_opening.Goals as goal

pub begin-requires-clause-may : goal.begin-requires-clause-may
begin-requires-clause-may g c = may_open c.args.session c.args.lists.now.past c.args.savepoint c.args.level c.requires.running.0

pub returns-in-Ok-clause-steps : goal.returns-in-Ok-clause-steps
returns-in-Ok-clause-steps g c =
    opens_first c.args.session c.args.lists.now c.begin.new.self c.args.savepoint c.args.level c.requires.running c.in-Ok.ensures.ok

pub returns-in-Err-clause-steps : goal.returns-in-Err-clause-steps
returns-in-Err-clause-steps g c =
    lacks_opening c.args.session c.args.lists.now c.begin.new.self c.args.savepoint c.args.level c.requires.running c.in-Err.ensures.err
