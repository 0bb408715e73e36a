use Rattle.sql_lists.proofs.Moving.{stays_none}
use Rattle.create_statement.proofs.Moving.{lacks_closed}
use Rattle.create_statement.proofs.asking.step_closed.Goals as goal

pub returns-in-None-clause-steps : goal.returns-in-None-clause-steps
returns-in-None-clause-steps g c =
    lacks_closed c.args.session c.args.lists.now c.args.lists.now c.args.stmt c.args.level c.requires.running (stays_none c.args.session c.args.lists.now)
