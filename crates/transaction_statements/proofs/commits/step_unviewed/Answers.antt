use Rattle.transaction_statements.proofs.Moving.{may_unbegin, unbegins}
use Rattle.transaction_statements.proofs.commits.step_unviewed.Goals as goal

pub roll_back-requires-clause-may : goal.roll_back-requires-clause-may
roll_back-requires-clause-may g c = may_unbegin c.args.session c.args.lists.now.past c.requires.running.0

pub returns-clause-steps : goal.returns-clause-steps
returns-clause-steps g c = unbegins c.args.session c.args.lists.now c.roll_back.new.self c.requires.running c.roll_back.ensures
