use Rattle.transaction_statements.proofs.Moving.{may_view, views, lacks_view}
use Rattle.transaction_statements.proofs.commits.step_viewing.Goals as goal

pub take_view-requires-clause-may : goal.take_view-requires-clause-may
take_view-requires-clause-may g c = may_view c.args.session c.args.lists.now.past c.requires.running.0

pub returns-in-Ok-clause-steps : goal.returns-in-Ok-clause-steps
returns-in-Ok-clause-steps g c = views c.args.session c.args.lists.now c.take_view.new.self c.requires.running c.in-Ok.ensures.ok

pub returns-in-Err-clause-steps : goal.returns-in-Err-clause-steps
returns-in-Err-clause-steps g c = lacks_view c.args.session c.args.lists.now c.take_view.new.self c.requires.running c.in-Err.ensures.err
