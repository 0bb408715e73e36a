use Rattle.transaction_statements.proofs.Moving.{may_begin, begins_its_own, lacks_begin}
use Rattle.transaction_statements.proofs.commits.open_new.Goals as goal

pub begin-requires-clause-may : goal.begin-requires-clause-may
begin-requires-clause-may g c = may_begin c.args.session c.args.lists.now.past c.args.snapshot c.args.level c.requires.running.0

pub returns-in-Ok-clause-steps : goal.returns-in-Ok-clause-steps
returns-in-Ok-clause-steps g c =
    rw c.begun.ensures (begins_its_own c.args.session c.args.lists.now c.begin.new.self c.args.snapshot c.args.level c.requires.running c.in-Ok.ensures.ok)

pub returns-in-Err-clause-steps : goal.returns-in-Err-clause-steps
returns-in-Err-clause-steps g c =
    lacks_begin c.args.session c.args.lists.now c.begin.new.self c.args.snapshot c.args.level c.requires.running c.in-Err.ensures.err
