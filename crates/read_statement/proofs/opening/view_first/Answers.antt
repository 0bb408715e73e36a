use Rattle.read_statement.proofs.Entries.{viewed, rests}
use Rattle.read_statement.proofs.Ending.{fails}
use Rattle.read_statement.proofs.opening.view_first.Goals as goal

pub returns-in-Ok-clause-steps : goal.returns-in-Ok-clause-steps
returns-in-Ok-clause-steps g c =
    let r = c.requires.running in
    viewed c.args.session c.args.lists.now c.take_view.new.self c.args.stmt c.args.alone r.0 r.1 c.requires.takes r.3 c.in-Ok.ensures.ok

pub returns-in-Err-clause-steps : goal.returns-in-Err-clause-steps
returns-in-Err-clause-steps g c =
    let r = c.requires.running in
    fails c.args.session c.args.lists.now c.take_view.new.self c.args.stmt c.args.alone
    (rests c.args.session c.args.lists.now c.take_view.new.self r.3 c.in-Err.ensures.err) r.0 r.1
