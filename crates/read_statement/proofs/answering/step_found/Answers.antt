use Rattle.sql_lists.proofs.Moving.{stays_none}
use Rattle.read_statement.proofs.Entries.{rests}
use Rattle.read_statement.proofs.Ending.{fails}
use Rattle.read_statement.proofs.Moving.{nears_found}
use Rattle.read_statement.proofs.answering.step_found.Goals as goal

pub returns-in-Ok-clause-nears : goal.returns-in-Ok-clause-nears
returns-in-Ok-clause-nears g c =
    nears_found c.args.session c.args.lists.now c.close.new.lists c.args.found c.close.result.0 c.close.result.1 c.close.ensures.nears

pub returns-in-Err-clause-steps : goal.returns-in-Err-clause-steps
returns-in-Err-clause-steps g c =
    let r = c.requires.running in
    fails c.args.session c.args.lists.now c.args.lists.now c.args.found.stmt c.args.found.alone
    (rests c.args.session c.args.lists.now c.args.lists.now r.1 (stays_none c.args.session c.args.lists.now)) r.0.early r.0.is_open
