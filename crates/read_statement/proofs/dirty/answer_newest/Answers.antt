use Rattle.sql_lists.proofs.Moving.{stays_none}
use Rattle.read_statement.proofs.Entries.{rests}
use Rattle.read_statement.proofs.Ending.{fails}
use Rattle.read_statement.proofs.dirty.answer_newest.Goals as goal

pub returns-in-Err-clause-steps : goal.returns-in-Err-clause-steps
returns-in-Err-clause-steps g c =
    let r = c.requires.running in
    fails c.args.session c.args.lists.now c.args.lists.now c.args.stmt c.args.alone
    (rests c.args.session c.args.lists.now c.args.lists.now r.3 (stays_none c.args.session c.args.lists.now)) r.0 r.1
