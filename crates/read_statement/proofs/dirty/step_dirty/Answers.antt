use Rattle.read_statement.proofs.Entries.{rests}
use Rattle.read_statement.proofs.Ending.{fails}
use Rattle.read_statement.proofs.Moving.{nears_open, steps_then}
use Rattle.read_statement.proofs.dirty.step_dirty.Goals as goal

pub returns-in-Ok-clause-nears : goal.returns-in-Ok-clause-nears
returns-in-Ok-clause-nears g c =
    nears_open c.args.session c.args.lists.now c.answer_newest.new.lists c.args.stmt c.args.alone c.answer_newest.result.0 c.answer_newest.result.1
    c.answer_newest.ensures.nears

pub returns-in-Ok-clause-steps : goal.returns-in-Ok-clause-steps
returns-in-Ok-clause-steps g c =
    steps_then c.args.session c.args.lists.now c.read_newest.new.lists c.answer_newest.new.lists c.answer_newest.result.0 c.answer_newest.result.1
    c.read_newest.ensures.same c.answer_newest.ensures.steps

pub returns-in-Err-clause-steps : goal.returns-in-Err-clause-steps
returns-in-Err-clause-steps g c =
    let r = c.requires.running in
    fails c.args.session c.args.lists.now c.read_newest.new.lists c.args.stmt c.args.alone
    (rests c.args.session c.args.lists.now c.read_newest.new.lists r.3 c.read_newest.ensures.same) r.0 r.1
