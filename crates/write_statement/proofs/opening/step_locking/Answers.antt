use Rattle.std.proofs.Common.{ap, sym, ◌∙◌, inl}
use Rattle.shared_lists.specs.Tasks.{asked}
use Rattle.sql_lists.proofs.Moving.{moves_locked}
use Rattle.write_statement.specs.Running.{IsRunning}
use Rattle.write_statement.proofs.Resting.{steps_then, steps_on, idle_asks_no_more}
use Rattle.write_statement.proofs.opening.step_locking.Goals as goal

pub returns-in-Some-clause-steps : goal.returns-in-Some-clause-steps
returns-in-Some-clause-steps g c =
    steps_then IsRunning c.args.session c.args.lists.now c.lock.new.self c.lock.new.self c.wait_for.result.0 c.wait_for.result.1 c.in-Some.ensures.held.4
    c.wait_for.ensures.steps

pub returns-in-None-clause-steps : goal.returns-in-None-clause-steps
returns-in-None-clause-steps g c =
    let working = c.requires.running.0.working in
    let locked = c.in-None.ensures.locked in
    steps_on IsRunning c.args.session c.args.lists.now c.lock.new.self c.begin_search.new.lists c.begin_search.result.0 c.begin_search.result.1
    (moves_locked c.args.session c.args.lists.now c.lock.new.self (c.args.stmt, working.takes, inl working.writes)
    (sym c.lock.ensures.free ∙ c.in-None.is) locked) locked.past_is
    (idle_asks_no_more c.args.session c.args.lists.now c.lock.new.self (ap asked (locked.task_is ∙ c.requires.running.1))) locked.writer_is
    c.begin_search.ensures.steps
