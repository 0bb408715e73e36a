use Rattle.std.proofs.Common.{inl}
use Rattle.sql_lists.proofs.Moving.{stays_none}
use Rattle.write_statement.proofs.Turning.{turns_none, early_given_up}
use Rattle.write_statement.proofs.opening.wait_for.Goals as goal

pub returns-in-Ok-clause-steps : goal.returns-in-Ok-clause-steps
returns-in-Ok-clause-steps g c =
    let held = c.requires.held in
    let working = c.requires.running.0.working in (
      stays_none c.args.session c.args.lists.now,
      c.requires.running,
      record {
        asks = (c.args.stmt, working.takes, inl working.writes);
        other = held.1;
        holds = held.0;
        is_open = held.2;
        edge = c.in-Ok.ensures;
      },
    )

pub returns-in-Err-clause-steps : goal.returns-in-Err-clause-steps
returns-in-Err-clause-steps g c =
    early_given_up c.args.session c.args.lists.now c.args.lists.now c.args.stmt c.args.alone c.change_count.result c.give_up_at.result.0 c.give_up_at.result.1
    c.requires.running.0 c.change_count.ensures
    (turns_none c.args.session c.args.lists.now c.requires.running.1) c.give_up_at.ensures.state c.give_up_at.ensures.answer
