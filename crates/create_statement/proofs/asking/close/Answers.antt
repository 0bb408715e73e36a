use Rattle.giving_up.proofs.Writing.{closed_as_told, open_as_told}
use Rattle.create_statement.proofs.Stepping.{may_commit_first}
use Rattle.create_statement.proofs.Moving.{is_closed, closes_first}
use Rattle.create_statement.proofs.asking.close.Goals as goal

pub returns-then-is_none-clause-steps : goal.returns-then-is_none-clause-steps
returns-then-is_none-clause-steps g c =
    let closed = closed_as_told c.args.session c.args.lists.now.past c.level.result c.level.ensures.level (c.if-is_none.ensures {u = tt}) in
    is_closed c.args.session c.args.lists.now c.args.lists.now c.args.stmt c.args.level c.requires.running closed (c.level.ensures.closed closed)

pub commit-requires-clause-may : goal.commit-requires-clause-may
commit-requires-clause-may g c =
    may_commit_first c.args.session c.args.stmt c.args.lists.now.past c.requires.running.0.0.at
    (open_as_told c.args.session c.args.lists.now.past c.level.result c.level.ensures.level (c.if-is_none.ensures {u = tt})) c.requires.running.0.1

pub returns-clause-steps : goal.returns-clause-steps
returns-clause-steps g c = closes_first c.args.session c.args.lists.now c.commit.new.self c.args.stmt c.args.level c.requires.running c.commit.ensures
