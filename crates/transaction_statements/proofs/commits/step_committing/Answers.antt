use Rattle.giving_up.proofs.Writing.{closed_as_told, open_as_told}
use Rattle.transaction_statements.proofs.Moving.{skips_commit, commits}
use Rattle.transaction_statements.proofs.Stepping.{may_commit}
use Rattle.transaction_statements.proofs.commits.step_committing.Goals as goal

pub returns-then-is_none-clause-steps : goal.returns-then-is_none-clause-steps
returns-then-is_none-clause-steps g c =
    let closed = closed_as_told c.args.session c.args.lists.now.past c.level.result c.level.ensures.level (c.if-is_none.ensures {u = tt}) in
    skips_commit c.args.session c.args.lists.now c.args.committer c.requires.running closed (c.level.ensures.closed closed)

pub commit-requires-clause-may : goal.commit-requires-clause-may
commit-requires-clause-may g c =
    may_commit c.args.session c.args.lists.now.past c.args.committer
    (open_as_told c.args.session c.args.lists.now.past c.level.result c.level.ensures.level (c.if-is_none.ensures {u = tt})) c.requires.running.0.0
    c.requires.running.0.1

pub returns-clause-steps : goal.returns-clause-steps
returns-clause-steps g c = commits c.args.session c.args.lists.now c.commit.new.self c.args.committer c.requires.running c.commit.ensures
