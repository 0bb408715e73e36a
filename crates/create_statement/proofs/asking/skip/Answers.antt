use Rattle.giving_up.proofs.Writing.{closed_as_told, open_as_told}
use Rattle.create_statement.proofs.Stepping.{may_commit_first, finished_skipped}
use Rattle.create_statement.proofs.Moving.{skips}
use Rattle.create_statement.proofs.asking.skip.Goals as goal

pub finish-requires-clause-finished : goal.finish-requires-clause-finished
finish-requires-clause-finished g c =
    let r = c.requires.running.0 in
    finished_skipped c.args.session c.args.stmt c.args.lists.now.past r.0.at r.1 r.2
    (closed_as_told c.args.session c.args.lists.now.past c.level.result c.level.ensures.level (c.if-is_none.ensures {u = tt})) c.requires.none

pub commit-requires-clause-may : goal.commit-requires-clause-may
commit-requires-clause-may g c =
    may_commit_first c.args.session c.args.stmt c.args.lists.now.past c.requires.running.0.0.at
    (open_as_told c.args.session c.args.lists.now.past c.level.result c.level.ensures.level (c.if-is_none.ensures {u = tt})) c.requires.running.0.1

pub returns-clause-steps : goal.returns-clause-steps
returns-clause-steps g c = skips c.args.session c.args.lists.now c.commit.new.self c.args.stmt c.args.level c.requires.running c.requires.none c.commit.ensures
