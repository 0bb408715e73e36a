use Rattle.std.proofs.Common.{arith}
use Rattle.giving_up.proofs.Writing.{closed_as_told, open_as_told}
use Rattle.transaction_statements.proofs.Ending.{finishes_rollback}
use Rattle.transaction_statements.proofs.Moving.{may_roll_back, rests_rollback, rolls_back}
use Rattle.transaction_statements.proofs.Stepping.{none_as_told}
use Rattle.transaction_statements.proofs.rollbacks.step_rollback.Goals as goal

pub finish-requires-clause-finished : goal.finish-requires-clause-finished
finish-requires-clause-finished g c =
    let r = c.requires.running.0 in
    finishes_rollback c.args.session c.args.lists.now.past r.0
    (closed_as_told c.args.session c.args.lists.now.past c.level.result c.level.ensures.level (c.if-is_none.ensures {u = tt})) r.1 r.2

pub finish-requires-clause-idle : goal.finish-requires-clause-idle
finish-requires-clause-idle g c =
    rests_rollback c.args.session c.args.lists.now c.requires.running
    (c.level.ensures.closed
    (closed_as_told c.args.session c.args.lists.now.past c.level.result c.level.ensures.level (c.if-is_none.ensures {u = tt})))

pub undo_newest-requires-clause-is_open : goal.undo_newest-requires-clause-is_open
undo_newest-requires-clause-is_open g c =
    open_as_told c.args.session c.args.lists.now.past c.level.result c.level.ensures.level (c.if-is_none.ensures {u = tt})

pub undo_newest-requires-clause-some : goal.undo_newest-requires-clause-some
undo_newest-requires-clause-some g c = omega (arith, c.change_count.ensures, c.if-change_count-gt0.true)

pub roll_back-requires-clause-may : goal.roll_back-requires-clause-may
roll_back-requires-clause-may g c =
    may_roll_back c.args.session c.args.lists.now.past c.requires.running.0
    (open_as_told c.args.session c.args.lists.now.past c.level.result c.level.ensures.level (c.if-is_none.ensures {u = tt}))
    (none_as_told c.args.session c.change_count.result c.args.lists.now.past c.change_count.ensures c.if-change_count-gt0.false)

pub roll_back-requires-clause-idle : goal.roll_back-requires-clause-idle
roll_back-requires-clause-idle g c =
    rests_rollback c.args.session c.args.lists.now c.requires.running
    (none_as_told c.args.session c.change_count.result c.args.lists.now.past c.change_count.ensures c.if-change_count-gt0.false)

pub returns-clause-steps : goal.returns-clause-steps
returns-clause-steps g c =
    rolls_back c.args.session c.args.lists.now c.roll_back.new.self c.requires.running
    (none_as_told c.args.session c.change_count.result c.args.lists.now.past c.change_count.ensures c.if-change_count-gt0.false) c.roll_back.ensures
