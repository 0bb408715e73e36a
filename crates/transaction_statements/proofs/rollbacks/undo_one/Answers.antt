use Rattle.std.proofs.Common.{◌<◌, length, arith}
use Rattle.inno_model.specs.Past.{own}
use Rattle.transaction_statements.proofs.Moving.{may_undo_to, may_take_back, undoes_to, nears_to}
use Rattle.transaction_statements.proofs.Stepping.{undoable}
use Rattle.transaction_statements.proofs.rollbacks.undo_one.Goals as goal

pub undo-undone-requires-clause-may : goal.undo-undone-requires-clause-may
undo-undone-requires-clause-may g c =
    may_undo_to c.args.session c.args.lists.now.past c.args.savepoint c.args.made c.requires.running.0 c.requires.is_open c.requires.more

pub undo-undone-requires-clause-of_row : goal.undo-undone-requires-clause-of_row
undo-undone-requires-clause-of_row g c = undoable c.args.session c.args.lists.now.past c.requires.running.0.0.rows_alone (omega (arith, c.requires.more))

pub undo-undone-requires-clause-task : goal.undo-undone-requires-clause-task
undo-undone-requires-clause-task g c = may_take_back c.args.made _ _ c.requires.running.1

pub returns-clause-steps : goal.returns-clause-steps
returns-clause-steps g c =
    undoes_to c.args.session c.args.lists.now c.undo-undone.new.self c.undo-undone.result c.undo-undone.ensures.takes c.args.savepoint c.args.made
    c.requires.running c.requires.more

pub returns-clause-nears : goal.returns-clause-nears
returns-clause-nears g c =
    let some : 0 < length (own c.args.session c.args.lists.now.past) = omega (arith, c.requires.more) in
    nears_to c.args.session c.args.lists.now c.undo-undone.new.self c.args.savepoint c.args.made c.undo-undone.result some c.undo-undone.ensures.takes
