use Rattle.transaction_statements.proofs.Moving.{may_undo_rollback, may_take_back, undoes_rollback, nears_rollback}
use Rattle.transaction_statements.proofs.Stepping.{undoable}
use Rattle.transaction_statements.proofs.rollbacks.undo_newest.Goals as goal

pub undo-undone-requires-clause-may : goal.undo-undone-requires-clause-may
undo-undone-requires-clause-may g c = may_undo_rollback c.args.session c.args.lists.now.past c.requires.running.0 c.requires.is_open c.requires.some

pub undo-undone-requires-clause-of_row : goal.undo-undone-requires-clause-of_row
undo-undone-requires-clause-of_row g c = undoable c.args.session c.args.lists.now.past c.requires.running.0.0.rows_alone c.requires.some

pub undo-undone-requires-clause-task : goal.undo-undone-requires-clause-task
undo-undone-requires-clause-task g c = may_take_back 0 _ _ c.requires.running.1

pub returns-clause-steps : goal.returns-clause-steps
returns-clause-steps g c =
    undoes_rollback c.args.session c.args.lists.now c.undo-undone.new.self c.undo-undone.result c.undo-undone.ensures.takes c.requires.running c.requires.some

pub returns-clause-nears : goal.returns-clause-nears
returns-clause-nears g c =
    nears_rollback c.args.session c.args.lists.now c.undo-undone.new.self c.undo-undone.result c.requires.some c.undo-undone.ensures.takes
