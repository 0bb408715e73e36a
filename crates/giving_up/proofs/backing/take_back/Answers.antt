use Rattle.giving_up.proofs.TakingBack.{may_undo, undoable, may_take_back, went_back, nearer}
use Rattle.giving_up.proofs.backing.take_back.Goals as goal

pub undo-requires-clause-may : goal.undo-requires-clause-may
undo-requires-clause-may g c = may_undo c.args.lists.now.past c.args.lists.now.writer c.args.session c.args.work c.requires.leaving.0 c.requires.more

pub undo-requires-clause-of_row : goal.undo-requires-clause-of_row
undo-requires-clause-of_row g c = undoable c.args.lists.now.past c.args.lists.now.writer c.args.session c.args.work c.requires.leaving.0 c.requires.more

pub undo-requires-clause-task : goal.undo-requires-clause-task
undo-requires-clause-task g c = may_take_back c.args.work.before c.args.session c.args.lists.now.past _ c.requires.leaving.1

pub returns-clause-steps : goal.returns-clause-steps
returns-clause-steps g c =
    went_back c.args.lists.now c.undo.new.self c.args.session c.args.work c.requires.leaving.0 c.requires.leaving.1 c.requires.more c.undo.result
    c.undo.ensures.takes

pub returns-clause-nears : goal.returns-clause-nears
returns-clause-nears g c =
    nearer c.args.lists.now c.undo.new.self c.args.session c.args.work c.requires.leaving.0 c.requires.leaving.1 c.requires.more c.undo.result
    c.undo.ensures.takes
