use Rattle.giving_up.proofs.TakingBack.{may_roll_back, closing_then, may_end, acks_none, fits}
use Rattle.giving_up.proofs.backing.leave.Goals as goal

pub roll_back-requires-clause-may : goal.roll_back-requires-clause-may
roll_back-requires-clause-may g c =
    may_roll_back c.args.lists.now.past c.args.lists.now.writer c.args.session c.args.work c.requires.leaving.0 c.requires.undone c.if-alone.true

pub roll_back-requires-clause-closing : goal.roll_back-requires-clause-closing
roll_back-requires-clause-closing g c =
    closing_then c.args.lists.now.past c.args.lists.now.writer c.args.session c.args.work c.requires.leaving.0 c.requires.undone c.if-alone.true

pub end-requires-clause-may : goal.end-requires-clause-may
end-requires-clause-may g c =
    may_end c.args.lists.now.past c.args.lists.now.writer c.args.session c.args.work c.requires.leaving.0 c.requires.undone c.if-alone.false

pub end-requires-clause-acked : goal.end-requires-clause-acked
end-requires-clause-acked g c =
    acks_none c.args.lists.now.past c.args.lists.now.writer c.args.session c.args.work c.requires.leaving.0 c.requires.undone c.if-alone.false

pub end-requires-clause-within : goal.end-requires-clause-within
end-requires-clause-within g c =
    fits c.args.lists.now.past c.args.lists.now.writer c.args.session c.args.work c.requires.leaving.0 c.requires.undone c.if-alone.false
