use Rattle.statement.proofs.Looking.{no_statement}
use Rattle.session_engine.proofs.steps.refuse.Goals as goal

pub end-requires-clause-may : goal.end-requires-clause-may
end-requires-clause-may g c =
    let unread = c.requires.unread in
    no_statement c.args.s unread.text c.args.lists.now.past unread.started c.args.at unread.refused.3
