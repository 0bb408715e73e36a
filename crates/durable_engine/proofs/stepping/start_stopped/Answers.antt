use Rattle.durable_engine.proofs.Keeping.{started_keeps, started_exact}
use Rattle.durable_engine.proofs.stepping.start_stopped.Goals as goal

pub returns-clause-kept : goal.returns-clause-kept
returns-clause-kept c =
    λ root now keeps. started_keeps root now c.start.result c.args.s c.args.item.now c.args.sessions.now c.start.new.self c.start.ensures.ok c.start.ensures.err
    keeps

pub returns-clause-exact : goal.returns-clause-exact
returns-clause-exact c = started_exact c.start.result c.args.s c.args.item.now c.args.sessions.now c.start.new.self c.start.ensures.ok c.start.ensures.err
