use Rattle.deadlock.proofs.Along.{between_none, between_some}
use Rattle.deadlock.proofs.search.edge_between.Goals as goal

pub unreachable-requires : goal.unreachable-requires
unreachable-requires c = between_none c.args.locks.now.granted c.args.locks.now.waiting c.args.waiter c.args.holder c.requires.waits c.in-None.ensures

pub returns-clause-first : goal.returns-clause-first
returns-clause-first c = between_some c.args.locks.now.granted c.args.locks.now.waiting c.args.waiter c.args.holder c.in-Some.lock.now c.lock_in.result c.in-Some.ensures c.lock_in.ensures.same
