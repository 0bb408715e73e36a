use Rattle.durable_engine.proofs.StoppedKeeping.{kept_leave}
use Rattle.durable_engine.proofs.stopped.StoppedSessions.leave.Goals as goal

pub invariant_of-self : goal.invariant_of-self
invariant_of-self c =
    let h = c.self.inside.history in
    kept_leave c.self.inside.entered h.names h.past c.self.inside.seats.items c.self.inside.cause c.self.invariant
    c.args.self.now c.self.view_is c.args.s c.requires.joined c.index.result.now c.index.ensures c.requires.idle
