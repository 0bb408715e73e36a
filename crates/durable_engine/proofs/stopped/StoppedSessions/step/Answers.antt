use Rattle.durable_engine.proofs.StoppedKeeping.{kept_step}
use Rattle.durable_engine.proofs.stopped.StoppedSessions.step.Goals as goal

pub invariant_of-self-2 : goal.invariant_of-self-2
invariant_of-self-2 c =
    let h = c.self.inside.history in
    let stands = kept_step c.self.inside.entered h.names h.past c.self.inside.seats.items c.self.inside.cause c.self.invariant
    c.args.self.now c.self.view_is c.args.s c.requires.joined c.index-seat.result.now c.index-seat.ensures c.requires.working in
    let same = c.reserve.ensures.same in
    let stop = c.enter_stop.ensures in
    let end = c.end_turn-phase.ensures in
    rw end.names (rw stop.names (rw same.names (rw end.past (rw stop.past (rw same.past (rw end.phase stands))))))
