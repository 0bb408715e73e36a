use Rattle.durable_engine.proofs.StoppedKeeping.{kept_start}
use Rattle.durable_engine.proofs.stopped.StoppedSessions.start.Goals as goal

pub invariant_of-self-2 : goal.invariant_of-self-2
invariant_of-self-2 c =
    let h = c.self.inside.history in
    let stands = kept_start c.self.inside.entered h.names h.past c.self.inside.seats.items c.self.inside.cause c.self.invariant
    c.args.self.now c.self.view_is c.args.s c.requires.joined c.index.result.now c.index.ensures c.in_ok-item.item c.requires.idle in
    let same = c.in_ok-reserve.ensures.same in
    rw c.add.ensures.names (rw same.names (rw c.add.ensures.past (rw same.past stands)))
