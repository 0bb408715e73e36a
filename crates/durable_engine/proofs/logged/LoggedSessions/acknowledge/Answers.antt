use Rattle.std.proofs.Common.{sym, ap, subst, length, arith}
use Rattle.commit_log.specs.View.{IsLogging}
use Rattle.durable_engine.proofs.Seating.{acknowledged_seats, last_is_acked}
use Rattle.durable_engine.proofs.logged.LoggedSessions.acknowledge.Goals as goal

pub acknowledge-requires-clause-later : goal.acknowledge-requires-clause-later
acknowledge-requires-clause-later g c =
    let i = c.self.inside in
    let past = i.sessions.lists.past in
    let root = c.requires.logging.0 in
    let was = subst (λ st. IsLogging root (g.D.Disk.past c.args.disk.now) st.sessions.lists.past st.log) (sym c.self.view_is) c.requires.logging.1 in
    let now = c.flush_for.ensures.kept root past was in
    let timed = now.durable.keeps.timed in
    let last = last_is_acked past in
    omega (arith, timed, last, c.moment-moment.ensures)

pub invariant_of-self-2 : goal.invariant_of-self-2
invariant_of-self-2 g c =
    let i = c.self.inside in
    acknowledged_seats c.args.s c.moment-moment.result i.sessions c.acknowledge.new.self i.seats.items i.log c.flush_for.new.self c.self.invariant
    c.acknowledge.ensures.acknowledges (ap length c.flush_for.ensures.joined)
