use Rattle.std.proofs.Common.{subst}
use Rattle.durable_engine.specs.Seats.{AreSeats}
use Rattle.durable_engine.proofs.Seating.{stops_seated}
use Rattle.durable_engine.proofs.logged.LoggedSessions.into_parts.Goals as goal

pub returns-clause-seated : goal.returns-clause-seated
returns-clause-seated g c =
    let i = c.self.inside in
    subst (λ st. AreSeats st.sessions.lists.names st.sessions.lists.past st.seats) c.self.view_is
    (stops_seated i.sessions i.seats.items i.log c.into_history.ensures.legal c.into_history.ensures.agree c.self.invariant)
