use Rattle.std.proofs.Common.{sym, subst}
use Rattle.commit_log.specs.View.{IsLogging}
use Rattle.durable_engine.proofs.Seating.{joined_seats, joined_past}
use Rattle.durable_engine.proofs.logged.LoggedSessions.join.Goals as goal

pub returns-in_err-push-clause-kept : goal.returns-in_err-push-clause-kept
returns-in_err-push-clause-kept g c =
    λ root now is. c.join.ensures.kept root now c.self.inside.sessions.lists.past
    (subst (λ st. IsLogging root now st.sessions.lists.past st.log) (sym c.self.view_is) is)

pub invariant_of-self-2 : goal.invariant_of-self-2
invariant_of-self-2 g c =
    let i = c.self.inside in
    rw c.in_ok-push.ensures.items
    (joined_seats c.join-2.result c.args.name.now i.sessions c.join-2.new.self i.seats.items i.log c.join.new.self c.self.invariant
    c.in_ok-join.ensures.joined c.join-2.ensures.ok c.join-2.ensures.err)

pub returns-clause-kept : goal.returns-clause-kept
returns-clause-kept g c =
    let i = c.self.inside in
    let same = joined_past c.join-2.result c.args.name.now i.sessions c.join-2.new.self c.join-2.ensures.ok c.join-2.ensures.err in
    λ root now is.
    subst (λ h. IsLogging root now h c.join.new.self) (sym same) (c.join.ensures.kept root now i.sessions.lists.past
    (subst (λ st. IsLogging root now st.sessions.lists.past st.log) (sym c.self.view_is) is))
