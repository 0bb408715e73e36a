use Rattle.std.proofs.Common.{length, ◌≡◌, ◌<◌, ◌∙◌, subst, sym, true}
use Rattle.session_engine.specs.declared.seats.Seat.TheVariants.{Busy}
use Rattle.session_engine.specs.Seats.{seat_at, owes}
use Rattle.session_engine.proofs.Seating.{acked_keeps, acked_does, acked_since, acked_nears_it}
use Rattle.session_engine.proofs.machine.SessionEngine.acknowledge.Goals as goal

pub invariant_of-self : goal.invariant_of-self
invariant_of-self g c =
    let engine = c.self.inside in
    let joined : c.args.s < length engine.lists.names = subst (λ st. c.args.s < length st.lists.names) (sym c.self.view_is) c.requires.joined in
    let was : seat_at engine.seats c.args.s ≡ Busy c.in-Busy.statement = sym c.replace.ensures.was ∙ c.in-Busy.is in
    let owed = subst (λ seat. owes seat ≡ true) was (subst (λ st. owes (seat_at st.seats c.args.s) ≡ true) (sym c.self.view_is) c.requires.owed) in
    rw (c.replace-in-Busy.ensures.is, c.replace.ensures.is, c.acked.ensures)
    (acked_keeps engine.lists c.ack.new.self engine.seats c.args.s c.self.invariant joined c.args.moment c.in-Busy.statement owed was c.ack.ensures)

pub returns-clause-acknowledges : goal.returns-clause-acknowledges
returns-clause-acknowledges g c =
    let engine = c.self.inside in
    let joined : c.args.s < length engine.lists.names = subst (λ st. c.args.s < length st.lists.names) (sym c.self.view_is) c.requires.joined in
    let was : seat_at engine.seats c.args.s ≡ Busy c.in-Busy.statement = sym c.replace.ensures.was ∙ c.in-Busy.is in
    let owed = subst (λ seat. owes seat ≡ true) was (subst (λ st. owes (seat_at st.seats c.args.s) ≡ true) (sym c.self.view_is) c.requires.owed) in
    rw (← c.self.view_is, c.replace-in-Busy.ensures.is, c.replace.ensures.is, c.acked.ensures)
    (acked_does engine.lists c.ack.new.self engine.seats c.args.s c.self.invariant joined c.args.moment c.in-Busy.statement owed was c.ack.ensures)

pub returns-clause-nears : goal.returns-clause-nears
returns-clause-nears g c =
    let engine = c.self.inside in
    let joined : c.args.s < length engine.lists.names = subst (λ st. c.args.s < length st.lists.names) (sym c.self.view_is) c.requires.joined in
    let was : seat_at engine.seats c.args.s ≡ Busy c.in-Busy.statement = sym c.replace.ensures.was ∙ c.in-Busy.is in
    let owed = subst (λ seat. owes seat ≡ true) was (subst (λ st. owes (seat_at st.seats c.args.s) ≡ true) (sym c.self.view_is) c.requires.owed) in
    rw (← c.self.view_is, c.replace-in-Busy.ensures.is, c.replace.ensures.is, c.acked.ensures)
    (acked_nears_it engine.lists c.ack.new.self engine.seats c.args.s c.self.invariant joined c.args.moment c.in-Busy.statement owed was c.ack.ensures)

pub returns-clause-since : goal.returns-clause-since
returns-clause-since g c =
    let engine = c.self.inside in
    let joined : c.args.s < length engine.lists.names = subst (λ st. c.args.s < length st.lists.names) (sym c.self.view_is) c.requires.joined in
    let was : seat_at engine.seats c.args.s ≡ Busy c.in-Busy.statement = sym c.replace.ensures.was ∙ c.in-Busy.is in
    let owed = subst (λ seat. owes seat ≡ true) was (subst (λ st. owes (seat_at st.seats c.args.s) ≡ true) (sym c.self.view_is) c.requires.owed) in
    rw (c.replace-in-Busy.ensures.is, c.replace.ensures.is, c.acked.ensures)
    (acked_since engine.lists c.ack.new.self engine.seats c.args.s c.self.invariant joined c.args.moment c.in-Busy.statement owed was c.ack.ensures)
