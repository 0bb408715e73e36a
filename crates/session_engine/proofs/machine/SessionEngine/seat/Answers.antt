use Rattle.std.proofs.Common.{length, ◌<◌, ◌≡◌, subst, sym, arith}
use Rattle.session_engine.specs.declared.seats.Seat.TheVariants.{Idle}
use Rattle.session_engine.specs.Seats.{seat_at}
use Rattle.session_engine.proofs.Seating.{seats_started, seats_same, started_since}
use Rattle.session_engine.proofs.machine.SessionEngine.seat.Goals as goal

pub invariant_of-self-2 : goal.invariant_of-self-2
invariant_of-self-2 g c =
    let engine = c.self.inside in
    let joined : c.args.s < length engine.lists.names = subst (λ st. c.args.s < length st.lists.names) (sym c.self.view_is) c.requires.joined in
    let idle : seat_at engine.seats c.args.s ≡ Idle = subst (λ st. seat_at st.seats c.args.s ≡ Idle) (sym c.self.view_is) c.requires.idle in
    rw c.replace.ensures.is
    (seats_started engine.lists c.start.new.self engine.seats c.args.s c.args.item c.args.seat c.self.invariant joined idle
    c.in_ok-start.ensures.ok c.requires.reads)

pub invariant_of-self : goal.invariant_of-self
invariant_of-self g c =
    seats_same c.self.inside.lists c.start.new.self c.self.inside.seats c.args.s c.in_err-start.ensures.err c.self.invariant

pub returns-clause-unstepped : goal.returns-clause-unstepped
returns-clause-unstepped g c =
    let engine = c.self.inside in
    let joined : c.args.s < length engine.lists.names = subst (λ st. c.args.s < length st.lists.names) (sym c.self.view_is) c.requires.joined in
    rw c.replace.ensures.is
    (started_since engine.seats c.args.s c.args.item c.args.seat (omega (arith, joined, c.self.invariant.enough)) c.requires.reads)
