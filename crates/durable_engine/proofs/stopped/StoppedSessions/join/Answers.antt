use Rattle.std.proofs.Common.{◌++◌, ◌∷◌, [], arith, length-append}
use Rattle.durable_engine.proofs.StoppedKeeping.{kept_seat}
use Rattle.durable_engine.proofs.stopped.StoppedSessions.join.Goals as goal

pub invariant_of-self-in_err-add_name : goal.invariant_of-self-in_err-add_name
invariant_of-self-in_err-add_name c =
    let stands = kept_seat c.self.inside.entered c.self.inside.history.names c.self.inside.history.past c.self.inside.seats.items c.self.inside.cause
    c.self.invariant c.self.inside.history.names (omega arith) in
    rw c.in_err-add_name.ensures.err (rw c.in_ok-push.ensures.items stands)

pub invariant_of-self-2 : goal.invariant_of-self-2
invariant_of-self-2 c =
    let names = c.self.inside.history.names in
    let more = c.in_ok-name.name ∷ [] in
    let stands = kept_seat c.self.inside.entered names c.self.inside.history.past c.self.inside.seats.items c.self.inside.cause
    c.self.invariant (names ++ more) (omega (arith, length-append names more)) in
    rw c.in_ok-add_name.ensures.ok (rw c.in_ok-push.ensures.items stands)
