use Rattle.session_engine.proofs.Seating.{joined_either, joins, refused_join}
use Rattle.session_engine.proofs.machine.SessionEngine.join.Goals as goal

pub invariant_of-self-2 : goal.invariant_of-self-2
invariant_of-self-2 g c =
    let engine = c.self.inside in
    let join = c.join-2.ensures in
    rw c.in_ok-join.ensures.ok
    (joined_either engine.lists c.join-2.new.self join.past join.writer join.tasks c.join-2.result _ engine.seats c.self.invariant join.names join.err)

pub returns-clause-ok : goal.returns-clause-ok
returns-clause-ok g c =
    let engine = c.self.inside in
    let join = c.join-2.ensures in
    rw (← c.in_ok-name.ensures, ← c.self.view_is, c.in_ok-join.ensures.ok)
    (joins engine.lists c.join-2.new.self join.past join.writer join.tasks c.join-2.result c.in_ok-name.name engine.seats join.names)

pub returns-clause-err : goal.returns-clause-err
returns-clause-err g c =
    let engine = c.self.inside in
    let join = c.join-2.ensures in
    rw (← c.self.view_is, c.in_ok-join.ensures.ok)
    (refused_join engine.lists c.join-2.new.self join.past join.writer join.tasks c.join-2.result engine.seats join.err)
