use Rattle.std.proofs.Common.{vec_capacity, arith}
use Rattle.waits.proofs.Under.{found_by, none_by, may_fall, some_wait, open_still, goes_on, settled}
use Rattle.waits.proofs.settling.settle_through.Goals as goal

pub end_cycle-requires-clause-may : goal.end_cycle-requires-clause-may
end_cycle-requires-clause-may g c =
    let mid = g.W.World.state c.loop-cycle.world in
    let now = g.W.World.state c.cycle.new.self in
    let e = c.in-Some.ensures in
    may_fall c.args.sessions c.args.txn c.in-Some.cycle mid now c.loop-cycle.invariant.under.may
    (found_by mid now c.session_of-session.result c.args.txn c.in-Some.cycle c.loop-cycle.invariant.open_at e.found e.first e.copies e.rooms e.same)

pub end_cycle-requires-clause-room : goal.end_cycle-requires-clause-room
end_cycle-requires-clause-room g c =
    let mid = g.W.World.state c.loop-cycle.world in
    let now = g.W.World.state c.cycle.new.self in
    let e = c.in-Some.ensures in
    omega (
      arith,
      c.loop-cycle.invariant.under.room,
      some_wait c.args.txn c.in-Some.cycle mid now
          (found_by mid now c.session_of-session.result c.args.txn c.in-Some.cycle c.loop-cycle.invariant.open_at e.found e.first e.copies e.rooms e.same),
    )

pub loop-cycle-smaller : goal.loop-cycle-smaller
loop-cycle-smaller g c =
    let mid = g.W.World.state c.loop-cycle.world in
    let now = g.W.World.state c.cycle.new.self in
    let e = c.in-Some.ensures in
    (goes_on c.args.sessions c.args.txn c.args.sizes.now c.args.asked c.args.fallen.now.items c.loop-cycle.fallen.items c.end_cycle.new.fallen.items
    (vec_capacity c.loop-cycle.fallen) (g.W.World.state c.args.world.now) mid now (g.W.World.state c.end_cycle.new.world) c.in-Some.cycle
    c.loop-cycle.invariant.under
    (found_by mid now c.session_of-session.result c.args.txn c.in-Some.cycle c.loop-cycle.invariant.open_at e.found e.first e.copies e.rooms e.same)
    c.end_cycle.ensures.falls).1

pub loop-cycle-preserved : goal.loop-cycle-preserved
loop-cycle-preserved g c =
    let start = g.W.World.state c.args.world.now in
    let mid = g.W.World.state c.loop-cycle.world in
    let now = g.W.World.state c.cycle.new.self in
    let new = g.W.World.state c.end_cycle.new.world in
    let e = c.in-Some.ensures in
    let is = found_by mid now c.session_of-session.result c.args.txn c.in-Some.cycle c.loop-cycle.invariant.open_at e.found e.first e.copies e.rooms e.same in
    record {
      open_at =
          open_still c.args.sessions c.args.txn c.args.sizes.now c.args.asked c.args.fallen.now.items c.loop-cycle.fallen.items c.end_cycle.new.fallen.items
          (vec_capacity c.loop-cycle.fallen) start mid now new c.in-Some.cycle c.loop-cycle.invariant.under is c.end_cycle.ensures.falls
          c.session_of-session.result c.loop-cycle.invariant.open_at;
      under =
          rw c.end_cycle.ensures.capacity
          (goes_on c.args.sessions c.args.txn c.args.sizes.now c.args.asked c.args.fallen.now.items c.loop-cycle.fallen.items c.end_cycle.new.fallen.items
          (vec_capacity c.loop-cycle.fallen) start mid now new c.in-Some.cycle c.loop-cycle.invariant.under is c.end_cycle.ensures.falls).0;
    }

pub returns-clause-settles : goal.returns-clause-settles
returns-clause-settles g c =
    let mid = g.W.World.state c.loop-cycle.world in
    let e = c.in_default.ensures in
    (settled c.args.sessions c.args.txn c.args.sizes.now c.args.asked c.args.fallen.now.items (vec_capacity c.loop-cycle.fallen)
    (g.W.World.state c.args.world.now) c.loop-cycle.fallen.items mid (g.W.World.state c.cycle.new.self) c.loop-cycle.invariant.under e.same e.rooms
    (none_by mid c.session_of-session.result c.args.txn c.loop-cycle.invariant.open_at e.none)).0

pub returns-clause-may : goal.returns-clause-may
returns-clause-may g c =
    let mid = g.W.World.state c.loop-cycle.world in
    let e = c.in_default.ensures in
    (settled c.args.sessions c.args.txn c.args.sizes.now c.args.asked c.args.fallen.now.items (vec_capacity c.loop-cycle.fallen)
    (g.W.World.state c.args.world.now) c.loop-cycle.fallen.items mid (g.W.World.state c.cycle.new.self) c.loop-cycle.invariant.under e.same e.rooms
    (none_by mid c.session_of-session.result c.args.txn c.loop-cycle.invariant.open_at e.none)).1

pub returns-clause-room : goal.returns-clause-room
returns-clause-room g c =
    let mid = g.W.World.state c.loop-cycle.world in
    let e = c.in_default.ensures in
    (settled c.args.sessions c.args.txn c.args.sizes.now c.args.asked c.args.fallen.now.items (vec_capacity c.loop-cycle.fallen)
    (g.W.World.state c.args.world.now) c.loop-cycle.fallen.items mid (g.W.World.state c.cycle.new.self) c.loop-cycle.invariant.under e.same e.rooms
    (none_by mid c.session_of-session.result c.args.txn c.loop-cycle.invariant.open_at e.none)).2
