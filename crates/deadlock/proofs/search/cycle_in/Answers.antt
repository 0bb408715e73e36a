use Rattle.std.specs.Prelude.{◌<◌, length}
use Rattle.std.proofs.Common.{arith}
use Rattle.lock_table.proofs.Rooms.{less_edges}
use Rattle.deadlock.proofs.Rooms.{others_fewer, room_taken, rooms_left, rooms_back, no_cycle_unplaced}
use Rattle.deadlock.proofs.search.cycle_in.Goals as goal

pub returns-in_err-place_of-clause-none : goal.returns-in_err-place_of-clause-none
returns-in_err-place_of-clause-none c = rw c.from_residual.ensures (no_cycle_unplaced c.args.txn c.args.locks.now.granted c.args.locks.now.waiting (rw c.requests.ensures at c.in_err-place_of.ensures.place))

pub others-requires : goal.others-requires
others-requires c = rw c.requests-2.ensures (room_taken _ _ _ _ c.requires c.in_ok-room.ensures.items).room_has.visits

pub search-requires-clause-empty : goal.search-requires-clause-empty
search-requires-clause-empty c = (room_taken _ _ _ _ c.requires c.in_ok-room.ensures.items).room_has.path.empty

pub search-requires-clause-room : goal.search-requires-clause-room
search-requires-clause-room c =
    let few : length c.others.new.unvisited.items < length c.args.locks.now.waiting = others_fewer c.args.txn c.args.locks.now.waiting c.in_ok-place_of.field-0 c.others.new.unvisited.items (rw c.requests.ensures at c.in_ok-place_of.ensures.place) (rw c.requests-2.ensures at c.others.ensures.items) in
    let room = (room_taken _ _ _ _ c.requires c.in_ok-room.ensures.items).room_has in
    omega (arith, few, room.path.holds)

pub cycle_along-requires-clause-cycle : goal.cycle_along-requires-clause-cycle
cycle_along-requires-clause-cycle c =
    let few : length c.others.new.unvisited.items < length c.args.locks.now.waiting = others_fewer c.args.txn c.args.locks.now.waiting c.in_ok-place_of.field-0 c.others.new.unvisited.items (rw c.requests.ensures at c.in_ok-place_of.ensures.place) (rw c.requests-2.ensures at c.others.ensures.items) in
    less_edges _ _ _ (omega (arith, few)) (room_taken _ _ _ _ c.requires c.in_ok-room.ensures.items).room_has.cycle

pub cycle_along-requires-clause-first_copy : goal.cycle_along-requires-clause-first_copy
cycle_along-requires-clause-first_copy c =
    let few : length c.others.new.unvisited.items < length c.args.locks.now.waiting = others_fewer c.args.txn c.args.locks.now.waiting c.in_ok-place_of.field-0 c.others.new.unvisited.items (rw c.requests.ensures at c.in_ok-place_of.ensures.place) (rw c.requests-2.ensures at c.others.ensures.items) in
    less_edges _ _ _ (omega (arith, few)) (room_taken _ _ _ _ c.requires c.in_ok-room.ensures.items).room_has.first_copy

pub cycle_along-requires-clause-second_copy : goal.cycle_along-requires-clause-second_copy
cycle_along-requires-clause-second_copy c =
    let few : length c.others.new.unvisited.items < length c.args.locks.now.waiting = others_fewer c.args.txn c.args.locks.now.waiting c.in_ok-place_of.field-0 c.others.new.unvisited.items (rw c.requests.ensures at c.in_ok-place_of.ensures.place) (rw c.requests-2.ensures at c.others.ensures.items) in
    less_edges _ _ _ (omega (arith, few)) (room_taken _ _ _ _ c.requires c.in_ok-room.ensures.items).room_has.second_copy

pub returns-then-search-clause-rooms : goal.returns-then-search-clause-rooms
returns-then-search-clause-rooms c = rooms_left _ _ _ (room_taken _ _ _ _ c.requires c.in_ok-room.ensures.items)

pub returns-clause-rooms : goal.returns-clause-rooms
returns-clause-rooms c =
    let taken = (room_taken _ _ _ _ c.requires c.in_ok-room.ensures.items) in
    let room = taken.room_has in
    rw c.push_reserved.ensures.items (rooms_back _ _ _ _ taken
    (record {
      cycle = room.cycle;
      first_copy = room.first_copy;
      second_copy = room.second_copy;
      path = record { empty = c.if-search.ensures.emptied; holds = omega (arith, room.path.holds) };
      visits = record { empty = c.clear.ensures.items; holds = omega (arith, room.visits.holds) };
    }))
