use Rattle.write_statement.proofs.Rooms.{asks_for_none}
use Rattle.write_statement.proofs.machine.one_that_wants_no_room_tells_none.Goals as goal

pub returns : goal.returns
returns c = λ state s m none r. asks_for_none state s m none r
