use Rattle.law_locks.proofs.AtOnce.{room_left}
use Rattle.law_locks.proofs.insertions.room_lasts_behind_the_intention.Goals as goal

pub returns : goal.returns
returns c txn next intention old asked is granted room = room_left txn next intention is old asked granted room
