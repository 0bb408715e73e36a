use Rattle.std.proofs.Common.{arith}
use Rattle.std.specs.Prelude.{◌-◌, length}
use Rattle.deadlock.proofs.Rooms.{rooms_fewer}
use Rattle.law_locks.specs.Settling.{after_withdrawal}
use Rattle.law_locks.proofs.Rounds.{fewer_after}
use Rattle.law_locks.proofs.rooms.rooms_last_through_a_round.Goals as goal

pub returns : goal.returns
returns c victim lists rooms waits has = rooms_fewer (length (after_withdrawal victim lists).waiting) (length lists.waiting - 1) rooms
    (omega (arith, fewer_after lists victim waits)) has
