use Rattle.std.proofs.Common.{arith}
use Rattle.std.proofs.lemmas.Grind.{common_steps}
use Rattle.world_parts.proofs.history_room.owed_by_all.Goals as goal

pub returns-in_err-owed : goal.returns-in_err-owed
returns-in_err-owed c = grind (arith, common_steps) steps 2000000

pub returns-in_err-total : goal.returns-in_err-total
returns-in_err-total c = grind (arith, common_steps) steps 2000000

pub loop-room-preserved : goal.loop-room-preserved
loop-room-preserved c = grind (arith, common_steps) steps 2000000

pub returns : goal.returns
returns c = grind (arith, common_steps) steps 2000000
